-- The worked pieces of changes while the machine runs (document 02, order 11), as a table.
use Rattle.std.specs.Prelude.{ℕ, true, false, List, [], ◌∷◌, ◌++◌}
use Prim.Native.String.{String}
use Rattle.construction.specs.Types.{Done, Refusal}
use Rattle.construction.specs.Types.{LimitReached, Answer, NoProgram, Malformed, OperandOutOfRange, TooHeavy, NotAhead, Unsettled}
use Rattle.construction.specs.Cells.{open_record}
use Rattle.construction.specs.Answers.{bytes}
use Rattle.construction.specs.History.{Entry}
use Rattle.construction.specs.Examples.Terms.{Row, one, called, steps, read_first, taken, runs, done, shown, refusal, announcement, free_gate}
use Rattle.construction.specs.Examples.Pieces.{body_k, nine}

-- Changes while the machine runs (document 02, order 11). The card has card K's sheet and another; the corrected sheet outputs 5 and touches nothing.
abbrev pub card_c : List ℕ
card_c = bytes "card,2,1,2,100\n" ++ (body_k ++ bytes "sheet,1\nins,12,0,0,0\n")

abbrev pub changed : ℕ → ℕ → String → List Entry
changed k from text = Entry.Change k from (bytes text) ∷ []

abbrev pub corrected : ℕ → List Entry
corrected from = changed 0 from "sheet,2\nins,2,0,5,0\nins,11,0,0,0\n"

-- a further change of it, from 5 on, to a text that ends at once
abbrev pub again : List Entry
again = changed 0 5 "sheet,1\nins,12,0,0,0\n"

abbrev pub refusal_at : Refusal → ℕ → List Answer
refusal_at r line = Answer.RefusedAt r line ∷ []

-- two operations called before the change, finishing on both sides of its number: 1 runs the old text, 2 the new one
abbrev pub both_sides : Row
both_sides =
    record {
      text = card_c;
      entries = called 0 (one 5) ++ (called 1 (one 9) ++ (corrected 2 ++ (steps 0 15 ++ (steps 1 13 ++ read_first))));
      answers = taken ++ (taken ++ (taken ++ (runs 14 ++ (done 1 (one 7) 15 ++ (runs 12 ++ (done 2 (one 5) 13 ++ shown 5))))));
      gate = free_gate 3;
      announcements = announcement Done 1 1 7 ∷ announcement Done 2 2 5 ∷ [];
      variable = 0;
      cell = record { val0 = 7; val1 = 5; toggle = true; seq = 1 };
    }

-- a helper that slept at H21 through a change and wakes with the old number runs the old text
abbrev pub slept_through : Row
slept_through =
    record {
      text = card_c;
      entries = called 0 (one 9) ++ (steps 0 8 ++ (corrected 2 ++ (steps 0 7 ++ read_first)));
      answers = taken ++ (runs 8 ++ (taken ++ (runs 6 ++ (done 1 (one 7) 15 ++ shown 9))));
      gate = free_gate 2;
      announcements = announcement Done 1 1 7 ∷ announcement Done 0 0 0 ∷ [];
      variable = 0;
      cell = nine;
    }

-- 16 by a late reader: 0 sleeps at H21 with number 1 while 1 finishes; the same change is taken once 0 has read on, at P10, and is under way. Number 2 then runs the
-- text of the first change
abbrev pub late_reader : Row
late_reader =
    record {
      text = card_c;
      entries = called 1 (one 9) ++ (steps 1 2 ++ (called 0 (one 4) ++ (steps 0 7 ++ (corrected 2 ++ (steps 1 9 ++ (again ++ (steps 0 5 ++ (again ++ (steps 0 1 ++ (again ++ steps 0 9))))))))));
      answers = taken ++ (runs 2 ++ (taken ++ (runs 7 ++ (taken ++ (runs 8 ++ (done 1 (one 7) 11 ++ (refusal_at Unsettled 0 ++ (runs 5 ++ (refusal_at Unsettled 0 ++ (runs 1 ++ (taken ++ (runs 8 ++ done 2 (one 5) 22))))))))))));
      gate = free_gate 3;
      announcements = announcement Done 1 2 5 ∷ announcement Done 1 1 7 ∷ [];
      variable = 0;
      cell = nine;
    }

-- 15 and 16 in sequence; and another program is changed while one change is pending
abbrev pub in_sequence : Row
in_sequence =
    record {
      text = card_c;
      entries = corrected 1 ++ (corrected 5 ++ (corrected 1 ++ (corrected 9 ++ changed 1 3 "sheet,1\nins,12,0,0,0\n")));
      answers = refusal_at NotAhead 0 ++ (taken ++ (refusal_at NotAhead 0 ++ (refusal_at Unsettled 0 ++ taken)));
      gate = free_gate 1;
      announcements = announcement Done 0 0 0 ∷ announcement Done 0 0 0 ∷ [];
      variable = 0;
      cell = open_record 7;
    }

-- 'one that has read none doesn't count': 0 is called again and not past P1, and the number that its earlier operation read is below the last change
abbrev pub read_none : Row
read_none =
    record {
      text = card_c;
      entries = called 0 (one 9) ++ (steps 0 15 ++ (corrected 3 ++ (called 1 (one 4) ++ (steps 1 15 ++ (called 1 (one 6) ++ (steps 1 12 ++ (called 0 (one 8) ++ corrected 9)))))));
      answers = taken ++ (runs 14 ++ (done 1 (one 7) 15 ++ (taken ++ (taken ++ (runs 14 ++ (done 2 (one 9) 15 ++ (taken ++ (runs 11 ++ (done 3 (one 5) 12 ++ (taken ++ taken))))))))));
      gate = free_gate 4;
      announcements = announcement Done 1 1 7 ∷ announcement Done 3 3 5 ∷ [];
      variable = 0;
      cell = record { val0 = 4; val1 = 9; toggle = false; seq = 2 };
    }

-- 6 first; then the text as in a card: a missing line, an operand out of range, more than the card's w (which is 2) before a line left over, a line left over
abbrev pub texts_judged : Row
texts_judged =
    record {
      text = card_c;
      entries =
          changed 2 0 "" ++ (changed 0 0 "" ++ (changed 0 0 "sheet,1\nins,3,0,1,0\n" ++ (changed 0 0 "sheet,3\nins,3,0,0,0\nins,3,0,0,0\nins,3,0,0,0\nins,3,0,0,0\n" ++ changed 0 0 "sheet,1\nins,12,0,0,0\nins,12,0,0,0\n")));
      answers = refusal_at NoProgram 0 ++ (refusal_at Malformed 1 ++ (refusal_at OperandOutOfRange 2 ++ (refusal_at TooHeavy 4 ++ refusal_at Malformed 3)));
      gate = free_gate 1;
      announcements = announcement Done 0 0 0 ∷ announcement Done 0 0 0 ∷ [];
      variable = 0;
      cell = open_record 7;
    }

-- a change is taken after the step limit is reached too
abbrev pub past_limit : Row
past_limit =
    record {
      text = bytes "card,1,1,1,1\n" ++ body_k;
      entries = called 0 (one 9) ++ (steps 0 2 ++ corrected 2);
      answers = taken ++ (runs 1 ++ (refusal LimitReached ++ taken));
      gate = free_gate 1;
      announcements = announcement Done 0 0 0 ∷ [];
      variable = 0;
      cell = open_record 7;
    }

abbrev pub changed_rows : List Row
changed_rows = both_sides ∷ slept_through ∷ late_reader ∷ in_sequence ∷ read_none ∷ texts_judged ∷ past_limit ∷ []
