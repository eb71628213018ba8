-- The small examples of 'Turned back' (document 01, and its rows of document 02), as tables.
use Rattle.std.specs.Prelude.{ℕ, ◌≡◌, List, [], ◌∷◌, ◌++◌}
use Prim.Native.String.{String}
use Rattle.construction.specs.Answers.{bytes, Fields, fields, refused_with, verdict_fields, written_fields, card_line_fields, var_line_fields, sheet_line_fields}
use Rattle.construction.specs.Answers.{ins_line_fields, Refuses}
use Rattle.grammar.specs.Writing.{decimal}
use Rattle.construction.specs.Lines.{card_line, var_line, sheet_line, ins_line}
use Rattle.construction.specs.Opening.{opened}
use Rattle.construction.specs.Writing.{written}
use Rattle.construction.specs.History.{Entry, act}
use Rattle.construction.specs.Examples.Terms.{card_after, one, called, steps}
use Rattle.construction.specs.Examples.Pieces.{body_k, card_k, card_k2, lines}
use Rattle.construction.specs.Examples.Traces.{traces}

-- sixteen lines of code 13, which count 32, and one more (document 02, order 9)
abbrev pub heavy : ℕ → String → List ℕ
heavy length last = bytes "card,1,1,1,5\nvar,0\nsheet," ++ (decimal length ++ (bytes "\n" ++ (lines 16 "ins,13,0,0,0\n" ++ bytes last)))

-- 'Turned back', column 'small example'. Rows 2 to 4, 12 and 13 (document 02, order 8) and 14 (order 9): a text, and the number and line that it is refused with
pub record RefusedText : Type 0 where
  pub text : List ℕ
  pub number : ℕ
  pub line : ℕ

abbrev pub AllTextsRefused : List RefusedText → Type 0
AllTextsRefused [] = Unit
AllTextsRefused (r ∷ rs) = (verdict_fields (opened r.text).verdict ≡ fields "refused" (r.number ∷ r.line ∷ [])) × AllTextsRefused rs

abbrev pub refused_texts : List RefusedText
refused_texts =
    record { text = bytes "card,1,1,1,5\nvar,07\nsheet,1\nins,12,0,0,0\n"; number = 2; line = 2 }
    ∷ record { text = bytes "card,9,1,1,5\nvar,7\nsheet,1\nins,12,0,0,0\n"; number = 3; line = 1 }
    ∷ record { text = bytes "card,1,1,1,5\nvar,7\nsheet,1\nins,15,0,0,0\n"; number = 4; line = 4 }
    ∷ record { text = bytes "card,1,1,1,5\nvar,7\nsheet,1\nins,0,9,9,9\n"; number = 4; line = 4 }
    ∷ record { text = bytes "card,1,1,1,5\nvar,7\nsheet,2\nins,3,0,1,0\nins,15,0,0,0\n"; number = 12; line = 4 }
    ∷ record { text = bytes "card,1,1,1,5\nvar,7\nsheet,1\nins,1,4,0,7\n"; number = 12; line = 4 }
    ∷ record { text = bytes "card,1,1,1,5\nvar,7\nsheet,1\nins,12,0,0,1\n"; number = 13; line = 4 }
    ∷ record { text = heavy 17 "ins,3,0,0,0\n"; number = 14; line = 20 }
    ∷ record { text = heavy 17 "ins,14,0,0,0\n"; number = 14; line = 20 }
    ∷ record { text = heavy 17 "ins,14,0,0,1\n"; number = 13; line = 20 }
    ∷ []

-- a program that counts 32 opens
abbrev pub FullOpens : Type 0
FullOpens = verdict_fields (opened (heavy 16 "")).verdict ≡ fields "accepted" []

-- 'each line yields either its fields or a refusal number': a line, and what it yields
pub record Yielded : Type 0 where
  pub line : Fields
  pub expected : Fields

abbrev pub AllYielded : List Yielded → Type 0
AllYielded [] = Unit
AllYielded (r ∷ rs) = (r.line ≡ r.expected) × AllYielded rs

abbrev pub yielded_lines : List Yielded
yielded_lines =
    record { line = card_line_fields (card_line (bytes "card,2,64,8,100\n") 0); expected = fields "card" (2 ∷ 64 ∷ 8 ∷ 100 ∷ []) }
    ∷ record { line = card_line_fields (card_line (bytes "card,9,1,1,5\n") 0); expected = refused_with 3 }
    ∷ record { line = var_line_fields (var_line (bytes "var,7\n") 0); expected = fields "var" (7 ∷ []) }
    ∷ record { line = var_line_fields (var_line (bytes "var,07\n") 0); expected = refused_with 2 }
    ∷ record { line = sheet_line_fields (sheet_line (bytes "sheet,32\n") 0); expected = fields "sheet" (32 ∷ []) }
    ∷ record { line = sheet_line_fields (sheet_line (bytes "sheet,33\n") 0); expected = refused_with 3 }
    ∷ record { line = ins_line_fields (ins_line 1 (bytes "ins,9,3,2,31\n") 0); expected = fields "ins" (9 ∷ 3 ∷ 2 ∷ 31 ∷ []) }
    ∷ record { line = ins_line_fields (ins_line 1 (bytes "ins,15,0,0,0\n") 0); expected = refused_with 4 }
    ∷ record { line = ins_line_fields (ins_line 1 (bytes "ins,0,9,9,9\n") 0); expected = refused_with 4 }
    ∷ record { line = ins_line_fields (ins_line 1 (bytes "ins,1,4,0,7\n") 0); expected = refused_with 12 }
    ∷ record { line = ins_line_fields (ins_line 1 (bytes "ins,9,0,0,0\n") 0); expected = refused_with 12 }
    ∷ record { line = ins_line_fields (ins_line 1 (bytes "ins,1,0,0,7\n") 0); expected = refused_with 13 }
    ∷ []

-- rows 5 to 10: a request that is refused after a list of entries
pub record RefusedEntry : Type 0 where
  pub text : List ℕ
  pub entries : List Entry
  pub entry : Entry
  pub number : ℕ

abbrev pub AllEntriesRefused : List RefusedEntry → Type 0
AllEntriesRefused [] = Unit
AllEntriesRefused (r ∷ rs) =
    let c = card_after (opened r.text).card r.entries in
    Refuses c (act c r.entry) r.number × AllEntriesRefused rs

abbrev pub refused_entries : List RefusedEntry
refused_entries =
    record { text = card_k2; entries = []; entry = Entry.Step 2; number = 5 }
    ∷ record { text = card_k; entries = []; entry = Entry.Call 0 1 (one 9); number = 6 }
    ∷ record { text = card_k; entries = called 0 (one 9); entry = Entry.Call 0 0 (one 9); number = 7 }
    ∷ record { text = card_k; entries = []; entry = Entry.Step 0; number = 8 }
    ∷ record { text = card_k; entries = []; entry = Entry.Read 1; number = 9 }
    ∷ record { text = bytes "card,1,1,1,5\n" ++ body_k; entries = called 0 (one 9) ++ steps 0 5; entry = Entry.Step 0; number = 10 }
    ∷ record { text = card_k2; entries = []; entry = Entry.Trace 2; number = 5 }
    ∷ record { text = card_k; entries = []; entry = Entry.Trace 0; number = 8 }
    ∷ record { text = bytes "card,1,1,1,5\n" ++ body_k; entries = called 0 (one 9) ++ traces 0 5; entry = Entry.Trace 0; number = 10 }
    ∷ []

-- row 11: a lent buffer of 0 bytes
abbrev pub BufferRefused : Type 0
BufferRefused = written_fields (written (opened card_k).card []) ≡ refused_with 11
