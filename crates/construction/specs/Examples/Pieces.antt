-- The worked pieces of document 01 ('Proving pieces', those marked *, and card K's listing), and the schedules of 'Faults we have met in drafts', as a table.
-- The theorems over the tables are in proofs/Statements/Examples.
use Rattle.std.specs.Prelude.{ℕ, zero, suc, true, false, List, [], ◌∷◌, ◌++◌}
use Prim.Native.String.{String}
use Rattle.construction.specs.Types.{Done, Active, Exit, Words, Record}
use Rattle.construction.specs.Types.{NotBusy, LimitReached, Answer}
use Rattle.construction.specs.Cells.{fault_yield, open_record}
use Rattle.construction.specs.Answers.{bytes}
use Rattle.grammar.specs.Writing.{decimal}
use Rattle.construction.specs.History.{Entry}
use Rattle.construction.specs.Examples.Terms.{Row, one, called, exit, steps, read_first, taken, runs, plain, done, fault, exited, shown, refusal}
use Rattle.construction.specs.Examples.Terms.{announcement, free_gate, held_gate, done_announcement, alone}

-- the text of card K after its first line: store the input, output the old value
abbrev pub body_k : List ℕ
body_k = bytes "var,7\nsheet,4\nins,1,0,0,0\nins,3,1,0,0\nins,4,0,0,0\nins,11,0,1,0\n"

abbrev pub card_k : List ℕ
card_k = bytes "card,1,1,1,100\n" ++ body_k

abbrev pub card_k2 : List ℕ
card_k2 = bytes "card,2,1,1,100\n" ++ body_k

-- card K's record once 9 is written over 7
abbrev pub nine : Record
nine = record { val0 = 7; val1 = 9; toggle = true; seq = 1 }

-- card K's listing: 'fourteen times step', done under number 1 with 7 after 14 steps: 'step,0,done,1,7,0,0,0,14' (document 02, order 4)
abbrev pub listing : Row
listing =
    record {
      text = card_k;
      entries = read_first ++ (called 0 (one 9) ++ (steps 0 14 ++ (read_first ++ steps 0 1)));
      answers = shown 7 ++ (taken ++ (runs 13 ++ (done 1 (one 7) 14 ++ (shown 9 ++ refusal NotBusy))));
      gate = free_gate 2;
      announcements = announcement Done 1 1 7 ∷ [];
      variable = 0;
      cell = nine;
    }

-- 'K after step 9: look shows 7, the record is (7, 9, 1, 1)'
abbrev pub after_nine : Row
after_nine =
    record {
      text = card_k;
      entries = called 0 (one 9) ++ (steps 0 9 ++ read_first);
      answers = taken ++ (runs 9 ++ shown 7);
      gate = held_gate 0 1;
      announcements = announcement Active 1 0 9 ∷ [];
      variable = 0;
      cell = nine;
    }

-- 'After step 10: 9'
abbrev pub after_ten : Row
after_ten =
    record {
      text = card_k;
      entries = called 0 (one 9) ++ (steps 0 10 ++ read_first);
      answers = taken ++ (runs 10 ++ shown 9);
      gate = held_gate 0 1;
      announcements = announcement Done 1 1 7 ∷ [];
      variable = 0;
      cell = nine;
    }

-- 'K with input 7: no H36, 13 steps, record (7, 0, 0, 0)'
abbrev pub same_input : Row
same_input = alone (record { text = card_k; inputs = one 7; steps = 13; yields = plain (one 7); variable = 0; cell = open_record 7 })

-- 'K with a wish right after the call: done after 17 steps, by C4, C6 and P20'
abbrev pub exit_requested : Row
exit_requested =
    record {
      text = card_k;
      entries = called 0 (one 9) ++ (exit 0 ++ steps 0 17);
      answers = taken ++ (taken ++ (runs 16 ++ done 1 (one 7) 17));
      gate = free_gate 2;
      announcements = announcement Done 1 1 7 ∷ [];
      variable = 0;
      cell = nine;
    }

-- 'K with two processes ..: 0 is exited at its own step 12; 1 is done with 7 at its own step 8; look shows 9'
abbrev pub two_processes : Row
two_processes =
    record {
      text = card_k2;
      entries = called 0 (one 5) ++ (called 1 (one 9) ++ (steps 0 2 ++ (steps 1 5 ++ (exit 0 ++ (steps 0 10 ++ (steps 1 3 ++ read_first))))));
      answers = taken ++ (taken ++ (runs 7 ++ (taken ++ (runs 9 ++ (exited 12 ++ (runs 2 ++ (done 1 (one 7) 8 ++ shown 9)))))));
      gate = free_gate 2;
      announcements = announcement Exit 1 0 5 ∷ announcement Done 1 1 7 ∷ [];
      variable = 0;
      cell = nine;
    }

-- 'K with limit 13: thirteen accepted, then 10; look shows 9'
abbrev pub limited : Row
limited =
    record {
      text = bytes "card,1,1,1,13\n" ++ body_k;
      entries = called 0 (one 9) ++ (steps 0 14 ++ read_first);
      answers = taken ++ (runs 13 ++ (refusal LimitReached ++ shown 9));
      gate = free_gate 2;
      announcements = announcement Done 1 1 7 ∷ [];
      variable = 0;
      cell = nine;
    }

-- the text of a card whose program adds its second input to its first, and subtracts it from 0
abbrev pub card_sums : List ℕ
card_sums =
    bytes "card,1,1,1,100\nvar,7\nsheet,7\nins,1,0,0,0\nins,1,1,1,0\nins,7,0,1,0\nins,11,0,0,0\nins,2,2,0,0\nins,8,2,1,0\nins,11,1,2,0\n"

abbrev pub two : ℕ → ℕ → Words
two x y = record { w0 = x; w1 = y; w2 = 0; w3 = 0 }

-- '4,294,967,295 plus 1' gives 4,294,967,295; '0 minus 1' gives 0 (document 02, order 2)
abbrev pub stopped : Row
stopped = alone (record { text = card_sums; inputs = two 4294967295 1; steps = 12; yields = plain (two 4294967295 0); variable = 0; cell = open_record 7 })

-- a line again and again
abbrev pub lines : ℕ → String → List ℕ
lines zero line = []
lines (suc n) line = bytes line ++ lines n line

-- 64 variables, the last of them 8, and the lines of a program
abbrev pub card64 : String → List ℕ
card64 program = bytes "card,1,64,1,100\n" ++ (lines 63 "var,0\n" ++ (bytes "var,8\n" ++ bytes program))

-- one that reads the variable that its input names
abbrev pub card_read_at : List ℕ
card_read_at = card64 "sheet,3\nins,1,0,0,0\nins,5,1,0,0\nins,11,0,1,0\n"

-- 'Code 5 with 63 of 64 variables reads it'
abbrev pub indirect : Row
indirect = alone (record { text = card_read_at; inputs = one 63; steps = 13; yields = plain (one 8); variable = 63; cell = open_record 8 })

-- 'with 64' a fault (document 02, order 6), 'no access': one step less
abbrev pub indirect_past : Row
indirect_past = alone (record { text = card_read_at; inputs = one 64; steps = 12; yields = fault_yield; variable = 63; cell = open_record 8 })

-- code 6 with 64: a fault, no access
abbrev pub stored_past : Row
stored_past = alone (record { text = card64 "sheet,2\nins,1,0,0,0\nins,6,0,0,0\n"; inputs = one 64; steps = 12; yields = fault_yield; variable = 63; cell = open_record 8 })

-- the text of a card whose program stores its input, outputs it, and reads the variable that it names
abbrev pub body_fault : List ℕ
body_fault = bytes "var,7\nsheet,4\nins,1,0,0,0\nins,4,0,0,0\nins,11,0,0,0\nins,5,1,0,0\n"

-- a step and a read, again and again
abbrev pub watched : ℕ → List Entry
watched zero = []
watched (suc n) = Entry.Step 0 ∷ Entry.Read 0 ∷ watched n

abbrev pub seven : ℕ → List Answer
seven zero = []
seven (suc n) = Answer.Run ∷ Answer.Value 7 ∷ seven n

-- 'none of its writes is made, its outputs are 0': 9 is stored and output before the fault, and no read ever shows it
abbrev pub unwritten : Row
unwritten =
    record {
      text = bytes "card,1,1,1,100\n" ++ body_fault;
      entries = called 0 (one 9) ++ watched 13;
      answers = taken ++ (seven 12 ++ (fault 1 13 ++ shown 7));
      gate = free_gate 2;
      announcements = done_announcement fault_yield ∷ [];
      variable = 0;
      cell = open_record 7;
    }

-- two helpers meet the fault of process 1, and 0 is late: when 1 has returned and announced another operation, 0 marks nothing
abbrev pub late_fault : Row
late_fault =
    record {
      text = bytes "card,2,1,1,100\n" ++ body_fault;
      entries = called 0 (one 0) ++ (called 1 (one 9) ++ (steps 0 2 ++ (steps 1 7 ++ (steps 0 3 ++ (steps 1 6 ++ (called 1 (one 0) ++ (steps 1 2 ++ (steps 0 3 ++ read_first))))))));
      answers = taken ++ (taken ++ (runs 17 ++ (fault 1 13 ++ (taken ++ (runs 5 ++ shown 7)))));
      gate = free_gate 2;
      announcements = announcement Active 1 0 0 ∷ announcement Active 2 0 0 ∷ [];
      variable = 0;
      cell = open_record 7;
    }

-- 'Skip 31 at the second instruction of three, its test true, stops': the output stays 0
abbrev pub skip_past : Row
skip_past = alone (record { text = bytes "card,1,1,1,100\nvar,7\nsheet,3\nins,2,0,5,0\nins,9,1,1,31\nins,11,0,0,0\n"; inputs = one 0; steps = 12; yields = plain (one 0); variable = 0; cell = open_record 7 })

-- 'Process i takes part in choosing with i, not seq mod p, first': number 1 is process 1's turn, so 0 helps 1 before itself
abbrev pub turn_of_other : Row
turn_of_other =
    record {
      text = card_k2;
      entries = called 1 (one 9) ++ (called 0 (one 5) ++ (steps 1 2 ++ (steps 0 25 ++ read_first)));
      answers = taken ++ (taken ++ (runs 26 ++ (done 2 (one 9) 25 ++ shown 5)));
      gate = free_gate 3;
      announcements = announcement Done 1 2 9 ∷ announcement Done 1 1 7 ∷ [];
      variable = 0;
      cell = record { val0 = 5; val1 = 9; toggle = false; seq = 2 };
    }

-- 'A helper reads val[toggle] of a record already written under its number': the old value is 7, not 9
abbrev pub equal_seq : Row
equal_seq =
    record {
      text = card_k2;
      entries = called 0 (one 5) ++ (called 1 (one 9) ++ (steps 0 2 ++ (steps 1 9 ++ (steps 0 4 ++ steps 1 5))));
      answers = taken ++ (taken ++ (runs 19 ++ done 1 (one 7) 14));
      gate = free_gate 2;
      announcements = announcement Active 1 0 5 ∷ announcement Done 1 1 7 ∷ [];
      variable = 0;
      cell = nine;
    }

-- two processes, one variable 0, and the program v0 := 1 - v0
abbrev pub card_flip : List ℕ
card_flip = bytes "card,2,1,1,100\nvar,0\nsheet,4\nins,2,0,1,0\nins,3,1,0,0\nins,8,0,1,0\nins,4,0,0,0\n"

abbrev pub flipped : ℕ → Record
flipped seq = record { val0 = 0; val1 = 1; toggle = true; seq = seq }

-- 'Exited is answered straight after P6: a helper may yet finish the operation': after P7 process 1 runs on, and 0 finishes its operation
abbrev pub early_exit : Row
early_exit =
    record {
      text = card_flip;
      entries = called 0 (one 0) ++ (steps 0 3 ++ (called 1 (one 0) ++ (steps 1 2 ++ (steps 0 6 ++ (exit 1 ++ (steps 1 1 ++ (steps 0 1 ++ (steps 1 1 ++ (steps 0 1 ++ read_first)))))))));
      answers = taken ++ (runs 3 ++ (taken ++ (runs 8 ++ (taken ++ (runs 4 ++ shown 1)))));
      gate = held_gate 1 1;
      announcements = announcement Active 1 0 0 ∷ announcement Done 1 1 0 ∷ [];
      variable = 0;
      cell = flipped 1;
    }

-- 'P17 without the seq test: a late helper marks the next announcement done': it stays active
abbrev pub late_mark : Row
late_mark =
    record {
      text = card_flip;
      entries = called 0 (one 0) ++ (steps 0 3 ++ (called 1 (one 0) ++ (steps 1 2 ++ (steps 0 3 ++ (steps 1 9 ++ (called 1 (one 0) ++ (steps 1 2 ++ steps 0 3)))))));
      answers = taken ++ (runs 3 ++ (taken ++ (runs 13 ++ (done 1 (one 0) 11 ++ (taken ++ runs 5)))));
      gate = free_gate 2;
      announcements = announcement Active 1 0 0 ∷ announcement Active 2 0 0 ∷ [];
      variable = 0;
      cell = flipped 1;
    }

-- 'A swap that compares values and not seq lets a late write through': the late H36 of process 0 is lost
abbrev pub late_swap : Row
late_swap =
    record {
      text = card_flip;
      entries = called 0 (one 0) ++ (steps 0 3 ++ (called 1 (one 0) ++ (steps 1 2 ++ (steps 0 16 ++ (steps 1 9 ++ (called 1 (one 0) ++ (steps 1 9 ++ (steps 0 1 ++ (steps 1 1 ++ read_first)))))))));
      answers = taken ++ (runs 3 ++ (taken ++ (runs 26 ++ (done 1 (one 0) 11 ++ (taken ++ (runs 11 ++ shown 1))))));
      gate = held_gate 1 3;
      announcements = announcement Done 1 2 0 ∷ announcement Done 3 3 0 ∷ [];
      variable = 0;
      cell = flipped 3;
    }

-- Cells taken and given back (document 02, order 9). Two variables, the free cells from variable 0; a program that takes a cell and tells its number
abbrev pub card_take : ℕ → ℕ → List ℕ
card_take first second = bytes "card,1,2,1,100\nvar," ++ (decimal first ++ (bytes "\nvar," ++ (decimal second ++ bytes "\nsheet,3\nins,2,0,9,0\nins,13,0,0,0\nins,11,0,0,0\n")))

-- one that gives back the cell that its input names
abbrev pub card_give : List ℕ
card_give = bytes "card,1,2,1,100\nvar,0\nvar,5\nsheet,2\nins,1,0,0,0\nins,14,0,0,0\n"

-- taking the last cell: two first touches, one write
abbrev pub taken_last : Row
taken_last =
    record {
      text = card_take 1 0;
      entries = called 0 (one 0) ++ (steps 0 15 ++ read_first);
      answers = taken ++ (runs 14 ++ (done 1 (one 1) 15 ++ shown 0));
      gate = free_gate 2;
      announcements = announcement Done 1 1 1 ∷ [];
      variable = 0;
      cell = record { val0 = 1; val1 = 0; toggle = true; seq = 1 };
    }

-- taking from an empty chain: 0, and no further access
abbrev pub taken_none : Row
taken_none = alone (record { text = card_take 0 5; inputs = one 0; steps = 13; yields = plain (one 0); variable = 1; cell = open_record 5 })

-- a chain with a number past the variables: variable 0 is touched, then a fault
abbrev pub taken_past : Row
taken_past = alone (record { text = card_take 2 5; inputs = one 0; steps = 13; yields = fault_yield; variable = 0; cell = open_record 2 })

-- giving back 0, and n: a fault before any touch
abbrev pub given_zero : Row
given_zero = alone (record { text = card_give; inputs = one 0; steps = 12; yields = fault_yield; variable = 0; cell = open_record 0 })

abbrev pub given_past : Row
given_past = alone (record { text = card_give; inputs = one 2; steps = 12; yields = fault_yield; variable = 1; cell = open_record 5 })

-- 'Both codes touch variable 0, then the cell': so the first write, after nine steps, is that of variable 0; given back cell 1, which holds 0 then
abbrev pub given_first : Row
given_first =
    record {
      text = card_give;
      entries = called 0 (one 1) ++ steps 0 10;
      answers = taken ++ runs 10;
      gate = held_gate 0 1;
      announcements = announcement Active 1 0 1 ∷ [];
      variable = 0;
      cell = record { val0 = 0; val1 = 1; toggle = true; seq = 1 };
    }

-- 'the cell becomes 0'
abbrev pub taken_cleared : Row
taken_cleared =
    record {
      text = bytes "card,1,3,1,100\nvar,1\nvar,2\nvar,0\nsheet,2\nins,13,0,0,0\nins,11,0,0,0\n";
      entries = called 0 (one 0) ++ (steps 0 16 ++ (Entry.Read 0 ∷ Entry.Read 1 ∷ Entry.Read 2 ∷ []));
      answers = taken ++ (runs 15 ++ (done 1 (one 1) 16 ++ (shown 2 ++ (shown 0 ++ shown 0))));
      gate = free_gate 2;
      announcements = announcement Done 1 1 1 ∷ [];
      variable = 1;
      cell = record { val0 = 2; val1 = 0; toggle = true; seq = 1 };
    }

-- both codes in one operation: a cell is taken and given back, so that nothing is altered
abbrev pub taken_given : Row
taken_given = alone (record { text = bytes "card,1,2,1,100\nvar,1\nvar,0\nsheet,3\nins,13,0,0,0\nins,14,0,0,0\nins,11,0,0,0\n"; inputs = one 0; steps = 14; yields = plain (one 1); variable = 0; cell = open_record 1 })

abbrev pub rows : List Row
rows =
    listing ∷ after_nine ∷ after_ten ∷ same_input ∷ exit_requested ∷ two_processes ∷ limited ∷ stopped ∷ indirect ∷ indirect_past ∷ stored_past ∷ unwritten ∷ late_fault ∷ skip_past ∷ turn_of_other ∷ equal_seq ∷ early_exit ∷ late_mark ∷ late_swap ∷ taken_last ∷ taken_none ∷ taken_past ∷ given_zero ∷ given_past ∷ given_first ∷ taken_cleared ∷ taken_given ∷ []
