-- The worked pieces that speak of lines, by what `trace` tells (document 02, order 1), as a table.
use Rattle.std.specs.Prelude.{ℕ, ◌≡◌, List, [], ◌∷◌, ◌++◌, replicate}
use Rattle.construction.specs.Types.{Cell, Swap, Card}
use Rattle.construction.specs.Types.{Label, Report}
use Rattle.construction.specs.Opening.{opened}
use Rattle.construction.specs.Tracing.{no_report, trace}
use Rattle.construction.specs.History.{Entry, act}
use Rattle.construction.specs.Examples.Terms.{one, called, exit, steps}
use Rattle.construction.specs.Examples.Pieces.{card_k, card_k2}

-- The pieces that speak of lines, by what `trace` tells (document 02, order 1): the reports of the traced steps of a list, in their order
abbrev pub reports_to : Card → List Entry → List Report
reports_to c [] = []
reports_to c (Entry.Call i k inputs ∷ es) = reports_to (act c (Entry.Call i k inputs)).card es
reports_to c (Entry.Exit i ∷ es) = reports_to (act c (Entry.Exit i)).card es
reports_to c (Entry.Step i ∷ es) = reports_to (act c (Entry.Step i)).card es
reports_to c (Entry.Trace i ∷ es) = (trace c i).report ∷ reports_to (act c (Entry.Trace i)).card es
reports_to c (Entry.Read v ∷ es) = reports_to (act c (Entry.Read v)).card es
reports_to c (Entry.Change k from t ∷ es) = reports_to (act c (Entry.Change k from t)).card es

pub record TracedRow : Type 0 where
  pub text : List ℕ
  pub entries : List Entry
  pub reports : List Report

abbrev pub AllTold : List TracedRow → Type 0
AllTold [] = Unit
AllTold (r ∷ rs) = (reports_to (opened r.text).card r.entries ≡ r.reports) × AllTold rs

abbrev pub traces : ℕ → ℕ → List Entry
traces i n = replicate n (Entry.Trace i)

-- an access that tells no noted variables, and one that tells variable 0 alone
abbrev pub told : Label → Cell → Swap → ℕ → List Report
told label cell swap number =
    record { label = label; cell = cell; swap = swap; number = number; noted = 0; count = 0 } ∷ []

abbrev pub told_noted : Label → Cell → Swap → ℕ → List Report
told_noted label cell swap number =
    record { label = label; cell = cell; swap = swap; number = number; noted = 1; count = 1 } ∷ []

-- from P10 on to where process 0, alone on card K, helps itself: the gate is free, it is its own turn, and it takes the gate
abbrev pub told_choosing : List Report → List Report
told_choosing rest =
    told Label.P10 Cell.Gate Swap.None 1
    ++ (told Label.C2 (Cell.Announcement 0) Swap.None 1 ++ (rest
    ++ (told Label.P13 Cell.Gate Swap.Won 1
    ++ (told Label.P14 Cell.Gate Swap.None 1
    ++ (told Label.P16 (Cell.Announcement 0) Swap.None 1 ++ told_noted Label.H21 (Cell.Record 0) Swap.None 1)))))

-- P19 and P20, and from there to the end: the gate is released and its number is read anew
abbrev pub told_ending : Swap → Swap → List Report
told_ending active exit =
    told_noted Label.P19 (Cell.Announcement 0) active 1
    ++ (told_noted Label.P20 (Cell.Announcement 0) exit 1
    ++ (told Label.P21 Cell.Gate Swap.Won 1
    ++ (told Label.P22 (Cell.Announcement 0) Swap.None 1 ++ told Label.F1 Cell.Gate Swap.None 2)))

abbrev pub told_beginning : List Report
told_beginning = told Label.P1 Cell.Gate Swap.None 1 ++ told Label.P3 (Cell.Announcement 0) Swap.None 1

-- card K's listing, line by line
abbrev pub listing_told : TracedRow
listing_told =
    record {
      text = card_k;
      entries = called 0 (one 9) ++ traces 0 14;
      reports =
          told_beginning ++ (told_choosing [] ++ (told_noted Label.H36 (Cell.Record 0) Swap.Won 1 ++ told_ending Swap.Won Swap.Lost));
    }

-- 'K with input 7: no H36, 13 steps'
abbrev pub same_input_told : TracedRow
same_input_told =
    record {
      text = card_k;
      entries = called 0 (one 7) ++ traces 0 13;
      reports = told_beginning ++ (told_choosing [] ++ told_ending Swap.Won Swap.Lost);
    }

-- 'K with a wish right after the call: done after 17 steps, by C4, C6 and P20': its announcement asks to exit, so C2 does not nominate it and
-- C4 (with C6) does; P19 loses and P20 wins
abbrev pub exit_requested_told : TracedRow
exit_requested_told =
    record {
      text = card_k;
      entries = called 0 (one 9) ++ (exit 0 ++ traces 0 17);
      reports =
          told_beginning
          ++ (told Label.P6 (Cell.Announcement 0) Swap.Won 1
          ++ (told Label.P7 (Cell.Announcement 0) Swap.None 1
          ++ (told_choosing (told Label.C4 (Cell.Announcement 0) Swap.None 1)
          ++ (told_noted Label.H36 (Cell.Record 0) Swap.Won 1 ++ told_ending Swap.Lost Swap.Won))));
    }

-- a refused one has no report
abbrev pub refused_told : TracedRow
refused_told =
    record {
      text = card_k;
      entries = traces 0 1 ++ traces 1 1;
      reports = no_report ∷ no_report ∷ [];
    }

-- 'both are 0 except from H21 to P20': a second operation on card K, whose P1 comes after a helping
abbrev pub second_call_told : TracedRow
second_call_told =
    record {
      text = card_k;
      entries = called 0 (one 9) ++ (steps 0 14 ++ (called 0 (one 9) ++ traces 0 1));
      reports = told Label.P1 Cell.Gate Swap.None 2;
    }

-- two processes: 0 takes the gate and stops; 1 helps it, tells the variable noted up to P20, and then helps itself under the next number; its next
-- operation tells nothing noted; and 0 goes on too late, with P21 lost
abbrev pub helping_told : TracedRow
helping_told =
    record {
      text = card_k2;
      entries = called 0 (one 9) ++ (steps 0 7 ++ (called 1 (one 5) ++ (traces 1 23 ++ (called 1 (one 5) ++ (traces 1 1 ++ traces 0 4)))));
      reports =
          told Label.P1 Cell.Gate Swap.None 1
          ++ (told Label.P3 (Cell.Announcement 1) Swap.None 1
          ++ (told Label.P10 Cell.Gate Swap.None 1
          ++ (told Label.P16 (Cell.Announcement 0) Swap.None 1
          ++ (told_noted Label.H21 (Cell.Record 0) Swap.None 1
          ++ (told_noted Label.H36 (Cell.Record 0) Swap.Won 1
          ++ (told_noted Label.P19 (Cell.Announcement 0) Swap.Won 1
          ++ (told_noted Label.P20 (Cell.Announcement 0) Swap.Lost 1
          ++ (told Label.P21 Cell.Gate Swap.Won 1
          ++ (told Label.P22 (Cell.Announcement 1) Swap.None 1
          ++ (told Label.P10 Cell.Gate Swap.None 2
          ++ (told Label.C2 (Cell.Announcement 0) Swap.None 2
          ++ (told Label.C4 (Cell.Announcement 1) Swap.None 2
          ++ (told Label.P13 Cell.Gate Swap.Won 2
          ++ (told Label.P14 Cell.Gate Swap.None 2
          ++ (told Label.P16 (Cell.Announcement 1) Swap.None 2
          ++ (told_noted Label.H21 (Cell.Record 0) Swap.None 2
          ++ (told_noted Label.H36 (Cell.Record 0) Swap.Won 2
          ++ (told_noted Label.P19 (Cell.Announcement 1) Swap.Won 2
          ++ (told_noted Label.P20 (Cell.Announcement 1) Swap.Lost 2
          ++ (told Label.P21 Cell.Gate Swap.Won 2
          ++ (told Label.P22 (Cell.Announcement 1) Swap.None 2
          ++ (told Label.F1 Cell.Gate Swap.None 3
          ++ (told Label.P1 Cell.Gate Swap.None 3
          ++ (told Label.P16 (Cell.Announcement 0) Swap.None 1
          ++ (told Label.P21 Cell.Gate Swap.Lost 1
          ++ (told Label.P22 (Cell.Announcement 0) Swap.None 1
          ++ told Label.F1 Cell.Gate Swap.None 3))))))))))))))))))))))))));
    }

abbrev pub traced_rows : List TracedRow
traced_rows = listing_told ∷ same_input_told ∷ exit_requested_told ∷ second_call_told ∷ helping_told ∷ refused_told ∷ []
