-- The labels of the paper (document 01, 'One step'; document 02, order 1): the table, and what is read off it.
use Rattle.std.specs.Prelude.{ℕ, Bool, true, false, eqb}
use Rattle.construction.specs.Types.{Label, Idle, P1, P3, P5, P7, P10, C2, C4, P13, P14, P16, H21, H36, P19, P20, P21, P22, F1, F3, P6, LabelRow}

abbrev pub row : ℕ → ℕ → Bool → ℕ → LabelRow
row letter number noting word = record { letter = letter; number = number; noting = noting; word = word }

-- the table of labels: the letter of its procedure (P, C, H or F: 80, 67, 72, 70) and the number of its line, 0 and 0 where there is no access; whether the
-- variables noted are told, 'from H21 to P20'; its word in a block
abbrev pub label_row : Label → LabelRow
label_row Idle = row 0 0 false 0
label_row P1 = row 80 1 false 1
label_row P3 = row 80 3 false 2
label_row P5 = row 80 5 false 3
label_row P7 = row 80 7 false 4
label_row P10 = row 80 10 false 5
label_row C2 = row 67 2 false 6
label_row C4 = row 67 4 false 7
label_row P13 = row 80 13 false 8
label_row P14 = row 80 14 false 9
label_row P16 = row 80 16 false 10
label_row H21 = row 72 21 true 11
label_row H36 = row 72 36 true 12
label_row P19 = row 80 19 true 13
label_row P20 = row 80 20 true 14
label_row P21 = row 80 21 false 15
label_row P22 = row 80 22 false 16
label_row F1 = row 70 1 false 17
label_row F3 = row 70 3 false 18
label_row P6 = row 80 6 false 19

-- whether two labels are the same, by their words
abbrev pub same_label : Label → Label → Bool
same_label a b = eqb (label_row a).word (label_row b).word
