-- A line taken, part by part (document 02, order 7): `next_start` and `next_line` of the crate dump ask these of a line, and leave this of what was read.
use Rattle.std.specs.Prelude.{ℕ, ◌+◌, ◌<◌, min, Bool, false, cond, not, ◌&&◌, List, get_or, set, eqb, leb, ltb}
use Rattle.dump.specs.declared.DumpLine.{DumpLine}

-- the line is of a variable that there is room for
abbrev pub Inside : DumpLine → Type 0
Inside (DumpLine.Value v x i) = v < 64
Inside (DumpLine.Time k i) = Unit {0}
Inside DumpLine.Malformed = Unit {0}

-- the value of the next variable, at time 0
abbrev pub starts_with : ℕ → DumpLine → Bool
starts_with next (DumpLine.Value v x i) = eqb v next
starts_with next (DumpLine.Time k i) = false
starts_with next DumpLine.Malformed = false

-- a time and a value that may follow
abbrev pub time_follows : ℕ → ℕ → ℕ → Bool
time_follows now next k = not (eqb next 0) && (ltb now k && leb k 1000000000000000000)

abbrev pub value_follows : ℕ → ℕ → List ℕ → ℕ → ℕ → Bool
value_follows n next values v x = leb next v && (ltb v n && not (eqb x (get_or values v 0)))

abbrev pub takes_line : ℕ → ℕ → ℕ → List ℕ → DumpLine → Bool
takes_line n now next values (DumpLine.Time k i) = time_follows now next k
takes_line n now next values (DumpLine.Value v x i) = value_follows n next values v x
takes_line n now next values DumpLine.Malformed = false

-- what is left
abbrev pub values_with : List ℕ → DumpLine → List ℕ
values_with values (DumpLine.Value v x i) = set values v x
values_with values (DumpLine.Time k i) = values
values_with values DumpLine.Malformed = values

abbrev pub shown_with : ℕ → ℕ → List ℕ → DumpLine → List ℕ
shown_with step time shown line = cond (leb time step) (values_with shown line) shown

abbrev pub past_line : DumpLine → ℕ
past_line (DumpLine.Time k i) = i
past_line (DumpLine.Value v x i) = i
past_line DumpLine.Malformed = 0

abbrev pub time_with : ℕ → DumpLine → ℕ
time_with time (DumpLine.Time k i) = k
time_with time (DumpLine.Value v x i) = time
time_with time DumpLine.Malformed = time

-- a variable is a byte
abbrev pub next_with : DumpLine → ℕ
next_with (DumpLine.Time k i) = 0
next_with (DumpLine.Value v x i) = min 255 (v + 1)
next_with DumpLine.Malformed = 0
