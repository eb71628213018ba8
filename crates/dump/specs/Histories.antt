-- The history of a run (document 02, order 7): what a read shows of every variable at the opening and after each accepted step.
use Rattle.std.specs.Prelude.{ℕ, zero, suc, Bool, true, false, cond, not, ◌&&◌, List, [], ◌∷◌, length, set, replicate}
use Rattle.construction.specs.declared.{card.Card.Card, answers.Answer.Answer}
use Rattle.construction.specs.Answers.{is_refused}
use Rattle.construction.specs.Requests.{value_of}
use Rattle.construction.specs.History.{Entry, act}
use Rattle.dump.specs.Dump.{dump}

-- the values of m variables from v on, put into a row
unfoldable pub row_from : Card → ℕ → ℕ → List ℕ → List ℕ
row_from c zero v row = row
row_from c (suc m) v row = row_from c m (suc v) (set row v (value_of c v))

-- the row of a card: what a read shows of each of its variables; the row has 64 places, and 0 past the last variable
unfoldable pub row_of : Card → List ℕ
row_of c = row_from c c.variable_count 0 (replicate 64 0)

-- an entry that steps a process, traced or not; and one that was accepted
abbrev pub is_step : Entry → Bool
is_step (Entry.Call i k x) = false
is_step (Entry.Exit i) = false
is_step (Entry.Step i) = true
is_step (Entry.Trace i) = true
is_step (Entry.Read v) = false
is_step (Entry.Change k from t) = false

abbrev pub accepts : Entry → Answer → Bool
accepts e a = is_step e && not (is_refused a)

-- the rows after the accepted steps of a list of entries
unfoldable pub rows_of : Card → List Entry → List (List ℕ)
rows_of c [] = []
rows_of c (e ∷ es) =
    let r = act c e in
    cond (accepts e r.answer) (row_of r.card ∷ rows_of r.card es) (rows_of r.card es)

-- how many steps were accepted
abbrev pub accepted_steps : Card → List Entry → ℕ
accepted_steps c es = length (rows_of c es)

-- the dump of a run from its opening
unfoldable pub dump_of : Card → List Entry → List ℕ
dump_of c es = dump c.variable_count (row_of c) (rows_of c es)
