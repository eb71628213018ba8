-- The entries of demand 3 that a sweep makes (document 02, order 12): a step each, and behind a step at which an operation returned the call that is made again. The
-- loan is handed in each time as the step before left it, so that order 10's theorem over lists of entries (crate lent_runs) speaks of every sweep.
use Rattle.std.specs.Prelude.{ℕ, ◌≡◌, Bool, true, false, List, [], ◌∷◌, ◌++◌}
use Rattle.construction.specs.Opening.{opened}
use Rattle.construction.specs.History.{Entry, run}
use Rattle.calls.specs.Tables.{request_in}
use Rattle.lent_steps.specs.Steps.{answer_to}
use Rattle.lent_runs.specs.Runs.{Memory, Handed, HandedBack, handing, opened_memory, memory_of, entries_by_value, lent_run}
use Rattle.lent_sweep.specs.Sweeps.{is_again, Sweep, start, sweep_step, swept}

-- the call of process i
abbrev pub call_of : List ℕ → ℕ → Entry
call_of calls i = Entry.Call i (request_in calls i).program (request_in calls i).inputs

-- an entry that follows, or none
abbrev pub follows : Bool → Entry → List Entry → List Entry
follows true e es = e ∷ es
follows false e es = es

unfoldable pub entries : List ℕ → Sweep → List ℕ → List Entry
entries calls s [] = []
entries calls s (i ∷ is) =
    Entry.Step i ∷ follows (is_again calls i (answer_to s.block s.loan i)) (call_of calls i) (entries calls (sweep_step calls s i) is)

-- block and loan of a sweep, and a sweep that begins on a block and a loan
abbrev pub memory_in : Sweep → Memory
memory_in s = record { block = s.block; loan = s.loan }

abbrev pub sweep_on : Memory → Sweep
sweep_on m = start m.block m.loan

-- the text t opened into the block b, with the loan l: the entries es are made, and then a sweep
abbrev pub before : List ℕ → List ℕ → List ℕ → List Entry → Sweep
before t b l es = sweep_on (memory_of t b l (handing (opened_memory t b l) es))

abbrev pub with_sweep : List ℕ → List ℕ → List ℕ → List Entry → List ℕ → List ℕ → List Entry
with_sweep t b l es calls schedule = es ++ entries calls (before t b l es) schedule

abbrev pub handed_in : List ℕ → List ℕ → List ℕ → List Entry → List ℕ → List ℕ → List Handed
handed_in t b l es calls schedule = handing (opened_memory t b l) (with_sweep t b l es calls schedule)

-- A SWEEP IS A RUN OF DEMAND 3, on block and loan (order 10) and on the card by value
pub record SweepRuns (t b l : List ℕ) (es : List Entry) (calls : List ℕ) (schedule : List ℕ) : Type 0 where
  -- its entries meet order 10's premise, and none is refused with 11
  pub handed : HandedBack (opened_memory t b l) (handed_in t b l es calls schedule)
  pub taken : entries_by_value t b l (handed_in t b l es calls schedule) ≡ with_sweep t b l es calls schedule
  -- what it leaves is what they leave
  pub memory : memory_of t b l (handed_in t b l es calls schedule) ≡ memory_in (swept calls (before t b l es) schedule)
  -- the card that stands there, and what the observer notes, are those of the run over the entries
  pub observed : lent_run t b l (handed_in t b l es calls schedule) ≡ run (opened t).card (with_sweep t b l es calls schedule)

-- no entry is an exit request
abbrev pub is_exit : Entry → Bool
is_exit (Entry.Call i k inputs) = false
is_exit (Entry.Exit i) = true
is_exit (Entry.Step i) = false
is_exit (Entry.Trace i) = false
is_exit (Entry.Read v) = false
is_exit (Entry.Change k from t) = false

unfoldable pub NoExits : List Entry → Type 0
NoExits [] = Unit
NoExits (e ∷ es) = (is_exit e ≡ false) × NoExits es
