-- What an entry can come to: it is refused and leaves the card, or it is taken.
use Rattle.std.specs.Prelude.{Ok}
use Prim.Native.Nat.{ℕ, ◌<◌}
use mathlib.Core.Path.{◌≡◌}
use mathlib.Core.Bool.{true, false}
use Rattle.construction.specs.Types.{Words, Card, Refusal, Answer, Answered}
use Rattle.construction.specs.Machine.{advance}
use Rattle.construction.specs.Requests.{is_busy, refused, answer_of, value_of, invoked, exiting, is_program}
use Rattle.construction.specs.Tracing.{trace}
use Rattle.construction.specs.History.{Entry, act, Steps}
use Rattle.construction.proofs.Observing.Entries.{on_call, on_exit, on_step, on_read, on_change}
use Rattle.construction.specs.Parts.{with_local, local_at, contents_of}
use mathlib.Core.List.{List}
use Rattle.construction.specs.Changes.{change_read, is_unsettled, unchanged, changed}

pub data Outcome (c : Card) : Entry → Answered → Type 0 where
  turned_back : (e : Entry) (why : Refusal) → Outcome c e (refused c why)
  called :
      (i k : ℕ) (inputs : Words) → i < c.process_count → is_busy c i ≡ false →
      Outcome c (Entry.Call i k inputs) (record { card = with_local c i (invoked (local_at c i) k inputs); answer = Answer.Taken })
  asked : (i : ℕ) → i < c.process_count → Outcome c (Entry.Exit i) (record { card = with_local c i (exiting (local_at c i)); answer = Answer.Taken })
  stepped :
      {e : Entry} (i : ℕ) → Steps e i → i < c.process_count → is_busy c i ≡ true → c.steps < c.limit →
      Outcome c e (record { card = advance c i; answer = answer_of (local_at (advance c i) i) })
  unaltered : (k from : ℕ) (t : List ℕ) (why : Refusal) (line : ℕ) → Outcome c (Entry.Change k from t) (unchanged c why line)
  altered :
      (k from : ℕ) (t : List ℕ) → is_program c k ≡ true → (change_read (contents_of c) t).verdict ≡ Ok tt → c.gate.seq < from →
      is_unsettled c k ≡ false →
      Outcome c (Entry.Change k from t)
      (changed c k from (change_read (contents_of c) t).program)
  shown : (v x : ℕ) → Outcome c (Entry.Read v) (record { card = c; answer = Answer.Value x })

pub outcome : (c : Card) (e : Entry) → Outcome c e (act c e)
unfolding trace
outcome c (Entry.Call i k inputs) =
    let e = Entry.Call i k inputs in
    on_call (Outcome c e) c (Outcome.turned_back e) i k inputs (λ lt _. Outcome.called i k inputs lt)
outcome c (Entry.Exit i) =
    let e = Entry.Exit i in
    on_exit (Outcome c e) c (Outcome.turned_back e) i (λ lt _. Outcome.asked i lt)
outcome c (Entry.Step i) =
    let e = Entry.Step i in
    on_step (Outcome c e) c (Outcome.turned_back e) i (Outcome.stepped i Steps.by_step)
outcome c (Entry.Trace i) =
    let e = Entry.Trace i in
    on_step (Outcome c e) c (Outcome.turned_back e) i (Outcome.stepped i Steps.by_trace)
outcome c (Entry.Read v) =
    let e = Entry.Read v in
    on_read (Outcome c e) c (Outcome.turned_back e) v (λ _. Outcome.shown v (value_of c v))
outcome c (Entry.Change k from t) =
    let e = Entry.Change k from t in
    on_change (Outcome c e) c (Outcome.turned_back e) k from t (Outcome.unaltered k from t) (Outcome.altered k from t)
