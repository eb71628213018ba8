-- Every list of entries keeps the invariant of waiting, from the opened card on.
use Prim.Native.Nat.{ℕ}
use mathlib.Core.Path.{sym, subst}
use mathlib.Core.List.{List}
use Rattle.construction.specs.Types.{Card, Answered, Contents}
use Rattle.construction.specs.Parts.{contents_of}
use Rattle.construction.specs.Opening.{fresh, read_card, opened}
use Rattle.construction.specs.History.{Entry, act, Observation, observe, run}
use Rattle.construction.proofs.Observing.Outcomes.{Outcome, outcome}
use Rattle.construction.proofs.Observing.Consistency.{Consistent}
use Rattle.construction.proofs.Waiting.Cards.{AllWait, wait_step, wait_call, wait_exit, wait_fresh, wait_change}
use Rattle.construction.proofs.Observing.Runs.{opened_keeps}

-- one entry, at a moment that has the invariant of safety
module _ (o : Card) (m : Observation) (O : Consistent o m) (W : AllWait (contents_of o) m.card) where
  abbrev c : Card
  c = m.card

  abbrev F : Contents
  F = contents_of c

  pub here : AllWait F c
  here = subst (λ (x : Contents). AllWait x c) (sym O.text) W

  by_outcome : {e : Entry} {r : Answered} → Outcome c e r → AllWait F r.card
  by_outcome (Outcome.turned_back e why) = here
  by_outcome (Outcome.called i k inputs lt b) = wait_call k inputs O.inv here lt b
  by_outcome (Outcome.asked i lt) = wait_exit O.inv here lt
  by_outcome (Outcome.stepped i x lt b h) = wait_step O.inv here lt b h
  by_outcome (Outcome.shown v x) = here
  by_outcome (Outcome.unaltered k from t why line) = here
  by_outcome (Outcome.altered k from t p a l u) = wait_change k from _ here

  entry_waits : (e : Entry) → AllWait (contents_of o) (act c e).card
  entry_waits e = subst (λ (x : Contents). AllWait x (act c e).card) O.text (by_outcome (outcome c e))

pub opened_waits : (t : List ℕ) (es : List Entry) → AllWait (contents_of (opened t).card) (run (opened t).card es).card
unfolding opened fresh observe
opened_waits t =
    opened_keeps t (λ m. AllWait (contents_of (opened t).card) m.card) (λ m O e W. entry_waits (opened t).card m O W e) (wait_fresh (read_card t).contents)
