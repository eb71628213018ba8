-- The bench's runs told from the notes alone (document 02, order 11): each finished operation by its number, by the text that its number has among all changes noted.
use Prim.Native.Nat.{ℕ, suc, ◌<◌}
use mathlib.Core.Path.{◌≡◌, refl, sym, ap, subst, ◌∙◌}
use mathlib.Core.Bool.{true, cond, false≢true}
use mathlib.Core.Logic.{inl, inr}
use mathlib.Core.List.{List, [], ◌∷◌}
use native.Mathlib.Omega.{arith}
use lib.ListN.{length}
use Rattle.construction.specs.Types.{Card, Answered, Gate}
use Rattle.construction.specs.Sequential.{sequential}
use Rattle.construction.specs.Parts.{contents_of}
use Rattle.construction.specs.Opening.{opened}
use Rattle.construction.specs.Changes.{change_read}
use Rattle.construction.specs.History.{Entry, act, Invocation, Finish, Event, History, Replacement, has_called, latest, latest_call, finishing, operation_at}
use Rattle.construction.specs.History.{text_at, bench_run, event_of, with_finish, with_finishes, with_entry, Observation, observe, run}
use Rattle.construction.specs.Linearizability.{FinishesAtMostOne}
use Rattle.construction.specs.Texts.{bench_words}
use Rattle.construction.proofs.Basics.{clash}
use Rattle.construction.proofs.Invariant.WorldKept.{count_few}
use Rattle.construction.proofs.Invariant.Cards.{gate_is}
use Rattle.construction.proofs.Invariant.Changing.{text_before}
use Rattle.construction.proofs.Observing.Entries.{on_change}
use Rattle.construction.proofs.Observing.Histories.{on_equal, chosen, passed, latest_below, turned_same}
use Rattle.construction.proofs.Observing.Consistency.{finishes_one, Consistent}
use Rattle.construction.proofs.Observing.Runs.{opened_keeps}

-- the operation with the number of a process's latest call is that call
operation_latest : (xs : List Invocation) (i : ℕ) → has_called xs i ≡ true → operation_at xs (latest xs i) ≡ latest_call xs i
unfolding has_called latest latest_call operation_at
operation_latest [] i h = absurd (false≢true h)
operation_latest (x ∷ xs) i h =
    on_equal
    (λ b. cond b true (has_called xs i) ≡ true → operation_at (x ∷ xs) (cond b (length xs) (latest xs i)) ≡ cond b x (latest_call xs i))
    x.process i
    (λ e k. chosen (length xs) (length xs) x (operation_at xs (length xs)) refl)
    (λ e k. passed (length xs) (latest xs i) x (operation_at xs (latest xs i))
    (λ z. omega (arith, latest_below xs i k)) ∙ operation_latest xs i k)
    h

-- every operation in the order is one of the list
abbrev Listed : List Invocation → List Finish → Type 0
Listed xs [] = Unit {0}
Listed xs (f ∷ fs) = (f.operation < length xs) × Listed xs fs

listed_more : (x : Invocation) (xs : List Invocation) (fs : List Finish) → Listed xs fs → Listed (x ∷ xs) fs
listed_more x xs [] q = tt
listed_more x xs (f ∷ fs) q = (omega (arith, q.0), listed_more x xs fs q.1)

-- each operation of an order yields what the bench gets for it as its number-th
abbrev pub RunAs : Card → List Replacement → List Invocation → List Finish → Type 0
RunAs o ys xs [] = Unit {0}
RunAs o ys xs (f ∷ fs) =
    (f.yields ≡ (bench_run o ys (suc (length fs)) (operation_at xs f.operation) (bench_words o ys xs fs)).yields) × RunAs o ys xs fs

-- a further call leaves what they were
module _ (o : Card) (ys : List Replacement) (x : Invocation) (xs : List Invocation) where
  words_more : (fs : List Finish) → Listed xs fs → bench_words o ys (x ∷ xs) fs ≡ bench_words o ys xs fs
  unfolding bench_words operation_at sequential
  words_more [] q = refl
  words_more (f ∷ fs) q =
      rw (words_more fs q.1, passed (length xs) f.operation x (operation_at xs f.operation) (λ e. omega (arith, q.0)))

  runs_more : (fs : List Finish) → Listed xs fs → RunAs o ys xs fs → RunAs o ys (x ∷ xs) fs
  unfolding operation_at
  runs_more [] q r = tt
  runs_more (f ∷ fs) q r = (
    rw (words_more fs q.1, passed (length xs) f.operation x (operation_at xs f.operation) (λ e. omega (arith, q.0))) r.0,
    runs_more fs q.1
        r.1,
  )

-- and so does a change from a later number on
module _ (o : Card) (y : Replacement) (ys : List Replacement) (xs : List Invocation) where
  words_later : (fs : List Finish) → length fs < y.from → bench_words o (y ∷ ys) xs fs ≡ bench_words o ys xs fs
  unfolding bench_words text_at sequential
  words_later [] h = refl
  words_later (f ∷ fs) h =
      rw (
        words_later fs (omega arith),
        text_before (text_at (contents_of o) ys) y.program y.from y.text (operation_at xs f.operation).program
            (suc (length fs)) (omega arith),
      )

  runs_later : (fs : List Finish) → length fs < y.from → RunAs o ys xs fs → RunAs o (y ∷ ys) xs fs
  unfolding text_at
  runs_later [] h r = tt
  runs_later (f ∷ fs) h r = (
    rw (
      words_later fs (omega arith),
      text_before (text_at (contents_of o) ys) y.program y.from y.text (operation_at xs f.operation).program
          (suc (length fs)) (omega arith),
    )
        r.0,
    runs_later fs (omega arith) r.1,
  )

-- the notes are those of the bench's runs
pub record Ran (o : Card) (s : History) : Type 0 where
  pub listed : Listed s.operations s.order
  pub words : bench_words o s.changes s.operations s.order ≡ s.words
  pub yields : RunAs o s.changes s.operations s.order

ran_finish : (o : Card) (gate i : ℕ) (s : History) → has_called s.operations i ≡ true → Ran o s → Ran o (with_finish o gate i s)
unfolding bench_words sequential
ran_finish o gate i s h R =
    record {
      listed = (latest_below s.operations i h, R.listed);
      words = rw (R.words, operation_latest s.operations i h);
      yields = (rw (R.words, operation_latest s.operations i h), R.yields);
    }

-- a change that is noted is from a number on that no operation has yet
abbrev Late : History → Entry → Event → Type 0
Late s e r = (k from : ℕ) (t : List ℕ) → e ≡ Entry.Change k from t → r ≡ Event.taken → length s.order < from

ran_entry : (o : Card) (s : History) (e : Entry) (r : Event) → Late s e r → Ran o s → Ran o (with_entry o s e r)
ran_entry o s (Entry.Call i k inputs) Event.taken late R =
    let x : Invocation = record { process = i; program = k; inputs = inputs } in
    record {
      listed = listed_more x s.operations s.order R.listed;
      words = rw (words_more o s.changes x s.operations s.order R.listed) R.words;
      yields = runs_more o s.changes x s.operations s.order R.listed R.yields;
    }
ran_entry o s (Entry.Call i k inputs) (Event.returned r) late R = R
ran_entry o s (Entry.Call i k inputs) Event.none late R = R
ran_entry o s (Entry.Exit i) r late R = R
ran_entry o s (Entry.Step i) Event.taken late R = R
ran_entry o s (Entry.Step i) (Event.returned r) late R = record { listed = R.listed; words = R.words; yields = R.yields }
ran_entry o s (Entry.Step i) Event.none late R = R
ran_entry o s (Entry.Trace i) Event.taken late R = R
ran_entry o s (Entry.Trace i) (Event.returned r) late R = record { listed = R.listed; words = R.words; yields = R.yields }
ran_entry o s (Entry.Trace i) Event.none late R = R
ran_entry o s (Entry.Read v) r late R = R
ran_entry o s (Entry.Change k from t) Event.taken late R =
    let y : Replacement = record { program = k; from = from; text = (change_read (contents_of o) t).program } in
    record {
      listed = R.listed;
      words = rw (words_later o y s.changes s.operations s.order (late k from t refl refl)) R.words;
      yields = runs_later o y s.changes s.operations s.order (late k from t refl refl) R.yields;
    }
ran_entry o s (Entry.Change k from t) (Event.returned r) late R = R
ran_entry o s (Entry.Change k from t) Event.none late R = R

-- a taken change is from a number past the gate's on, and so past those of the operations that finished
late_change :
    (o : Card) (m : Observation) → Consistent o m → (e : Entry) →
    Late (with_finishes o m.card.gate.seq (finishing m.card (act m.card e).card) m.history) e (event_of (act m.card e).answer)
unfolding with_finishes
late_change o m O e k from t z =
    subst (λ (e : Entry). Ends (act m.card e)) (sym z)
    (on_change Ends m.card (λ why q. clash (cc)) k from t (λ why line q. clash (cc))
    (λ _ _ ahead _ _. rw (turned_same 0 m.card.announcements)
    (omega (arith, O.tracks.count, count_few O.world.gate.holder O.world O.inv.good.phase, ap (λ (g : Gate). g.seq) (gate_is O.inv)))))
  where
    Ends : Answered → Type 0
    Ends r =
        event_of r.answer ≡ Event.taken →
        length (with_finishes o m.card.gate.seq (finishing m.card r.card) m.history).order < from

ran_finishes :
    (o : Card) (gate : ℕ) (m : Observation) (e : Entry) → FinishesAtMostOne m e → Ran o m.history →
    Ran o (with_finishes o gate (finishing m.card (act m.card e).card) m.history)
unfolding with_finishes
ran_finishes o gate m e (inl z) R = rw z R
ran_finishes o gate m e (inr F) R = rw F.only (ran_finish o gate F.process m.history F.under_way.called R)

-- from the opened card on
pub ran : (t : List ℕ) (es : List Entry) → Ran (opened t).card (run (opened t).card es).history
unfolding observe bench_words
ran t es =
    opened_keeps t (λ m. Ran (opened t).card m.history)
    (λ m O e R. ran_entry _ _ e _ (late_change _ m O e) (ran_finishes _ m.card.gate.seq m e (finishes_one _ m O e) R))
    (record { listed = tt; words = refl; yields = tt }) es
