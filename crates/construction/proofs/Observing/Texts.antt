-- What an entry does to the texts of a card and to the changes noted (document 02, order 11), and what then holds from a moment on.
use Prim.Native.Nat.{ℕ, ◌≤◌, ◌<◌}
use mathlib.Core.Path.{◌≡◌, refl, sym, ap, ◌∙◌, subst}
use mathlib.Core.Bool.{true, false, ◌&&◌}
use mathlib.Core.List.{List, [], ◌∷◌}
use native.Mathlib.Omega.{arith}
use native.Mathlib.Decide.{ℕ_discrete}
use lib.ListN.{get_or, set}
use lib.Dec.{eqb, leb, ltb}
use lib.Seq.{get_or-set_same, get_or-set_other}
use borrow.Author.Tests.{ltb-true, eq-eqb, ne_eqb}
use Rattle.construction.specs.Types.{Card, Answer, Answered, Program}
use Rattle.construction.specs.Parts.{Texts, texts_of, contents_of, with_revision}
use Rattle.construction.specs.Changes.{change_read, is_unsettled, changed, change}
use Rattle.construction.specs.Requests.{is_program}
use Rattle.construction.specs.Opening.{fresh, opened}
use Rattle.construction.specs.History.{Entry, Steps, Event, event_of, History, Replacement, finishing, text_at, with_finishes, with_entry, Observation}
use Rattle.construction.specs.History.{observe, observe_all, run}
use Rattle.construction.specs.Texts.{last_change, brings, NoneBrings}
use Rattle.construction.proofs.Basics.{and_true, clash, cond_false, get_or_replicate_same}
use Rattle.construction.proofs.Statements.OneAccess.{one_access}
use Rattle.construction.proofs.Invariant.Changing.{settled_gate, text_before}
use Rattle.construction.proofs.Observing.Entries.{on_change}
use Rattle.construction.proofs.Observing.Outcomes.{Outcome, outcome}
use Rattle.construction.proofs.Observing.Histories.{finished_changes, returned_changes}
use Rattle.construction.proofs.Observing.Consistency.{Consistent, entry_kept}
use Rattle.construction.proofs.Observing.Runs.{opened_keeps}

-- a change that an observer of the opened card o notes
abbrev pub told : Card → ℕ → ℕ → List ℕ → Replacement
told o k from t = record { program = k; from = from; text = (change_read (contents_of o) t).program }

-- a change that was taken between two moments
pub record Taken (o : Card) (m n : Observation) (k from : ℕ) (t : List ℕ) : Type 0 where
  pub few : k < 8
  pub ahead : m.card.gate.seq < from
  pub settled : is_unsettled m.card k ≡ false
  pub card_is : n.card ≡ with_revision m.card k from (change_read (contents_of m.card) t).program
  pub noted : n.history.changes ≡ told o k from t ∷ m.history.changes

-- an entry leaves texts and noted changes, or is a taken change
pub data TextsAfter (o : Card) (m : Observation) : Entry → Observation → Type 0 where
  kept :
      {e : Entry} {n : Observation} → texts_of n.card ≡ texts_of m.card → n.history.changes ≡ m.history.changes → TextsAfter o m e n
  revised : {n : Observation} (k from : ℕ) (t : List ℕ) → Taken o m n k from t → TextsAfter o m (Entry.Change k from t) n

module _ (o : Card) (m : Observation) where
  abbrev noticed : Answered → History
  noticed r = with_finishes o m.card.gate.seq (finishing m.card r.card) m.history

  still : (r : Answered) → (noticed r).changes ≡ m.history.changes
  still r = finished_changes o m.card.gate.seq (finishing m.card r.card) m.history

  unnoted : (e : Entry) (s : History) → (with_entry o s e Event.none).changes ≡ s.changes
  unnoted (Entry.Call i k inputs) s = refl
  unnoted (Entry.Exit i) s = refl
  unnoted (Entry.Step i) s = refl
  unnoted (Entry.Trace i) s = refl
  unnoted (Entry.Read v) s = refl
  unnoted (Entry.Change k from t) s = refl

  stepped_notes : {e : Entry} {i : ℕ} → Steps e i → (s : History) (v : Event) → (with_entry o s e v).changes ≡ s.changes
  stepped_notes (Steps.by_step {i}) s v = returned_changes s i v
  stepped_notes (Steps.by_trace {i}) s v = returned_changes s i v

  abbrev after : Entry → Answered → Observation
  after e r = record { card = r.card; history = with_entry o (noticed r) e (event_of r.answer) }

  taken_after :
      (k from : ℕ) (t : List ℕ) → is_program m.card k ≡ true → m.card.gate.seq < from → is_unsettled m.card k ≡ false →
      Taken o m (after (Entry.Change k from t) (changed m.card k from (change_read (contents_of m.card) t).program)) k from t
  taken_after k from t p l u =
      record {
        few = ltb-true k 8 (and_true (ltb k m.card.program_count) _ p).1;
        ahead = l;
        settled = u;
        card_is = refl;
        noted = ap (λ (ys : List Replacement). told o k from t ∷ ys) (still (changed m.card k from (change_read (contents_of m.card) t).program));
      }

  by_outcome : {e : Entry} {r : Answered} → Outcome m.card e r → TextsAfter o m e (after e r)
  by_outcome {r = r} (Outcome.turned_back e why) = TextsAfter.kept refl (unnoted e (noticed r) ∙ still r)
  by_outcome {r = r} (Outcome.called i k inputs p b) = TextsAfter.kept refl (still r)
  by_outcome {r = r} (Outcome.asked i p) = TextsAfter.kept refl (still r)
  by_outcome {r = r} (Outcome.stepped i x p b l) =
      TextsAfter.kept (sym (one_access m.card i).text.1) (stepped_notes x (noticed r) (event_of r.answer) ∙ still r)
  by_outcome {r = r} (Outcome.shown v x) = TextsAfter.kept refl (still r)
  by_outcome {r = r} (Outcome.unaltered k from t why line) = TextsAfter.kept refl (still r)
  by_outcome (Outcome.altered k from t p a l u) = TextsAfter.revised k from t (taken_after k from t p l u)

  pub texts_after : (e : Entry) → TextsAfter o m e (observe o m e)
  unfolding observe
  texts_after e = by_outcome (outcome m.card e)

  pub taken_noted :
      (k from : ℕ) (t : List ℕ) → (change m.card k from t).answer ≡ Answer.Taken → Taken o m (observe o m (Entry.Change k from t)) k from t
  unfolding observe
  taken_noted k from t =
      on_change (λ (r : Answered). r.answer ≡ Answer.Taken → Taken o m (after (Entry.Change k from t) r) k from t) m.card
      (λ why e. clash (cc)) k from t (λ why line e. clash (cc)) (λ p _ l u _. taken_after k from t p l u)

-- the last change of each program, as the card has it, is the last one noted
abbrev Last : Observation → Type 0
Last m = (k : ℕ) → k < 8 → get_or m.card.from k 0 ≡ last_change m.history.changes k

last_after : {o : Card} {m n : Observation} {e : Entry} → Consistent o m → TextsAfter o m e n → Last m → Last n
unfolding last_change
last_after {o} {m} {n} O (TextsAfter.kept z w) q k h =
    ap (λ (x : Texts). get_or x.from k 0) z ∙ (q k h ∙ ap (λ (ys : List Replacement). last_change ys k) (sym w))
last_after {o} {m} {n} O (TextsAfter.revised j from t T) q k h =
    ap (λ (d : Card). get_or d.from k 0) T.card_is ∙ (go (ℕ_discrete k j) ∙ ap (λ (ys : List Replacement). last_change ys k) (sym T.noted))
  where
    go : Dec (k ≡ j) → get_or (set m.card.from j from) k 0 ≡ last_change (told o j from t ∷ m.history.changes) k
    go (yes e) = rw (e, eq-eqb j j refl) (get_or-set_same m.card.from j from 0 (omega (arith, O.inv.texts.many)))
    go (no ne) = rw (ne_eqb j k (λ z. ne (sym z))) (get_or-set_other m.card.from j k from 0 ne ∙ q k h)

pub last_noted : (t : List ℕ) (es : List Entry) → Last (run (opened t).card es)
unfolding opened fresh last_change
last_noted t =
    opened_keeps t Last (λ m O e q. last_after O (texts_after (opened t).card m e) q) (λ k h. get_or_replicate_same {A = ℕ} 8 k 0)

-- once program k was changed from a number on, what it was below that number stays: further changes come after it
pub record Since (o : Card) (k from : ℕ) (old : ℕ → Program) (m : Observation) : Type 0 where
  pub past : from ≤ get_or m.card.from k 0
  pub same : (number : ℕ) → number < from → text_at (contents_of o) m.history.changes k number ≡ old number

since_after :
    {o : Card} {k from : ℕ} {old : ℕ → Program} {m n : Observation} {e : Entry} → Consistent o m → TextsAfter o m e n → Since o k from old m →
    Since o k from old n
unfolding text_at
since_after {o} {k} {from} O (TextsAfter.kept z w) S =
    record {
      past = subst (λ (x : Texts). from ≤ get_or x.from k 0) (sym z) S.past;
      same = λ number h. ap (λ (ys : List Replacement). text_at (contents_of o) ys k number) w ∙ S.same number h;
    }
since_after {o} {k} {from} {old} {m} {n} O (TextsAfter.revised j later t T) S =
    record {
      past = subst (λ (d : Card). from ≤ get_or d.from k 0) (sym T.card_is) (go (ℕ_discrete k j));
      same = λ number h. ap (λ (ys : List Replacement). text_at (contents_of o) ys k number) T.noted ∙ below number h (ℕ_discrete k j);
    }
  where
    go : Dec (k ≡ j) → from ≤ get_or (set m.card.from j later) k 0
    go (yes e) =
        rw (e, get_or-set_same m.card.from j later 0 (omega (arith, O.inv.texts.many)))
        (omega (arith, T.ahead, settled_gate m.card j T.settled, subst (λ (x : ℕ). from ≤ get_or m.card.from x 0) e S.past))
    go (no ne) = rw (get_or-set_other m.card.from j k later 0 ne) S.past

    below : (number : ℕ) → number < from → Dec (k ≡ j) → text_at (contents_of o) (told o j later t ∷ m.history.changes) k number ≡ old number
    below number h (yes e) =
        text_before (text_at (contents_of o) m.history.changes) j later (change_read (contents_of o) t).program k number
        (omega (arith, T.ahead, settled_gate m.card j T.settled, subst (λ (x : ℕ). from ≤ get_or m.card.from x 0) e S.past))
        ∙ S.same number h
    below number h (no ne) = rw (ne_eqb j k (λ z. ne (sym z))) (S.same number h)

-- so it is once the change was taken
pub since_taken :
    {o : Card} {m n : Observation} (k from : ℕ) (t : List ℕ) → Consistent o m → Taken o m n k from t →
    Since o k from (text_at (contents_of o) m.history.changes k) n
unfolding text_at
since_taken {o} {m} {n} k from t O T =
    record {
      past =
          subst (λ (d : Card). from ≤ get_or d.from k 0) (sym T.card_is)
          (rw (get_or-set_same m.card.from k from 0 (omega (arith, O.inv.texts.many, T.few))) (omega arith));
      same = λ number h.
          ap (λ (ys : List Replacement). text_at (contents_of o) ys k number) T.noted
          ∙ text_before (text_at (contents_of o) m.history.changes) k from (change_read (contents_of o) t).program k number h;
    }

pub since_all :
    {o : Card} {k from : ℕ} {old : ℕ → Program} (m : Observation) (es : List Entry) → Consistent o m → Since o k from old m →
    Since o k from old (observe_all o m es)
unfolding observe_all
since_all m [] O S = S
since_all {o} m (e ∷ es) O S = since_all (observe o m e) es (entry_kept o m O e) (since_after O (texts_after o m e) S)

-- entries that bring no text for a number leave the one that it has
pub unbrought :
    (o : Card) (k number : ℕ) (m : Observation) (es : List Entry) → NoneBrings es k number →
    text_at (contents_of o) (observe_all o m es).history.changes k number ≡ text_at (contents_of o) m.history.changes k number
unfolding observe_all text_at
unbrought o k number m [] q = refl
unbrought o k number m (e ∷ es) q = unbrought o k number (observe o m e) es q.1 ∙ one (texts_after o m e) q.0
  where
    one :
        {e : Entry} {n : Observation} → TextsAfter o m e n → brings e k number ≡ false →
        text_at (contents_of o) n.history.changes k number ≡ text_at (contents_of o) m.history.changes k number
    one (TextsAfter.kept z w) h = ap (λ (ys : List Replacement). text_at (contents_of o) ys k number) w
    one (TextsAfter.revised j from t T) h =
        ap (λ (ys : List Replacement). text_at (contents_of o) ys k number) T.noted ∙ cond_false (eqb j k && leb from number) _ _ h
