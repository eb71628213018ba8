-- The dump of a run read back (specs/Runs).
use Prim.Native.Nat.{ℕ, zero, suc, ◌+◌, ◌≤◌, ◌<◌, ◌%◌, min}
use mathlib.Core.Bool.{Bool, true, false, cond, ◌&&◌}
use mathlib.Core.Path.{◌≡◌, refl, sym, ◌∙◌, ap, subst}
use mathlib.Core.List.{List, [], ◌∷◌, ◌++◌, append-nil}
use native.Mathlib.Omega.{arith}
use native.Mathlib.Decide.{ℕ_discrete}
use lib.ListN.{length, get_or, set, replicate, length-set}
use lib.Seq.{get_or-set_same, get_or-set_other}
use borrow.Author.Tests.{lt-ltb}
use Rattle.grammar.proofs.Cases.{on_test}
use Rattle.construction.specs.declared.{cells.Announcement.Announcement, cells.Flag.Flag, card.Card.Card, answers.Answer.Answer, answers.Answered.Answered}
use Rattle.construction.specs.declared.{texts.Contents.Contents}
use Rattle.construction.specs.Answers.{is_refused}
use Rattle.construction.specs.Parts.{local_at}
use Rattle.construction.specs.Machine.{advance}
use Rattle.construction.specs.Requests.{answer_of, is_idle, returned, is_variable, value_of, read}
use Rattle.construction.specs.Opening.{fresh, opened}
use Rattle.construction.specs.History.{Entry, FitEntries, act, Steps, Observation, observe, observe_all, opening, run}
use Rattle.construction.proofs.Observing.Outcomes.{Outcome, outcome}
use Rattle.construction.proofs.Observing.Consistency.{Consistent, entry_kept, read_shown}
use Rattle.construction.proofs.Observing.Runs.{opened_consistent}
use Rattle.construction.proofs.Statements.Refusals.{read_value}
use Rattle.dump.specs.Histories.{row_from, row_of, is_step, accepts, rows_of, accepted_steps, dump_of}
use Rattle.dump.specs.Reading.{readings}
use Rattle.dump.specs.Inverse.{Fits}
use Rattle.dump.specs.Runs.{ReadsBack}
use Rattle.dump.proofs.Inverse.{dump_read}
use Rattle.dump.proofs.Narrow.{words_narrow, no_process}

-- ---- the row of a card
row_below : (c : Card) (m v w : ℕ) (row : List ℕ) → w < v → get_or (row_from c m v row) w 0 ≡ get_or row w 0
unfolding row_from
row_below c zero v w row h = refl
row_below c (suc m) v w row h = row_below c m (suc v) w (set row v (value_of c v)) (omega arith) ∙ get_or-set_other row v w (value_of c v) 0
    (λ (e : w ≡ v). omega arith)

row_there : (c : Card) (m v w : ℕ) (row : List ℕ) → v ≤ w → w < v + m → v + m ≤ length row → get_or (row_from c m v row) w 0 ≡ value_of c w
unfolding row_from
row_there c zero v w row p q l = absurd (omega arith)
row_there c (suc m) v w row p q l =
    by (ℕ_discrete w v) (λ h. row_there c m (suc v) w (set row v (value_of c v)) h (omega arith) (omega (arith, length-set row v (value_of c v))))
  where
    by : Dec (w ≡ v) → (suc v ≤ w → get_or (row_from c m (suc v) (set row v (value_of c v))) w 0 ≡ value_of c w) →
        get_or (row_from c m (suc v) (set row v (value_of c v))) w 0 ≡ value_of c w
    by (yes e) more = rw e (row_below c m (suc v) v (set row v (value_of c v)) (omega arith) ∙ get_or-set_same row v (value_of c v) 0 (omega arith))
    by (no e) more = more (omega arith)

pub row_value : (c : Card) (v : ℕ) → c.variable_count ≤ 64 → v < c.variable_count → get_or (row_of c) v 0 ≡ value_of c v
unfolding row_of
row_value c v few l = row_there c c.variable_count 0 v (replicate 64 0) (omega arith) (omega arith) (omega arith)

row_same : (c d : Card) (m v : ℕ) (row : List ℕ) → ((w : ℕ) → value_of c w ≡ value_of d w) → row_from c m v row ≡ row_from d m v row
unfolding row_from
row_same c d zero v row h = refl
row_same c d (suc m) v row h = rw (h v) (row_same c d m (suc v) (set row v (value_of d v)) h)

-- ---- what an entry does: it is an accepted step, which counts, or the row and the count stay
data Moved (c : Card) (e : Entry) (r : Answered) : Type 0 where
  stepped : accepts e r.answer ≡ true → 0 < c.process_count → r.card.steps ≡ (c.steps + 1) % 18446744073709551616 → c.steps < c.limit → Moved c e r
  stays : accepts e r.answer ≡ false → row_of r.card ≡ row_of c → r.card.steps ≡ c.steps → Moved c e r

and_false : (b : Bool) → b && false ≡ false
and_false true = refl
and_false false = refl

not_refused : (a : Announcement) (f : Flag) (steps : ℕ) → is_refused (returned a f steps) ≡ false
not_refused a Flag.Done steps = refl
not_refused a Flag.Active steps = refl
not_refused a Flag.Exit steps = refl

step_not_refused : (c : Card) (i : ℕ) → is_refused (answer_of (local_at c i)) ≡ false
step_not_refused c i =
    on_test (λ (a : Answer). is_refused a ≡ false) (is_idle (local_at c i).control.place)
    (λ _. not_refused (local_at c i).announcement (local_at c i).announcement.flag (local_at c i).steps) (λ _. refl)

is_step_lem : {e : Entry} {i : ℕ} → Steps e i → is_step e ≡ true
is_step_lem Steps.by_step = refl
is_step_lem Steps.by_trace = refl

moved_of : (c : Card) {e : Entry} {r : Answered} → Outcome c e r → Moved c e r
unfolding row_of value_of advance
moved_of c (Outcome.turned_back e why) = Moved.stays (and_false (is_step e)) refl refl
moved_of c (Outcome.called i k x p b) = Moved.stays refl (row_same _ c c.variable_count 0 (replicate 64 0) (λ w. refl)) refl
moved_of c (Outcome.asked i p) = Moved.stays refl (row_same _ c c.variable_count 0 (replicate 64 0) (λ w. refl)) refl
moved_of c (Outcome.stepped i s p b l) = Moved.stepped (rw (is_step_lem s, step_not_refused (advance c i) i)) (omega arith) refl l
moved_of c (Outcome.shown v x) = Moved.stays refl refl refl
moved_of c (Outcome.unaltered k from t why line) = Moved.stays refl refl refl
moved_of c (Outcome.altered k from t p a l u) = Moved.stays refl (row_same _ c c.variable_count 0 (replicate 64 0) (λ w. refl)) refl

-- ---- the rows of a run, from a moment in which card and notes go together
module _ (o : Card) where
  abbrev next : Observation → Entry → Observation
  next m e = observe o m e

  card_next : (m : Observation) (e : Entry) → (next m e).card ≡ (act m.card e).card
  unfolding observe
  card_next m e = refl

  moved : (m : Observation) (e : Entry) → Moved m.card e (act m.card e)
  moved m e = moved_of m.card (outcome m.card e)

  -- the accepted steps are counted
  counted : (m : Observation) (es : List Entry) → Consistent o m → (observe_all o m es).card.steps ≡ m.card.steps + length (rows_of m.card es)
  unfolding observe_all rows_of observe
  counted m [] O = omega arith
  counted m (e ∷ es) O = counted (next m e) es (entry_kept o m O e) ∙ by (moved m e)
    where
      by :
          Moved m.card e (act m.card e) →
          (act m.card e).card.steps + length (rows_of (act m.card e).card es)
          ≡ m.card.steps + length
          (cond (accepts e (act m.card e).answer) (row_of (act m.card e).card ∷ rows_of (act m.card e).card es)
          (rows_of (act m.card e).card es))
      by (Moved.stepped a p s l) = rw (a, s) (omega (arith, O.inv.capped))
      by (Moved.stays a w s) = rw (a, s)

  -- the row after the accepted steps of a part of the run is that of the card then
  row_then :
      (m : Observation) (es₁ es₂ : List Entry) →
      get_or (row_of m.card ∷ rows_of m.card (es₁ ++ es₂)) (length (rows_of m.card es₁)) [] ≡ row_of (observe_all o m es₁).card
  unfolding observe_all rows_of observe
  row_then m [] es₂ = refl
  row_then m (e ∷ es₁) es₂ = by (moved m e) (row_then (next m e) es₁ es₂)
    where
      by :
          Moved m.card e (act m.card e) →
          get_or (row_of (act m.card e).card ∷ rows_of (act m.card e).card (es₁ ++ es₂)) (length (rows_of (act m.card e).card es₁)) [] ≡ row_of
          (observe_all o (next m e) es₁).card →
          get_or
          (row_of m.card ∷ cond (accepts e (act m.card e).answer) (row_of (act m.card e).card ∷ rows_of (act m.card e).card (es₁ ++ es₂))
          (rows_of (act m.card e).card (es₁ ++ es₂)))
          (length
          (cond (accepts e (act m.card e).answer) (row_of (act m.card e).card ∷ rows_of (act m.card e).card es₁)
          (rows_of (act m.card e).card es₁)))
          []
          ≡ row_of (observe_all o (next m e) es₁).card
      by (Moved.stepped a p s l) h = rw a h
      by (Moved.stays a w s) h = rw (a, ← w) h

  -- no part of a run has more accepted steps than the run
  fewer : (c : Card) (es₁ es₂ : List Entry) → length (rows_of c es₁) ≤ length (rows_of c (es₁ ++ es₂))
  unfolding rows_of
  fewer c [] es₂ = omega arith
  fewer c (e ∷ es₁) es₂ = by (accepts e (act c e).answer) (fewer (act c e).card es₁ es₂)
    where
      by :
          (b : Bool) → length (rows_of (act c e).card es₁) ≤ length (rows_of (act c e).card (es₁ ++ es₂)) →
          length (cond b (row_of (act c e).card ∷ rows_of (act c e).card es₁) (rows_of (act c e).card es₁))
          ≤ length (cond b (row_of (act c e).card ∷ rows_of (act c e).card (es₁ ++ es₂)) (rows_of (act c e).card (es₁ ++ es₂)))
      by true h = omega arith
      by false h = h

  -- every row is that of the card after a part of the run
  record Part (m : Observation) (es : List Entry) (row : List ℕ) : Type 0 where
    first : List Entry
    rest : List Entry
    split : es ≡ first ++ rest
    is : row ≡ row_of (observe_all o m first).card

  part_more : (m : Observation) (e : Entry) (es : List Entry) (row : List ℕ) → Part (next m e) es row → Part m (e ∷ es) row
  unfolding observe_all
  part_more m e es row p = record { first = e ∷ p.first; rest = p.rest; split = ap (λ (l : List Entry). e ∷ l) p.split; is = p.is }

  part : (m : Observation) (es : List Entry) (k : ℕ) → k < length (rows_of m.card es) → Part m es (get_or (rows_of m.card es) k [])
  unfolding rows_of observe_all observe
  part m [] k h = absurd (omega arith)
  part m (e ∷ es) k h = by (accepts e (act m.card e).answer)
      (λ j l. part_more m e es (get_or (rows_of (act m.card e).card es) j []) (part (next m e) es j l)) k h
    where
      by :
          (b : Bool) → ((j : ℕ) → j < length (rows_of (act m.card e).card es) → Part m (e ∷ es) (get_or (rows_of (act m.card e).card es) j [])) → (k : ℕ) →
          k < length (cond b (row_of (act m.card e).card ∷ rows_of (act m.card e).card es) (rows_of (act m.card e).card es)) →
          Part m (e ∷ es) (get_or (cond b (row_of (act m.card e).card ∷ rows_of (act m.card e).card es) (rows_of (act m.card e).card es)) k [])
      by true more zero h = record { first = e ∷ []; rest = es; split = refl; is = refl }
      by true more (suc k) h = more k (omega arith)
      by false more k h = more k h

  -- without processes no step is accepted
  none : (m : Observation) (es : List Entry) → Consistent o m → o.process_count ≡ 0 → length (rows_of m.card es) ≡ 0
  unfolding rows_of observe
  none m [] O z = refl
  none m (e ∷ es) O z = by (moved m e) (none (next m e) es (entry_kept o m O e) z)
    where
      by :
          Moved m.card e (act m.card e) → length (rows_of (act m.card e).card es) ≡ 0 →
          length
          (cond (accepts e (act m.card e).answer) (row_of (act m.card e).card ∷ rows_of (act m.card e).card es)
          (rows_of (act m.card e).card es))
          ≡ 0
      by (Moved.stepped a p s l) h = absurd (omega (arith, ap (λ (x : Contents). x.process_count) O.text))
      by (Moved.stays a w s) h = rw a h

narrow_front : (es₁ es₂ : List Entry) → FitEntries (es₁ ++ es₂) → FitEntries es₁
narrow_front [] es₂ h = tt
narrow_front (e ∷ es₁) es₂ h = (h.0, narrow_front es₁ es₂ h.1)

-- ---- a run from an opened card
module _ (t : List ℕ) where
  abbrev o : Card
  o = (opened t).card

  abbrev n : ℕ
  n = o.variable_count

  opened_steps : o.steps ≡ 0
  unfolding opened fresh
  opened_steps = refl

  first_consistent : Consistent o (opening o)
  unfolding observe_all
  first_consistent = opened_consistent t []

  few : n ≤ 64
  few = first_consistent.inv.good.fits.narrow

  -- what a read shows of a card of the run, and its row
  module _ (es : List Entry) where
    same_count : (run o es).card.variable_count ≡ n
    same_count = ap (λ (x : Contents). x.variable_count) (opened_consistent t es).text

    there : (v : ℕ) → v < n → is_variable (run o es).card v ≡ true
    there v l = rw (lt-ltb v (run o es).card.variable_count (omega (arith, same_count)), lt-ltb v 64 (omega (arith, few)))

    row_read : (v : ℕ) → v < n → (read (run o es).card v).answer ≡ Answer.Value (get_or (row_of (run o es).card) v 0)
    row_read v l =
        ap (λ (a : Answered). a.answer) (read_value (run o es).card v (there v l))
        ∙ ap (λ (x : ℕ). Answer.Value x) (sym (row_value (run o es).card v (omega (arith, same_count, few)) (omega (arith, same_count))))

    row_word : (v : ℕ) → v < n → get_or (row_of (run o es).card) v 0 ≡ get_or (run o es).history.words v 0
    row_word v l =
        let a = row_read v l in
        let b : (read (run o es).card v).answer ≡ Answer.Value (get_or (run o es).history.words v 0) =
        ap (λ (a : Answered). a.answer) (read_shown o (run o es) (opened_consistent t es) v l) in
        cc

    row_small : FitEntries es → (v : ℕ) → v < n → get_or (row_of (run o es).card) v 0 < 4294967296
    row_small h v l = rw (row_word v l) (words_narrow t es h v)

  module _ (es : List Entry) (h : FitEntries es) where
    steps_are : (run o es).card.steps ≡ accepted_steps o es
    steps_are = counted o (opening o) es first_consistent ∙
        (let z = opened_steps in let e : o.steps + length (rows_of o es) ≡ length (rows_of o es) = omega arith in e)

    first_small : (v : ℕ) → v < n → get_or (row_of o) v 0 < 4294967296
    unfolding observe_all
    first_small = row_small [] tt

    pub run_fits : Fits n (row_of o) (rows_of o es)
    run_fits =
        record {
          few = few;
          first = first_small;
          later = λ k v l q. by v q (part o (opening o) es k l);
          bounded = omega (arith, steps_are, (opened_consistent t es).inv.limited, (opened_consistent t es).inv.capped);
          some = λ e. none o (opening o) es first_consistent (no_process t e);
        }
      where
        by : {row : List ℕ} (v : ℕ) → v < n → Part o (opening o) es row → get_or row v 0 < 4294967296
        by v q p = rw p.is (row_small p.first (narrow_front p.first p.rest (subst FitEntries p.split h)) v q)

    shown_then :
        (es₁ es₂ : List Entry) → es ≡ es₁ ++ es₂ → (v : ℕ) → v < n →
        (read (run o es₁).card v).answer ≡ Answer.Value (get_or (readings (dump_of o es) (accepted_steps o es₁)).values v 0)
    unfolding dump_of
    shown_then es₁ es₂ e v l =
        let s = dump_read run_fits (accepted_steps o es₁) in
        let m : min (length (rows_of o es₁)) (length (rows_of o es)) ≡ length (rows_of o es₁) =
        omega (arith, fewer o o es₁ es₂, ap (λ (x : List Entry). length (rows_of o x)) e) in
        row_read es₁ v l
        ∙ ap (λ (x : ℕ). Answer.Value x)
        (sym
        (s.values v l
        ∙ ap (λ (k : ℕ). get_or (get_or (row_of o ∷ rows_of o es) k []) v 0) m
        ∙ ap (λ (x : List Entry). get_or (get_or (row_of o ∷ rows_of o x) (length (rows_of o es₁)) []) v 0) e
        ∙ ap (λ (x : List ℕ). get_or x v 0) (row_then o (opening o) es₁ es₂)))

    -- a step past the last gets the last values
    past_last : (step : ℕ) → accepted_steps o es ≤ step → (v : ℕ) → v < n →
        get_or (readings (dump_of o es) step).values v 0 ≡ get_or (readings (dump_of o es) (accepted_steps o es)).values v 0
    unfolding dump_of
    past_last step g v l =
        let a : min step (length (rows_of o es)) ≡ length (rows_of o es) = omega arith in
        let b : min (length (rows_of o es)) (length (rows_of o es)) ≡ length (rows_of o es) = omega arith in
        (dump_read run_fits step).values v l
        ∙ ap (λ (k : ℕ). get_or (get_or (row_of o ∷ rows_of o es) k []) v 0) (a ∙ sym b)
        ∙ sym ((dump_read run_fits (accepted_steps o es)).values v l)

    pub reads_back : ReadsBack o es
    unfolding dump_of
    reads_back =
        record {
          taken = λ step. (dump_read run_fits step).verdict;
          count = λ step. (dump_read run_fits step).count;
          last = λ step. (dump_read run_fits step).last;
          shown = shown_then;
          past = λ step g v l. shown_then es [] (sym (append-nil es)) v l ∙ ap (λ (x : ℕ). Answer.Value x) (sym (past_last step g v l));
          steps = steps_are;
        }
