-- From the end of a simulation to the writes (lines H31 and H32): the next place of a helper.
use Prim.Native.Nat.{ℕ, ◌<◌}
use mathlib.Core.Path.{◌≡◌, sym, ap, ◌∙◌}
use mathlib.Core.Bool.{true, false, not}
use mathlib.Core.Logic.{inl, inr, ⊎_elim}
use native.Mathlib.Omega.{arith}
use native.Mathlib.Decide.{dec_lt}
use lib.ListN.{length, get_or}
use lib.Dec.{ltb, eqb}
use borrow.Author.Tests.{ltb-true, ltb-false, eqb-true, not-false}
use Rattle.construction.specs.Types.{Announcement, Item, Dictionary, Simulation, Pause, Ended, Faulted, Lacks, Control}
use Rattle.construction.specs.Cells.{current}
use Rattle.construction.specs.Dictionary.{no_item, noted, position, value_under, altered, next_write}
use Rattle.construction.specs.Sequential.{Ending}
use Rattle.construction.specs.Machine.{write_from, after_pause}
use Rattle.construction.proofs.Basics.{on_test, true_or_false, and_false}
use Rattle.construction.proofs.Simulating.Dictionaries.{has_in, value_in, all_at, value_none, has_position, at_position, next_before, next_at}
use Rattle.construction.proofs.Simulating.Simulations.{PausedAt}
use Rattle.construction.proofs.Invariant.World.{ending_in, World, record_in, round_in, word_at, Frame}
use Rattle.construction.proofs.Invariant.Acting.{at_simulation}
use Rattle.construction.proofs.Invariant.Assertions.{Helper, Plan, ItemNoted, NoWriteDue, Ready, program_for, FinishedAt, Loc}
use Rattle.construction.specs.Parts.{Local}

-- an item that is not altered needs no write
unaltered_fine : (F : Frame) (w : World) (s : ℕ) (e : Item) → ItemNoted F w s e → altered s e ≡ false → NoWriteDue w s e
unfolding altered value_under
unaltered_fine F w s e q h = ⊎_elim late same (and_false (ltb e.cell.seq s) _ h)
  where
    late : ltb e.cell.seq s ≡ false → NoWriteDue w s e
    late f = record { fine = inl (⊎_elim (λ z. rw z (ltb-false _ _ f)) (λ z. z) q.kept) }

    same : (ltb e.cell.seq s ≡ true) × (not (eqb (current e.cell) e.value) ≡ false) → NoWriteDue w s e
    same (t, f) =
        let z : current e.cell ≡ word_at (round_in w s).words e.variable = rw t at q.base in
        record { fine = inr (sym (eqb-true _ _ (not-false _ f)) ∙ z) }

module _ (F : Frame) (w : World) (i : ℕ) (t : Local) (a : Announcement) (helper : Helper F w i t.operation t.gate)
    (plan : Plan F w t.gate a) where
  abbrev s : ℕ
  s = t.gate.seq

  -- no item needs a write: the operation can be finished
  ready :
      (l : Simulation) (d : Dictionary) → FinishedAt F w s a l d →
      ((q : ℕ) → q < length (noted d) → NoWriteDue w s (get_or (noted d) q no_item)) → Ready F w s l.yields
  ready l d f fine = record {
    yields = inr f.yields;
    all = inr (λ v vl h.
        f.agree v vl ∙ ⊎_elim (known v h) (λ z. value_none (noted d) v _ z) (true_or_false (has_in (noted d) v)));
  }
    where
      known :
          (v : ℕ) → (record_in w v).seq < s → has_in (noted d) v ≡ true →
          value_in (noted d) v (word_at (round_in w s).words v) ≡ word_at (round_in w s).words v
      known v h z =
          let k : position (noted d) v < length (noted d) = ltb-true _ _ (has_position (noted d) v ∙ z) in
          let y = at_position (noted d) v (word_at (round_in w s).words v) z in
          let e : (get_or (noted d) (position (noted d) v) no_item).variable ≡ v = y.0 in
          y.1
          ∙ ⊎_elim (λ b. absurd (omega (arith, h, rw e at b))) (λ b. rw e at b) (fine (position (noted d) v) k).fine

  -- the next write from item k on, where those before k need none
  pub write_loc :
      (l : Simulation) (d : Dictionary) → FinishedAt F w s a l d → (k : ℕ) →
      ((q : ℕ) → q < k → NoWriteDue w s (get_or (noted d) q no_item)) →
      Loc F w i (at_simulation t a (write_from s d k) l d 0)
  write_loc l d fin k fine =
      on_test (λ (x : Control). Loc F w i (at_simulation t a x l d 0)) (ltb (next_write s d k) (length (noted d)))
      (λ e. (
        helper,
        plan,
        fin,
        record {
          inside = ltb-true _ _ e;
          due = next_at s d k (ltb-true _ _ e);
          before = λ q h. passed q h (omega (arith, ltb-true (next_write s d k) (length (noted d)) e)) (dec_lt q k);
        },
      ))
      (λ e. (
        helper,
        plan,
        ready l d fin (λ q h. passed q (omega (arith, ltb-false (next_write s d k) (length (noted d)) e)) h (dec_lt q k)),
      ))
    where
      passed :
          (q : ℕ) → q < next_write s d k → q < length (noted d) → Dec (q < k) → NoWriteDue w s (get_or (noted d) q no_item)
      passed q h b (yes z) = fine q z
      passed q h b (no z) =
          unaltered_fine F w s (get_or (noted d) q no_item) (all_at (ItemNoted F w s) (noted d) q fin.booked b)
          (next_before s d k q (omega arith) h)

  pub pause_loc :
      (p : Pause) (l : Simulation) (d : Dictionary) →
      PausedAt F.variable_count (program_for F s a) a.words (round_in w s).words (ending_in F w s)
      (ItemNoted F w s) p l d →
      Loc F w i (at_simulation t a (after_pause s d p) l d 0)
  pause_loc Ended l d q = write_loc l d q 0 (λ k h. absurd (omega arith))
  pause_loc Faulted l d q = (
    helper,
    plan,
    record {
      yields = inr (ap (λ (r : Ending). r.yields) q.ends);
      all = inr (λ v vl h. ap (λ (r : Ending). word_at r.words v) (sym q.ends));
    },
  )
  pause_loc (Lacks v) l d q = (helper, plan, q)
