-- The gate number in an announcement (document 02, order 4), after any list of entries (specs/Numbers).
use Prim.Native.Nat.{ℕ, ◌<◌}
use mathlib.Core.Path.{◌≡◌, refl, sym, ap, subst, ◌∙◌}
use mathlib.Core.Bool.{true, false, cond, true≢false}
use mathlib.Core.List.{List, [], ◌∷◌}
use native.Mathlib.Omega.{arith}
use lib.ListN.{get_or}
use Rattle.construction.specs.Types.{Done, Announcement, Contents}
use Rattle.construction.specs.Cells.{is_done, open_announcement}
use Rattle.construction.specs.Parts.{announcement_at}
use Rattle.construction.specs.Opening.{opened}
use Rattle.construction.specs.History.{Entry, Invocation, Finish, Observation, run}
use Rattle.construction.specs.Linearizability.{Numbered}
use Rattle.construction.specs.Numbers.{caller_of, latest_finish, has_finished, NumbersKept}
use Rattle.construction.proofs.Observing.Histories.{on_equal}
use Rattle.construction.proofs.Observing.Tracking.{result_from}
use Rattle.construction.proofs.Invariant.World.{Result, result_of}
use Rattle.construction.proofs.Invariant.Cards.{good_is, announcements_is}
use Rattle.construction.proofs.Observing.Runs.{opened_consistent}

-- gate numbers count from 1, so 0 stands for none
zero_never :
    (xs : List Invocation) (fs : List Finish) (i : ℕ) → Numbered fs → (latest_finish xs fs i).gate ≡ 0 → has_finished xs fs i ≡ false
unfolding latest_finish has_finished
zero_never xs [] i h e = refl
zero_never xs (f ∷ fs) i h e =
    on_equal (λ b. (cond b f (latest_finish xs fs i)).gate ≡ 0 → cond b true (has_finished xs fs i) ≡ false) (caller_of xs f.operation) i
    (λ _ z. absurd (omega (arith, h.0))) (λ _ z. zero_never xs fs i h.1 z) e

never_zero : (xs : List Invocation) (fs : List Finish) (i : ℕ) → has_finished xs fs i ≡ false → (latest_finish xs fs i).gate ≡ 0
unfolding latest_finish has_finished
never_zero xs [] i h = refl
never_zero xs (f ∷ fs) i h =
    on_equal (λ b. cond b true (has_finished xs fs i) ≡ false → (cond b f (latest_finish xs fs i)).gate ≡ 0) (caller_of xs f.operation) i
    (λ _ z. absurd (true≢false z)) (λ _ z. never_zero xs fs i z) h

module _ (t : List ℕ) (es : List Entry) where
  abbrev m : Observation
  m = run (opened t).card es

  -- what a done announcement says is what the process's latest finished operation came to
  pub result_is :
      (i : ℕ) → i < m.card.process_count → (announcement_at m.card i).flag ≡ Done →
      result_of (announcement_at m.card i) ≡ result_from (latest_finish m.history.operations m.history.order i)
  result_is i l d =
      let O = opened_consistent t es in
      let same : List Announcement → Announcement = λ x. get_or x i open_announcement in
      ap (λ (x : List Announcement). result_of (same x)) (announcements_is O.inv)
      ∙ O.tracks.last i (subst (λ (x : Contents). i < x.process_count) O.text l)
      (ap (λ (x : List Announcement). is_done (same x).flag) (sym (announcements_is O.inv)) ∙ ap is_done d)

  number_is :
      (i : ℕ) → i < m.card.process_count → (announcement_at m.card i).flag ≡ Done →
      (announcement_at m.card i).number ≡ (latest_finish m.history.operations m.history.order i).gate
  number_is i l d = ap (λ (r : Result). r.number) (result_is i l d)

  pub numbers_kept : NumbersKept m
  numbers_kept =
      let O = opened_consistent t es in
      let G = good_is O.inv in
      record {
        below = λ m. (G.announced m).number_below;
        unfinished = λ m. (G.announced m).unnumbered;
        finished = number_is;
        never = λ i l d. (
          λ z. zero_never m.history.operations m.history.order i O.tracks.numbers (sym (number_is i l d) ∙ z),
          λ z. number_is i l d ∙ never_zero m.history.operations m.history.order i z,
        );
      }
