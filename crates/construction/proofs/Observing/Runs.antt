-- Every list of entries from an opened card on: what the observer keeps is consistent, and what every entry keeps holds.
use Prim.Native.Nat.{ℕ}
use mathlib.Core.Path.{refl, ap}
use mathlib.Core.Bool.{not}
use mathlib.Core.List.{List, [], ◌∷◌}
use native.Mathlib.Omega.{arith}
use lib.ListN.{get_or}
use Rattle.construction.specs.Types.{Control, Card, Contents}
use Rattle.construction.specs.Cells.{open_announcement}
use Rattle.construction.specs.Numbers.{latest_finish}
use Rattle.construction.specs.Instructions.{no_program}
use Rattle.construction.specs.Parts.{idle_control}
use Rattle.construction.specs.Requests.{is_idle}
use Rattle.construction.specs.Opening.{fresh, read_card, opened}
use Rattle.construction.specs.History.{Entry, Observation, opening, observe, observe_all, run, text_at}
use Rattle.construction.proofs.Basics.{true_false, get_or_replicate_same}
use Rattle.construction.proofs.Text.Bounds.{Bounded, opened_bounded}
use Rattle.construction.proofs.Simulating.Sequential.{Short}
use Rattle.construction.proofs.Invariant.World.{result_of}
use Rattle.construction.proofs.Invariant.Cards.{first_world, inv_fresh}
use Rattle.construction.proofs.Observing.Consistency.{Consistent, entry_kept}
use Rattle.construction.specs.Linearizability.{times, has_returned}

-- every list of entries, from the opened card on
all_consistent : (o : Card) (m : Observation) (es : List Entry) → Consistent o m → Consistent o (observe_all o m es)
unfolding observe_all
all_consistent o m [] O = O
all_consistent o m (e ∷ es) O = all_consistent o (observe o m e) es (entry_kept o m O e)

short_code : (x : Contents) → Bounded x → (k : ℕ) → Short x.variable_count (get_or x.programs k no_program)
short_code x B k = record { ends = omega (arith, B.lines k); light = B.weights k; some = B.some k }

fresh_consistent : (x : Contents) → Bounded x → Consistent (fresh x) (opening (fresh x))
unfolding fresh times has_returned latest_finish text_at
fresh_consistent x B =
    record {
      world = first_world x;
      inv = inv_fresh x B.process_count B.variable_count B.limit B.starts B.programs (short_code x B);
      tracks =
          record {
            words = refl;
            count = refl;
            numbers = tt;
            agree = tt;
            once = λ k. omega arith;
            known = λ k h. refl;
            unborn = λ k h. refl;
            single = tt;
            last = λ j l d. ap result_of (get_or_replicate_same 8 j open_announcement);
            own = λ j l b. absurd (true_false _ b (ap (λ (t : Control). not (is_idle t.place)) (get_or_replicate_same 8 j idle_control)));
          };
      text = refl;
      changes = λ k number. refl;
    }

pub opened_consistent : (t : List ℕ) (es : List Entry) → Consistent (opened t).card (run (opened t).card es)
unfolding opened
opened_consistent t es =
    all_consistent (opened t).card (opening (opened t).card) es (fresh_consistent (read_card t).contents (opened_bounded t))

-- what every entry keeps
pub opened_keeps :
    (t : List ℕ) (Q : Observation → Type 0) →
    ((m : Observation) → Consistent (opened t).card m → (e : Entry) → Q m → Q (observe (opened t).card m e)) →
    Q (opening (opened t).card) → (es : List Entry) → Q (run (opened t).card es)
unfolding observe_all
opened_keeps t Q keeps first es = go (opening o) es (opened_consistent t []) first
  where
    o : Card
    o = (opened t).card

    go : (m : Observation) (es : List Entry) → Consistent o m → Q m → Q (observe_all o m es)
    go m [] O q = q
    go m (e ∷ es) O q = go (observe o m e) es (entry_kept o m O e) (keeps m O e q)
