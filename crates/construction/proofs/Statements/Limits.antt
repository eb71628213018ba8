-- After any list of entries numbers stay within their 64 bits and dictionaries within their items, no variable twice (specs/Limits).
use Prim.Native.Nat.{ℕ, zero, suc, ◌<◌, ◌≤◌}
use mathlib.Core.Path.{◌≡◌, refl, sym, ap, subst}
use mathlib.Core.Bool.{false}
use mathlib.Core.List.{List, [], ◌∷◌}
use native.Mathlib.Omega.{arith}
use lib.ListN.{length, get_or}
use Rattle.construction.specs.Types.{Item, Label, Program}
use Rattle.construction.specs.Dictionary.{no_item, noted}
use Rattle.construction.specs.Parts.{local_at}
use Rattle.construction.specs.Opening.{opened}
use Rattle.construction.specs.Limits.{Distinct, Limited}
use Rattle.construction.specs.History.{Entry, run}
use Rattle.construction.proofs.Basics.{true_false}
use Rattle.construction.proofs.Simulating.Dictionaries.{has_in, Keyed, has_at}
use Rattle.construction.proofs.Invariant.WorldKept.{rounds_few}
use Rattle.construction.proofs.Invariant.Assertions.{LocAt, known}
use Rattle.construction.proofs.Invariant.Acting.{world_of}
use Rattle.construction.proofs.Invariant.Cards.{good_is}
use Rattle.construction.proofs.Observing.Runs.{opened_consistent}
use Rattle.construction.proofs.Invariant.World.{frame_of}
use Rattle.construction.specs.Weight.{weight}
use Rattle.construction.specs.Changes.{has_read}

-- a variable that a list lacks stands at none of its places
lacks_at :
    (b : List Item) (v : ℕ) → has_in b v ≡ false → (k : ℕ) → k < length b → (get_or b k no_item).variable ≡ v → ⊥
lacks_at b v h k l e = true_false _ (rw e at (has_at b k l)) h

distinct : (b : List Item) → Keyed b → Distinct b
distinct [] q j k l m e = absurd (omega arith)
distinct (x ∷ b) q zero zero l m e = refl
distinct (x ∷ b) q zero (suc k) l m e = absurd (lacks_at b x.variable q.0 k (omega arith) (sym e))
distinct (x ∷ b) q (suc j) zero l m e = absurd (lacks_at b x.variable q.0 j (omega arith) e)
distinct (x ∷ b) q (suc j) (suc k) l m e = ap suc (distinct b q.1 j k (omega arith) (omega arith) e)

pub limits : (t : List ℕ) (es : List Entry) → Limited (run (opened t).card es).card
limits t es =
    let c = (run (opened t).card es).card in
    let O = opened_consistent t es in
    let I = O.inv in
    let G = good_is I in
    record {
      steps = omega (arith, I.limited, I.capped);
      counts = λ i. omega (arith, I.counts i, I.limited, I.capped);
      numbers = omega (arith, I.numbered, I.limited, I.capped);
      announced = λ m. (G.announced m).below;
      recorded = λ v. omega (arith, G.recorded.below v, rounds_few c.gate.holder (world_of c O.world) G.phase);
      items = λ i. (I.tidy i).short;
      distinct = λ i. distinct (noted (local_at c i).dictionary) (I.tidy i).keyed;
      texts = I.texts.held;
      noting = λ i l e. subst (λ (p : Program). (local_at c i).dictionary.length < weight p)
          (sym (I.texts.read i l (ap (λ (p : Label). has_read p) e) _ _ (omega arith)))
          (subst (λ (p : Label). LocAt p (frame_of c O.world) O.world i (known (local_at c i))) e (I.locs i l)).2.fewer;
      writing = λ i l e. subst (λ (p : Program). (local_at c i).dictionary.length ≤ weight p)
          (sym (I.texts.read i l (ap (λ (p : Label). has_read p) e) _ _ (omega arith)))
          (subst (λ (p : Label). LocAt p (frame_of c O.world) O.world i (known (local_at c i))) e (I.locs i l)).2.room.few;
    }
