-- A word as a set of variables (specs/Marks): one bit more is that bit and no other, and one more to count.
use Prim.Native.Nat.{ℕ, zero, suc, ◌+◌, ◌*◌, ◌/◌, ◌%◌, ◌^◌, ◌<◌, max}
use mathlib.Core.Path.{◌≡◌, refl, sym, ap, ◌∙◌}
use mathlib.Core.Bool.{true, false}
use mathlib.Core.Logic.{◌≢◌, ⊎_elim}
use mathlib.Core.List.{List, [], ◌∷◌, ◌++◌}
use native.Mathlib.Omega.{arith}
use native.Mathlib.Nat.{mod-lt}
use native.Mathlib.Decide.{ℕ_discrete}
use lib.Arith.{digits_div, digits_mod}
use lib.Bits.{bit_or, or_step, or_zero_r, shifted_half, shifted_even}
use lib.Count.{ones, ones_step}
use lib.ListN.{length}
use lib.Pow.{shr-shr}
use borrow.Author.Tests.{lt-ltb, eqb-true}
use Rattle.construction.specs.Types.{Words, Program, Item, Dictionary, Simulation}
use Rattle.construction.specs.Effects.{Store}
use Rattle.construction.specs.Dictionary.{noted, find, has, assign, insert}
use Rattle.construction.specs.Helping.{with_notes, simulate}
use Rattle.construction.specs.Marks.{with_bit, bit, Marks}
use Rattle.construction.proofs.Basics.{true_or_false, true_false, eqb_refl}
use Rattle.construction.proofs.Simulating.Effects.{EachStore}
use Rattle.construction.proofs.Simulating.Simulations.{Noted, kept_simulated}
use Rattle.construction.proofs.Simulating.Dictionaries.{has_in, has_put, has_snoc, has_more, has_position, noted_assign, noted_insert, insert_length}

two : 0 < 2
two = omega arith

max_small : (a b : ℕ) → a < 2 → b < 2 → max a b < 2
max_small a b h l = omega arith

-- the lowest digit of two words together, and the rest of them
or_odd : (a b : ℕ) → bit_or a b % 2 ≡ max (a % 2) (b % 2)
or_odd a b = ap (λ (x : ℕ). x % 2) (or_step a b) ∙ digits_mod (bit_or (a / 2) (b / 2)) (max_small _ _ (mod-lt a two) (mod-lt b two))

or_half : (a b : ℕ) → bit_or a b / 2 ≡ bit_or (a / 2) (b / 2)
or_half a b = ap (λ (x : ℕ). x / 2) (or_step a b) ∙ digits_div (bit_or (a / 2) (b / 2)) (max_small _ _ (mod-lt a two) (mod-lt b two))

power_half : (v : ℕ) → 2 ^ suc v / 2 ≡ 2 ^ v
power_half v = ap (λ (x : ℕ). x / 2) (sym (ones_times (2 ^ suc v))) ∙ (shifted_half 1 v ∙ ones_times (2 ^ v))
  where
    ones_times : (x : ℕ) → 1 * x ≡ x
    ones_times x = omega arith

power_even : (v : ℕ) → 2 ^ suc v % 2 ≡ 0
power_even v = ap (λ (x : ℕ). x % 2) (once (2 ^ suc v)) ∙ shifted_even 1 v
  where
    once : (x : ℕ) → x ≡ 1 * x
    once x = omega arith

-- a bit is the lowest, or one of the rest
bit_suc : (x v : ℕ) → bit x (suc v) ≡ bit (x / 2) v
bit_suc x v = let z : suc v ≡ 1 + v = omega arith in rw z (ap (λ (y : ℕ). y % 2) (sym (shr-shr x 1 v)))

bit_zero : (x : ℕ) → bit x 0 ≡ x % 2
bit_zero x = omega arith

-- a variable put into a set: it is in it, ..
pub mark_here : (v x : ℕ) → bit (bit_or x (2 ^ v)) v ≡ 1
mark_here zero x = bit_zero (bit_or x 1) ∙ (or_odd x 1 ∙ (let h = mod-lt x two in omega arith))
mark_here (suc v) x =
    bit_suc (bit_or x (2 ^ suc v)) v
    ∙ (ap (λ (y : ℕ). bit y v) (or_half x (2 ^ suc v) ∙ ap (bit_or (x / 2)) (power_half v)) ∙ mark_here v (x / 2))

-- .. any other is in it if it was before, ..
pub mark_other : (v u x : ℕ) → u ≢ v → bit (bit_or x (2 ^ v)) u ≡ bit x u
mark_other zero zero x ne = absurd (ne refl)
mark_other zero (suc u) x ne =
    bit_suc (bit_or x 1) u ∙ (ap (λ (y : ℕ). bit y u) (or_half x 1 ∙ or_zero_r (x / 2)) ∙ sym (bit_suc x u))
mark_other (suc v) zero x ne =
    bit_zero (bit_or x (2 ^ suc v))
    ∙ (or_odd x (2 ^ suc v) ∙ (ap (max (x % 2)) (power_even v) ∙ (max_none (x % 2) ∙ sym (bit_zero x))))
  where
    max_none : (a : ℕ) → max a 0 ≡ a
    max_none a = omega arith
mark_other (suc v) (suc u) x ne =
    bit_suc (bit_or x (2 ^ suc v)) u
    ∙ (ap (λ (y : ℕ). bit y u) (or_half x (2 ^ suc v) ∙ ap (bit_or (x / 2)) (power_half v))
    ∙ (mark_other v u (x / 2) (λ e. ne (ap suc e)) ∙ sym (bit_suc x u)))

-- .. and one that was not in it counts one more
pub mark_count : (v x : ℕ) → bit x v ≡ 0 → ones (bit_or x (2 ^ v)) ≡ suc (ones x)
mark_count zero x h =
    ones_step (bit_or x 1)
    ∙ rw (or_odd x 1, or_half x 1, or_zero_r (x / 2)) (omega (arith, ones_step x, sym (bit_zero x) ∙ h))
mark_count (suc v) x h =
    ones_step (bit_or x (2 ^ suc v))
    ∙ (rw (or_odd x (2 ^ suc v), or_half x (2 ^ suc v), power_half v, power_even v, mark_count v (x / 2) (sym (bit_suc x v) ∙ h))
    (omega (arith, ones_step x)))

-- the empty set
pub no_bits : (v : ℕ) → bit 0 v ≡ 0
no_bits zero = refl
no_bits (suc v) = bit_suc 0 v ∙ no_bits v

-- the set of the variables that a dictionary notes, by its list of items
module _ (word : ℕ) (d : Dictionary) (M : Marks word d) where
  in_set : (u : ℕ) → has_in (noted d) u ≡ true → bit word u ≡ 1
  in_set u h = M.noted u (has_position (noted d) u ∙ h)

  not_in_set : (u : ℕ) → has_in (noted d) u ≡ false → bit word u ≡ 0
  not_in_set u h = M.absent u (has_position (noted d) u ∙ h)

  -- lines H24 and H25: one variable more, which was not noted
  pub marks_insert :
      (e : Item) → e.variable < 64 → has_in (noted d) e.variable ≡ false → d.length < 32 → length d.items ≡ 32 →
      Marks (with_bit word e.variable) (insert d e)
  unfolding with_bit
  marks_insert e small new spare room =
      rw (lt-ltb e.variable 64 small)
      (record {
        noted = λ u h. by_place u (λ z. rw z (mark_here v word)) (λ ne. mark_other v u word ne ∙ old u ne (sym (has_position _ u) ∙ h));
        absent = λ u h.
            let z : has_in (noted (insert d e)) u ≡ false = sym (has_position _ u) ∙ h in
            by_place u (λ (q : u ≡ v). absurd (true_false _ (rw q (here)) z))
            (λ ne. mark_other v u word ne ∙ not_in_set u
            (⊎_elim (λ (t : has_in (noted d) u ≡ true). absurd (true_false _ (later u t) z)) (λ f. f) (true_or_false (has_in (noted d) u))));
        count = mark_count v word (not_in_set v new) ∙ (ap suc M.count ∙ sym (insert_length d e spare));
      })
    where
      v : ℕ
      v = e.variable

      list : noted (insert d e) ≡ noted d ++ (e ∷ [])
      list = noted_insert d e spare room

      here : has_in (noted (insert d e)) v ≡ true
      here = rw list (has_snoc (noted d) e v new ∙ eqb_refl v)

      later : (u : ℕ) → has_in (noted d) u ≡ true → has_in (noted (insert d e)) u ≡ true
      later u h = rw list (has_more (noted d) e u h)

      -- what is noted now and is not v was noted before
      old : (u : ℕ) → u ≢ v → has_in (noted (insert d e)) u ≡ true → bit word u ≡ 1
      old u ne h =
          in_set u
          (⊎_elim (λ t. t)
          (λ (f : has_in (noted d) u ≡ false). absurd (ne (sym (eqb-true v u (sym (has_snoc (noted d) e u f) ∙ (rw list at h))))))
          (true_or_false (has_in (noted d) u)))

      by_place : {A : Type 0} (u : ℕ) → (u ≡ v → A) → (u ≢ v → A) → A
      by_place {A = A} u f g = go (ℕ_discrete u v)
        where
          go : Dec (u ≡ v) → A
          go (yes q) = f q
          go (no q) = g q

-- a simulation alters values, and neither the variables noted nor how many there are
abbrev SameKeys : Dictionary → Dictionary → Type 0
SameKeys d b = ((u : ℕ) → has b u ≡ has d u) × (b.length ≡ d.length)

assign_keys : (d : Dictionary) (v x : ℕ) → has d v ≡ true → SameKeys d (assign d (find d v) x)
unfolding assign
assign_keys d v x h = (
  λ u. has_position _ u ∙ (ap (λ (b : List Item). has_in b u) (noted_assign d v x h) ∙ (has_put (noted d) v x u ∙ sym (has_position (noted d) u))),
  refl,
)

pub stores_map : (P Q : ℕ → Type 0) (l : List Store) → ((v : ℕ) → P v → Q v) → EachStore P l → EachStore Q l
stores_map P Q [] f q = tt
stores_map P Q (x ∷ l) f q = (f x.variable q.0, stores_map P Q l f q.1)

notes_keys : (d : Dictionary) (l : List Store) → EachStore (Noted (noted d)) l → SameKeys d (with_notes d l)
notes_keys d [] q = (λ _. refl, refl)
notes_keys d (x ∷ l) q =
    let h : has d x.variable ≡ true = has_position (noted d) x.variable ∙ q.0 in
    let z = assign_keys d x.variable x.value h in
    let b : Dictionary = assign d (find d x.variable) x.value in
    let y = notes_keys b l
    (stores_map (Noted (noted d)) (Noted (noted b)) l (λ v e. sym (has_position (noted b) v) ∙ (z.0 v ∙ (has_position (noted d) v ∙ e))) q.1) in
    (λ u. y.0 u ∙ z.0 u, y.1 ∙ z.1)

module _ (n : ℕ) (program : Program) (inputs : Words) where
  pub marks_simulated :
      (word : ℕ) (s : Simulation) (d : Dictionary) → Marks word d → Marks word (simulate n program inputs s d).dictionary
  marks_simulated word s d M =
      let z =
      kept_simulated n program inputs (λ _ x. SameKeys d x) (λ _ _ h. h)
      (λ _ x _ l stores _ h. let y = notes_keys x l stores in (λ u. y.0 u ∙ h.0 u, y.1 ∙ h.1)) s d (λ _. refl, refl) in
      record {
        noted = λ v h. M.noted v (sym (z.0 v) ∙ h);
        absent = λ v h. M.absent v (sym (z.0 v) ∙ h);
        count = M.count ∙ sym z.1;
      }
