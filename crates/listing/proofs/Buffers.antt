-- The printed steps in a small buffer: one more put after them, and those before as they were.
use Prim.Native.Nat.{ℕ, ◌+◌, ◌≤◌, ◌<◌}
use mathlib.Core.Path.{◌≡◌, refl, sym, ap, ◌∙◌}
use mathlib.Core.List.{List, [], ◌∷◌, ◌++◌, append_assoc}
use native.Mathlib.Omega.{arith}
use lib.ListN.{length, take, drop, length-take, length-append}
use lib.Seq.{sets-eq, length-sets, take_at, take-take}
use Rattle.grammar.specs.Writing.{largest, Put}
use Rattle.grammar.proofs.Puts.{Room, rest_all, rest_step, rest_last}

pub record Extended (b : List ℕ) (at : ℕ) (text : List ℕ) (next : ℕ) (z : List ℕ) : Type 0 where
  pub place : next ≡ at + length text
  pub whole : take next z ≡ take at b ++ text
  pub kept : take at z ≡ take at b
  pub size : length z ≡ length b

module _ {b : List ℕ} {at : ℕ} {text : List ℕ} {next : ℕ} {z : List ℕ} where
  pub extended : Put b at text next z → next ≤ length b → length b < largest → Extended b at text next z
  extended p fits short =
      let e : next ≡ at + length text = omega (arith, p.place) in
      let n : length (take at b) ≡ at = length-take at b ∙ omega arith in
      let s : z ≡ (take at b ++ text) ++ drop (at + length text) b = p.bytes ∙ sets-eq text b at (omega arith) in
      let m : length (take at b ++ text) ≡ next = length-append (take at b) text ∙ omega arith in
      record {
        place = e;
        whole =
            ap (λ (l : List ℕ). take next l) s
            ∙ take_at (take at b ++ text) (drop (at + length text) b) next m;
        kept =
            ap (λ (l : List ℕ). take at l) (s ∙ append_assoc (take at b) text (drop (at + length text) b))
            ∙ take_at (take at b) (text ++ drop (at + length text) b) at n;
        size = ap length p.bytes ∙ length-sets b at text;
      }

-- what is kept of more is kept of less
pub kept_less : (m n : ℕ) (l z : List ℕ) → m ≤ n → take n z ≡ take n l → take m z ≡ take m l
kept_less m n l z h e = sym (take-take m n z h) ∙ ap (λ (k : List ℕ). take m k) e ∙ take-take m n l h

-- nothing put
pub put_none : (b : List ℕ) (at : ℕ) → at ≤ largest → Put b at [] at b
put_none b at h = record { place = omega arith; bytes = refl }

-- a line
module _ {b : List ℕ} {at i j k : ℕ} {x y z₁ z₂ z₃ : List ℕ} where
  pub put_line : Room b at → Put b at x i z₁ → Put z₁ i y j z₂ → Put z₂ j (10 ∷ []) k z₃ → Put b at (x ++ (y ++ (10 ∷ []))) k z₃
  put_line h p q r = rest_last (rest_step (rest_step (rest_all b at (x ++ (y ++ (10 ∷ []))) h) p) q) r
