-- Whether a part is there, and what is then taken out and put back: one law for each of both cases
use Prim.Native.Nat.{ℕ, ◌+◌, ◌*◌, ◌<◌, ◌≤◌, min}
use mathlib.Core.Path.{◌≡◌, refl, sym, ◌∙◌, ap}
use mathlib.Core.Logic.{◌⊎◌, inl, inr}
use mathlib.Core.Bool.{Bool, true, false, cond, ◌&&◌}
use mathlib.Core.List.{List}
use native.Mathlib.Omega.{arith}
use native.Mathlib.Nat.{mul_comm}
use lib.Dec.{leb, ltb}
use lib.ListN.{length, set}
use borrow.Author.Tests.{leb-true, ltb-true, ltb-false, le-leb, lt-ltb}
use Rattle.codes.specs.Parts.{word_at, part, stores}
use Rattle.codes.specs.Codes.{number_of, number_words}
use Rattle.codes.proofs.Blocks as blocks
use Rattle.block.specs.Layout.{is_room, row_at, put_row, number_at, put_number}

both : (s t : Bool) → s && t ≡ true → (s ≡ true) × (t ≡ true)
both true t e = (refl, e)
both false t e = absurd (let z : ◌≡◌ {A = Bool} false true = e in clash z)
  where
    clash : ◌≡◌ {A = Bool} false true → ⊥
    clash z = let k : ◌≡◌ {A = ℕ} 0 1 = cc in omega arith

pub room_here : (b : List ℕ) (i n : ℕ) → is_room b i n ≡ true → (1456 ≤ length b) × (i < n)
unfolding is_room
room_here b i n e = let h = both (leb 1456 (length b)) (ltb i n) e in (leb-true 1456 (length b) h.0, ltb-true i n h.1)

pub room_true : (b : List ℕ) (i n : ℕ) → 1456 ≤ length b → i < n → is_room b i n ≡ true
unfolding is_room
room_true b i n h p = rw (le-leb 1456 (length b) h, lt-ltb i n p)

module _ (b : List ℕ) (i n : ℕ) {t : Bool} (e : t ≡ is_room b i n) where
  pub inside : t ≡ true → (1456 ≤ length b) × (i < n)
  inside p = room_here b i n (sym e ∙ p)

  -- the place of part i, as far as a number of a machine goes: past it is past the end
  module _ (base size step at : ℕ) (long : length b ≤ 18446744073709551615) (s : step ≡ min (i * size) 18446744073709551615)
      (a : at ≡ min (base + step) 18446744073709551615) where
    place_or_past : (at ≡ base + size * i) ⊎ ((length b ≤ base + size * i) × (length b ≤ at))
    place_or_past = go (ltb (base + size * i) 18446744073709551615) refl
      where
        go : (z : Bool) → ltb (base + size * i) 18446744073709551615 ≡ z → (at ≡ base + size * i) ⊎ ((length b ≤ base + size * i) × (length b ≤ at))
        go true p = inl (let q = ltb-true (base + size * i) 18446744073709551615 p in omega (arith, q, s, a, mul_comm i size))
        go false p = inr (let q = ltb-false (base + size * i) 18446744073709551615 p in (omega (arith, q, long), omega (arith, q, s, a, long, mul_comm i size)))

    pub read_in : {A : Type 0} (decode : List ℕ → A) (none x : A) → t ≡ true → x ≡ decode (part b at size) → x ≡ row_at b base size n decode none i
    unfolding row_at
    read_in decode none x p h = rw (sym e ∙ p) (h ∙ ap decode (blocks.part_at b (base + size * i) at place_or_past size))

    pub stored_in : (words c : List ℕ) → t ≡ true → c ≡ stores b at words → c ≡ put_row b base size n i words
    unfolding put_row
    stored_in words c p h = rw (sym e ∙ p) (h ∙ blocks.stores_at b (base + size * i) at place_or_past words)

  module _ {A : Type 0} (base size : ℕ) (decode : List ℕ → A) (none x : A) where
    pub row_none : t ≡ false → x ≡ none → x ≡ row_at b base size n decode none i
    unfolding row_at
    row_none p h = rw (sym e ∙ p) h

  module _ (base size : ℕ) (words c : List ℕ) where
    pub put_in : t ≡ true → c ≡ stores b (base + size * i) words → c ≡ put_row b base size n i words
    unfolding put_row
    put_in p h = rw (sym e ∙ p) h

    pub put_none : t ≡ false → c ≡ b → c ≡ put_row b base size n i words
    unfolding put_row
    put_none p h = rw (sym e ∙ p) h

-- a number is a part of one word
module _ (b : List ℕ) (base n i : ℕ) where
  place_one : base + 1 * i ≡ base + i
  place_one = omega arith

  pub number_row : row_at b base 1 n number_of 0 i ≡ number_at b base n i
  unfolding row_at number_at
  number_row = ap (λ q. cond (is_room b i n) (word_at b q) 0) place_one

  pub put_number_row : (x : ℕ) → put_row b base 1 n i (number_words x) ≡ put_number b base n i x
  unfolding put_row put_number
  put_number_row x = ap (λ q. cond (is_room b i n) (set b q x) b) place_one
