-- Marsaglia's xorshift, of which a sweep takes its schedule (document 02, order 12): x ^= x << 13; x ^= x >> 7; x ^= x << 17 in 64 bits, and the process is
-- x modulo p.
use Rattle.std.specs.Prelude.{ℕ, zero, suc, ◌*◌, ◌/◌, ◌%◌, ◌^◌, ◌≡◌, cond, List, [], ◌∷◌, eqb, length}
use Rattle.std.specs.Int.Bits.{bit_xor}

-- shifts in 64 bits
abbrev pub left : ℕ → ℕ → ℕ
left x n = x * 2 ^ n % 2 ^ 64

abbrev pub right : ℕ → ℕ → ℕ
right x n = x / 2 ^ n

unfoldable pub next : ℕ → ℕ
next x =
    let a = bit_xor x (left x 13) in
    let b = bit_xor a (right a 7) in
    bit_xor b (left b 17)

-- the number after n draws
unfoldable pub after : ℕ → ℕ → ℕ
after zero x = x
after (suc n) x = after n (next x)

-- x modulo p; a card without processes has none that could step, and 0 stands for it
unfoldable pub remainder : ℕ → ℕ → ℕ
remainder x p = cond (eqb p 0) 0 (x % p)

-- the first n processes, of p, that are drawn after x
unfoldable pub drawn : ℕ → ℕ → ℕ → List ℕ
drawn zero x p = []
drawn (suc n) x p = remainder (next x) p ∷ drawn n (next x) p

-- a buffer b filled with them, and the last number drawn
pub record Draws (b : List ℕ) (x p r : ℕ) (z : List ℕ) : Type 0 where
  pub number : r ≡ after (length b) x
  pub bytes : z ≡ drawn (length b) x p
