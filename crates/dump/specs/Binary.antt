-- Binary numbers of a dump (document 02, order 7): 'binary without leading zeros (0 itself is `0`)', written, and read at a place.
use Rattle.std.specs.Prelude.{ℕ, zero, suc, ◌+◌, ◌-◌, ◌*◌, ◌/◌, ◌%◌, min, Bool, cond, ◌&&◌, List, [], ◌∷◌, ◌++◌, get_or, drop, eqb, leb, ltb, Option, Some, None}
use Rattle.grammar.specs.declared.Found.{Found}
use Rattle.grammar.specs.Reading.{found}

-- the last f digits of n, or all of them where there are fewer
unfoldable pub binaries : ℕ → ℕ → List ℕ
binaries zero n = []
binaries (suc f) n =
    let more = binaries f (n / 2) in
    cond (ltb n 2) ((48 + n) ∷ []) (more ++ ((48 + n % 2) ∷ []))

unfoldable pub binary : ℕ → List ℕ
binary n = binaries (suc n) n

-- one more than the largest 32-bit number; every larger number counts as this one, so that more than 32 bits are no value
abbrev pub over : ℕ
over = 4294967296

-- the bytes `0` and `1`
abbrev pub is_bit : ℕ → Bool
is_bit x = leb 48 x && leb x 49

-- the number v with the digit x after it
abbrev pub grow_bit : ℕ → ℕ → ℕ
grow_bit v x = min over (v * 2 + (x - 48))

-- the digits that a list begins with, where v is the number so far and `at` the place of the list's first byte
unfoldable pub bits : ℕ → ℕ → List ℕ → Found ℕ
bits at v [] = found v at
bits at v (x ∷ xs) = cond (is_bit x) (bits (suc at) (grow_bit v x) xs) (found v at)

-- a binary number at a place: `0` by itself, or digits that begin with `1`
unfoldable pub bits_at : List ℕ → ℕ → Option (Found ℕ)
bits_at t at =
    cond (eqb (get_or t at 0) 48)
    (Some (found 0 (suc at)))
    (cond (eqb (get_or t at 0) 49) (Some (bits at 0 (drop at t))) None)
