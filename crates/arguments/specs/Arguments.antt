-- An argument of a program: a decimal of 64 bits, written as in a card text (document 01: decimal, without sign or leading zero, 0 itself is `0`), and nothing else.
use Rattle.std.specs.Prelude.{ℕ, ◌+◌, ◌-◌, ◌*◌, Bool, cond, ◌&&◌, ◌||◌, List, [], ◌∷◌, eqb, leb, ltb, length, get_or, Option, Some, None}
use Rattle.grammar.specs.Reading.{is_digit}
use Rattle.grammar.specs.Writing.{largest}

-- the number v with the digit x after it; and whether it still has 64 bits
abbrev pub grown : ℕ → ℕ → ℕ
grown v x = v * 10 + (x - 48)

abbrev pub fits : ℕ → ℕ → Bool
fits v x = is_digit x && leb (grown v x) largest

unfoldable pub digits_of : ℕ → List ℕ → Option ℕ
digits_of v [] = Some v
digits_of v (x ∷ xs) = cond (fits v x) (digits_of (grown v x) xs) None

-- no bytes, or a leading zero
abbrev pub begins_wrong : List ℕ → Bool
begins_wrong t = ltb (length t) 1 || (eqb (get_or t 0 0) 48 && ltb 1 (length t))

unfoldable pub argument_of : List ℕ → Option ℕ
argument_of t = cond (begins_wrong t) None (digits_of 0 t)
