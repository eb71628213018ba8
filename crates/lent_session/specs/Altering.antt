-- Loans that are altered between the commands of a session (document 02, order 10), and the words past those that a card takes.
use Rattle.std.specs.Prelude.{ℕ, zero, suc, ◌+◌, min, Bool, true, cond, ◌&&◌, List, [], ◌∷◌, eqb, length, set}
use Rattle.xorshift.specs.Xorshift.{next}

-- n words from word k on become the numbers that follow x, one after the other; and the last of these
unfoldable pub drawn : ℕ → ℕ → ℕ → List ℕ → List ℕ
drawn zero k x l = l
drawn (suc n) k x l = drawn n (k + 1) (next x) (set l k (next x))

unfoldable pub drawn_last : ℕ → ℕ → ℕ
drawn_last zero x = x
drawn_last (suc n) x = drawn_last n (next x)

-- the first words of a loan, as far as it goes; 0 alters nothing
abbrev pub altered_loan : List ℕ → ℕ → ℕ → List ℕ
altered_loan l words x = cond (eqb x 0) l (drawn (min words (length l)) 0 x l)

abbrev pub last_drawn : List ℕ → ℕ → ℕ → ℕ
last_drawn l words x = cond (eqb x 0) x (drawn_last (min words (length l)) x)

-- the word that stands in a loan at first; 'touch nothing past p × w': past the words that the card takes it stays
abbrev pub pattern : ℕ
pattern = 6510615555426900570

unfoldable pub kept : List ℕ → Bool
kept [] = true
kept (w ∷ l) = eqb w pattern && kept l
