-- Items of a loan, three words each, from item `base` on (`item_at`, `dictionary_at` of block): their numbers, and other values for them.
use Rattle.std.specs.Prelude.{ℕ, zero, suc, ◌+◌, ◌-◌, ◌*◌, List, ◌++◌, get_or, set, replicate}
use Rattle.codes.specs.Parts.{word_at, table}
use Rattle.codes.specs.Codes.{pair, upper}
use Rattle.block.specs.Cards.{item_at}
use Rattle.helping.specs.declared.numbers.Numbers.{Numbers}

-- the first n numbers of an array of 32, and 0 behind them
abbrev pub padded : ℕ → (ℕ → ℕ) → List ℕ
padded n f = table n f ++ replicate (32 - n) 0

-- the keys and the values of the first n items
abbrev pub keys_at : List ℕ → ℕ → ℕ → List ℕ
keys_at l base n = padded n (λ k. (item_at l base k).variable)

abbrev pub values_at : List ℕ → ℕ → ℕ → List ℕ
values_at l base n = padded n (λ k. (item_at l base k).value)

-- both, as helping takes them (document 01: the dictionary D of the helping)
abbrev pub numbers_at : List ℕ → ℕ → ℕ → Numbers
numbers_at l base n = record { keys = keys_at l base n; values = values_at l base n; end = n }

-- item k with another value
abbrev pub put_value : List ℕ → ℕ → ℕ → List ℕ
put_value l k x = set l (k * 3 + 2) (pair x (upper (word_at l (k * 3 + 2))))

-- the first n items with other values
unfoldable pub put_values : List ℕ → ℕ → ℕ → List ℕ → List ℕ
put_values l base zero xs = l
put_values l base (suc n) xs = put_value (put_values l base n xs) (base + n) (get_or xs n 0)
