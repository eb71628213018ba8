-- The texts of numbers, and what putting a text into a buffer leaves there.
use Rattle.std.specs.Prelude.{ℕ, zero, suc, ◌+◌, ◌/◌, ◌%◌, min, cond, List, [], ◌∷◌, ◌++◌, ◌≡◌, length, ltb}
use Rattle.std.proofs.lemmas.List.Edits.{sets}

-- The last f digits of n, or all of them where there are fewer ("The card text": decimal).
unfoldable pub decimals : ℕ → ℕ → List ℕ
decimals zero n = []
decimals (suc f) n =
    let more = decimals f (n / 10) in
    cond (ltb n 10) ((48 + n) ∷ []) (more ++ ((48 + n % 10) ∷ []))

-- A number as document 01 writes it ("The card text"): decimal, without sign or leading zero.
unfoldable pub decimal : ℕ → List ℕ
decimal n = decimals (suc n) n

-- A field with its separator s ("The card text": fields parted by commas, each line ended by byte 10).
abbrev pub field_text : ℕ → ℕ → List ℕ
field_text s n = decimal n ++ (s ∷ [])

-- The last four numbers of a line ("The card text": `card,p,n,s,limit` and `ins,code,a,b,c`).
abbrev pub four_text : ℕ → ℕ → ℕ → ℕ → List ℕ
four_text a b c d = field_text 44 a ++ (field_text 44 b ++ (field_text 44 c ++ field_text 10 d))

-- The largest place that the code can name: it has 64 bits. No buffer has that place.
abbrev pub largest : ℕ
largest = 18446744073709551615

-- The place n bytes after another, at most the largest: where a text of n bytes ends ("Turned back": the writer
-- tells the length).
abbrev pub place_after : ℕ → ℕ → ℕ
place_after at n = min largest (at + n)

-- A text put into the buffer b at a place, which leaves z and tells the place `next`. The bytes that do not fit fall
-- away, and no other byte changes ("Turned back": bytes past a written text remain as they were).
pub record Put (b : List ℕ) (at : ℕ) (text : List ℕ) (next : ℕ) (z : List ℕ) : Type 0 where
  pub place : next ≡ place_after at (length text)
  pub bytes : z ≡ sets b at text
