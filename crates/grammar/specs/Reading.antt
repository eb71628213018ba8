-- Bytes, words, decimals and fields at a place of a text.
use Rattle.std.specs.Prelude.{ℕ, suc, ◌+◌, ◌-◌, ◌*◌, min, Bool, true, cond, ◌&&◌, List, [], ◌∷◌, length, get_or, drop, eqb, leb, ltb, Option, Some, None}
use Rattle.std.specs.Option.{option_and_then}
use Rattle.grammar.specs.declared.{Found.Found, Four.Four}

-- What stands at a place, and the place past it ("The card text": one line after another, one field after another).
abbrev pub found : {A : Type 0} → A → ℕ → Found A
found v i = record { value = v; next = i }

-- What follows from a thing that is there: nothing where it is not ("The card text": a text of another form is refused).
abbrev pub with_found : {A B : Type 0} → Option A → (A → Option B) → Option B
with_found o f = option_and_then f o

-- Four fields ("The card text": `card,p,n,s,limit`, `ins,code,a,b,c`), as one thing that stands at a place.
abbrev pub four_of : ℕ → ℕ → ℕ → ℕ → Four
four_of a b c d = record { a = a; b = b; c = c; d = d }

-- One more than the largest number of document 01 ("The card and its edges": a step limit of at most
-- 1,000,000,000,000,000,000). Every larger number counts as this one, so no range lets it through.
abbrev pub most : ℕ
most = 1000000000000000001

-- The bytes `0` to `9` ("The card text": fields are decimal).
abbrev pub is_digit : ℕ → Bool
is_digit x = leb 48 x && leb x 57

-- The number v with the digit x after it ("The card text": decimal), kept at `most` once it is larger.
abbrev pub grow : ℕ → ℕ → ℕ
grow v x = min most (v * 10 + (x - 48))

-- The byte x stands at a place ("The card text": a text is its bytes, and past the last there is none).
abbrev pub has_byte : List ℕ → ℕ → ℕ → Bool
has_byte t at x = ltb at (length t) && eqb (get_or t at 0) x

-- The bytes of a word stand at a place ("The card text": the words that lines begin with).
unfoldable pub has_word : List ℕ → ℕ → List ℕ → Bool
has_word t at [] = true
has_word t at (x ∷ xs) = has_byte t at x && has_word t (suc at) xs

-- The digits that a list begins with ("The card text": decimal), where v is the number so far and `at` the place of
-- the list's first byte; the place told is past the last digit.
unfoldable pub digits : ℕ → ℕ → List ℕ → Found ℕ
digits at v [] = found v at
digits at v (x ∷ xs) = cond (is_digit x) (digits (suc at) (grow v x) xs) (found v at)

-- A decimal at a place ("The card text": without sign or leading zero, 0 itself is `0`): `0` by itself, or digits
-- that begin with another. So `07` is the number 0 and one byte more, which is no separator.
unfoldable pub number : List ℕ → ℕ → Option (Found ℕ)
number t at =
    cond (eqb (get_or t at 0) 48)
    (Some (found 0 (suc at)))
    (cond (is_digit (get_or t at 0)) (Some (digits at 0 (drop at t))) None)

-- A number that the byte s ends ("The card text": fields parted by commas); the place told is past that byte.
abbrev pub ended : List ℕ → ℕ → Found ℕ → Option (Found ℕ)
ended t s n = cond (has_byte t n.next s) (Some (found n.value (suc n.next))) None

-- A field with its separator s, a comma or the line's end ("The card text": fields parted by commas, each line ended
-- by byte 10).
unfoldable pub field : List ℕ → ℕ → ℕ → Option (Found ℕ)
field t s at = with_found (number t at) (ended t s)

-- The last four numbers of a line, parted by commas and ended by byte 10 ("The card text": `card,p,n,s,limit` and
-- `ins,code,a,b,c`; "The bench program": the inputs of `call`).
unfoldable pub four : List ℕ → ℕ → Option (Found Four)
four t at =
    with_found (field t 44 at) (λ a.
    with_found (field t 44 a.next) (λ b.
    with_found (field t 44 b.next) (λ c.
    with_found (field t 10 c.next) (λ d.
    Some (found (four_of a.value b.value c.value d.value) d.next)))))
