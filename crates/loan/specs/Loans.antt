-- The dictionaries of the processes in a loan (document 02, order 10: 'Let the caller lend p × w noted records in all'): those of process i are the items
-- from item w i on. A loan that ends before the last of these holds none of them.
use Rattle.std.specs.Prelude.{ℕ, ◌+◌, ◌*◌, ◌<◌, ◌≤◌, Bool, cond, ◌&&◌, List, leb, ltb, length}
use Rattle.codes.specs.Types.{Item, Dictionary}
use Rattle.codes.specs.Parts.{stores}
use Rattle.codes.specs.Codes.{item_words}
use Rattle.block.specs.Layout.{process_count_in, room_in, noted_in, put_noted}
use Rattle.block.specs.Cards.{dictionary_at}
use Rattle.loan.specs.declared.items.Span.{Span}

-- how many words the loan of a card takes: p dictionaries of w items, three words an item
abbrev pub loan_words : List ℕ → ℕ
loan_words b = 3 * process_count_in b * room_in b

-- whether the loan has the w items of process i
unfoldable pub has_items : List ℕ → List ℕ → ℕ → Bool
has_items b l i = leb ((room_in b * i + room_in b) * 3) (length l)

-- the items that process i has noted: the first of them, and how many these are
abbrev pub span_in : List ℕ → List ℕ → ℕ → Span
span_in b l i = cond (has_items b l i) (record { base = room_in b * i; end = noted_in b i }) (record { base = 0; end = 0 })

-- a span of few items inside a loan
pub record Fits (l : List ℕ) (s : Span) : Type 0 where
  pub base : s.base < 10000
  pub end : s.end ≤ 32
  pub long : (s.base + s.end) * 3 ≤ length l

-- the dictionary of process i; an empty one where the loan is too short
abbrev pub held_dictionary : List ℕ → List ℕ → ℕ → Dictionary
held_dictionary b l i = dictionary_at l (span_in b l i).base (span_in b l i).end

-- lines H24 and H25: one item more for process i, where fewer than w stand
unfoldable pub is_inserted : List ℕ → List ℕ → ℕ → Bool
is_inserted b l i = has_items b l i && ltb (noted_in b i) (room_in b)

unfoldable pub insert_block : List ℕ → List ℕ → ℕ → List ℕ
insert_block b l i = cond (is_inserted b l i) (put_noted b i (noted_in b i + 1)) b

unfoldable pub insert_loan : List ℕ → List ℕ → ℕ → Item → List ℕ
insert_loan b l i e = cond (is_inserted b l i) (stores l ((room_in b * i + noted_in b i) * 3) (item_words e)) l
