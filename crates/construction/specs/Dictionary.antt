-- The dictionary D of the paper (document 01: 'a book of at most 32 noted records, in order of first touch').
use Rattle.std.specs.Prelude.{ℕ, suc, ◌+◌, Bool, cond, not, ◌&&◌, List, [], ◌∷◌, eqb, ltb, length, get_or, set, take, drop, replicate}
use Rattle.construction.specs.Types.{Record, Item, Dictionary}
use Rattle.construction.specs.Cells.{open_record, current, previous}

abbrev pub no_item : Item
no_item = record { variable = 0; value = 0; cell = open_record 0 }

-- line H1: the empty dictionary
abbrev pub empty : Dictionary
empty = record { length = 0; items = replicate 32 no_item }

-- the items noted, in order of first touch
abbrev pub noted : Dictionary → List Item
noted d = take d.length d.items

-- lines H20 and H26: the place of the item with key v; the number of items if there is none
unfoldable pub position : List Item → ℕ → ℕ
position [] v = 0
position (e ∷ es) v = cond (eqb e.variable v) 0 (suc (position es v))

abbrev pub find : Dictionary → ℕ → ℕ
find d v = position (noted d) v

abbrev pub has : Dictionary → ℕ → Bool
has d v = ltb (find d v) (length (noted d))

-- line H27: the value of the item at a place
abbrev pub value_at : Dictionary → ℕ → ℕ
value_at d k = (get_or d.items k no_item).value

-- line H28: the item at a place with another value
abbrev pub with_value : Item → ℕ → Item
with_value e x = record { variable = e.variable; value = x; cell = e.cell }

unfoldable pub assign : Dictionary → ℕ → ℕ → Dictionary
assign d k x = record { length = d.length; items = set d.items k (with_value (get_or d.items k no_item) x) }

-- lines H23 to H25: a record with lower seq is read at val[toggle], with equal seq at val[1 - toggle]
unfoldable pub value_under : ℕ → Record → ℕ
value_under seq r = cond (ltb r.seq seq) (current r) (previous r)

abbrev pub item_of : ℕ → ℕ → Record → Item
item_of seq v r = record { variable = v; value = value_under seq r; cell = r }

-- lines H24 and H25: one item more; a full dictionary stays
unfoldable pub insert : Dictionary → Item → Dictionary
insert d e = cond (ltb d.length 32) (record { length = suc d.length; items = set d.items d.length e }) d

-- line H32: lower seq and altered value
unfoldable pub altered : ℕ → Item → Bool
altered seq e = ltb e.cell.seq seq && not (eqb (current e.cell) e.value)

-- line H31: how many items stand before the first altered one
unfoldable pub unaltered : ℕ → List Item → ℕ
unaltered seq [] = 0
unaltered seq (e ∷ es) = cond (altered seq e) 0 (suc (unaltered seq es))

-- the place of the first altered item at or after place k; the number of items if there is none
unfoldable pub next_write : ℕ → Dictionary → ℕ → ℕ
next_write seq d k = k + unaltered seq (drop k (noted d))
