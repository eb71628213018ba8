-- What stays within its bounds after any list of entries: numbers within their 64 bits, dictionaries within their 32 items.
use Rattle.std.specs.Prelude.{ℕ, ◌≤◌, ◌<◌, ◌≡◌, List, length, get_or}
use Rattle.construction.specs.Types.{Item, H21, H36, Card}
use Rattle.construction.specs.Weight.{weight, card_weight}
use Rattle.construction.specs.Dictionary.{no_item, noted}
use Rattle.construction.specs.Parts.{contents_of, announcement_at, record_at, texts_of, program_of, local_at}

-- no variable stands at two places
abbrev pub Distinct : List Item → Type 0
Distinct l =
    (j k : ℕ) → j < length l → k < length l → (get_or l j no_item).variable ≡ (get_or l k no_item).variable → j ≡ k

-- 'sequence numbers and step counts have 64 bits'; 'a book of at most 32 noted records', no variable twice
pub record Limited (c : Card) : Type 0 where
  pub steps : c.steps < 18446744073709551616
  pub counts : (i : ℕ) → (local_at c i).steps < 18446744073709551616
  pub numbers : c.gate.seq < 18446744073709551616
  -- the numbers in the other cells never pass the gate's
  pub announced : (i : ℕ) → (announcement_at c i).seq ≤ c.gate.seq
  pub recorded : (v : ℕ) → (record_at c v).seq ≤ c.gate.seq
  pub items : (i : ℕ) → (local_at c i).dictionary.length ≤ 32
  pub distinct : (i : ℕ) → Distinct (noted (local_at c i).dictionary)
  -- no text on the card weighs more than the card, whatever is changed (document 02, order 11)
  pub texts : (k number : ℕ) → weight (program_of (texts_of c) k number) ≤ card_weight (contents_of c)
  -- while helping, it holds at most the weight of the program helped, and has room for what H21 reads
  pub noting :
      (i : ℕ) → i < c.process_count → (local_at c i).control.place ≡ H21 →
      (local_at c i).dictionary.length < weight (program_of (texts_of c) (local_at c i).announcement.program (local_at c i).gate.seq)
  pub writing :
      (i : ℕ) → i < c.process_count → (local_at c i).control.place ≡ H36 →
      (local_at c i).dictionary.length ≤ weight (program_of (texts_of c) (local_at c i).announcement.program (local_at c i).gate.seq)
