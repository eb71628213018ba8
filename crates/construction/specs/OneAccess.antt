-- 'A step of process i makes one shared access' (document 01, 'One step'): the cell that a step touches, and that it touches no other.
use Rattle.std.specs.Prelude.{ℕ, ◌+◌, ◌%◌, ◌≡◌, false, ◌≢◌, List, length, get_or}
use Rattle.construction.specs.Types.{Cell, Card}
use Rattle.construction.specs.Cells.{open_announcement, open_record}
use Rattle.construction.specs.Instructions.{started}
use Rattle.construction.specs.Dictionary.{empty}
use Rattle.construction.specs.Parts.{idle_control, no_operation, no_gate, contents_of, texts_of, local_at}
use Rattle.construction.specs.Machine.{access_in, cell_of, advance, swap_of}
use Rattle.construction.specs.Requests.{answer_of}

-- the cell that the next step of process i touches
abbrev pub touched_cell : Card → ℕ → Cell
touched_cell c i = cell_of (access_in (local_at c i)) (contents_of c) i (local_at c i)

-- two arrays have the same length and the same element at place i
pub record Same {A : Type 0} (l m : List A) (i : ℕ) (none : A) : Type 0 where
  pub lengths : length l ≡ length m
  pub elements : get_or l i none ≡ get_or m i none

-- two cards hold the same in a cell; ..
abbrev pub SameIn : Cell → Card → Card → Type 0
SameIn Cell.None c d = Unit
SameIn Cell.Gate c d = c.gate ≡ d.gate
SameIn (Cell.Announcement m) c d = Same c.announcements d.announcements m open_announcement
SameIn (Cell.Record v) c d = Same c.records d.records v (open_record 0)

-- .. have the same local state of process i; ..
abbrev pub SameLocal : ℕ → Card → Card → Type 0
SameLocal i c d =
    Same c.controls d.controls i idle_control
    × Same c.operations d.operations i no_operation
    × Same c.exits d.exits i false
    × Same c.counts d.counts i 0
    × Same c.gates_read d.gates_read i no_gate
    × Same c.announcements_read d.announcements_read i open_announcement
    × Same c.simulations d.simulations i started
    × Same c.dictionaries d.dictionaries i empty
    × Same c.masks d.masks i 0

-- .. were opened with the same text, and hold the same texts of their programs
abbrev pub SameText : Card → Card → Type 0
SameText c d = (contents_of c ≡ contents_of d) × (texts_of c ≡ texts_of d)

-- an accepted step of process i makes one shared access
pub record OneAccess (c : Card) (i : ℕ) : Type 0 where
  -- the text and its process alone decide which cell it touches
  pub chosen : (d : Card) → SameText c d → SameLocal i c d → touched_cell c i ≡ touched_cell d i
  -- the text, its process and that cell alone decide what it leaves in its process and in that cell, whether a swap won, and its answer
  pub depends :
      (d : Card) → SameText c d → SameLocal i c d → SameIn (touched_cell c i) c d →
      SameLocal i (advance c i) (advance d i)
      × SameIn (touched_cell c i) (advance c i) (advance d i)
      × (swap_of c i ≡ swap_of d i)
      × (answer_of (local_at (advance c i) i) ≡ answer_of (local_at (advance d i) i))
  -- every other cell, every other process and the text stay
  pub kept : (x : Cell) → x ≢ touched_cell c i → SameIn x c (advance c i)
  pub others : (j : ℕ) → j ≢ i → SameLocal j c (advance c i)
  pub text : SameText c (advance c i)
  -- what is left of a card, its count of accepted steps, goes up by one, in 64 bits
  pub steps : (advance c i).steps ≡ (c.steps + 1) % 18446744073709551616
