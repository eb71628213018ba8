-- A step of process i: what is known before it, and what is to be shown of the card after its access.
use Prim.Native.Nat.{ℕ, ◌+◌, ◌%◌, ◌≤◌, ◌<◌}
use mathlib.Core.Path.{◌≡◌, refl}
use mathlib.Core.List.{List}
use native.Mathlib.Omega.{arith}
use Rattle.construction.specs.Types.{Gate, Announcement, Record, Dictionary, Simulation, Label, Access, Control, Card}
use Rattle.construction.specs.Dictionary.{noted}
use Rattle.construction.specs.Parts.{Local, local_at, with_cells, with_local, contents_of, texts_of, program_of}
use Rattle.construction.specs.Machine.{perform, after}
use Rattle.construction.proofs.Simulating.Dictionaries.{Keyed}
use Rattle.construction.proofs.Invariant.World.{World, WorldInvariant, with_shared, Move, frame_of}
use Rattle.construction.proofs.Invariant.World.Move.{stay}
use Rattle.construction.proofs.Invariant.Locals.{Sizes}
use Rattle.construction.proofs.Invariant.Assertions.{LocAt, Loc}
use lib.ListN.{length}
use mathlib.Core.Bool.{true}
use Rattle.construction.specs.Weight.{weight, card_weight}
use Rattle.construction.specs.Changes.{has_read}

-- a world whose shared cells are those of a card
abbrev pub world_of : Card → World → World
world_of c w = with_shared w c.gate c.announcements c.records

-- a dictionary has at most 32 items, and no variable stands in it twice
pub record WellFormed (d : Dictionary) : Type 0 where
  pub short : d.length ≤ 32
  pub keyed : Keyed (noted d)

-- (document 02, order 11) from the gate's number on, and from each number last read by an operation under way on, the card's choice of a text
-- is the world's; and no text weighs more than the card
pub record KeepsTexts (c : Card) (w : World) : Type 0 where
  pub many : (length c.from ≡ 8) × (length c.earlier ≡ 8) × (length c.later ≡ 8)
  pub now : (k number : ℕ) → c.gate.seq ≤ number → program_of (texts_of c) k number ≡ w.texts k number
  pub read :
      (j : ℕ) → j < c.process_count → has_read (local_at c j).control.place ≡ true → (k number : ℕ) → (local_at c j).gate.seq ≤ number →
      program_of (texts_of c) k number ≡ w.texts k number
  pub light : (k number : ℕ) → weight (w.texts k number) ≤ card_weight (contents_of c)
  pub held : (k number : ℕ) → weight (program_of (texts_of c) k number) ≤ card_weight (contents_of c)
  pub some : 0 < card_weight (contents_of c) → 0 < c.variable_count

-- process i runs the texts of the world under the number that it last read
abbrev pub Chosen : Card → World → ℕ → Type 0
Chosen c w i = (k : ℕ) → program_of (texts_of c) k (local_at c i).gate.seq ≡ w.texts k (local_at c i).gate.seq

pub record Before (c : Card) (w : World) (i : ℕ) : Type 0 where
  pub good : WorldInvariant (frame_of c w) (world_of c w)
  pub sizes : Sizes c
  pub inside : i < c.process_count
  pub small : c.gate.seq ≤ 1000000000000000000
  pub tidy : WellFormed (local_at c i).dictionary
  pub light : (k number : ℕ) → weight (w.texts k number) ≤ card_weight (contents_of c)

-- process i goes on with another control: no cell read; the gate read; an announcement read; and its simulation gone on
abbrev pub at_control : Local → Control → Local
at_control l x = after l x l.gate l.announcement l.simulation l.dictionary l.mask

abbrev pub at_gate : Local → Gate → Control → Local
at_gate l g x = after l x g l.announcement l.simulation l.dictionary l.mask

abbrev pub at_announcement : Local → Announcement → Control → Local
at_announcement l a x = after l x l.gate a l.simulation l.dictionary l.mask

abbrev pub at_simulation : Local → Announcement → Control → Simulation → Dictionary → ℕ → Local
at_simulation l a x s d m = after l x l.gate a s d m

-- the card v comes from c by a move of process i, which then knows what its place asks for
pub record Acted (c : Card) (w : World) (i : ℕ) (v : Card) : Type 0 where
  pub after : World
  pub move : Move (frame_of c w) i w after
  pub cells : world_of v after ≡ after
  pub calls_is : after.calls ≡ w.calls
  pub local : Local
  pub put : v ≡ with_local (with_cells c v.gate v.announcements v.records) i local
  pub counted : local.steps ≡ ((local_at c i).steps + 1) % 18446744073709551616
  pub tidy : WellFormed local.dictionary
  pub loc : Loc (frame_of c w) after i local

-- from what it knows at the place l, process i comes by an access to what its next place asks for
abbrev pub Step : Card → World → ℕ → Label → Access → Type 0
Step c w i l a = LocAt l (frame_of c w) (world_of c w) i (local_at c i) → Acted c (world_of c w) i (perform a c i).card

module _ {c : Card} {w : World} {i : ℕ} (B : Before c w i) where
  pub place_fits : i < 8
  place_fits = omega (arith, B.good.fits.few, B.inside)

  -- a move that leaves the shared cells as the card has them, and process i with what it then keeps
  pub acts :
      {u : World} → Move (frame_of c w) i (world_of c w) u → u.calls ≡ w.calls →
      {g : Gate} {l : List Announcement} {r : List Record} → g ≡ u.gate → l ≡ u.announcements → r ≡ u.records →
      (t : Local) → t.steps ≡ ((local_at c i).steps + 1) % 18446744073709551616 → WellFormed t.dictionary → Loc (frame_of c w) u i t →
      Acted c (world_of c w) i (with_local (with_cells c g l r) i t)
  acts {u} M k g l r t n y q =
      record {
        after = u;
        move = M;
        cells = λ e. with_shared u (g e) (l e) (r e);
        calls_is = k;
        local = t;
        put = refl;
        counted = n;
        tidy = y;
        loc = q;
      }

  -- no shared cell is changed
  pub keeps :
      {g : Gate} {l : List Announcement} {r : List Record} → g ≡ c.gate → l ≡ c.announcements → r ≡ c.records →
      (t : Local) → t.steps ≡ ((local_at c i).steps + 1) % 18446744073709551616 → WellFormed t.dictionary →
      Loc (frame_of c w) (world_of c w) i t → Acted c (world_of c w) i (with_local (with_cells c g l r) i t)
  keeps = acts stay refl

  -- only the control changes
  pub goes_on :
      (x : Control) → Loc (frame_of c w) (world_of c w) i (at_control (local_at c i) x) →
      {g : Gate} {l : List Announcement} {r : List Record} → g ≡ c.gate → l ≡ c.announcements → r ≡ c.records →
      Acted c (world_of c w) i (with_local (with_cells c g l r) i (at_control (local_at c i) x))
  goes_on x q g l r = keeps g l r _ refl B.tidy q
