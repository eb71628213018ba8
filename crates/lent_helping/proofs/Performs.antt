-- Any access of a step on a block and a loan is the machine's on the card that stands there
use Prim.Native.Nat.{ℕ, ◌<◌, ◌≤◌}
use mathlib.Core.Path.{◌≡◌, refl, sym, ◌∙◌, ap}
use mathlib.Core.Logic.{◌≢◌}
use mathlib.Core.Bool.{true}
use mathlib.Core.List.{List}
use native.Mathlib.Omega.{arith}
use lib.ListN.{length}
use lib.Seq.{set-get_or, get_or-set_other}
use Rattle.construction.specs.Dictionary.{empty}
use Rattle.construction.specs.Parts.{local_at, idle_control, with_own, with_steps}
use Rattle.construction.specs.Machine.{access_of, perform, advance}
use Rattle.codes.specs.Types.{Access, Card, Dictionary}
use Rattle.block.specs.Layout.{room_in, noted_in, control_in, exit_in}
use Rattle.block.specs.Cards.{dictionary_at, card_of}
use Rattle.block.proofs.Gets.{control_is, exit_is, dictionary_is}
use Rattle.loan.specs.Loans.{has_items}
use Rattle.loan.proofs.Kept.{Only}
use Rattle.lent_machine.specs.Accesses.{next, counted}
use Rattle.lent_machine.proofs.Own.{control_placed_lem, accepted}
use Rattle.lent_machine.proofs.Keeping.{Kept, kept_self}
use Rattle.lent_machine.proofs.Gates.{gate_step_kept, gate_swap_is, gate_step_is}
use Rattle.lent_machine.proofs.Announcements.{announcement_step_kept, announcement_swap_is, announcement_step_is}
use Rattle.lent_helping.specs.Steps.{access_block, access_loan, access_swap}
use Rattle.lent_helping.proofs.Keeps.{only_self, help_step_kept, note_step_kept, note_step_only, write_step_kept}
use Rattle.lent_helping.proofs.Begins.{help_step_is}
use Rattle.lent_helping.proofs.Notes.{note_step_is}
use Rattle.lent_helping.proofs.Writes.{write_swap_is, write_step_is}

-- what it keeps, for every block and every loan
pub access_kept : (a : Access) (b l : List ℕ) (i : ℕ) → Kept b (access_block a b l i)
unfolding access_block
access_kept Access.None b l i = kept_self b
access_kept (Access.Gate a) b l i = gate_step_kept a b i
access_kept (Access.Announcement a) b l i = announcement_step_kept a b i
access_kept Access.Help b l i = help_step_kept b i
access_kept Access.Note b l i = note_step_kept b l i
access_kept Access.Write b l i = write_step_kept b l i

-- 'Entries past p × w remain untouched', and so do those of other processes
pub access_only : (a : Access) (b l : List ℕ) (i : ℕ) → Only b l (access_loan a b l i) i
unfolding access_loan
access_only Access.None b l i = only_self b l i
access_only (Access.Gate a) b l i = only_self b l i
access_only (Access.Announcement a) b l i = only_self b l i
access_only Access.Help b l i = only_self b l i
access_only Access.Note b l i = note_step_only b l i
access_only Access.Write b l i = only_self b l i

-- how many items a process has noted is the length of its dictionary on the card
pub noted_is : (b l : List ℕ) (i : ℕ) → noted_in b i ≡ (local_at (card_of b l) i).dictionary.length
unfolding dictionary_at
noted_is b l i = ap (λ (d : Dictionary). d.length) (dictionary_is b l i)

-- the machine leaves the dictionary of every other process
dictionary_other : (a : Access) (c : Card) (i k : ℕ) → k ≢ i → (local_at (perform a c i).card k).dictionary ≡ (local_at c k).dictionary
unfolding perform
dictionary_other Access.None c i k ne = get_or-set_other c.dictionaries i k _ empty ne
dictionary_other (Access.Gate a) c i k ne = get_or-set_other c.dictionaries i k _ empty ne
dictionary_other (Access.Announcement a) c i k ne = get_or-set_other c.dictionaries i k _ empty ne
dictionary_other Access.Help c i k ne = get_or-set_other c.dictionaries i k _ empty ne
dictionary_other Access.Note c i k ne = get_or-set_other c.dictionaries i k _ empty ne
dictionary_other Access.Write c i k ne = get_or-set_other c.dictionaries i k _ empty ne

module _ (b l : List ℕ) (long : 1456 ≤ length b) (i : ℕ) where
  none_step_is : card_of (counted b i) l ≡ with_steps (perform Access.None (card_of b l) i).card (next (card_of b l).steps)
  unfolding perform
  none_step_is =
      let c = card_of b l in
      let o = local_at c i in
      let controls = set-get_or c.controls i idle_control in
      accepted b l long i c o.control o.gate o.announcement o.simulation o.dictionary o.mask
      ((λ j. with_own c (sym controls j) c.operations c.exits c.counts c.gates_read c.announcements_read c.simulations c.dictionaries
      c.masks)
      ∙ control_placed_lem c i o.control)

  module _ (h : i < 8) (has : has_items b l i ≡ true) where
    -- ANY ACCESS OF AN ACCEPTED STEP: block and loan after it hold what `advance` makes of the card that they held, where a process that is to note has
    -- fewer than w items
    pub access_is :
        (a : Access) → (a ≡ Access.Note → noted_in b i < room_in b) →
        card_of (counted (access_block a b l i) i) (access_loan a b l i) ≡ with_steps (perform a (card_of b l) i).card (next (card_of b l).steps)
    unfolding access_block access_loan
    access_is Access.None room = none_step_is
    access_is (Access.Gate a) room = gate_step_is b l i long a
    access_is (Access.Announcement a) room = announcement_step_is b l i long (omega arith) a
    access_is Access.Help room = help_step_is b l long i
    access_is Access.Note room = note_step_is b l long i h has (room refl)
    access_is Access.Write room = write_step_is b l i long (omega arith) has

    -- its swap is the machine's
    pub access_swap_is : (a : Access) → access_swap a b l i ≡ (perform a (card_of b l) i).swap
    unfolding access_swap perform
    access_swap_is Access.None = refl
    access_swap_is (Access.Gate a) = sym (gate_swap_is b l i a)
    access_swap_is (Access.Announcement a) = sym (announcement_swap_is b l i a)
    access_swap_is Access.Help = refl
    access_swap_is Access.Note = refl
    access_swap_is Access.Write = sym (write_swap_is b l i long (omega arith) has)

    -- by the place and the exit request that stand in the block
    pub advance_is :
        let a = access_of (control_in b i).place (exit_in b i) in
        (a ≡ Access.Note → noted_in b i < room_in b) → card_of (counted (access_block a b l i) i) (access_loan a b l i) ≡ advance (card_of b l) i
    unfolding advance
    advance_is room =
        let c = card_of b l in
        let control = control_is b l i in
        let exit = exit_is b l i in
        access_is (access_of (control_in b i).place (exit_in b i)) room
        ∙ λ j. with_steps (perform (access_of (control j).place (exit j)) c i).card (next c.steps)

    -- how many items every other process has noted
    pub noted_others :
        (a : Access) → (a ≡ Access.Note → noted_in b i < room_in b) → (k : ℕ) → k ≢ i → noted_in (counted (access_block a b l i) i) k ≡ noted_in b k
    noted_others a room k ne =
        let c = counted (access_block a b l i) i in
        let m = access_loan a b l i in
        noted_is c m k ∙ ap (λ (x : Card). (local_at x k).dictionary.length) (access_is a room)
        ∙ ap (λ (d : Dictionary). d.length) (dictionary_other a (card_of b l) i k ne) ∙ sym (noted_is b l k)
