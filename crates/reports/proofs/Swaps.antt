-- The swap of an access by what decides it is that of the access on the card
use Prim.Native.Nat.{ℕ}
use mathlib.Core.Path.{◌≡◌, refl}
use Rattle.construction.specs.declared.{accesses.Access.Access, card.Card.Card}
use Rattle.construction.specs.Parts.{contents_of, announcement_at, record_at, local_at}
use Rattle.construction.specs.Machine.{cell_of, writing, perform}
use Rattle.reports.specs.Swaps.{announcement_in, record_in, swap_by}

pub swap_is :
    (c : Card) (i : ℕ) (a : Access) → let l = local_at c i in
    let x = cell_of a (contents_of c) i l in
    (perform a c i).swap
    ≡ swap_by a i (announcement_in x) c.gate (announcement_at c (announcement_in x)) (record_at c (record_in x)) l.gate l.announcement l.operation
    l.simulation.yields l.control (writing l.gate.seq l.control l.dictionary).item
unfolding perform
swap_is c i Access.None = refl
swap_is c i (Access.Gate a) = refl
swap_is c i (Access.Announcement a) = refl
swap_is c i Access.Help = refl
swap_is c i Access.Note = refl
swap_is c i Access.Write = refl
