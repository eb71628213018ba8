-- Lines P19 and P20 on a block, over the values that are taken out of it
use Rattle.std.proofs.Common.{◌≡◌, ℕ, List, ap, ◌∙◌}
use Rattle.construction.specs.declared.accesses.Swap.{Swap}
use Rattle.construction.specs.Machine.{holder_of, finish, access_announcement}
use Rattle.codes.specs.Types.{Flag, Label, AnnouncementAccess, Gate, Announcement, Simulation, Control, AccessedCell}
use Rattle.block.specs.Layout.{announcement_in, control_in, last_gate_in, last_in, simulation_in}
use Rattle.lent_machine.specs.Accesses.{announcement_accessed, announcement_swapped, finish_step}

pub finish_in :
    (flag : Flag) (next : Label) (b : List ℕ) (i : ℕ) {g : Gate} {m : ℕ} {s : Simulation} {cell last : Announcement} {control : Control}
    {x : AccessedCell Announcement} {e : List ℕ} {r : Swap} →
    g ≡ last_gate_in b i → m ≡ holder_of g.holder → s ≡ simulation_in b i → cell ≡ announcement_in b m → last ≡ last_in b i → control ≡ control_in b i →
    x ≡ finish flag next cell g last s.yields control → (e ≡ announcement_swapped b i m x) × (r ≡ x.swap) →
    (e ≡ finish_step flag next b i) × (r ≡ (announcement_accessed (AnnouncementAccess.Finish flag next) b i).swap)
unfolding access_announcement
finish_in flag next b i {g} {m} pg pm ps pc pa pt px pe =
    let holder : m ≡ holder_of (last_gate_in b i).holder = pm ∙ ap (λ (z : Gate). holder_of z.holder) pg in
    let found = pc ∙ ap (λ (z : ℕ). announcement_in b z) holder in
    let access = px ∙ λ j. finish flag next (found j) (pg j) (pa j) (ps j).yields (pt j) in
    (pe.0 ∙ (λ j. announcement_swapped b i (holder j) (access j)), pe.1 ∙ ap (λ (z : AccessedCell Announcement). z.swap) access)
