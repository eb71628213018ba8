-- The accesses of the gate and of announcements (construction's specs/Machine) on a block: what the access needs is taken out of the block, and what it
-- changes is put back. A read leaves its cell as it is; a swap stores its cell only where it won.
use Rattle.std.specs.Prelude.{ℕ, ◌+◌, ◌%◌, List}
use Rattle.construction.specs.declared.accesses.Swap.{Swap}
use Rattle.construction.specs.Machine.{first_choice, holder_of, read_holder, read_last, nominate, release, access_gate, whose, announce, withdraw, read_flag, finish}
use Rattle.construction.specs.Machine.{access_announcement}
use Rattle.codes.specs.Types.{Gate, Announcement, Flag, Label, GateAccess, AccessedCell, AnnouncementAccess, C4, P13}
use Rattle.block.specs.Layout.{process_count_in, steps_in, put_steps, gate_in, put_gate, announcement_in, put_announcement, control_in, put_control, operation_in, count_in}
use Rattle.block.specs.Layout.{put_count, last_gate_in, put_last_gate, last_in, put_last, simulation_in}

-- the access of the gate by process i on what is taken out of a block; ..
abbrev pub gate_accessed : GateAccess → List ℕ → ℕ → AccessedCell Gate
gate_accessed a b i = access_gate a i (gate_in b) (last_gate_in b i) (control_in b i)

-- .. whose announcement an access is of, and that access
abbrev pub whose_in : AnnouncementAccess → List ℕ → ℕ → ℕ
whose_in a b i = whose a (process_count_in b) i (last_gate_in b i)

abbrev pub announcement_accessed : AnnouncementAccess → List ℕ → ℕ → AccessedCell Announcement
announcement_accessed a b i =
    let m = whose_in a b i in
    access_announcement a m (announcement_in b m) (operation_in b i) (last_gate_in b i) (last_in b i) (simulation_in b i).yields (control_in b i)

-- one of two blocks, by whether a swap won
abbrev pub if_won : Swap → List ℕ → List ℕ → List ℕ
if_won Swap.None won b = b
if_won Swap.Lost won b = b
if_won Swap.Won won b = won

-- the gate read, and swapped, by process i
abbrev pub gate_read : List ℕ → ℕ → AccessedCell Gate → List ℕ
gate_read b i x = put_control (put_last_gate b i x.read) i x.control

abbrev pub gate_swapped : List ℕ → ℕ → AccessedCell Gate → List ℕ
gate_swapped b i x = put_control (if_won x.swap (put_gate b x.cell) b) i x.control

unfoldable pub gate_step : GateAccess → List ℕ → ℕ → List ℕ
gate_step (GateAccess.Read held free) b i = gate_read b i (read_holder (gate_in b) (control_in b i) held free)
gate_step GateAccess.ReadLast b i = gate_read b i (read_last (gate_in b) (control_in b i) i)
gate_step GateAccess.Nominate b i = gate_swapped b i (nominate (gate_in b) (last_gate_in b i) (control_in b i))
gate_step (GateAccess.Release next) b i = gate_swapped b i (release (gate_in b) (last_gate_in b i) (control_in b i) next)

-- the announcement of process m read, and swapped, by process i
abbrev pub announcement_read : List ℕ → ℕ → AccessedCell Announcement → List ℕ
announcement_read b i x = put_control (put_last b i x.read) i x.control

abbrev pub announcement_swapped : List ℕ → ℕ → ℕ → AccessedCell Announcement → List ℕ
announcement_swapped b i m x = put_control (if_won x.swap (put_announcement b m x.cell) b) i x.control

-- lines P2 and P3
abbrev pub announce_step : List ℕ → ℕ → List ℕ
announce_step b i =
    let x = announce (operation_in b i) (last_gate_in b i) (control_in b i) in
    put_control (put_last (put_announcement b i x.cell) i x.read) i x.control

-- line P6
abbrev pub withdraw_step : List ℕ → ℕ → List ℕ
withdraw_step b i = announcement_swapped b i i (withdraw (announcement_in b i) (operation_in b i) (last_in b i) (control_in b i))

-- lines P19 and P20, of the gate's holder
abbrev pub finish_step : Flag → Label → List ℕ → ℕ → List ℕ
finish_step flag next b i =
    let m = holder_of (last_gate_in b i).holder in
    announcement_swapped b i m (finish flag next (announcement_in b m) (last_gate_in b i) (last_in b i) (simulation_in b i).yields (control_in b i))

-- lines P7, C2, C4 and P22
abbrev pub flag_step : List ℕ → ℕ → ℕ → Label → Label → Label → List ℕ
flag_step b i m done active exit = announcement_read b i (read_flag (announcement_in b m) m done active exit)

unfoldable pub announcement_step : AnnouncementAccess → List ℕ → ℕ → List ℕ
announcement_step AnnouncementAccess.Announce b i = announce_step b i
announcement_step AnnouncementAccess.Withdraw b i = withdraw_step b i
announcement_step (AnnouncementAccess.ReadOwn done active exit) b i = flag_step b i i done active exit
-- of the process whose turn it is (line C1)
announcement_step AnnouncementAccess.ReadFirst b i = flag_step b i (first_choice (last_gate_in b i).seq (process_count_in b)) C4 P13 C4
announcement_step (AnnouncementAccess.Finish flag next) b i = finish_step flag next b i

-- an accepted step is counted: of the card, and of its process's operation
abbrev pub next : ℕ → ℕ
next k = (k + 1) % 18446744073709551616

abbrev pub counted : List ℕ → ℕ → List ℕ
counted b i = put_count (put_steps b (next (steps_in b))) i (next (count_in b i))
