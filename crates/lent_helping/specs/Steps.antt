-- Any access of a step (construction's specs/Machine: `perform`) on a block and a loan: the block and the loan after it, and its swap. That the step is counted is
-- apart (`counted` of lent_machine).
use Rattle.std.specs.Prelude.{ℕ, List}
use Rattle.construction.specs.declared.accesses.Swap.{Swap}
use Rattle.construction.specs.Machine.{outcome}
use Rattle.codes.specs.Types.{Access}
use Rattle.lent_machine.specs.Accesses.{gate_accessed, announcement_accessed, gate_step, announcement_step}
use Rattle.lent_helping.specs.Helps.{help_step, note_block, note_loan, written_in, write_step}

unfoldable pub access_block : Access → List ℕ → List ℕ → ℕ → List ℕ
access_block Access.None b l i = b
access_block (Access.Gate a) b l i = gate_step a b i
access_block (Access.Announcement a) b l i = announcement_step a b i
access_block Access.Help b l i = help_step b i
access_block Access.Note b l i = note_block b l i
access_block Access.Write b l i = write_step b l i

unfoldable pub access_loan : Access → List ℕ → List ℕ → ℕ → List ℕ
access_loan Access.None b l i = l
access_loan (Access.Gate a) b l i = l
access_loan (Access.Announcement a) b l i = l
access_loan Access.Help b l i = l
access_loan Access.Note b l i = note_loan b l i
access_loan Access.Write b l i = l

unfoldable pub access_swap : Access → List ℕ → List ℕ → ℕ → Swap
access_swap Access.None b l i = Swap.None
access_swap (Access.Gate a) b l i = (gate_accessed a b i).swap
access_swap (Access.Announcement a) b l i = (announcement_accessed a b i).swap
access_swap Access.Help b l i = Swap.None
access_swap Access.Note b l i = Swap.None
access_swap Access.Write b l i = outcome (written_in b l i).won
