use Rattle.programs.proofs.Laws as programs
use Rattle.helping.proofs.simulation.ProgramText.fetch.Goals as goal

pub returns-clause-instruction : goal.returns-clause-instruction
returns-clause-instruction c =
    let full = c.type_inv.self.1.0.1.0.1 in
    rw (c.instruction_at.ensures, programs.fetched c.args.self.now _ full)

pub returns-clause-next : goal.returns-clause-next
returns-clause-next c =
    let full = c.type_inv.self.1.0.1.0.1 in
    rw (c.remaining_after.ensures, c.instruction_at.ensures, programs.fetched c.args.self.now _ full)
