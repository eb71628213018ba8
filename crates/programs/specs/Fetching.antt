-- One instruction of a program, by the line that stands at its place
use Rattle.std.specs.Prelude.{ℕ, cond, ltb}
use Rattle.construction.specs.declared.{programs.Instruction.Instruction, programs.Line.Line}

-- the instruction at place k of a program of this length, whose line there is given: document 01, 'a sheet also stops past its
-- end', and no sheet has more than 32 instructions
unfoldable pub instruction_at : ℕ → ℕ → Line → Instruction
instruction_at size k line = cond (ltb k size) (cond (ltb k 32) line.instruction Instruction.Stop) Instruction.Stop
