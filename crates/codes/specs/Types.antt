-- The types of the crate construction, for one `use` line a file
pub use Rattle.construction.specs.declared.cells.Gate.{Gate}
pub use Rattle.construction.specs.declared.cells.Flag.{Flag}
pub use Rattle.construction.specs.declared.cells.Flag.TheVariants.{Done, Active, Exit}
pub use Rattle.construction.specs.declared.cells.Words.{Words}
pub use Rattle.construction.specs.declared.cells.Yield.{Yield}
pub use Rattle.construction.specs.declared.cells.Announcement.{Announcement}
pub use Rattle.construction.specs.declared.cells.Record.{Record}
pub use Rattle.construction.specs.declared.programs.Instruction.{Instruction}
pub use Rattle.construction.specs.declared.programs.Encoded.{Encoded}
pub use Rattle.construction.specs.declared.programs.Line.{Line}
pub use Rattle.construction.specs.declared.programs.Program.{Program}
pub use Rattle.construction.specs.declared.simulations.Item.{Item}
pub use Rattle.construction.specs.declared.simulations.Dictionary.{Dictionary}
pub use Rattle.construction.specs.declared.simulations.Simulation.{Simulation}
pub use Rattle.construction.specs.declared.accesses.Label.{Label}
pub use Rattle.construction.specs.declared.accesses.Label.TheVariants.{Idle, P1, P3, P5, P7, P10, C2, C4, P13, P14, P16, H21, H36, P19, P20, P21, P22, F1, F3}
pub use Rattle.construction.specs.declared.accesses.Label.TheVariants.{P6}
pub use Rattle.construction.specs.declared.accesses.GateAccess.{GateAccess}
pub use Rattle.construction.specs.declared.accesses.Control.{Control}
pub use Rattle.construction.specs.declared.accesses.AccessedCell.{AccessedCell}
pub use Rattle.construction.specs.declared.card.Operation.{Operation}
pub use Rattle.construction.specs.declared.card.Card.{Card}
pub use Rattle.construction.specs.declared.answers.Refusal.TheVariants.{TooLong, Malformed, OutOfRange, UnknownCode, NoProcess, NoProgram, Busy, NotBusy}
pub use Rattle.construction.specs.declared.answers.Refusal.TheVariants.{NoPlace, LimitReached, ShortBuffer, OperandOutOfRange, UnusedOperand, TooHeavy}
pub use Rattle.construction.specs.declared.accesses.Access.{Access}
pub use Rattle.construction.specs.declared.accesses.AnnouncementAccess.{AnnouncementAccess}
