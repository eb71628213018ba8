-- A command by its fields (document 01, 'The bench program'): `call,process,sheet,i0,i1,i2,i3`, `wish,process`, `step,process`,
-- `look,variable`, `trace,process` (document 02, order 1), `change,sheet,number,lines` (its order 11); 'A misformed command .. prints `line,N,refused,2`'.
use Rattle.std.specs.Prelude.{[], ◌∷◌}
use Rattle.construction.specs.Answers.{Fields, fields, refused_with}
use Rattle.commands.specs.declared.Command.{Command}

unfoldable pub command_fields : Command → Fields
command_fields (Command.Call i k x) = fields "call" (i ∷ k ∷ x.w0 ∷ x.w1 ∷ x.w2 ∷ x.w3 ∷ [])
command_fields (Command.Exit i) = fields "wish" (i ∷ [])
command_fields (Command.Step i) = fields "step" (i ∷ [])
command_fields (Command.Trace i) = fields "trace" (i ∷ [])
command_fields (Command.Read v) = fields "look" (v ∷ [])
command_fields (Command.Change k from count start end) = fields "change" (k ∷ from ∷ count ∷ [])
command_fields Command.Malformed = refused_with 2
