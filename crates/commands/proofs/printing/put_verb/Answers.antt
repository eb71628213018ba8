use Rattle.std.proofs.Common.{arith}
use Rattle.commands.specs.Printing.{verb_of}
use Rattle.commands.specs.CommandFields.{command_fields}
use Rattle.answers.proofs.Texts.{put_as}
use Rattle.commands.proofs.printing.put_verb.Goals as goal

pub returns-in-Call : goal.returns-in-Call
unfolding verb_of command_fields
returns-in-Call c = put_as 6 c.put_word.ensures (omega arith) (rw c.in-Call.is)

pub returns-in-Exit : goal.returns-in-Exit
unfolding verb_of command_fields
returns-in-Exit c = put_as 6 c.put_word-in-Exit.ensures (omega arith) (rw c.in-Exit.is)

pub returns-in-Step : goal.returns-in-Step
unfolding verb_of command_fields
returns-in-Step c = put_as 6 c.put_word-in-Step.ensures (omega arith) (rw c.in-Step.is)

pub returns-in-Trace : goal.returns-in-Trace
unfolding verb_of command_fields
returns-in-Trace c = put_as 6 c.put_word-in-Trace.ensures (omega arith) (rw c.in-Trace.is)

pub returns-in-Read : goal.returns-in-Read
unfolding verb_of command_fields
returns-in-Read c = put_as 6 c.put_word-in-Read.ensures (omega arith) (rw c.in-Read.is)

pub returns-in-Change : goal.returns-in-Change
unfolding verb_of command_fields
returns-in-Change c = put_as 6 c.put_word-in-Change.ensures (omega arith) (rw c.in-Change.is)

pub returns-in-Malformed : goal.returns-in-Malformed
unfolding verb_of command_fields
returns-in-Malformed c = put_as 6 c.put_word-in-Malformed.ensures (omega arith) (rw c.in-Malformed.is)
