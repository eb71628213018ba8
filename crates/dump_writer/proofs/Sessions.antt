-- The dump of a session reads back (document 02, order 7): the commands of a calls text name entries whose inputs are 32-bit words, so what the crate dump
-- proves of every run holds of every card text and every calls text.
use Prim.Native.Nat.{ℕ}
use mathlib.Core.List.{List, ◌++◌}
use Rattle.construction.specs.Opening.{opened}
use Rattle.construction.specs.History.{Entry, FitEntries}
use Rattle.commands.specs.declared.{Command.Command, Parsed.Parsed}
use Rattle.commands.specs.Commands.{command, commands}
use Rattle.commands.proofs.CommandsLaws.{commands_induction}
use Rattle.commands.proofs.Fitting.{FitsCommand, command_fits}
use Rattle.session.specs.Session.{entries_of, entries}
use Rattle.dump.specs.Runs.{ReadsBack}
use Rattle.dump.proofs.Runs.{reads_back}

-- the entries that the commands name
fit_more : (t : List ℕ) (k : Command) (es : List Entry) → FitsCommand k → FitEntries es → FitEntries (entries_of t k ++ es)
fit_more t (Command.Call i k x) es h r = (h.inputs, r)
fit_more t (Command.Exit i) es h r = (tt, r)
fit_more t (Command.Step i) es h r = (tt, r)
fit_more t (Command.Trace i) es h r = (tt, r)
fit_more t (Command.Read v) es h r = (tt, r)
fit_more t (Command.Change k from count start end) es h r = (tt, r)
fit_more t Command.Malformed es h r = r

pub session_fits : (calls : List ℕ) → FitEntries (entries calls (commands calls 0))
unfolding entries
session_fits t =
    commands_induction t (λ (ms : List Parsed). FitEntries (entries t ms)) tt
    (λ at ms h. fit_more t (command t at).command (entries t ms) (command_fits t at) h) 0

-- of every card text and every calls text: the dump that the writer writes (`dump_text`) is that of this run
pub session_reads_back : (card calls : List ℕ) → ReadsBack (opened card).card (entries calls (commands calls 0))
session_reads_back card calls = reads_back card (entries calls (commands calls 0)) (session_fits calls)
