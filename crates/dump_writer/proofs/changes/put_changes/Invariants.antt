use Rattle.std.proofs.Common.{◌-◌}
use Rattle.dump.specs.Dump.{changes_at}
use Rattle.dump_writer.proofs.LineLaws as laws
use Rattle.dump_writer.proofs.changes.put_changes.Given as goal

abbrev pub invariant-loop-v : goal.invariant-loop-v
invariant-loop-v l =
    laws.Telling l.initial.buffer l.at l.told (changes_at l.time l.count 0 l.before l.after) l.buffer l.now.at l.now.time
    (changes_at l.time (l.count - l.v) l.v l.before l.after)
