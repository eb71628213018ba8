use Rattle.std.proofs.Common.{◌-◌, length}
use Rattle.replay.proofs.play_commands.Given as goal

abbrev pub decreases-loop-at : goal.decreases-loop-at
decreases-loop-at g l = length l.calls - l.at
