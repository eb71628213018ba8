use Rattle.std.proofs.Common.{refl}
use Rattle.construction.specs.Dictionary.{empty}
use Rattle.helping.proofs.Lines as lines
use Rattle.helping.proofs.begin_help.Goals as goal

pub returns-then-not-helps : goal.returns-then-not-helps
returns-then-not-helps c = lines.helps_not _ _ _ _ c.args.control _ c.helps.ensures c.if-not-helps.true

pub returns : goal.returns
returns c =
    lines.helps_on _ _ _ _ c.args.control _ c.helps.ensures c.if-not-helps.false _ _
    (rw c.started.ensures at (c.simulate-paused.ensures.told.left empty (rw c.none-numbers.ensures (record {
      keyed = refl;
      valued = refl;
      count
          = refl;
    })))) _ c.after_pause.ensures
