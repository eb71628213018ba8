use Rattle.std.proofs.Common.{le-leb}
use borrow.Author.Tests.{lt-leb}
use Rattle.block.specs.Layout.{is_room}
use Rattle.block.proofs.numbers.is_room.Goals as goal

pub returns-then-b-ge-SIZE : goal.returns-then-b-ge-SIZE
unfolding is_room
returns-then-b-ge-SIZE c = rw (le-leb _ _ c.if-b-ge-SIZE.true)

pub returns-else-b-ge-SIZE : goal.returns-else-b-ge-SIZE
unfolding is_room
returns-else-b-ge-SIZE c = rw (lt-leb _ _ c.if-b-ge-SIZE.false)
