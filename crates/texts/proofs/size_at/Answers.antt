use Rattle.std.proofs.Common.{refl, arith}
use Rattle.texts.proofs.Lines as lines
use Rattle.block.proofs.Rooms as rooms
use Rattle.texts.proofs.size_at.Goals as goal

pub bounds-b-base : goal.bounds-b-base
bounds-b-base c = let h = rooms.inside _ _ _ c.is_room.ensures c.if-is_room.true in omega (arith, h.0, h.1)

pub returns-then-is_room : goal.returns-then-is_room
returns-then-is_room c = lines.size_in _ _ _ _ c.is_room.ensures c.if-is_room.true c.byte.ensures

pub returns : goal.returns
returns c = lines.size_none _ _ _ _ c.is_room.ensures c.if-is_room.false refl
