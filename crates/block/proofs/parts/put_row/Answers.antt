use Rattle.std.proofs.Common.{arith, refl}
use Rattle.block.proofs.Rooms as rooms
use Rattle.block.proofs.parts.put_row.Goals as goal

pub returns-then-is_room : goal.returns-then-is_room
returns-then-is_room g c =
    rooms.stored_in _ _ _ c.is_room.ensures _ _ _ _ (omega arith) (rw c.SIZE.ensures at c.saturating_mul.ensures) c.saturating_add.ensures
    _ _ c.if-is_room.true c.store.ensures

pub returns-else-is_room : goal.returns-else-is_room
returns-else-is_room g c = rooms.put_none _ _ _ c.is_room.ensures _ _ _ _ c.if-is_room.false refl
