use Rattle.std.proofs.Common.{arith}
use Rattle.texts.proofs.Lines as lines
use Rattle.block.proofs.Rooms as rooms
use Rattle.texts.proofs.fetch_at.Goals as goal
use Rattle.texts.proofs.fetch_at.Goals.{else-counter-byte-via-then-counter-byte+else-counter-lt32, else-counter-byte-via-else-counter-byte}

pub bounds-b-at : goal.bounds-b-at
bounds-b-at c =
    omega (
      arith,
      (rooms.inside _ _ _ c.is_room.ensures c.if-is_room.true).0,
      (rooms.inside _ _ _
          c.is_room.ensures c.if-is_room.true).1,
    )

pub bounds-b-at-then-counter-lt32 : goal.bounds-b-at-then-counter-lt32
bounds-b-at-then-counter-lt32 c =
    omega (
      arith,
      (rooms.inside _ _ _ c.is_room.ensures c.if-is_room.true).0,
      (rooms.inside _ _ _
          c.is_room.ensures c.if-is_room.true).1,
    )

pub returns-then-counter-lt32 : goal.returns-then-counter-lt32
returns-then-counter-lt32 c =
    lines.fetch_in _ _ _ _ c.is_room.ensures _ c.if-is_room.true
    (rw (c.byte.ensures) at (c.if-counter-byte.true)) (c.if-counter-lt32.true) (c.instruction_from.ensures)

pub returns-else-counter-byte : goal.returns-else-counter-byte
returns-else-counter-byte c =
    let room = c.is_room.ensures in
    elim c.else-counter-byte.branch [
      | else-counter-byte-via-then-counter-byte+else-counter-lt32 w ↦ lines.fetch_past_lines _ _ _ _ room c.if-is_room.true
          (rw c.byte.ensures at w.if-counter-byte.true) w.if-counter-lt32.false
      | else-counter-byte-via-else-counter-byte w ↦ lines.fetch_past _ _ _ _ room c.if-is_room.true (rw c.byte.ensures at w.if-counter-byte.false)
    ]

pub returns-else-is_room : goal.returns-else-is_room
returns-else-is_room c = lines.fetch_none _ _ _ _ c.is_room.ensures c.if-is_room.false
