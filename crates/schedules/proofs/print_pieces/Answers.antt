use Rattle.std.proofs.Common.{arith}
use lib.ListN.{length-take}
use Rattle.schedules.proofs.Laws as laws
use Rattle.schedules.proofs.print_pieces.Goals as goal

pub slice_bounds-write_all-end : goal.slice_bounds-write_all-end
slice_bounds-write_all-end g c =
    omega (
      arith,
      c.requires.0,
      c.requires.1,
      c.loop-j.invariant,
      c.put_piece-length.ensures.1,
      laws.piece_fits c.args.left c.requires.0,
      c.put_piece-length.auto.buffer,
    )

pub slice_bounds-write_all-end-in-loop-j : goal.slice_bounds-write_all-end-in-loop-j
slice_bounds-write_all-end-in-loop-j g c =
    simp length-take
    (omega (
      arith,
      c.requires.0,
      c.requires.1,
      c.loop-j.invariant,
      c.put_piece-length.ensures.1,
      laws.piece_fits c.args.left c.requires.0,
      c.put_piece-length.auto.buffer,
    ))
