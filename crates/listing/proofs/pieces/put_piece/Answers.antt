use Rattle.std.proofs.Common.{arith}
use Rattle.listing.proofs.Answers as laws
use Rattle.listing.proofs.pieces.put_piece.Goals as goal
use Rattle.listing.proofs.pieces.put_piece.Goals.{then-card-gt3-via-then-card-gt3, then-card-gt3-via-else-card-gt3+then-left-gt16, then-card-gt3-via-else-card-gt3+else-left-gt16+then-first-left}

pub returns-then-card-gt3 : goal.returns-then-card-gt3
returns-then-card-gt3 c =
    let a = c.args in
    elim c.then-card-gt3.branch [
      | then-card-gt3-via-then-card-gt3 w ↦ laws.piece_many a.first a.left a.j a.card w.if-card-gt3.true
      | then-card-gt3-via-else-card-gt3+then-left-gt16 w ↦
          laws.piece_long a.first a.left a.j a.card w.if-card-gt3.false (omega arith)
      | then-card-gt3-via-else-card-gt3+else-left-gt16+then-first-left w ↦
          laws.piece_long a.first a.left a.j a.card w.if-card-gt3.false (omega arith)
    ]

pub returns : goal.returns
returns c =
    laws.piece_whole c.args.first c.args.left c.args.j c.args.card c.if-card-gt3.false (omega arith) c.put_from.ensures
