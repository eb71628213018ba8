use Rattle.listing.proofs.pieces.+put_from.Given as goal

abbrev pub decreases-put_from : goal.decreases-put_from
decreases-put_from l = l.first
