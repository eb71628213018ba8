use Rattle.listing.proofs.Recursion as laws
use Rattle.listing.proofs.pieces.power.Goals as goal

pub pow-requires : goal.pow-requires
pow-requires c = laws.power_fits c.args.base c.args.exponent c.requires.0 c.requires.1
