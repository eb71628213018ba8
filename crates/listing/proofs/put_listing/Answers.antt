use Rattle.listing.proofs.Answers as laws
use Rattle.listing.proofs.put_listing.Goals as goal

pub returns : goal.returns
returns c = laws.listing_whole c.args.length c.requires.1 c.put_after.ensures
