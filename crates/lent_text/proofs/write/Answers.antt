use Rattle.std.proofs.Common.{[]}
use Rattle.block.specs.Cards.{card_of}
use Rattle.lent_text.proofs.Contents as contents
use Rattle.lent_text.proofs.write.Goals as goal

pub returns : goal.returns
returns c =
    contents.writes_card (card_of c.args.b.now []) _ _ _ _ c.contents_of.ensures c.write_contents.ensures
