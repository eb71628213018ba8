use Rattle.shared_processor.proofs.OpenedCards as laws
use Rattle.shared_processor.proofs.cards.open_card.Goals as goal

pub returns : goal.returns
returns c =
    let a = c.args in
    laws.opens a.text.now a.blocks.now a.m _ _ c.part_of-block.ensures.start c.part_of-block.ensures.end c.open.ensures
