use Rattle.dictionary.proofs.Laws as laws
use Rattle.dictionary.proofs.altered.Goals as goal

pub returns-then-item-seq : goal.returns-then-item-seq
returns-then-item-seq c = laws.altered_by _ c.args.item _ c.if-item-seq.true c.current.ensures

pub returns-else-item-seq : goal.returns-else-item-seq
returns-else-item-seq c = laws.altered_not _ c.args.item c.if-item-seq.false
