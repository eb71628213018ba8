use Rattle.dictionary.proofs.Laws as laws
use Rattle.dictionary.proofs.value_under.Goals as goal

pub returns-then-cell-seq : goal.returns-then-cell-seq
returns-then-cell-seq c = laws.under_lower _ _ _ c.if-cell-seq.true c.current.ensures

pub returns-else-cell-seq : goal.returns-else-cell-seq
returns-else-cell-seq c = laws.under_equal _ _ _ c.if-cell-seq.false c.previous.ensures
