use Rattle.programs.proofs.Laws as laws
use Rattle.programs.proofs.with_word.Goals as goal

pub returns : goal.returns
returns c =
    laws.with_word_lem _ _ _ _ _ _ _ c.choose.ensures c.choose-2.ensures c.choose-3.ensures c.choose-4.ensures
