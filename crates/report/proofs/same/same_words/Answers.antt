use Rattle.std.proofs.Common.{◌∙◌}
use Rattle.construction.proofs.Equality.{words_equality}
use Rattle.report.proofs.same.same_words.Goals as goal

pub returns : goal.returns
returns c = c.eq.ensures ∙ words_equality c.args.a c.args.b
