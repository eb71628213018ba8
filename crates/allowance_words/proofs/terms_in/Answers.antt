use Rattle.std.proofs.Common.{[], ◌∷◌}
use Rattle.allowance_words.specs.Words.{terms_in}
use Rattle.allowance_words.proofs.terms_in.Goals as goal

pub returns : goal.returns
unfolding terms_in
returns c = λ i. c.term_at.ensures i ∷ c.term_at-2.ensures i ∷ c.term_at-3.ensures i ∷ c.term_at-4.ensures i ∷ []
