use borrow.Author.Tests.{le-ltb}
use Rattle.embedding.proofs.Shared.{opens}
use Rattle.embedding.proofs.machines.lace_machines_open.Goals as goal

pub returns : goal.returns
returns c =
    let a = c.args in
    opens a.allowance.now a.count a.steps a.terms.now (le-ltb _ _ c.if-allowance-lt14.false)
    (le-ltb _ _ c.if-terms-count.false) (rw c.terms_in.ensures at c.open.ensures) c.keep_opened.ensures
