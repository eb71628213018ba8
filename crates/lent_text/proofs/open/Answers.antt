use Rattle.lent_text.proofs.Loops as loops
use Rattle.lent_text.proofs.open.Goals as goal

pub returns : goal.returns
returns c =
    loops.opens c.args.text.now c.args.b.now _ _ _ c.opening_of-verdict.ensures.contents c.opening_of-verdict.ensures.verdict c.put_contents.ensures
