use Rattle.std.proofs.Common.{◌≡◌, ◌∙◌, arith}
use Rattle.helping.proofs.Laws as laws
use Rattle.helping.proofs.numbers.Numbers.of.Goals as goal

pub returns-clause-keyed : goal.returns-clause-keyed
returns-clause-keyed c =
    let l = c.loop-k in
    let e : c.args.end ≡ l.k = omega arith in
    rw e (l.invariant.keyed ∙ laws.mapped_take _ l.k c.args.dictionary.now.items)

pub returns-clause-valued : goal.returns-clause-valued
returns-clause-valued c =
    let l = c.loop-k in
    let e : c.args.end ≡ l.k = omega arith in
    rw e (l.invariant.valued ∙ laws.mapped_take _ l.k c.args.dictionary.now.items)
