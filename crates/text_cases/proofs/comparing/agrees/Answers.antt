use Rattle.std.proofs.Common.{arith, refl, sym, eq-eqb, ne_eqb}
use Rattle.text_cases.proofs.Laws as laws
use Rattle.text_cases.specs.Comparing.{agrees_with}
use Rattle.text_cases.proofs.comparing.agrees.Goals as goal

pub loop-k-init : goal.loop-k-init
loop-k-init c = laws.starts _

pub returns-then-buffer-k : goal.returns-then-buffer-k
unfolding agrees_with
returns-then-buffer-k c = sym (laws.one_fails _ _ c.loop-k.k (omega arith) (rw (← c.expected.ensures) (ne_eqb _ _ c.if-buffer-k.true)))

pub loop-k-preserved : goal.loop-k-preserved
loop-k-preserved c =
    laws.goes_on _ _ c.loop-k.invariant (sym (rw (← c.expected.ensures) (eq-eqb _ _ c.if-buffer-k.false))) refl

pub loop-k-2-init : goal.loop-k-2-init
loop-k-2-init c = laws.ends _ _ _ c.loop-k.invariant (omega arith)

-- behind the bytes that were written
pub returns-then-buffer-k-2 : goal.returns-then-buffer-k-2
unfolding agrees_with
returns-then-buffer-k-2 c =
    let behind = laws.behind c.args.text.now c.args.told c.loop-k-2.k (omega arith) in
    sym (laws.one_fails _ _ c.loop-k-2.k (omega arith) (rw behind (ne_eqb _ _ c.if-buffer-k-2.true)))

pub loop-k-2-preserved : goal.loop-k-2-preserved
loop-k-2-preserved c =
    let behind = laws.behind c.args.text.now c.args.told c.loop-k-2.k (omega arith) in
    laws.goes_on _ _ c.loop-k-2.invariant (sym (rw behind (eq-eqb _ _ c.if-buffer-k-2.false))) refl

pub returns : goal.returns
unfolding agrees_with
returns c = laws.ends _ _ _ c.loop-k-2.invariant (omega arith)
