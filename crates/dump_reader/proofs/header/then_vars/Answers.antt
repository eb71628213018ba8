use Rattle.std.proofs.Common.{ℕ, ap, ◌≡◌, ◌∙◌, arith}
use Rattle.dump_reader.proofs.Laws as laws
use Rattle.std.proofs.lemmas.Bool.{not_from_false, not_from_true}
use Rattle.dump_reader.proofs.header.then_vars.Goals as goal

pub returns-in_default : goal.returns-in_default
returns-in_default c = laws.vars_refused c.args.text.now c.args.header c.in_default.is

pub returns-then-not-has_var : goal.returns-then-not-has_var
returns-then-not-has_var c =
    let a = c.args in
    let l = c.loop-count in
    laws.vars_done a.text.now a.header _ c.in-Ok.is c.requires.0
    (l.invariant.0 ∙ laws.vars_stop a.text.now l.count l.at l.line c.loop-count-test.true c.has_var.ensures
    (not_from_false _ c.if-not-has_var.true))

pub overflow_add-at : goal.overflow_add-at
overflow_add-at c =
    let l = c.loop-count in
    let h = laws.vars_fit c.args.text.now l.count l.at l.line c.loop-count-test.true c.has_var.ensures
    (not_from_true _ c.if-not-has_var.false) in
    omega arith

pub overflow_add-at-in-loop-count : goal.overflow_add-at-in-loop-count
overflow_add-at-in-loop-count c =
    let l = c.loop-count in
    let h = laws.vars_fit c.args.text.now l.count l.at l.line c.loop-count-test.true c.has_var.ensures
    (not_from_true _ c.if-not-has_var.false) in
    omega (arith, c.digits.ensures)

pub loop-count-preserved : goal.loop-count-preserved
loop-count-preserved c =
    let l = c.loop-count in (
      l.invariant.0 ∙ laws.vars_again c.args.text.now l.count l.at l.line c.loop-count-test.true c.has_var.ensures
          c.digits.ensures (not_from_true _ c.if-not-has_var.false),
      omega arith,
    )

pub returns : goal.returns
returns c =
    let a = c.args in
    let l = c.loop-count in
    let last : l.count ≡ 64 = omega arith in
    laws.vars_done a.text.now a.header _ c.in-Ok.is c.requires.0
    (l.invariant.0 ∙ laws.vars_end a.text.now l.count _ c.loop-count-test.false
    ∙ ap (λ (n : ℕ). laws.header_at n l.at l.line) last)
