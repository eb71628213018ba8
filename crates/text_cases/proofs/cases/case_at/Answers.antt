use Rattle.std.proofs.Common.{arith, sym, ◌∙◌}
use borrow.Author.Tests.{lt-ltb, le-ltb}
use Rattle.grammar.proofs.Fields.{field_within}
use Rattle.text_cases.specs.Cases.{case_at}
use Rattle.text_cases.proofs.cases.case_at.Goals as goal

pub returns-in_default : goal.returns-in_default
unfolding case_at
returns-in_default c = rw (← c.field_at.ensures, c.in_default.is)

pub overflow_sub-left : goal.overflow_sub-left
overflow_sub-left c = let h = field_within _ _ _ _ _ (sym c.field_at.ensures ∙ c.in-Some.is) in omega arith

pub returns-then-left-value : goal.returns-then-left-value
unfolding case_at
returns-then-left-value c = rw (← c.field_at.ensures, c.in-Some.is, lt-ltb _ _ c.if-left-value.true)

pub returns-else-left-value : goal.returns-else-left-value
unfolding case_at
returns-else-left-value c = rw (← c.field_at.ensures, c.in-Some.is, le-ltb _ _ c.if-left-value.false)
