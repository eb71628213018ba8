use Rattle.machine_terms.proofs.Laws as laws
use Rattle.machine_terms.proofs.read_terms.Goals as goal
use Rattle.machine_terms.proofs.read_terms.Goals.{then-value-lt1-via-then-value-lt1, then-value-lt1-via-else-value-lt1+then-value-gt4}

pub returns-then-text-gt-LIMIT : goal.returns-then-text-gt-LIMIT
returns-then-text-gt-LIMIT c = laws.too_long_lem _ c.if-text-gt-LIMIT.true c.refused_with.ensures

pub returns-in_default : goal.returns-in_default
returns-in_default c =
    laws.no_head _ c.if-text-gt-LIMIT.false c.line_at.ensures c.in_default.is c.refused_with-in_default.ensures

pub returns-then-value-lt1 : goal.returns-then-value-lt1
returns-then-value-lt1 c =
    elim c.then-value-lt1.branch [
      | then-value-lt1-via-then-value-lt1 w ↦
          laws.few _ c.if-text-gt-LIMIT.false c.line_at.ensures c.in-Some.is w.if-value-lt1.true
          c.refused_with-then-value-lt1.ensures
      | then-value-lt1-via-else-value-lt1+then-value-gt4 w ↦
          laws.many _ c.if-text-gt-LIMIT.false c.line_at.ensures c.in-Some.is w.if-value-lt1.false w.if-value-gt4.true
          c.refused_with-then-value-lt1.ensures
    ]

pub returns-in-Ok : goal.returns-in-Ok
returns-in-Ok c =
    laws.judged_last _ c.if-text-gt-LIMIT.false c.line_at.ensures c.in-Some.is c.if-value-lt1.false
    c.if-value-gt4.false c.read_quotas.ensures c.in-Ok.is c.open.ensures c.judged.ensures

pub returns-in-Err : goal.returns-in-Err
returns-in-Err c =
    laws.wrong_line_lem _ c.if-text-gt-LIMIT.false c.line_at.ensures c.in-Some.is c.if-value-lt1.false
    c.if-value-gt4.false c.read_quotas.ensures c.in-Err.is c.refused_with-in-Err.ensures
