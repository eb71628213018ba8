use Rattle.std.proofs.Common.{arith, refl, ◌+◌, ◌-◌, ◌/◌, ◌%◌}
use Rattle.executions.specs.Listings.{piece_after}
use Rattle.listing.proofs.Recursion as laws
use Rattle.listing.proofs.pieces.+put_from.Goals as goal

pub returns-then-first-eq0 : goal.returns-then-first-eq0
returns-then-first-eq0 t c =
    laws.first_lines c.args.first c.args.left c.args.j c.args.card c.if-first-eq0.true c.put_after.ensures

pub returns-then-j-eq0 : goal.returns-then-j-eq0
returns-then-j-eq0 t c =
    laws.piece_line c.args.first c.args.left c.args.j c.args.card _ _ _ _ (omega arith) c.are_idle.ensures
    c.if-are_idle.true c.if-j-eq0.true c.put_line.ensures

pub returns-then-are_idle : goal.returns-then-are_idle
returns-then-are_idle t c =
    laws.piece_none c.args.first c.args.left c.args.j c.args.card _ _ _ _ (omega arith) c.are_idle.ensures
    c.if-are_idle.true c.if-j-eq0.false (omega arith)

pub nonzero_div-k : goal.nonzero_div-k
nonzero_div-k t c =
    omega (
      arith,
      laws.power_some c.args.card.process_count (c.args.first - 1)
          (laws.some_process c.args.card c.are_idle.ensures c.if-are_idle.false) c.power-block.ensures,
    )

pub returns-then-is_refused : goal.returns-then-is_refused
returns-then-is_refused t c =
    laws.piece_begun c.args.first c.args.left c.args.j c.args.card _ _ _ _ (omega arith) c.are_idle.ensures
    c.if-are_idle.false c.power-block.ensures
    (laws.branch_refused c.args.card (c.args.j / c.power-block.result) c.step-stepped.ensures
    c.is_refused.ensures
    (λ d z w. piece_after (c.args.first - 1) c.args.left (c.args.j % c.power-block.result) d z w) c.args.left
    (c.args.first + c.args.left) _ _ _ _ c.if-is_refused.true (omega arith))

pub nonzero_rem-j : goal.nonzero_rem-j
nonzero_rem-j t c =
    omega (
      arith,
      laws.power_some c.args.card.process_count (c.args.first - 1)
          (laws.some_process c.args.card c.are_idle.ensures c.if-are_idle.false) c.power-block.ensures,
    )

pub put_from-requires : goal.put_from-requires
put_from-requires t c = (
  omega (arith, c.decreases),
  (
    omega (arith, c.requires.0),
    laws.fewer_holds c.args.first c.args.left (omega arith)
        (laws.branch_holds c.args.card (c.args.j / c.power-block.result) c.step-stepped.ensures
        c.is_refused.ensures
        (λ d z w. piece_after (c.args.first - 1) c.args.left (c.args.j % c.power-block.result) d z w)
        c.args.left (c.args.first + c.args.left) _ _ _ _ c.requires.1 (omega arith) c.if-is_refused.false
        c.put_decimal-i.ensures c.put_answer-l.ensures.0 c.put_answer-l.ensures.1 refl),
  ),
)

pub returns : goal.returns
returns t c =
    laws.piece_begun c.args.first c.args.left c.args.j c.args.card _ _ _ _ (omega arith) c.are_idle.ensures
    c.if-are_idle.false c.power-block.ensures
    (laws.branch_accepted c.args.card (c.args.j / c.power-block.result) c.step-stepped.ensures
    c.is_refused.ensures
    (λ d z w. piece_after (c.args.first - 1) c.args.left (c.args.j % c.power-block.result) d z w) c.args.left
    (c.args.first + c.args.left) _ _ _ _ c.requires.1 (omega arith) c.if-is_refused.false
    c.put_decimal-i.ensures c.put_answer-l.ensures.0 c.put_answer-l.ensures.1
    (laws.fewer_lines c.args.first c.args.left c.args.left (omega arith) c.put_from.ensures))
