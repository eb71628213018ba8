use Rattle.std.proofs.Common.{◌≡◌, ◌∙◌, min, arith}
use Rattle.helping.specs.Numbers.{Numbered, Runs}
use Rattle.helping.proofs.Laws as laws
use Rattle.helping.proofs.Lines as lines
use Rattle.dictionary.proofs.Rooms as rooms
use Rattle.helping.proofs.note.Goals as goal
use Rattle.helping.proofs.note.Goals.{After-of-numbers, After-simulate-paused}

-- the dictionary that the item was inserted into, and the numbers that stand in it
numbered : (c : After-of-numbers) → let r = c.of-numbers.result in Numbered r.keys r.values c.noted-end.result c.insert-d.result
numbered c =
    let after = c.insert-d in
    record {
      keyed = c.of-numbers.ensures.keyed;
      valued = c.of-numbers.ensures.valued;
      count = c.noted-end.ensures ∙ rooms.count after.result _ after.type_inv;
    }

-- the program that ran on them
ran :
    (c : After-simulate-paused) → let r = c.of-numbers.result in let a = c.args in Runs a.n a.program a.inputs a.simulation r.keys c.noted-end.result
    r.values c.simulate-paused.new.numbers.values c.simulate-paused.result
ran c =
    let all : min c.of-numbers.result.end 32 ≡ c.noted-end.result = omega arith in
    rw all at c.simulate-paused.ensures.told

pub returns-then-number-cell : goal.returns-then-number-cell
returns-then-number-cell c = lines.passed_by _ _ _ _ _ _ _ _ _ c.if-number-cell.true

pub loop-k-init : goal.loop-k-init
loop-k-init c =
    let read = numbered (goal.at.loop-k-init c).After-of-numbers in
    (laws.no_values_lem _, omega (arith, c.simulate-paused.ensures.told.long, laws.enough_values read))

pub loop-k-preserved : goal.loop-k-preserved
loop-k-preserved c =
    let loop = c.loop-k in
    let read = numbered (goal.at.loop-k-preserved c).After-of-numbers in
    (laws.more_values _ _ _ _ loop.invariant.0 (omega (arith, laws.inside read)) (omega arith), loop.invariant.1)

pub returns : goal.returns
returns c =
    let loop = c.loop-k in
    let all : loop.k ≡ c.noted-end.result = omega arith in
    let read = numbered (goal.at.returns c).After-of-numbers in
    lines.noted_on _ _ _ _ _ _ _ _ _ c.if-number-cell.false _ c.item_of.ensures _ c.insert-d.ensures read _ _
    ((ran (goal.at.returns c).After-simulate-paused).left _ read) _ (rw all at loop.invariant.0) _ c.next_write-next.ensures
    _ c.after_pause.ensures _ c.with_bit-mask.ensures
