use Rattle.std.proofs.Common.{◌-◌, ◌+◌, refl, sym, ◌∙◌, arith}
use Rattle.helping.proofs.Laws as laws
use Rattle.helping.proofs.simulation.simulate.Goals as goal

pub loop-k-init : goal.loop-k-init
loop-k-init g c =
    record { keys = refl; end = refl; long = refl; rest = refl; left = λ d h. laws.simulate_start _ _ _ _ _ ∙ rw (laws.own_values h) }

pub loop-k-preserved : goal.loop-k-preserved
loop-k-preserved g c =
    let loop = c.loop-k in
    let kept = loop.invariant in
    let made = c.in-Ok.ensures in
    record {
      keys = made.keys ∙ kept.keys;
      end = made.end ∙ kept.end;
      long = made.told.long ∙ kept.long;
      rest = (rw kept.end at made.told.rest) ∙ kept.rest;
      left = λ d h. laws.turn_goes h _ _ _ _ (32 - loop._k) (32 - (loop._k + 1)) _ _ kept.long (kept.left d h) (omega arith) c.fetch-instruction.ensures.next
          (rw (kept.keys, kept.end) at made.told) _ refl;
    }

pub returns-in-Err-clause-told : goal.returns-in-Err-clause-told
returns-in-Err-clause-told g c =
    let loop = c.loop-k in
    let kept = loop.invariant in
    let made = c.in-Err.ensures in
    record {
      long = made.told.long ∙ kept.long;
      left = λ d h. laws.turn_stands h _ _ _ _ (32 - loop._k) (32 - (loop._k + 1)) _ _ kept.long (kept.left d h) (omega arith) c.fetch-instruction.ensures.next
          (rw (kept.keys, kept.end) at made.told) _ refl;
    }

pub returns-in-Err-clause-rest : goal.returns-in-Err-clause-rest
returns-in-Err-clause-rest g c =
    let kept = c.loop-k.invariant in
    (rw kept.end at c.in-Err.ensures.told.rest) ∙ kept.rest

pub returns-clause-told : goal.returns-clause-told
returns-clause-told g c =
    let loop = c.loop-k in
    record {
      long = loop.invariant.long;
      left = λ d h. sym (laws.simulate_end _ _ _ _ _ (32 - loop._k) _ (loop.invariant.left d h) (omega arith));
    }
