use Rattle.std.proofs.Common.{◌≡◌, ◌-◌, min, length, take, drop}
use Rattle.construction.specs.declared.simulations.Dictionary.{Dictionary}
use Rattle.construction.specs.Helping.{simulate_from, simulate}
use Rattle.helping.specs.Numbers.{with_values, Numbered}
use Rattle.helping.proofs.simulation.simulate.Given as goal

abbrev pub invariant-loop-k : goal.invariant-loop-k
invariant-loop-k g l =
    let first = l.initial.numbers in
    let noted = min first.end 32 in
    let program = g.T.Text.program l.text in
    record {
      keys : l.numbers.keys ≡ first.keys;
      end : l.numbers.end ≡ first.end;
      long : length l.numbers.values ≡ length first.values;
      rest : drop noted l.numbers.values ≡ drop noted first.values;
      left : (d : Dictionary) → Numbered first.keys first.values noted d → simulate l.n program l.inputs l.initial.s d
          ≡ simulate_from l.n program l.inputs (32 - l._k) l.s (with_values d (take noted l.numbers.values));
    }
