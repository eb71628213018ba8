use Rattle.std.proofs.Common.{length, take, map, ◌≡◌}
use Rattle.construction.specs.declared.simulations.Item.{Item}
use Rattle.helping.proofs.numbers.Numbers.of.Given as goal

abbrev pub invariant-loop-k : goal.invariant-loop-k
invariant-loop-k l = record {
  end : l.numbers.end ≡ l.end;
  keyed : take l.k l.numbers.keys ≡ map (λ (e : Item). e.variable) (take l.k l.dictionary.items);
  valued : take l.k l.numbers.values ≡ map (λ (e : Item). e.value) (take l.k l.dictionary.items);
  keys : length l.numbers.keys ≡ 32;
  values : length l.numbers.values ≡ 32;
}
