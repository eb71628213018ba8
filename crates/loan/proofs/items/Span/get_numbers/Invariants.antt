use Rattle.std.proofs.Common.{◌≡◌}
use Rattle.block.specs.Cards.{item_at}
use Rattle.loan.specs.Items.{padded}
use Rattle.loan.proofs.items.Span.get_numbers.Given as goal

abbrev pub invariant-loop-k : goal.invariant-loop-k
invariant-loop-k l = record {
  end : l.numbers.end ≡ l.self.end;
  keys : l.numbers.keys ≡ padded l.k (λ j. (item_at l.l l.self.base j).variable);
  values : l.numbers.values ≡ padded l.k (λ j. (item_at l.l l.self.base j).value);
}
