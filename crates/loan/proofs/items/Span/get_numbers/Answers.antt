use Rattle.std.proofs.Common.{◌≡◌, ◌∙◌, refl, ap, arith}
use Rattle.block.specs.Cards.{item_at}
use Rattle.helping.specs.declared.numbers.Numbers.{Numbers}
use Rattle.loan.proofs.Tables as tables
use Rattle.loan.proofs.items.Span.get_numbers.Goals as goal

pub loop-k-init : goal.loop-k-init
loop-k-init c =
    let a = c.args in
    let none = c.requires.none in record {
      end = refl;
      keys = ap (λ (x : Numbers). x.keys) none ∙ tables.padded_start (λ j. (item_at a.l.now a.self.base j).variable);
      values = ap (λ (x : Numbers). x.values) none ∙ tables.padded_start (λ j. (item_at a.l.now a.self.base j).value);
    }

pub loop-k-preserved : goal.loop-k-preserved
loop-k-preserved c =
    let kept = c.loop-k.invariant in record {
      end = kept.end;
      keys = tables.padded_more _ _ _ _ kept.keys (omega arith) (rw (c.byte.ensures, c.upper.ensures));
      values = tables.padded_more _ _ _ _ kept.values (omega arith) c.half.ensures;
    }

pub returns : goal.returns
returns c =
    let loop = c.loop-k in
    let kept = loop.invariant in
    let all : loop.k ≡ c.args.self.end = omega arith in
    let keys = rw all at kept.keys in
    let values = rw all at kept.values in
    λ j. record { keys = keys j; values = values j; end = kept.end j }
