use Rattle.std.proofs.Common.{◌≡◌, ℕ, length, arith}
use lib.ListN.{drop_of_length-le}
use lib.Seq.{drop-cons}
use native.Mathlib.Numerals.{add-one}
use borrow.Author.Tests.{eq-eqb, ne_eqb}
use Rattle.replay.specs.Playing.{place_of}
use Rattle.replay.proofs.find.Goals as goal

pub returns-then-text-i : goal.returns-then-text-i
unfolding place_of
returns-then-text-i c =
    record {
      place = rw (c.loop-i.invariant.0, drop-cons {A = ℕ} _ _ 0 c.loop-i-test.true, eq-eqb _ _ c.if-text-i.true);
      past = c.loop-i.invariant.1;
      within = omega arith;
    }

pub loop-i-preserved : goal.loop-i-preserved
unfolding place_of
loop-i-preserved c = (
  rw (c.loop-i.invariant.0, drop-cons {A = ℕ} _ _ 0 c.loop-i-test.true, ne_eqb _ _ c.if-text-i.false, add-one),
  omega arith,
)

pub returns : goal.returns
unfolding place_of
returns c =
    let e : length c.args.text.now ≡ c.loop-i.i = omega arith in
    record {
      place = rw (c.loop-i.invariant.0, drop_of_length-le _ c.loop-i-test.false) e;
      past = c.requires;
      within = omega arith;
    }
