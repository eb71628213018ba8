-- Texts put into a line one after another, and a buffer whose first bytes are lent to the writer
use Prim.Native.Nat.{ℕ, zero, suc, ◌+◌, ◌<◌, ◌≤◌}
use mathlib.Core.Bool.{Bool, true, false, ◌&&◌}
use mathlib.Core.Path.{◌≡◌, refl}
use mathlib.Core.List.{List, ◌++◌}
use lib.ListN.{length, take, drop, replicate, length-append, length-take, length-drop, length-replicate}
use native.Mathlib.Omega.{arith}
use native.Mathlib.Decide.{dec_lt}
use native.Mathlib.Numerals.{add-one}
use borrow.Author.Tests.{le-ltb}
use Rattle.grammar.specs.Writing.{Put}
use Rattle.grammar.proofs.Puts.{Room, rest_all, rest_step, rest_last}
use Rattle.construction.specs.declared.{card.Card.Card}
use Rattle.construction.specs.Types.{Written}
use Rattle.report.specs.Same.{all_below}
use Rattle.writer.specs.Written.{Writes}
use Rattle.text_cases.specs.declared.Outcome.{Outcome}
use Rattle.text_cases.specs.Comparing.{filler, expected_at, agrees_with, bytes_of, outcome_in}

module _ {b : List ℕ} {at i j k l : ℕ} {x y z w b₁ b₂ b₃ b₄ : List ℕ} where
  pub put_four : Room b at → Put b at x i b₁ → Put b₁ i y j b₂ → Put b₂ j z k b₃ → Put b₃ k w l b₄ → Put b at (x ++ (y ++ (z ++ w))) l b₄
  put_four h p q r s = rest_last (rest_step (rest_step (rest_step (rest_all b at _ h) p) q) r) s

module _ (c : Card) (wanted b : List ℕ) (room : ℕ) {z : List ℕ} {told : ℕ} {w : Written} {same : Bool} where
  pub outcome_in_lem :
      Writes c (take room b) w z → told ≡ bytes_of w → same ≡ agrees_with (z ++ drop room b) wanted told →
      ◌≡◌ {A = Outcome} (record { written = w; same = same }) (outcome_in c wanted room b)
  outcome_in_lem wr e s = rw (← wr.answer, ← wr.bytes, ← e, s)

-- the lengths of the bytes lent, and of the buffer after that
module _ (n room : ℕ) (h : room ≤ n) where
  pub lent_length : room ≡ length (take room (replicate n filler))
  lent_length = simp (length-take, length-replicate) (omega arith)

  pub buffer_length : (z : List ℕ) → length z ≡ length (take room (replicate n filler)) → n ≡ length (z ++ drop room (replicate n filler))
  buffer_length z e = let l = lent_length in simp (length-append, length-drop, length-replicate) (omega arith)

-- a test of every number below n, made one number at a time
pub starts : (test : ℕ → Bool) → true ≡ all_below 0 test
unfolding all_below
starts test = refl

pub goes_on : (test : ℕ → Bool) (n : ℕ) {before this after : Bool} → before ≡ all_below n test → this ≡ test n → after ≡ (before && this) →
    after ≡ all_below (n + 1) test
unfolding all_below
goes_on test n p q e = rw (e, p, q, add-one)

pub ends : (test : ℕ → Bool) (n k : ℕ) {all : Bool} → all ≡ all_below k test → k ≡ n → all ≡ all_below n test
ends test n k p e = rw (p, e)

-- a test that one number below n fails
and_false : (a : Bool) → (a && false) ≡ false
and_false true = refl
and_false false = refl

pub one_fails : (test : ℕ → Bool) (n k : ℕ) → k < n → test k ≡ false → all_below n test ≡ false
unfolding all_below
one_fails test zero k h e = absurd (omega arith)
one_fails test (suc n) k h e = go (dec_lt k n) (λ p. one_fails test n k p e)
  where
    go : Dec (k < n) → (k < n → all_below n test ≡ false) → (all_below n test && test n) ≡ false
    go (yes p) below = rw (below p)
    go (no q) below = let f : n ≡ k = omega arith in rw (f, e) (and_false (all_below k test))

-- behind the bytes that were written stands what stood there before
pub behind : (text : List ℕ) (told k : ℕ) → told ≤ k → expected_at text told k ≡ filler
behind text told k h = rw (le-ltb k told h)
