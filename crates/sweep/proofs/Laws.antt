-- The line that tells how far a sweep is, put into a buffer part by part.
use Rattle.std.proofs.Common.{◌≡◌, ℕ, List}
use Rattle.grammar.specs.Writing.{decimal, Put}
use Rattle.grammar.proofs.Puts.{Room, rest_all, rest_step, rest_last}
use Rattle.construction.specs.Answers.{bytes}
use Rattle.sweep.specs.Progress.{quotient_of, rate_text, progress_text}

pub put_rate :
    (rate left : ℕ) {b : List ℕ} {at i j k l q : ℕ} {z₁ z₂ z₃ z₄ : List ℕ} → Room b at → Put b at (decimal rate) i z₁ → Put z₁ i (bytes " a second, ") j z₂ →
    q ≡ quotient_of left rate → Put z₂ j (decimal q) k z₃ → Put z₃ k (bytes " s left\n") l z₄ → Put b at (rate_text rate left) l z₄
put_rate rate left {b} {at} h p q e r s = rest_last (rest_step (rest_step (rest_step (rest_all b at (rate_text rate left) h) p) q) (rw e at r)) s

pub put_progress :
    (done steps left elapsed : ℕ) {b : List ℕ} {i j k l m q : ℕ} {z₁ z₂ z₃ z₄ z₅ : List ℕ} → Room b 0 → Put b 0 (decimal done) i z₁ → Put z₁ i (bytes " of ") j z₂ →
    Put z₂ j (decimal steps) k z₃ → Put z₃ k (bytes " steps, ") l z₄ → q ≡ quotient_of done elapsed → Put z₄ l (rate_text q left) m z₅ →
    Put b 0 (progress_text done steps left elapsed) m z₅
unfolding progress_text
put_progress done steps left elapsed {b} h p q r s e t =
    rest_last (rest_step (rest_step (rest_step (rest_step (rest_all b 0 (progress_text done steps left elapsed) h) p) q) r) s) (rw e at t)
