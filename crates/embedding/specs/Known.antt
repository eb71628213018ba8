-- A caller knows an answer by its numbers: no status is both a refusal's and a taken request's, and what a step answers is told apart by its status and
-- its numbers, as long as the array that takes these has seven places.
use Rattle.std.specs.Prelude.{ℕ, ◌<◌, true, false, List, ◌++◌, ◌≡◌, length, take, drop}
use Rattle.construction.specs.declared.answers.Answer.{Answer}
use Rattle.construction.specs.Answers.{is_refused}
use Rattle.embedding.specs.Numbers.{told, status_of, numbers_of}

-- the answers that a step has
abbrev pub OfStep : Answer → Type 0
OfStep Answer.Taken = ⊥
OfStep Answer.Run = Unit
OfStep (Answer.Done number y steps) = Unit
OfStep (Answer.Exited steps) = Unit
OfStep (Answer.Value x) = ⊥
OfStep (Answer.Refused r) = Unit
OfStep (Answer.RefusedAt r line) = ⊥

pub record KnownByNumbers : Type 0 where
  pub taken : (a : Answer) → is_refused a ≡ false → status_of a ≡ 0
  pub refused : (a : Answer) → is_refused a ≡ true → 0 < status_of a
  pub step : (a b : Answer) → OfStep a → OfStep b → status_of a ≡ status_of b → numbers_of a ≡ numbers_of b → a ≡ b
  pub whole : (o xs : List ℕ) → told o xs ≡ take (length o) xs ++ drop (length xs) o
