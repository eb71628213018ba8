-- Answers are known by their numbers.
use Prim.Native.Nat.{ℕ, zero, suc, ◌<◌}
use mathlib.Core.Bool.{Bool, true, false}
use mathlib.Core.List.{List, [], ◌∷◌, ◌++◌}
use mathlib.Core.Path.{◌≡◌, refl, ◌∙◌, ap}
use native.Mathlib.Omega.{arith}
use native.Mathlib.Nat.{zero-add}
use lib.ListN.{length, take, drop, set}
use lib.Seq.{take-nil}
use Rattle.construction.specs.declared.{answers.Answer.Answer, cells.Yield.Yield}
use Rattle.construction.specs.Answers.{is_refused, answer_fields}
use Rattle.construction.proofs.Statements.AnswerFields.{known_by_fields}
use Rattle.codes.specs.Parts.{stores_from}
use Rattle.embedding.specs.Numbers.{told, status_of, done_kind, numbers_of}
use Rattle.embedding.proofs.Told.{small_number}
use Rattle.embedding.specs.Known.{OfStep, KnownByNumbers}

clash : ◌≡◌ {A = ℕ} 0 1 → ⊥
clash z = omega arith

-- numbers stored past a first place leave it
shifted : (x : ℕ) (o : List ℕ) (k : ℕ) (xs : List ℕ) → stores_from (x ∷ o) 0 (suc k) xs ≡ x ∷ stores_from o 0 k xs
shifted x o k [] = refl
shifted x o zero (y ∷ xs) = shifted x (set o 0 y) 1 xs
shifted x o (suc k) (y ∷ xs) = rw (zero-add (suc (suc k)), zero-add (suc k)) (shifted x (set o (suc k) y) (suc (suc k)) xs)

no_place : (k : ℕ) (xs : List ℕ) → stores_from [] 0 k xs ≡ []
no_place k [] = refl
no_place k (x ∷ xs) = no_place (suc k) xs

whole : (o xs : List ℕ) → told o xs ≡ take (length o) xs ++ drop (length xs) o
whole o [] = rw (take-nil {A = ℕ} (length o))
whole [] (y ∷ xs) = no_place 1 xs
whole (x ∷ o) (y ∷ xs) = shifted y o 0 xs ∙ ap (λ (l : List ℕ). y ∷ l) (whole o xs)

taken : (a : Answer) → is_refused a ≡ false → status_of a ≡ 0
taken Answer.Taken e = refl
taken Answer.Run e = refl
taken (Answer.Done number y steps) e = refl
taken (Answer.Exited steps) e = refl
taken (Answer.Value x) e = refl
taken (Answer.Refused r) e = absurd (clash (let z : true ≡ false = e in cc))
taken (Answer.RefusedAt r line) e = absurd (clash (let z : true ≡ false = e in cc))

refused : (a : Answer) → is_refused a ≡ true → 0 < status_of a
refused Answer.Taken e = absurd (clash (let z : false ≡ true = e in cc))
refused Answer.Run e = absurd (clash (let z : false ≡ true = e in cc))
refused (Answer.Done number y steps) e = absurd (clash (let z : false ≡ true = e in cc))
refused (Answer.Exited steps) e = absurd (clash (let z : false ≡ true = e in cc))
refused (Answer.Value x) e = absurd (clash (let z : false ≡ true = e in cc))
refused (Answer.Refused r) e = (small_number r).0
refused (Answer.RefusedAt r line) e = (small_number r).0

-- an operation that is done, by its numbers
kind_known : (f g : Bool) → done_kind f ≡ done_kind g → f ≡ g
kind_known true true e = refl
kind_known false false e = refl
kind_known true false e = absurd (let z : ◌≡◌ {A = ℕ} 2 1 = e in omega arith)
kind_known false true e = absurd (let z : ◌≡◌ {A = ℕ} 1 2 = e in omega arith)

done_known : (m n s t : ℕ) (x y : Yield) → numbers_of (Answer.Done m x s) ≡ numbers_of (Answer.Done n y t) → Answer.Done m x s ≡ Answer.Done n y t
unfolding answer_fields
done_known m n s t x y e =
    let number : m ≡ n = cc in
    let steps : s ≡ t = cc in
    let w₀ : x.outputs.w0 ≡ y.outputs.w0 = cc in
    let w₁ : x.outputs.w1 ≡ y.outputs.w1 = cc in
    let w₂ : x.outputs.w2 ≡ y.outputs.w2 = cc in
    let w₃ : x.outputs.w3 ≡ y.outputs.w3 = cc in
    let kind : done_kind x.fault ≡ done_kind y.fault = cc in
    (known_by_fields.answer (Answer.Done m x s) (Answer.Done n y t)).0 (rw (number, steps, w₀, w₁, w₂, w₃, kind_known x.fault y.fault kind))

step : (a b : Answer) → OfStep a → OfStep b → status_of a ≡ status_of b → numbers_of a ≡ numbers_of b → a ≡ b
step Answer.Run Answer.Run _ _ e f = refl
step Answer.Run (Answer.Done n y t) _ _ e f = absurd (clash cc)
step Answer.Run (Answer.Exited t) _ _ e f = absurd (clash cc)
step Answer.Run (Answer.Refused r) _ _ e f = absurd (clash cc)
step (Answer.Done n y t) Answer.Run _ _ e f = absurd (clash cc)
step (Answer.Done m x s) (Answer.Done n y t) _ _ e f = done_known m n s t x y f
step (Answer.Done n y t) (Answer.Exited s) _ _ e f = absurd (clash cc)
step (Answer.Done n y t) (Answer.Refused r) _ _ e f = absurd (clash cc)
step (Answer.Exited s) Answer.Run _ _ e f = absurd (clash cc)
step (Answer.Exited s) (Answer.Done n y t) _ _ e f = absurd (clash cc)
step (Answer.Exited s) (Answer.Exited t) _ _ e f = cc
step (Answer.Exited s) (Answer.Refused r) _ _ e f = absurd (clash cc)
step (Answer.Refused r) Answer.Run _ _ e f = absurd (clash cc)
step (Answer.Refused r) (Answer.Done n y t) _ _ e f = absurd (clash cc)
step (Answer.Refused r) (Answer.Exited t) _ _ e f = absurd (clash cc)
step (Answer.Refused r) (Answer.Refused s) _ _ e f = ap Answer.Refused ((known_by_fields.refusal r s).0 e)
step Answer.Taken b p _ e f = elim p [ ]
step Answer.Run Answer.Taken _ p e f = elim p [ ]
step Answer.Run (Answer.Value _) _ p e f = elim p [ ]
step Answer.Run (Answer.RefusedAt _ _) _ p e f = elim p [ ]
step (Answer.Done n y t) Answer.Taken _ p e f = elim p [ ]
step (Answer.Done n y t) (Answer.Value _) _ p e f = elim p [ ]
step (Answer.Done n y t) (Answer.RefusedAt _ _) _ p e f = elim p [ ]
step (Answer.Exited s) Answer.Taken _ p e f = elim p [ ]
step (Answer.Exited s) (Answer.Value _) _ p e f = elim p [ ]
step (Answer.Exited s) (Answer.RefusedAt _ _) _ p e f = elim p [ ]
step (Answer.Value _) b p _ e f = elim p [ ]
step (Answer.Refused r) Answer.Taken _ p e f = elim p [ ]
step (Answer.Refused r) (Answer.Value _) _ p e f = elim p [ ]
step (Answer.Refused r) (Answer.RefusedAt _ _) _ p e f = elim p [ ]
step (Answer.RefusedAt _ _) b p _ e f = elim p [ ]

pub known_by_numbers : KnownByNumbers
known_by_numbers = record { taken = taken; refused = refused; step = step; whole = whole }
