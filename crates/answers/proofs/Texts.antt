-- Words, numbers and fields put into a buffer part by part, and how far they reach.
use mathlib.Core.Bool.{Bool, true, false}
use mathlib.Core.Path.{◌≡◌, refl, sym, subst, ap, ◌∙◌}
use mathlib.Core.List.{List, [], ◌∷◌, ◌++◌, append-nil, append_assoc}
use Prim.Native.Nat.{ℕ, zero, suc, ◌+◌, ◌*◌, ◌/◌, ◌<◌, ◌≤◌}
use lib.ListN.{length, length-append}
use lib.Dec.{ltb}
use native.Mathlib.Omega.{arith}
use borrow.Author.Tests.{ltb-true, ltb-false}
use Rattle.grammar.specs.Writing.{decimal, largest, Put}
use Rattle.grammar.proofs.Decimals.{decimal_one, decimal_more}
use Rattle.grammar.proofs.Puts.{Room, rest_all, rest_step, rest_last, put_both}
use Rattle.construction.specs.declared.{cells.Words.Words, cells.Yield.Yield, answers.Answer.Answer}
use Rattle.construction.specs.Answers.{bytes, fields, refused_with, word_text, done_word, output_numbers, answer_fields, numbers_text, fields_text}

-- ---- how long a number is: below `tens k` it has at most k + 1 digits
abbrev tens : ℕ → ℕ
tens zero = 10
tens (suc k) = tens k * 10

digits_few : (k n : ℕ) → n < tens k → length (decimal n) ≤ suc k
digits_few zero n h = rw (decimal_one n h) (omega arith)
digits_few (suc k) n h = go (λ l. digits_few k (n / 10) l) (ltb n 10) refl
  where
    go : (n / 10 < tens k → length (decimal (n / 10)) ≤ suc k) → (b : Bool) → ltb n 10 ≡ b → length (decimal n) ≤ suc (suc k)
    go f true e = rw (decimal_one n (ltb-true n 10 e)) (omega arith)
    go f false e =
        rw (decimal_more n (ltb-false n 10 e), length-append)
        (let l = f (omega arith) in omega arith)

decimal_short : (v : ℕ) → v ≤ largest → length (decimal v) ≤ 20
decimal_short v h = digits_few 19 v (omega arith)

-- ---- a text put within so many bytes
abbrev pub PutWithin : List ℕ → ℕ → List ℕ → ℕ → List ℕ → ℕ → Type 0
PutWithin b at x j z k = Put b at x j z × (j ≤ at + k)

pub put_short : {b : List ℕ} {at : ℕ} {x : List ℕ} {j : ℕ} {z : List ℕ} (k : ℕ) → Put b at x j z → length x ≤ k → PutWithin b at x j z k
put_short k p h = let e = p.place in (p, omega arith)

module _ {b : List ℕ} {at i j : ℕ} {y z : List ℕ} where
  pub put_word_number :
      (w : List ℕ) (v : ℕ) → Room b at → v ≤ largest → Put b at w i y → Put y i (decimal v) j z →
      PutWithin b at (w ++ decimal v) j z (length w + 20)
  put_word_number w v h l p q =
      let n = (put_short (length w) p (omega arith)).1 in
      let m = (put_short 20 q (decimal_short v l)).1 in
      (put_both h p q, omega arith)

-- ---- fields, which are the text that was put
module _ {b : List ℕ} {at j : ℕ} {x z : List ℕ} where
  pub put_as : {y : List ℕ} (k : ℕ) → Put b at x j z → length x ≤ k → y ≡ x → PutWithin b at y j z k
  put_as k p h e = rw e (put_short k p h)

  pub put_as_within : {y : List ℕ} {n : ℕ} (k : ℕ) → PutWithin b at x j z n → n ≤ k → y ≡ x → PutWithin b at y j z k
  put_as_within k p h e = let l = p.1 in rw e (p.0, omega arith)

-- numbers in a line, part by part
numbers_both : (l m : List ℕ) → numbers_text (l ++ m) ≡ numbers_text l ++ numbers_text m
unfolding numbers_text
numbers_both [] m = refl
numbers_both (n ∷ l) m = rw (numbers_both l m, append_assoc (decimal n) (numbers_text l) (numbers_text m))

first_number_lem : (n : ℕ) (l : List ℕ) → numbers_text (n ∷ l) ≡ 44 ∷ (decimal n ++ numbers_text l)
unfolding numbers_text
first_number_lem n l = refl

one_number : (n : ℕ) → numbers_text (n ∷ []) ≡ 44 ∷ decimal n
unfolding numbers_text
one_number n = ap (λ (l : List ℕ). 44 ∷ l) (append-nil (decimal n))

-- four outputs
module _ {b : List ℕ} {at i₁ i₂ i₃ j : ℕ} {y₁ y₂ y₃ z : List ℕ} (o : Words) where
  pub put_outputs :
      Room b at → PutWithin b at (44 ∷ decimal o.w0) i₁ y₁ 21 → PutWithin y₁ i₁ (44 ∷ decimal o.w1) i₂ y₂ 21 →
      PutWithin y₂ i₂ (44 ∷ decimal o.w2) i₃ y₃ 21 → PutWithin y₃ i₃ (44 ∷ decimal o.w3) j z 21 →
      PutWithin b at (numbers_text (output_numbers o)) j z 84
  unfolding numbers_text
  put_outputs h p₁ p₂ p₃ p₄ =
      let l₁ = p₁.1 in
      let l₂ = p₂.1 in
      let l₃ = p₃.1 in
      let l₄ = p₄.1 in (
        rw (append-nil (decimal o.w3)) (rest_last (rest_step (rest_step (rest_step (rest_all b at _ h) p₁.0) p₂.0) p₃.0) p₄.0),
        omega arith,
      )

-- `done` or `fault`, the gate number, four outputs and the operation's own steps
last_number_lem : (o : Words) (k : ℕ) → numbers_text (output_numbers o ++ (k ∷ [])) ≡ numbers_text (output_numbers o) ++ (44 ∷ decimal k)
last_number_lem o k = numbers_both (output_numbers o) (k ∷ []) ∙ ap (λ (l : List ℕ). numbers_text (output_numbers o) ++ l) (one_number k)

module _ {b : List ℕ} {at i₁ i₂ i₃ j : ℕ} {y₁ y₂ y₃ z : List ℕ} (n : ℕ) (y : Yield) (k : ℕ) where
  pub put_done :
      Room b at → PutWithin b at (word_text (bytes (done_word y.fault))) i₁ y₁ 6 → PutWithin y₁ i₁ (44 ∷ decimal n) i₂ y₂ 21 →
      PutWithin y₂ i₂ (numbers_text (output_numbers y.outputs)) i₃ y₃ 84 → PutWithin y₃ i₃ (44 ∷ decimal k) j z 21 →
      PutWithin b at (fields_text (answer_fields (Answer.Done n y k))) j z 132
  unfolding fields_text answer_fields
  put_done h p₁ p₂ p₃ p₄ =
      let l₁ = p₁.1 in
      let l₂ = p₂.1 in
      let l₃ = p₃.1 in
      let l₄ = p₄.1 in (
        subst (λ (x : List ℕ). Put b at (word ++ x) j z) (sym text)
            (rest_last (rest_step (rest_step (rest_step (rest_all b at _ h) p₁.0) p₂.0) p₃.0) p₄.0),
        omega arith,
      )
    where
      word : List ℕ
      word = word_text (bytes (done_word y.fault))

      text :
          numbers_text (n ∷ (output_numbers y.outputs ++ (k ∷ [])))
          ≡ (44 ∷ decimal n) ++ (numbers_text (output_numbers y.outputs) ++ (44 ∷ decimal k))
      text =
          first_number_lem n (output_numbers y.outputs ++ (k ∷ []))
          ∙ ap (λ (l : List ℕ). 44 ∷ (decimal n ++ l)) (last_number_lem y.outputs k)

-- `refused`, its number and a line
module _ {b : List ℕ} {at i j : ℕ} {y z : List ℕ} (number line : ℕ) where
  pub put_refused_at :
      Room b at → PutWithin b at (fields_text (refused_with number)) i y 29 → PutWithin y i (44 ∷ decimal line) j z 21 →
      PutWithin b at (fields_text (fields "refused" (number ∷ line ∷ []))) j z 50
  unfolding fields_text numbers_text
  put_refused_at h p q =
      let l = p.1 in
      let m = q.1 in
      (rw (append-nil (decimal line)) (put_both h (rw (append-nil (decimal number)) at p.0) q.0), omega arith)
