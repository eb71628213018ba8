-- Printed lines put into a buffer part by part, and how far they reach.
use mathlib.Core.List.{List, [], ◌∷◌, append-nil}
use Prim.Native.Nat.{ℕ, ◌+◌, ◌<◌, ◌≤◌}
use lib.ListN.{length}
use native.Mathlib.Omega.{arith}
use Rattle.grammar.specs.Writing.{decimal, largest, Put}
use Rattle.grammar.proofs.Puts.{Room, rest_all, rest_step, rest_last, put_both}
use Rattle.construction.specs.declared.{answers.Answer.Answer, answers.Report.Report}
use Rattle.construction.specs.declared.answers.Refusal.TheVariants.{TooLong}
use Rattle.construction.specs.Answers.{bytes, Fields, number_of, refused_with, answer_fields, verdict_fields, numbers_text, fields_text}
use Rattle.construction.specs.Reports.{report_text}
use Rattle.construction.specs.Types.{Verdict}
use Rattle.answers.proofs.Texts.{PutWithin, put_short}
use Rattle.commands.specs.declared.Command.{Command}
use Rattle.commands.specs.Printing.{verb_of, first_of, head_text, line_with, line_text, longest, card_refusal, calls_refusal}

-- the verb and the first number
pub put_head_lem :
    {b : List ℕ} {at i j : ℕ} {y z : List ℕ} (line : ℕ) (m : Command) → Room b at → PutWithin b at (verb_of m) i y 6 →
    PutWithin y i (44 ∷ decimal (first_of line m)) j z 21 → PutWithin b at (head_text line m) j z 27
unfolding head_text numbers_text
put_head_lem line m h p q =
    let k = p.1 in
    let l = q.1 in
    (rw (append-nil (decimal (first_of line m))) (put_both h p.0 q.0), omega arith)

-- a line of three parts: its beginning, the fields that follow, and byte 10
module _ {b : List ℕ} {at i j k : ℕ} {y₁ y₂ z : List ℕ} where
  pub put_parts :
      {x : List ℕ} (f : Fields) (m n size : ℕ) → Room b at → PutWithin b at x i y₁ m → PutWithin y₁ i (fields_text f) j y₂ n →
      Put y₂ j (10 ∷ []) k z → m + n < size → PutWithin b at (line_with x f) k z size
  put_parts f m n size h p q r l =
      let u = p.1 in
      let v = q.1 in
      let e = (put_short 1 r (omega arith)).1 in
      (rest_last (rest_step (rest_step (rest_all b at _ h) p.0) q.0) r, omega arith)

  pub put_line :
      {n : ℕ} {y₀ : List ℕ} (line : ℕ) (m : Command) (t : Report) (a : Answer) → Room b at → PutWithin b at (head_text line m) n y₀ 27 →
      PutWithin y₀ n (report_text t) i y₁ 109 → PutWithin y₁ i (fields_text (answer_fields a)) j y₂ 132 → Put y₂ j (10 ∷ []) k z →
      PutWithin b at (line_text line m t a) k z longest
  unfolding line_text
  put_line line m t a h p u q r =
      let l = p.1 in
      let o = u.1 in
      put_parts (answer_fields a) 136 132 longest h (put_both h p.0 u.0, omega arith) q r (omega arith)

-- refusals of the card and of the calls
module _ {b : List ℕ} {i j k : ℕ} {y₁ y₂ z : List ℕ} where
  pub put_card_refusal :
      (v : Verdict) → length b ≤ largest → Put b 0 (bytes "card") i y₁ → PutWithin y₁ i (fields_text (verdict_fields v)) j y₂ 50 →
      Put y₂ j (10 ∷ []) k z → PutWithin b 0 (card_refusal v) k z longest
  put_card_refusal v h p q r = put_parts (verdict_fields v) 4 50 longest (omega arith) (put_short 4 p (omega arith)) q r (omega arith)

  pub put_calls_refusal :
      length b ≤ largest → Put b 0 (bytes "calls") i y₁ → PutWithin y₁ i (fields_text (refused_with (number_of TooLong))) j y₂ 29 →
      Put y₂ j (10 ∷ []) k z → PutWithin b 0 calls_refusal k z longest
  put_calls_refusal h p q r = put_parts (refused_with 1) 5 29 longest (omega arith) (put_short 5 p (omega arith)) q r (omega arith)
