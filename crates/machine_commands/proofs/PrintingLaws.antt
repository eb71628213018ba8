-- Printed lines put into a buffer part by part, and how far they reach.
use mathlib.Core.Bool.{Bool, true, false}
use mathlib.Core.Path.{◌≡◌}
use mathlib.Core.List.{List, [], ◌∷◌, ◌++◌, append-nil}
use Prim.Native.Nat.{ℕ, ◌≤◌}
use lib.ListN.{length}
use native.Mathlib.Omega.{arith}
use Rattle.grammar.specs.Writing.{decimal, largest, Put}
use Rattle.grammar.proofs.Puts.{Room, rest_all, rest_step, rest_last, put_both}
use Rattle.construction.specs.declared.{answers.Answer.Answer, answers.Report.Report}
use Rattle.construction.specs.Answers.{bytes, answer_fields, verdict_fields, numbers_text, fields_text}
use Rattle.construction.specs.Reports.{report_text}
use Rattle.construction.specs.Types.{Verdict}
use Rattle.answers.proofs.Texts.{PutWithin, put_short, put_as_within}
use Rattle.commands.specs.declared.Command.{Command}
use Rattle.commands.specs.Printing.{is_malformed, verb_of, first_of}
use Rattle.commands.proofs.PrintingLaws.{put_parts}
use Rattle.machine_commands.specs.declared.Request.{Request}
use Rattle.machine_commands.specs.Printing.{machine_text, to_text, head_text, line_text, longest, terms_refusal, card_refusal}

-- the number of the machine
module _ {b : List ℕ} {at j : ℕ} {z : List ℕ} (m : ℕ) (c : Command) {t : Bool} (e : t ≡ is_malformed c) where
  pub put_none : t ≡ true → Put b at [] j z → PutWithin b at (machine_text m c) j z 21
  unfolding machine_text
  put_none h p = rw (← e, h) (put_short 21 p (omega arith))

  pub put_some : t ≡ false → PutWithin b at (44 ∷ decimal m) j z 21 → PutWithin b at (machine_text m c) j z 21
  unfolding machine_text numbers_text
  put_some h p = rw (← e, h, append-nil (decimal m)) p

-- what a line begins with
pub put_to :
    {b : List ℕ} {at i j k : ℕ} {x y z : List ℕ} (line m : ℕ) (c : Command) → Room b at → PutWithin b at (verb_of c) i x 6 →
    PutWithin x i (machine_text m c) j y 21 → PutWithin y j (44 ∷ decimal (first_of line c)) k z 21 → PutWithin b at (to_text line m c) k z 48
unfolding to_text numbers_text
put_to line m c h p q r =
    let u = p.1 in
    let v = q.1 in
    let w = r.1 in
    (rw (append-nil (decimal (first_of line c))) (rest_last (rest_step (rest_step (rest_all _ _ _ h) p.0) q.0) r.0), omega arith)

module _ {b : List ℕ} {at j : ℕ} {z : List ℕ} (line : ℕ) {q : Request} where
  pub put_head_to : {m : ℕ} {c : Command} → q ≡ Request.To m c → PutWithin b at (to_text line m c) j z 48 → PutWithin b at (head_text line q) j z 48
  unfolding head_text
  put_head_to e p = rw e p

  pub put_head_turn : q ≡ Request.Turn → Put b at (bytes "turn") j z → PutWithin b at (head_text line q) j z 48
  unfolding head_text
  put_head_turn e p = rw e (put_short 48 p (omega arith))

-- the line of a request
module _ {b : List ℕ} {at i j k : ℕ} {y₁ y₂ z : List ℕ} where
  pub put_line :
      {n : ℕ} {y₀ : List ℕ} (line : ℕ) (q : Request) (t : Report) (a : Answer) → Room b at → PutWithin b at (head_text line q) n y₀ 48 →
      PutWithin y₀ n (report_text t) i y₁ 109 → PutWithin y₁ i (fields_text (answer_fields a)) j y₂ 132 → Put y₂ j (10 ∷ []) k z →
      PutWithin b at (line_text line q t a) k z longest
  unfolding line_text
  put_line line q t a h p u v r =
      let l = p.1 in
      let o = u.1 in
      put_parts (answer_fields a) 157 132 longest h (put_both h p.0 u.0, omega arith) v r (omega arith)

-- refusals of the terms and of a card
module _ {b : List ℕ} {i j k : ℕ} {y₁ y₂ z : List ℕ} where
  pub put_terms_refusal :
      (v : Verdict) → length b ≤ largest → Put b 0 (bytes "machines") i y₁ → PutWithin y₁ i (fields_text (verdict_fields v)) j y₂ 50 →
      Put y₂ j (10 ∷ []) k z → PutWithin b 0 (terms_refusal v) k z longest
  put_terms_refusal v h p q r = put_parts (verdict_fields v) 8 50 longest (omega arith) (put_short 8 p (omega arith)) q r (omega arith)

  pub put_card_refusal :
      (m : ℕ) (v : Verdict) → length b ≤ largest → PutWithin b 0 (bytes "card," ++ decimal m) i y₁ 25 →
      PutWithin y₁ i (fields_text (verdict_fields v)) j y₂ 50 → Put y₂ j (10 ∷ []) k z → PutWithin b 0 (card_refusal m v) k z longest
  unfolding numbers_text
  put_card_refusal m v h p q r =
      let e : PutWithin b 0 (bytes "card" ++ numbers_text (m ∷ [])) i y₁ 25 =
      put_as_within {n = 25} 25 p (omega arith) (rw (append-nil (decimal m))) in
      put_parts (verdict_fields v) 25 50 longest (omega arith) e q r (omega arith)
