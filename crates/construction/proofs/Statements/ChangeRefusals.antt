-- The refusals of a change (document 02, order 11), by their numbers: each is given when its condition holds and no earlier one does, and never else.
use Rattle.std.specs.Prelude.{Ok, Err}
use Prim.Native.Nat.{ℕ, zero, suc, min, ◌≤◌, ◌<◌}
use mathlib.Core.Path.{◌≡◌, refl, ap, subst}
use mathlib.Core.Bool.{Bool, true, false, ◌&&◌, ◌||◌, false≢true}
use mathlib.Core.Logic.{◌⊎◌, inl, inr, ⊎_elim}
use mathlib.Core.List.{List}
use native.Mathlib.Omega.{arith}
use native.Mathlib.Nat.{eq-or-lt_of_le}
use lib.ListN.{length, get_or}
use lib.Dec.{ltb}
use borrow.Author.Tests.{ltb-true, lt-ltb, le-ltb}
use Rattle.construction.specs.Types.{Gate, Control, Card, Refusal, TooLong, TooHeavy, NoProgram, NotAhead, Unsettled, Answer, Answered, Contents, Verdict}
use Rattle.construction.specs.Answers.{Fields, number_of, is_refused, answer_fields, verdict_fields, RefusesAt}
use Rattle.construction.specs.Weight.{card_weight}
use Rattle.construction.specs.Parts.{local_at, contents_of, idle_control, no_gate}
use Rattle.construction.specs.Requests.{is_program}
use Rattle.construction.specs.Changes.{change_read, has_read, is_behind, some_behind, is_unsettled, unchanged, changed, change}
use Rattle.construction.specs.TextJudging.{refused_in, ChangeJudged}
use Rattle.construction.specs.Texts.{Overweight, UnsettledBy}
use Rattle.construction.specs.Types.{told_at}
use Rattle.construction.proofs.Basics.{clash, and_true, true_or_false}
use Rattle.construction.proofs.Text.Changes.{Says, refused_says, overweight_judged}
use Rattle.construction.proofs.Observing.Entries.{on_change, on_change_why}
use Rattle.construction.proofs.Statements.AnswerFields.{answer_known}
use Rattle.construction.proofs.Statements.TextRefusals.{change_judged_only}

-- a refused change gives the number of its refusal, its line and the card as it was, and no other answer does
refuses_at : (c : Card) (r : Answered) (why : Refusal) (line : ℕ) → r ≡ unchanged c why line → RefusesAt c r (number_of why) line
unfolding answer_fields
refuses_at c r why line e = rw e (record { refusal = refl; kept = refl })

refused_at_lem : {c : Card} {r : Answered} (why : Refusal) (line : ℕ) → RefusesAt c r (number_of why) line → r.answer ≡ Answer.RefusedAt why line
unfolding answer_fields
refused_at_lem {c} {r} why line h = answer_known r.answer (Answer.RefusedAt why line) h.refusal

text_says :
    (x : Contents) (t : List ℕ) (why : Refusal) (line : ℕ) {other : Refusal} {at : ℕ} → (change_read x t).verdict ≡ Err (told_at other at) →
    Answer.RefusedAt other at ≡ Answer.RefusedAt why line → Says x t why line
text_says x t why line v e = let z : (change_read x t).verdict ≡ Err (told_at why line) = cc in refused_says x t z

-- 16: what is unsettled, both ways
or_either : (a b : Bool) → a || b ≡ true → (a ≡ true) ⊎ (b ≡ true)
or_either true b e = inl refl
or_either false b e = inr e

or_second : (a : Bool) {b : Bool} → b ≡ true → a || b ≡ true
or_second true e = refl
or_second false e = e

module _ (controls : List Control) (gates_read : List Gate) (p number : ℕ) where
  abbrev counts : ℕ → Bool
  counts i = ltb i p && is_behind (get_or controls i idle_control).place (get_or gates_read i no_gate) number

  behind_some : (n i : ℕ) → i < n → counts i ≡ true → some_behind controls gates_read p number n ≡ true
  unfolding some_behind
  behind_some zero i l e = absurd (omega arith)
  behind_some (suc n) i l e =
      ⊎_elim (λ (z : i ≡ n). rw (← z, e)) (λ z. or_second (counts n) (behind_some n i z e)) (eq-or-lt_of_le (omega arith))

  some_behind_lem : (P : Type 0) (n : ℕ) → some_behind controls gates_read p number n ≡ true → ((i : ℕ) → i < n → counts i ≡ true → P) → P
  unfolding some_behind
  some_behind_lem P zero e f = absurd (false≢true e)
  some_behind_lem P (suc n) e f =
      ⊎_elim (f n (omega arith)) (λ z. some_behind_lem P n z (λ i l. f i (omega arith))) (or_either (counts n) (some_behind controls gates_read p number n) e)

module _ (c : Card) (k : ℕ) where
  abbrev from_of : ℕ
  from_of = get_or c.from k 0

  unsettled_given : UnsettledBy c k → is_unsettled c k ≡ true
  unsettled_given (UnsettledBy.pending h) = rw (lt-ltb c.gate.seq from_of h)
  unsettled_given (UnsettledBy.behind i p e h) =
      let z = and_true (ltb i c.process_count) _ p in
      or_second (ltb c.gate.seq from_of)
      (behind_some c.controls c.gates_read c.process_count from_of 8 i (ltb-true i 8 z.1) (rw (z.0, e, lt-ltb _ _ h)))

  unsettled_why : is_unsettled c k ≡ true → UnsettledBy c k
  unsettled_why e =
      ⊎_elim (λ h. UnsettledBy.pending (ltb-true _ _ h))
      (λ h. some_behind_lem c.controls c.gates_read c.process_count from_of (UnsettledBy c k) 8 h (λ i l z.
      let y = and_true (ltb i c.process_count) _ z in
      let w = and_true (has_read (local_at c i).control.place) _ y.1 in
      UnsettledBy.behind i (rw y.0 (lt-ltb i 8 l)) w.0 (ltb-true _ _ w.1)))
      (or_either (ltb c.gate.seq from_of) _ e)

  settled_else : (UnsettledBy c k → ⊥) → is_unsettled c k ≡ false
  settled_else n = ⊎_elim (λ e. absurd (n (unsettled_why e))) (λ e. e) (true_or_false (is_unsettled c k))

-- each refusal of a change, given and never else
module _ (c : Card) (k from : ℕ) (t : List ℕ) where
  abbrev r : Answered
  r = change c k from t

  abbrev x : Contents
  x = contents_of c

  -- 6, 'tested first'
  pub change_no_program : is_program c k ≡ false → RefusesAt c r 6 0
  unfolding change
  change_no_program p = refuses_at c r NoProgram 0 (rw p)

  pub change_no_program_only : (line : ℕ) → RefusesAt c r 6 line → (is_program c k ≡ false) × (line ≡ 0)
  change_no_program_only line h =
      on_change_why (λ (q : Answered). q.answer ≡ Answer.RefusedAt NoProgram line → (is_program c k ≡ false) × (line ≡ 0)) c k from t
      (λ p e. (p, cc)) (λ p why at v e. absurd (text_says x t NoProgram line v e)) (λ _ _ _ e. clash (cc)) (λ _ _ _ _ e. clash (cc)) (λ _ _ _ _ e. clash (cc))
      (refused_at_lem NoProgram line h)

  -- those of the text, with its line: 1 at line 0; 14 at the last instruction
  pub change_text_lem :
      (why : Refusal) (line : ℕ) → is_program c k ≡ true → (change_read x t).verdict ≡ Err (told_at why line) → RefusesAt c r (number_of why) line
  unfolding change
  change_text_lem why line p v = refuses_at c r why line (rw (p, v))

  -- the same, by the first line of the text that is refused (specs/TextJudging)
  pub change_line_refused :
      (number line : ℕ) → is_program c k ≡ true → ChangeJudged x.variable_count (min 32 (card_weight x)) t (refused_in line number) → RefusesAt c r number line
  unfolding change_read verdict_fields
  change_line_refused number line p d = go (change_read x t).verdict refl (change_judged_only x.variable_count (min 32 (card_weight x)) t d)
    where
      go : (v : Verdict) → (change_read x t).verdict ≡ v → verdict_fields v ≡ refused_in line number → RefusesAt c r number line
      go (Ok _) e z = absurd (omega (arith, ap (λ (f : Fields). length f.numbers) z))
      go (Err said) e z =
          subst (λ (m : ℕ). RefusesAt c r m line) (ap (λ (f : Fields). get_or f.numbers 0 0) z)
          (subst (λ (l : ℕ). RefusesAt c r (number_of said.refusal) l) (ap (λ (f : Fields). get_or f.numbers 1 0) z) (change_text_lem said.refusal said.line p e))

  pub change_too_long : is_program c k ≡ true → 16384 < length t → RefusesAt c r 1 0
  unfolding change_read
  change_too_long p l = change_text_lem TooLong 0 p (rw (lt-ltb 16384 (length t) l))

  pub change_too_heavy : (line : ℕ) → is_program c k ≡ true → length t ≤ 16384 → Overweight x t line → RefusesAt c r 14 line
  change_too_heavy line p l w = change_text_lem TooHeavy line p (overweight_judged x t line l w)

  pub change_too_heavy_only : (line : ℕ) → RefusesAt c r 14 line → (is_program c k ≡ true) × (length t ≤ 16384) × Overweight x t line
  change_too_heavy_only line h =
      on_change_why (λ (q : Answered). q.answer ≡ Answer.RefusedAt TooHeavy line → (is_program c k ≡ true) × (length t ≤ 16384) × Overweight x t line) c k from
      t
      (λ p e. clash (cc)) (λ p why at v e. let z = text_says x t TooHeavy line v e in (p, z.0, z.1)) (λ _ _ _ e. clash (cc)) (λ _ _ _ _ e. clash (cc))
      (λ _ _ _ _ e. clash (cc))
      (refused_at_lem TooHeavy line h)

  -- 15: 'G is not above the gate's number'
  pub change_not_ahead : is_program c k ≡ true → (change_read x t).verdict ≡ Ok tt → from ≤ c.gate.seq → RefusesAt c r 15 0
  unfolding change
  change_not_ahead p v l = refuses_at c r NotAhead 0 (rw (p, v, le-ltb _ _ l))

  pub change_not_ahead_only :
      (line : ℕ) → RefusesAt c r 15 line →
      (is_program c k ≡ true) × ((change_read x t).verdict ≡ Ok tt) × (from ≤ c.gate.seq) × (line ≡ 0)
  change_not_ahead_only line h =
      on_change_why
      (λ (q : Answered). q.answer ≡ Answer.RefusedAt NotAhead line →
      (is_program c k ≡ true) × ((change_read x t).verdict ≡ Ok tt) × (from ≤ c.gate.seq) × (line ≡ 0))
      c k from t
      (λ p e. clash (cc)) (λ p why at v e. absurd (text_says x t NotAhead line v e)) (λ p v l e. (p, v, l, cc)) (λ _ _ _ _ e. clash (cc))
      (λ _ _ _ _ e. clash (cc))
      (refused_at_lem NotAhead line h)

  -- 16
  pub change_unsettled :
      is_program c k ≡ true → (change_read x t).verdict ≡ Ok tt → c.gate.seq < from → UnsettledBy c k → RefusesAt c r 16 0
  unfolding change
  change_unsettled p v l u = refuses_at c r Unsettled 0 (rw (p, v, lt-ltb _ _ l, unsettled_given c k u))

  pub change_unsettled_only :
      (line : ℕ) → RefusesAt c r 16 line →
      (is_program c k ≡ true) × ((change_read x t).verdict ≡ Ok tt) × (c.gate.seq < from) × UnsettledBy c k × (line ≡ 0)
  change_unsettled_only line h =
      on_change_why
      (λ (q : Answered). q.answer ≡ Answer.RefusedAt Unsettled line →
      (is_program c k ≡ true) × ((change_read x t).verdict ≡ Ok tt) × (c.gate.seq < from) × UnsettledBy c k × (line ≡ 0)) c k from t
      (λ p e. clash (cc)) (λ p why at v e. absurd (text_says x t Unsettled line v e)) (λ _ _ _ e. clash (cc))
      (λ p v l u e. (p, v, l, unsettled_why c k u, cc)) (λ _ _ _ _ e. clash (cc))
      (refused_at_lem Unsettled line h)

  -- and else it is taken, after the step limit is reached too
  pub change_taken :
      is_program c k ≡ true → (change_read x t).verdict ≡ Ok tt → c.gate.seq < from → (UnsettledBy c k → ⊥) →
      r ≡ changed c k from (change_read x t).program
  unfolding change
  change_taken p v l n = rw (p, v, lt-ltb _ _ l, settled_else c k n)

  -- after a refused change the card is the same card
  pub change_kept : is_refused r.answer ≡ true → r.card ≡ c
  change_kept =
      on_change (λ (q : Answered). is_refused q.answer ≡ true → q.card ≡ c) c (λ _ _. refl) k from t (λ _ _ _. refl) (λ _ _ _ _ e. clash (cc))
