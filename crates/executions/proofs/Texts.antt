-- The text of a listing by its own recursion, as code makes it, is the text of its executions, line by line.
use Prim.Native.Nat.{ℕ, zero, suc, ◌-◌, ◌<◌}
use mathlib.Core.Path.{◌≡◌, refl, sym, subst, ◌∙◌}
use mathlib.Core.Bool.{Bool, true, false, ◌||◌}
use mathlib.Core.List.{List, [], ◌∷◌, ◌++◌, map, append_assoc, append-nil}
use native.Mathlib.Omega.{arith}
use lib.Dec.{eqb}
use borrow.Author.Tests.{eq-eqb, ne_eqb}
use Rattle.grammar.specs.Writing.{decimal}
use Rattle.construction.specs.declared.{card.Card.Card, answers.Answer.Answer}
use Rattle.construction.specs.Answers.{is_refused}
use Rattle.construction.specs.Requests.{step}
use Rattle.construction.proofs.Basics.{true_false}
use Rattle.executions.specs.Schedules.{Execution, empty_execution, preceded, is_quiet, branch, branches, listing}
use Rattle.executions.specs.Listings.{numbers_together, answer_text, answers_text, line_after, lines_after, branch_text, branches_text, text_after}

-- lines
lines_append : (x y : List ℕ) (l m : List Execution) → lines_after x y (l ++ m) ≡ lines_after x y l ++ lines_after x y m
unfolding lines_after
lines_append x y [] m = refl
lines_append x y (e ∷ l) m = rw (lines_append x y l m) (sym (append_assoc (line_after x y e) (lines_after x y l) (lines_after x y m)))

line_preceded : (x y : List ℕ) (i : ℕ) (a : Answer) (e : Execution) → line_after x y (preceded i a e) ≡ line_after (x ++ decimal i) (y ++ answer_text a) e
unfolding numbers_together answers_text
line_preceded x y i a e =
    rw (append_assoc x (decimal i) (numbers_together e.schedule), append_assoc y (answer_text a) (answers_text e.answers)) refl

lines_preceded : (x y : List ℕ) (i : ℕ) (a : Answer) (l : List Execution) →
    lines_after x y (map (preceded i a) l) ≡ lines_after (x ++ decimal i) (y ++ answer_text a) l
unfolding lines_after
lines_preceded x y i a [] = refl
lines_preceded x y i a (e ∷ l) = rw (line_preceded x y i a e, lines_preceded x y i a l)

line_empty : (x y : List ℕ) → line_after x y empty_execution ≡ x ++ (y ++ (10 ∷ []))
unfolding numbers_together answers_text
line_empty x y = rw (append-nil x, append-nil y)

lines_empty : (x y : List ℕ) → lines_after x y (empty_execution ∷ []) ≡ x ++ (y ++ (10 ∷ []))
unfolding lines_after
lines_empty x y = append-nil (line_after x y empty_execution) ∙ line_empty x y

module _ (c : Card) (x y : List ℕ) (rest : Card → List Execution) (text : Card → List ℕ → List ℕ → List ℕ)
    (same : (d : Card) (z w : List ℕ) → text d z w ≡ lines_after z w (rest d)) where
  branch_text_lem : (k : ℕ) (b : Bool) → is_refused (step c k).answer ≡ b → branch_text k (step c k) x y text ≡ lines_after x y (branch k (step c k) rest)
  unfolding lines_after
  branch_text_lem k true e = rw e
  branch_text_lem k false e =
      rw e (same (step c k).card (x ++ decimal k) (y ++ answer_text (step c k).answer)
      ∙ sym (lines_preceded x y k (step c k).answer (rest (step c k).card)))

  branches_text_lem : (m k : ℕ) → branches_text c x y text m k ≡ lines_after x y (branches c rest m k)
  unfolding branches_text branches lines_after
  branches_text_lem zero k = refl
  branches_text_lem (suc m) k =
      rw (branch_text_lem k (is_refused (step c k).answer) refl, branches_text_lem m (suc k))
      (sym (lines_append x y (branch k (step c k) rest) (branches c rest m (suc k))))

text_step :
    (n : ℕ) (c : Card) (x y : List ℕ) → ((d : Card) (z w : List ℕ) → text_after n d z w ≡ lines_after z w (listing n d)) →
    (b : Bool) → is_quiet c c.process_count ≡ b → text_after (suc n) c x y ≡ lines_after x y (listing (suc n) c)
unfolding text_after listing
text_step n c x y h true q = rw q (sym (lines_empty x y))
text_step n c x y h false q = rw q (branches_text_lem c x y (λ d. listing n d) (λ d z w. text_after n d z w) h c.process_count 0)

pub text_after_lem : (n : ℕ) (c : Card) (x y : List ℕ) → text_after n c x y ≡ lines_after x y (listing n c)
unfolding text_after listing
text_after_lem zero c x y = sym (lines_empty x y)
text_after_lem (suc n) c x y = text_step n c x y (λ d z w. text_after_lem n d z w) (is_quiet c c.process_count) refl

past_zero : (n : ℕ) (b : Bool) {t : Bool} → (eqb (suc n) 0 || b) ≡ t → b ≡ t
past_zero n b {t} q = subst (λ (a : Bool). (a || b) ≡ t) (ne_eqb (suc n) 0 (λ z. omega arith)) q

or_false : (a b : Bool) → (a || b) ≡ false → a ≡ false
or_false false b q = refl
or_false true b q = q

-- the text by cases: it ends here, or each process goes on
pub text_ended : (n : ℕ) (c : Card) (x y : List ℕ) → (eqb n 0 || is_quiet c c.process_count) ≡ true → text_after n c x y ≡ x ++ (y ++ (10 ∷ []))
unfolding text_after
text_ended zero c x y q = refl
text_ended (suc n) c x y q = rw (past_zero n (is_quiet c c.process_count) q)

pub text_more :
    (n : ℕ) (c : Card) (x y : List ℕ) → (eqb n 0 || is_quiet c c.process_count) ≡ false →
    (0 < n) × (text_after n c x y ≡ branches_text c x y (λ d z w. text_after (n - 1) d z w) c.process_count 0)
unfolding text_after
text_more zero c x y q = absurd (true_false (eqb 0 0) (eq-eqb 0 0 refl) (or_false (eqb 0 0) (is_quiet c c.process_count) q))
text_more (suc n) c x y q =
    let e : suc n - 1 ≡ n = omega arith in
    (omega arith, rw (past_zero n (is_quiet c c.process_count) q, e))
