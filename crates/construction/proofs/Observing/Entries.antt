-- Calls, exit requests, steps, reads and changes by cases: refused with the card as it was, or taken.
use Rattle.std.specs.Prelude.{Ok, Err}
use Prim.Native.Nat.{ℕ, ◌≤◌, ◌<◌}
use mathlib.Core.Path.{◌≡◌, refl}
use mathlib.Core.Bool.{Bool, true, false, cond, not}
use lib.Dec.{ltb}
use borrow.Author.Tests.{ltb-true, ltb-false, not-true, not-false}
use Rattle.construction.specs.Types.{Words, Card, Refusal, NoProcess, NoProgram, Busy, NotBusy, NoPlace, LimitReached, Answer, Answered, NotAhead}
use Rattle.construction.specs.Types.{Unsettled, Verdict, told_at}
use Rattle.construction.specs.Machine.{advance}
use Rattle.construction.specs.Requests.{is_process, is_program, is_variable, is_busy, refused, call, request_exit, answer_of, step, value_of, read, invoked}
use Rattle.construction.specs.Requests.{exiting}
use Rattle.construction.proofs.Basics.{on_test, and_true}
use Rattle.construction.specs.Parts.{with_local, local_at, contents_of}
use mathlib.Core.List.{List}
use Rattle.construction.specs.Changes.{change_read, is_unsettled, unchanged, changed, if_read, change}

-- by cases on a test that is denied
on_not {ℓ κ} : {A : Type ℓ} (P : A → Type κ) (b : Bool) {x y : A} → P x → (b ≡ true → P y) → P (cond (not b) x y)
on_not P true f g = g refl
on_not P false f g = f

inside : (c : Card) (i : ℕ) → is_process c i ≡ true → i < c.process_count
inside c i e = ltb-true i c.process_count (and_true (ltb i c.process_count) _ e).0

-- a change, with the condition of each refusal
pub on_change_why {κ} :
    (P : Answered → Type κ) (c : Card) (k from : ℕ) (t : List ℕ) →
    (is_program c k ≡ false → P (unchanged c NoProgram 0)) →
    (is_program c k ≡ true → (why : Refusal) (line : ℕ) → (change_read (contents_of c) t).verdict ≡ Err (told_at why line) → P (unchanged c why line)) →
    (is_program c k ≡ true → (change_read (contents_of c) t).verdict ≡ Ok tt → from ≤ c.gate.seq → P (unchanged c NotAhead 0)) →
    (is_program c k ≡ true → (change_read (contents_of c) t).verdict ≡ Ok tt → c.gate.seq < from → is_unsettled c k ≡ true →
    P (unchanged c Unsettled 0))
    →
    (is_program c k ≡ true → (change_read (contents_of c) t).verdict ≡ Ok tt → c.gate.seq < from → is_unsettled c k ≡ false →
    P (changed c k from (change_read (contents_of c) t).program)) →
    P (change c k from t)
unfolding change
on_change_why P c k from t none text late unsettled taken =
    on_test P (not (is_program c k)) (λ p. none (not-true _ p))
    (λ p. by (not-false _ p) (change_read (contents_of c) t).verdict refl
    (λ a. on_test P (not (ltb c.gate.seq from)) (λ l. late (not-false _ p) a (ltb-false _ _ (not-true _ l)))
    (λ l. on_test P (is_unsettled c k) (unsettled (not-false _ p) a (ltb-true _ _ (not-false _ l))) (taken (not-false _ p) a (ltb-true _ _ (not-false _ l))))))
  where
    by : is_program c k ≡ true → (v : Verdict) → (change_read (contents_of c) t).verdict ≡ v → {r : Answered} → (v ≡ Ok tt → P r) → P (if_read v c r)
    by p (Ok _) e f = f refl
    by p (Err said) e f = text p said.refusal said.line e

module _ {κ} (P : Answered → Type κ) (c : Card) (turned_back : (r : Refusal) → P (refused c r)) where
  pub on_call :
      (i k : ℕ) (inputs : Words) →
      (i < c.process_count → is_program c k ≡ true → is_busy c i ≡ false →
      P (record { card = with_local c i (invoked (local_at c i) k inputs); answer = Answer.Taken })) →
      P (call c i k inputs)
  unfolding call
  on_call i k inputs taken =
      on_not P (is_process c i) (turned_back NoProcess)
      (λ p. on_not P (is_program c k) (turned_back NoProgram)
      (λ q. on_test P (is_busy c i) (λ _. turned_back Busy) (taken (inside c i p) q)))

  pub on_exit :
      (i : ℕ) →
      (i < c.process_count → is_busy c i ≡ true → P (record { card = with_local c i (exiting (local_at c i)); answer = Answer.Taken })) →
      P (request_exit c i)
  unfolding request_exit
  on_exit i taken =
      on_not P (is_process c i) (turned_back NoProcess) (λ p. on_not P (is_busy c i) (turned_back NotBusy) (taken (inside c i p)))

  pub on_step :
      (i : ℕ) →
      (i < c.process_count → is_busy c i ≡ true → c.steps < c.limit →
      P (record { card = advance c i; answer = answer_of (local_at (advance c i) i) })) →
      P (step c i)
  unfolding step
  on_step i taken =
      on_not P (is_process c i) (turned_back NoProcess)
      (λ p. on_not P (is_busy c i) (turned_back NotBusy)
      (λ b. on_not P (ltb c.steps c.limit) (turned_back LimitReached) (λ l. taken (inside c i p) b (ltb-true _ _ l))))

  pub on_read :
      (v : ℕ) → (is_variable c v ≡ true → P (record { card = c; answer = Answer.Value (value_of c v) })) → P (read c v)
  unfolding read
  on_read v taken = on_not P (is_variable c v) (turned_back NoPlace) taken

  pub on_change :
      (k from : ℕ) (t : List ℕ) → ((why : Refusal) (line : ℕ) → P (unchanged c why line)) →
      (is_program c k ≡ true → (change_read (contents_of c) t).verdict ≡ Ok tt → c.gate.seq < from → is_unsettled c k ≡ false →
      P (changed c k from (change_read (contents_of c) t).program)) →
      P (change c k from t)
  on_change k from t back taken =
      on_change_why P c k from t (λ _. back NoProgram 0) (λ _ why line _. back why line) (λ _ _ _. back NotAhead 0) (λ _ _ _ _. back Unsettled 0) taken
