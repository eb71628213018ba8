-- The table of 'Turned back' (document 01): each refusal of a request is given, by its number and with the card as it was, when its condition
-- holds and no lower one of the same request does; otherwise the request is taken. Rows 1 and 11 likewise, for a text and for a lent buffer.
use Prim.Native.Nat.{ℕ, ◌<◌, ◌≤◌}
use mathlib.Core.Path.{◌≡◌, refl, ap}
use mathlib.Core.Bool.{Bool, true, false}
use mathlib.Core.List.{List, [], ◌∷◌}
use lib.ListN.{length}
use borrow.Author.Tests.{lt-ltb, le-ltb, le-leb, lt-leb}
use Rattle.grammar.specs.Reading.{has_word}
use Rattle.construction.specs.Types.{Flag, Done, Active, Exit, Words, Announcement, Card, Refusal, NoProcess, NoProgram, Busy, NotBusy, NoPlace}
use Rattle.construction.specs.Types.{LimitReached, Answer, Answered}
use Rattle.construction.specs.Answers.{number_of, fields, done_word, refused_with, answer_fields, verdict_fields, written_fields, Refuses}
use Rattle.construction.specs.Machine.{advance}
use Rattle.construction.specs.Parts.{local_at, with_local, Local}
use Rattle.construction.specs.Requests.{is_process, is_program, is_variable, is_busy, refused, call, request_exit, returned, answer_of, step, value_of, read}
use Rattle.construction.specs.Requests.{invoked, exiting, is_idle}
use Rattle.construction.specs.Opening.{read_card, opened}
use Rattle.construction.specs.Writing.{text_of, written, written_into}
use Rattle.construction.proofs.Basics.{on_test, true_false}
use Rattle.construction.proofs.Statements.AnswerFields.{is_refusal, answer_known}
use Rattle.construction.proofs.Observing.Entries.{on_call, on_exit, on_step, on_read}

-- a refused request gives the number of its refusal and the card as it was, and no other answer does
refuses : (c : Card) (r : Answered) (why : Refusal) → r ≡ refused c why → Refuses c r (number_of why)
unfolding answer_fields
refuses c r why e = rw e (record { refusal = refl; kept = refl })

pub refuses_only : (c : Card) (r : Answered) (why : Refusal) → Refuses c r (number_of why) → r ≡ refused c why
unfolding answer_fields
refuses_only c r why h =
    let a : r.answer ≡ Answer.Refused why = answer_known r.answer (Answer.Refused why) h.refusal in
    λ i. record { card = h.kept i; answer = a i }

module _ (c : Card) (i k : ℕ) (inputs : Words) where
  pub call_no_process : is_process c i ≡ false → Refuses c (call c i k inputs) 5
  unfolding call
  call_no_process p = refuses c (call c i k inputs) NoProcess (rw p)

  pub call_no_program : is_process c i ≡ true → is_program c k ≡ false → Refuses c (call c i k inputs) 6
  unfolding call
  call_no_program p q = refuses c (call c i k inputs) NoProgram (rw (p, q))

  pub call_busy : is_process c i ≡ true → is_program c k ≡ true → is_busy c i ≡ true → Refuses c (call c i k inputs) 7
  unfolding call
  call_busy p q b = refuses c (call c i k inputs) Busy (rw (p, q, b))

  pub call_taken :
      is_process c i ≡ true → is_program c k ≡ true → is_busy c i ≡ false →
      call c i k inputs ≡ record { card = with_local c i (invoked (local_at c i) k inputs); answer = Answer.Taken }
  unfolding call
  call_taken p q b = rw (p, q, b)

module _ (c : Card) (i : ℕ) where
  pub exit_no_process : is_process c i ≡ false → Refuses c (request_exit c i) 5
  unfolding request_exit
  exit_no_process p = refuses c (request_exit c i) NoProcess (rw p)

  pub exit_not_busy : is_process c i ≡ true → is_busy c i ≡ false → Refuses c (request_exit c i) 8
  unfolding request_exit
  exit_not_busy p b = refuses c (request_exit c i) NotBusy (rw (p, b))

  pub exit_taken :
      is_process c i ≡ true → is_busy c i ≡ true → request_exit c i ≡ record { card = with_local c i (exiting (local_at c i)); answer = Answer.Taken }
  unfolding request_exit
  exit_taken p b = rw (p, b)

  pub step_no_process : is_process c i ≡ false → Refuses c (step c i) 5
  unfolding step
  step_no_process p = refuses c (step c i) NoProcess (rw p)

  pub step_not_busy : is_process c i ≡ true → is_busy c i ≡ false → Refuses c (step c i) 8
  unfolding step
  step_not_busy p b = refuses c (step c i) NotBusy (rw (p, b))

  pub step_limit : is_process c i ≡ true → is_busy c i ≡ true → c.limit ≤ c.steps → Refuses c (step c i) 10
  unfolding step
  step_limit p b l = refuses c (step c i) LimitReached (rw (p, b, le-ltb _ _ l))

  pub step_accepted :
      is_process c i ≡ true → is_busy c i ≡ true → c.steps < c.limit →
      step c i ≡ record { card = advance c i; answer = answer_of (local_at (advance c i) i) }
  unfolding step
  step_accepted p b l = rw (p, b, lt-ltb _ _ l)

  pub read_no_place : is_variable c i ≡ false → Refuses c (read c i) 9
  unfolding read
  read_no_place p = refuses c (read c i) NoPlace (rw p)

  pub read_value : is_variable c i ≡ true → read c i ≡ record { card = c; answer = Answer.Value (value_of c i) }
  unfolding read
  read_value p = rw p

-- row 1, at line 0
pub text_too_long : (t : List ℕ) → 16384 < length t → verdict_fields (opened t).verdict ≡ fields "refused" (1 ∷ 0 ∷ [])
unfolding opened read_card verdict_fields
text_too_long t l = rw (lt-ltb 16384 (length t) l)

-- row 11, and the length else
pub write_short :
    (c : Card) (b : List ℕ) → length b < length (text_of c) →
    (written_fields (written c b) ≡ refused_with 11) × (written_into c b ≡ b)
unfolding written written_into written_fields
write_short c b l = (rw (lt-leb _ _ l), rw (lt-leb _ _ l))

pub write_fits :
    (c : Card) (b : List ℕ) → length (text_of c) ≤ length b → written_fields (written c b) ≡ fields "" (length (text_of c) ∷ [])
unfolding written written_fields
write_fits c b l = rw (le-leb _ _ l)

-- 'Elsewhere the card .. remain[s] as [it was]': an answer that refuses, whatever its number, comes with the same card
pub record Kept (c : Card) (r : Answered) : Type 0 where
  pub kept : (number : ℕ) → answer_fields r.answer ≡ refused_with number → r.card ≡ c

same : (c : Card) (r : Refusal) → Kept c (refused c r)
same c r = record { kept = λ number e. refl }

-- an answer that is no refusal
abbrev Accepts : Answer → Type 0
Accepts a = is_refusal (answer_fields a) ≡ false

other : (c d : Card) (a : Answer) → Accepts a → Kept c (record { card = d; answer = a })
unfolding has_word
other c d a h = record { kept = λ number e. absurd (true_false _ (ap is_refusal e) h) }

taken : Accepts Answer.Taken
unfolding answer_fields has_word
taken = refl

done_accepts : (fault : Bool) → is_refusal (fields (done_word fault) []) ≡ false
unfolding has_word
done_accepts true = refl
done_accepts false = refl

returns : (a : Announcement) (f : Flag) (k : ℕ) → Accepts (returned a f k)
unfolding answer_fields has_word
returns a Done k = done_accepts a.fault
returns a Active k = done_accepts a.fault
returns a Exit k = refl

running : Accepts Answer.Run
unfolding answer_fields has_word
running = refl

accepted : (l : Local) → Accepts (answer_of l)
accepted l = on_test Accepts (is_idle l.control.place) (λ _. returns l.announcement l.announcement.flag l.steps) (λ _. running)

pub call_kept : (c : Card) (i k : ℕ) (inputs : Words) → Kept c (call c i k inputs)
call_kept c i k inputs = on_call (Kept c) c (same c) i k inputs (λ _ _ _. other c _ Answer.Taken taken)

pub exit_kept : (c : Card) (i : ℕ) → Kept c (request_exit c i)
exit_kept c i = on_exit (Kept c) c (same c) i (λ _ _. other c _ Answer.Taken taken)

pub step_kept : (c : Card) (i : ℕ) → Kept c (step c i)
step_kept c i = on_step (Kept c) c (same c) i (λ _ _ _. other c _ _ (accepted (local_at (advance c i) i)))

-- a read never changes the card
pub read_kept : (c : Card) (v : ℕ) → (read c v).card ≡ c
read_kept c v = on_read (λ (r : Answered). r.card ≡ c) c (λ _. refl) v (λ _. refl)
