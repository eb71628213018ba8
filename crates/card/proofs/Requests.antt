-- The requests by the tests that judge them
use Rattle.std.proofs.Common.{◌≡◌, ℕ, ◌%◌, ◌<◌, Bool, true, false, cond, not, ltb, length, get_or, sym, refl, ◌∙◌, true≢false, mod-eq_of_lt}
use borrow.Author.Tests.{not-false}
use Rattle.construction.specs.declared.{cells.Words.Words, cells.Announcement.Announcement, accesses.Control.Control, card.Card.Card, answers.Refusal.Refusal}
use Rattle.construction.specs.declared.{answers.Answer.Answer, answers.Answered.Answered}
use Rattle.construction.specs.declared.answers.Refusal.TheVariants.{NoProcess, NoProgram, Busy, NotBusy, NoPlace, LimitReached}
use Rattle.construction.specs.Cells.{open_announcement}
use Rattle.construction.specs.Parts.{idle_control, record_at, local_at, with_local}
use Rattle.construction.specs.Machine.{holder_of, advance}
use Rattle.construction.specs.Requests.{is_process, is_program, is_idle, refused, invoked, exiting, answer_of, is_variable, shown, value_of, call, request_exit, step}
use Rattle.construction.specs.Requests.{read}
use Rattle.construction.specs.Answers.{is_refused}
use Rattle.requests.specs.Judging.{judged, call_judged, exit_judged, step_judged}
use Rattle.requests.proofs.Arrays.{found, in_room, judged_there}

-- a step that was accepted
abbrev pub stepped_at : Card → ℕ → Answered
stepped_at c i = record { card = advance c i; answer = answer_of (local_at (advance c i) i) }

-- an answer refuses, or it is taken
apart : (x : Answer) (r : Refusal) → x ≡ Answer.Refused r → is_refused x ≡ false → ⊥
apart x r e h = true≢false (rw e at h)

taken_not : (x : Answer) → x ≡ Answer.Taken → is_refused x ≡ true → ⊥
taken_not x e h = true≢false (sym (rw e at h))

-- a request by its three tests: it is refused, ..
module _ (c : Card) (r s t : Refusal) where
  abbrev by : Bool → Bool → Bool → Answered → Answered
  by a b d y = cond (not a) (refused c r) (cond (not b) (refused c s) (cond (not d) (refused c t) y))

  refuses :
      (a b d : Bool) (x : Answer) (y : Answered) → x ≡ judged a r b s d t → is_refused x ≡ true →
      record { card = c; answer = x } ≡ by a b d y
  refuses false b d x y e h = rw e
  refuses true false d x y e h = rw e
  refuses true true false x y e h = rw e
  refuses true true true x y e h = absurd (taken_not x e h)

  -- .. or taken, and then every test was passed
  record Passed (a b d : Bool) (x : Answer) : Type 0 where
    first : a ≡ true
    next : b ≡ true
    last : d ≡ true
    taken : x ≡ Answer.Taken

  passes : (a b d : Bool) (x : Answer) → x ≡ judged a r b s d t → is_refused x ≡ false → Passed a b d x
  passes true true true x e h = record { first = refl; next = refl; last = refl; taken = e }
  passes false b d x e h = absurd (apart x r e h)
  passes true false d x e h = absurd (apart x s e h)
  passes true true false x e h = absurd (apart x t e h)

module _ (c : Card) (i : ℕ) where
  -- the control that is judged stands at place i mod 8: where that is another, process i is not there
  abbrev judged_control : Control
  judged_control = get_or c.controls (i % 8) idle_control

  same_control_lem : {A : Type 0} (none : A) (f : Control → A) →
      cond (not (is_process c i)) none (f judged_control) ≡ cond (not (is_process c i)) none (f (local_at c i).control)
  same_control_lem none f = judged_there c.controls i c.process_count 8 idle_control none f

  module _ (k : ℕ) (x : Answer) (told : x ≡ call_judged i c.process_count k c.program_count judged_control.place) where
    call_told : x ≡ call_judged i c.process_count k c.program_count (local_at c i).control.place
    call_told = told ∙ same_control_lem (Answer.Refused NoProcess)
        (λ (t : Control). cond (not (is_program c k)) (Answer.Refused NoProgram) (cond (not (is_idle t.place)) (Answer.Refused Busy) Answer.Taken))

    pub call_refused : (inputs : Words) → is_refused x ≡ true → record { card = c; answer = x } ≡ call c i k inputs
    unfolding call
    call_refused inputs h = refuses c NoProcess NoProgram Busy (is_process c i) (is_program c k) (is_idle (local_at c i).control.place) x _ call_told h

    pub call_taken :
        (inputs : Words) → is_refused x ≡ false → (d : Card) → (i < 8 → d ≡ with_local c i (invoked (local_at c i) k inputs)) →
        record { card = d; answer = x } ≡ call c i k inputs
    unfolding call
    call_taken inputs h d e =
        let p = passes c NoProcess NoProgram Busy (is_process c i) (is_program c k) (is_idle (local_at c i).control.place) x call_told h in
        rw (p.first, p.next, p.last, p.taken, e (in_room i c.process_count 8 p.first))

    pub small_program : is_refused x ≡ false → k < 8
    small_program h =
        let p = passes c NoProcess NoProgram Busy (is_process c i) (is_program c k) (is_idle (local_at c i).control.place) x call_told h in
        in_room k c.program_count 8 p.next

  module _ (x : Answer) (told : x ≡ exit_judged i c.process_count judged_control.place) where
    exit_told : x ≡ exit_judged i c.process_count (local_at c i).control.place
    exit_told = told ∙ same_control_lem (Answer.Refused NoProcess) (λ (t : Control). cond (not (not (is_idle t.place))) (Answer.Refused NotBusy) Answer.Taken)

    pub exit_refused : is_refused x ≡ true → record { card = c; answer = x } ≡ request_exit c i
    unfolding request_exit
    exit_refused h = refuses c NoProcess NotBusy NotBusy (is_process c i) (not (is_idle (local_at c i).control.place)) true x _ exit_told h

    pub exit_taken :
        is_refused x ≡ false → (d : Card) → (i < 8 → d ≡ with_local c i (exiting (local_at c i))) →
        record { card = d; answer = x } ≡ request_exit c i
    unfolding request_exit
    exit_taken h d e =
        let p = passes c NoProcess NotBusy NotBusy (is_process c i) (not (is_idle (local_at c i).control.place)) true x exit_told h in
        rw (p.first, p.next, p.taken, e (in_room i c.process_count 8 p.first))

  module _ (x : Answer) (told : x ≡ step_judged i c.process_count judged_control.place c.steps c.limit) where
    step_told : x ≡ step_judged i c.process_count (local_at c i).control.place c.steps c.limit
    step_told = told ∙ same_control_lem (Answer.Refused NoProcess)
        (λ (t : Control). cond (not (not (is_idle t.place))) (Answer.Refused NotBusy)
        (cond (not (ltb c.steps c.limit)) (Answer.Refused LimitReached) Answer.Taken))

    pub step_refused : is_refused x ≡ true → record { card = c; answer = x } ≡ step c i
    unfolding step
    step_refused h = refuses c NoProcess NotBusy LimitReached (is_process c i) (not (is_idle (local_at c i).control.place)) (ltb c.steps c.limit) x _
        step_told h

    pub step_taken : is_refused x ≡ false → (y : Answered) → y ≡ stepped_at c (i % 8) → y ≡ step c i
    unfolding step
    step_taken h y e =
        let p = passes c NoProcess NotBusy LimitReached (is_process c i) (not (is_idle (local_at c i).control.place)) (ltb c.steps c.limit) x step_told
        h in
        e ∙ rw (p.first, p.next, p.last, mod-eq_of_lt (in_room i c.process_count 8 p.first))

-- a read by the pieces that it looks at
module _ (c : Card) (v : ℕ) (b : Bool) (told : b ≡ is_variable c v) where
  pub read_refused : not b ≡ true → record { card = c; answer = Answer.Refused NoPlace } ≡ read c v
  unfolding read
  read_refused h = rw (← told, h)

  pub variable_room : not b ≡ false → v < 64
  variable_room h = in_room v c.variable_count 64 (sym told ∙ not-false b h)

  pub read_shown :
      not b ≡ false → length c.announcements ≡ 8 → (m : ℕ) → m ≡ holder_of c.gate.holder →
      (a : Announcement) → a ≡ cond (ltb m 8) (get_or c.announcements (m % 8) open_announcement) open_announcement →
      (x : ℕ) → x ≡ shown c.gate a (record_at c v) → record { card = c; answer = Answer.Value x } ≡ read c v
  unfolding read value_of
  read_shown h full m em a ea x ex =
      rw (← told, h, ex, found c.announcements 8 full m open_announcement open_announcement a ea, em)
