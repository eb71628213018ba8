use Rattle.std.proofs.Common.{◌≡◌, ◌%◌, cond, ltb, [], get_or, refl, sym, ◌∙◌, ⊎_elim, mod-eq_of_lt, arith, le-ltb, lt-ltb, length}
use lib.Seq.{set-get_or}
use Rattle.construction.specs.declared.answers.Answered.{Answered}
use Rattle.construction.specs.declared.programs.Program.{Program}
use Rattle.construction.specs.Parts.{local_at, texts_of, program_of}
use Rattle.construction.specs.Requests.{step}
use Rattle.requests.proofs.Arrays as arrays
use Rattle.card.proofs.Requests as requests
use Rattle.card.proofs.Accesses as accesses
use Rattle.card.proofs.step.Goals as goal
use Rattle.card.proofs.step.Goals.{After-access_of-access, After-program_at, After-program_at-in-Note}

-- where the access is chosen: the step is accepted
step_is :
    (c : After-access_of-access) → let a = c.args in (y : Answered) → y ≡ requests.stepped_at a.card (a.process % 8) → y
    ≡ step a.card a.process
step_is c = requests.step_taken _ _ _ (c.in_default.ensures {u = tt}) refl

accepted :
    (c : After-access_of-access) → let a = c.args in accesses.Accepted a.card (a.process % 8) c.wrapping_add_u64.result
    c.wrapping_add_u64-steps.result c.access_of-access.result
accepted c = record {
  full_arrays = arrays.full_arrays c.args.card _ c.well_formed.0;
  process = omega arith;
  counted = c.wrapping_add_u64.ensures.value;
  own = c.wrapping_add_u64-steps.ensures.value;
  chosen = c.access_of-access.ensures;
}

-- what stands at a place past the end of an array of programs, to the code
abbrev blank : Program
blank = record { length = 0; lines = [] }

-- the text that a helper runs: at P16, and at H21
begun_text :
    (c : After-program_at) → let a = c.args in c.program_at.result ≡ program_of (texts_of a.card)
    c.announcement_at-cell.result.program (local_at a.card (a.process % 8)).gate.seq
begun_text c =
    let a = c.args in
    let k = c.announcement_at-cell.result.program in
    let number = (local_at a.card (a.process % 8)).gate.seq in
    let chosen : c.if-gate-c.stored ≡ cond (ltb number (get_or a.card.from (k % 8) 0))
    (get_or a.card.earlier (k % 8) blank) (get_or a.card.later (k % 8) blank) = ⊎_elim
    (λ w. rw (lt-ltb _ _ w.if-gate-c.true) w.stored-is) (λ w. rw (le-ltb _ _ w.if-gate-c.false) w.stored-is) c.if-gate-c.branch-raw in
    accesses.text_found a.card
    (arrays.full_arrays c.args.card _ c.well_formed.0) k number blank _ _
    chosen c.program_at.ensures

noted_text :
    (c : After-program_at-in-Note) → let a = c.args in let l = local_at a.card (a.process % 8) in
    c.program_at-in-Note.result ≡ program_of (texts_of a.card) l.announcement.program l.gate.seq
noted_text c =
    let a = c.args in
    let k = (local_at a.card (a.process % 8)).announcement.program in
    let number = (local_at a.card (a.process % 8)).gate.seq in
    let chosen : c.if-gate-c-2.held ≡ cond (ltb number (get_or a.card.from (k % 8) 0))
    (get_or a.card.earlier (k % 8) blank) (get_or a.card.later (k % 8) blank) = ⊎_elim
    (λ w. rw (lt-ltb _ _ w.if-gate-c-2.true) w.held-is) (λ w. rw (le-ltb _ _ w.if-gate-c-2.false) w.held-is) c.if-gate-c-2.branch-raw in
    accesses.text_found a.card (arrays.full_arrays c.args.card _ c.well_formed.0) k number blank _ _
    chosen c.program_at-in-Note.ensures

pub returns-in-Err : goal.returns-in-Err
returns-in-Err c = c.refused.ensures ∙ requests.step_refused _ _ _ c.in-Err.ensures refl

pub returns-in-None : goal.returns-in-None
returns-in-None c =
    step_is (goal.at.returns-in-None c).After-access_of-access _
    (accesses.at_none (accepted (goal.at.returns-in-None c).After-access_of-access) _ c.in-None.is
    c.answer_of-answer.ensures)

pub returns-in-Gate : goal.returns-in-Gate
returns-in-Gate c =
    step_is (goal.at.returns-in-Gate c).After-access_of-access _
    (accesses.at_gate_lem (accepted (goal.at.returns-in-Gate c).After-access_of-access) _ _ c.in-Gate.is _
    c.access_gate-after.ensures c.answer_of-answer-in-Gate.ensures)

pub returns-then-m-lt8 : goal.returns-then-m-lt8
returns-then-m-lt8 c =
    step_is (goal.at.returns-then-m-lt8 c).After-access_of-access _
    (accesses.at_announcement_lem (accepted (goal.at.returns-then-m-lt8 c).After-access_of-access) _ _
    c.in-Announcement.is _ c.whose-m.ensures _ c.announcement_at.ensures _ c.access_announcement-after.ensures
    c.answer_of-answer-in-Announcement.ensures _ (rw (mod-eq_of_lt c.if-m-lt8.true)))

pub returns-else-m-lt8 : goal.returns-else-m-lt8
returns-else-m-lt8 c =
    step_is (goal.at.returns-else-m-lt8 c).After-access_of-access _
    (accesses.at_announcement_lem (accepted (goal.at.returns-else-m-lt8 c).After-access_of-access) _ _
    c.in-Announcement.is _ c.whose-m.ensures _ c.announcement_at.ensures _ c.access_announcement-after.ensures
    c.answer_of-answer-in-Announcement.ensures _ (arrays.not_stored _ _ (accepted (goal.at.returns-else-m-lt8
    c).After-access_of-access).full_arrays.announcements _ _ c.if-m-lt8.false))

pub returns-in-Ok : goal.returns-in-Ok
returns-in-Ok c =
    let at = goal.at.returns-in-Ok c in
    step_is at.After-access_of-access _
    (accesses.at_begun (accepted at.After-access_of-access) _ c.in-Help.is _ c.holder_of-m.ensures _ c.announcement_at-cell.ensures _
    (begun_text at.After-program_at) _ c.begin_help-began.ensures _ c.in-Ok.is c.answer_of.ensures _ (rw c.empty.ensures))

pub returns-in-Err-began : goal.returns-in-Err-began
returns-in-Err-began c =
    let at = goal.at.returns-in-Err-began c in
    step_is at.After-access_of-access _
    (accesses.at_passed (accepted at.After-access_of-access) _ c.in-Help.is _ c.holder_of-m.ensures _ c.announcement_at-cell.ensures _
    (begun_text at.After-program_at) _ c.begin_help-began.ensures _ c.in-Err-began.is c.answer_of-in-Err-began.ensures)

pub returns-after-gate-c-2 : goal.returns-after-gate-c-2
returns-after-gate-c-2 c =
    step_is (goal.at.returns-after-gate-c-2 c).After-access_of-access _
    (accesses.at_note (accepted (goal.at.returns-after-gate-c-2 c).After-access_of-access) _ c.in-Note.is _
    c.record_at.ensures _ (noted_text (goal.at.returns-after-gate-c-2 c).After-program_at-in-Note) _
    c.note-helped.ensures c.answer_of-answer-in-Note.ensures)

pub returns-then-v-lt64 : goal.returns-then-v-lt64
returns-then-v-lt64 c =
    step_is (goal.at.returns-then-v-lt64 c).After-access_of-access _
    (accesses.at_write (accepted (goal.at.returns-then-v-lt64 c).After-access_of-access) _ c.in-Write.is _
    c.writing-written.ensures _ c.record_at-in-Write.ensures _ c.write-swapped.ensures
    c.answer_of-answer-in-Write.ensures _ (rw (mod-eq_of_lt c.if-v-lt64.true)))

pub returns-else-v-lt64 : goal.returns-else-v-lt64
returns-else-v-lt64 c =
    step_is (goal.at.returns-else-v-lt64 c).After-access_of-access _
    (accesses.at_write (accepted (goal.at.returns-else-v-lt64 c).After-access_of-access) _ c.in-Write.is _
    c.writing-written.ensures _ c.record_at-in-Write.ensures _ c.write-swapped.ensures
    c.answer_of-answer-in-Write.ensures _ (arrays.not_stored _ _ (accepted (goal.at.returns-else-v-lt64
    c).After-access_of-access).full_arrays.records _ _ c.if-v-lt64.false))
