-- Whether a request is taken, by numbers and the place of its process: refusals 5 to 8, 10, 15 and 16 in their order. These are the tests of `call`,
-- `request_exit`, `step` and `change` of construction without the card that those give: the functions that judge have none. `call_refused`, `call_taken`
-- and their like for the others (card/proofs/Requests, changing/proofs/Laws) say that the two agree.
use Rattle.std.specs.Prelude.{ℕ, Result, Ok, Err, Bool, cond, not, ◌&&◌, ◌||◌, ltb}
use Rattle.construction.specs.declared.{accesses.Label.Label, answers.Refusal.Refusal, answers.Answer.Answer}
use Rattle.construction.specs.declared.answers.Refusal.TheVariants.{NoProcess, NoProgram, Busy, NotBusy, LimitReached, NotAhead, Unsettled}
use Rattle.construction.specs.Requests.{is_idle}
use Rattle.construction.specs.Types.{Verdict}

-- code judges a request with a Result: the answer that it stands for, of a request but a change, and of a change, whose refusals have a line
abbrev pub answer_of_judged : Result (Unit {0}) Refusal → Answer
answer_of_judged (Ok x) = Answer.Taken
answer_of_judged (Err r) = Answer.Refused r

abbrev pub answer_of_change : Verdict → Answer
answer_of_change (Ok x) = Answer.Taken
answer_of_change (Err e) = Answer.RefusedAt e.refusal e.line

-- the first of three tests that fails gives its refusal
abbrev pub judged : Bool → Refusal → Bool → Refusal → Bool → Refusal → Answer
judged a r b s d t =
    cond (not a) (Answer.Refused r) (cond (not b) (Answer.Refused s) (cond (not d) (Answer.Refused t) Answer.Taken))

abbrev pub call_judged : ℕ → ℕ → ℕ → ℕ → Label → Answer
call_judged i p k s place = judged (ltb i p && ltb i 8) NoProcess (ltb k s && ltb k 8) NoProgram (is_idle place) Busy

abbrev pub exit_judged : ℕ → ℕ → Label → Answer
exit_judged i p place =
    cond (not (ltb i p && ltb i 8)) (Answer.Refused NoProcess)
    (cond (not (not (is_idle place))) (Answer.Refused NotBusy) Answer.Taken)

abbrev pub step_judged : ℕ → ℕ → Label → ℕ → ℕ → Answer
step_judged i p place steps limit =
    judged (ltb i p && ltb i 8) NoProcess (not (is_idle place)) NotBusy (ltb steps limit) LimitReached

-- a change of program k (document 02, order 11): a text that is refused gives the refusal with its line; the gate has this number, the program's last
-- change holds from `last`, and an operation under way may be behind that
abbrev pub if_text_accepted : Verdict → Answer → Answer
if_text_accepted (Ok _) x = x
if_text_accepted (Err e) x = Answer.RefusedAt e.refusal e.line

abbrev pub change_judged : ℕ → ℕ → Verdict → ℕ → ℕ → ℕ → Bool → Answer
change_judged k s verdict number from last behind =
    cond (not (ltb k s && ltb k 8)) (Answer.RefusedAt NoProgram 0)
    (if_text_accepted verdict
    (cond (not (ltb number from)) (Answer.RefusedAt NotAhead 0)
    (cond (ltb number last || behind) (Answer.RefusedAt Unsettled 0) Answer.Taken)))
