-- A step that is traced is a step: the same card, the same answer, the same refusals (document 02, order 1); refused, it has no report.
use Prim.Native.Nat.{ℕ, ◌<◌}
use mathlib.Core.Path.{◌≡◌, refl, ap, ◌∙◌}
use Rattle.grammar.specs.Writing.{decimal, decimals}
use mathlib.Core.Bool.{true, false, cond}
use Rattle.construction.specs.Types.{Flag, Done, Active, Exit, Announcement, Card, Answer, Answered, Report}
use Rattle.construction.specs.Parts.{Local, local_at}
use Rattle.construction.specs.Machine.{advance}
use Rattle.construction.specs.Requests.{is_process, is_busy, is_idle, returned, answer_of, step}
use Rattle.construction.specs.Answers.{is_refused}
use Rattle.construction.specs.Tracing.{report_of, no_report, trace, untold}
use Rattle.construction.specs.Reports.{AllSpelt, labels}
use Rattle.construction.proofs.Basics.{on_test, cond_true, cond_false}
use Rattle.construction.proofs.Statements.Refusals.{step_accepted}

-- an accepted step is not refused
returned_answers : (a : Announcement) (f : Flag) (steps : ℕ) → is_refused (returned a f steps) ≡ false
returned_answers a Done steps = refl
returned_answers a Active steps = refl
returned_answers a Exit steps = refl

pub answers : (l : Local) → is_refused (answer_of l) ≡ false
answers l =
    on_test (λ (a : Answer). is_refused a ≡ false) (is_idle l.control.place)
    (λ _. returned_answers l.announcement l.announcement.flag l.steps) (λ _. refl)

pub trace_as_step : (c : Card) (i : ℕ) → untold (trace c i) ≡ step c i
unfolding trace
trace_as_step c i = refl

pub trace_refused : (c : Card) (i : ℕ) → is_refused (step c i).answer ≡ true → (trace c i).report ≡ no_report
unfolding trace
trace_refused c i e = cond_true (is_refused (step c i).answer) _ _ e

pub trace_accepted :
    (c : Card) (i : ℕ) → is_process c i ≡ true → is_busy c i ≡ true → c.steps < c.limit →
    trace c i ≡ record { card = advance c i; answer = answer_of (local_at (advance c i) i); report = report_of c i }
unfolding trace
trace_accepted c i p b l =
    ap (λ (r : Answered). record { card = r.card; answer = r.answer; report = cond (is_refused r.answer) no_report (report_of c i) })
    (step_accepted c i p b l)
    ∙ ap (λ (x : Report). record { card = advance c i; answer = answer_of (local_at (advance c i) i); report = x })
    (cond_false (is_refused (answer_of (local_at (advance c i) i))) _ _ (answers (local_at (advance c i) i)))

-- the eighteen labels are printed as the paper writes them
pub labels_spelt : AllSpelt labels
unfolding decimal decimals
labels_spelt =
    (refl, (refl, (refl, (refl, (refl, (refl, (refl, (refl, (refl, (refl, (refl, (refl, (refl, (refl, (refl, (refl, (refl, (refl, tt))))))))))))))))))
