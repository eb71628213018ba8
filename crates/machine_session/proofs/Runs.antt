-- A SESSION IS A LIST OF REQUESTS (document 02, order 14): what the crate shared_runs says of every list of requests to machines that share a processor, it
-- says of every session of the program `machines`.
use Prim.Native.Nat.{ℕ, ◌+◌, ◌≤◌}
use mathlib.Core.Path.{◌≡◌, refl, sym, ap, ◌∙◌}
use mathlib.Core.Bool.{true, false}
use mathlib.Core.Logic.{◌⊎◌, inl, inr}
use mathlib.Core.List.{List, [], ◌∷◌, ◌++◌}
use lib.Dec.{leb, ltb}
use lib.ListN.{length, get_or, take, drop}
use borrow.Author.Tests.{ltb-true, ltb-false}
use Rattle.grammar.specs.Reading.{has_word}
use Rattle.grammar.specs.Writing.{place_after}
use Rattle.grammar.proofs.Cases.{on_test, clash}
use Rattle.construction.specs.declared.{answers.Answer.Answer, answers.Report.Report}
use Rattle.construction.specs.declared.answers.Refusal.TheVariants.{Malformed}
use Rattle.construction.specs.Tracing.{no_report}
use Rattle.construction.specs.History.{Entry}
use Rattle.construction.proofs.Basics.{true_or_false}
use Rattle.std.specs.Prelude.{Option, Some, None}
use Rattle.grammar.specs.declared.Found.{Found}
use Rattle.commands.specs.declared.{Command.Command}
use Rattle.commands.specs.Commands.{part, word, verb_at, fields_at}
use Rattle.commands.proofs.Fitting.{FitsCommand, fields_fit}
use Rattle.allowance.specs.Requests as sharing
use Rattle.lent_runs.specs.Runs.{Reply, untraced}
use Rattle.shared_runs.specs.Runs.{Shared, shared_after, shared_reply, shared_run, shared_replies, AllFitRequests}
use Rattle.machine_commands.specs.declared.{Request.Request, Line.Line}
use Rattle.machine_commands.specs.Requests.{turn_line, after_machine, request, requests}
use Rattle.machine_commands.specs.Printing.{line_text, longest}
use Rattle.machine_commands.proofs.RequestsLaws.{requests_end, requests_more, requests_induction}
use Rattle.machine_session.specs.declared.{State.State, Printed.Printed}
use Rattle.machine_session.specs.Answering.{Executed, untold, told_of, performed, executed}
use Rattle.machine_session.specs.Session.{Stage, stage, line_of, after_line, lines_of, lines_text, Gathered, gather, fitting, Prints}
use Rattle.machine_session.specs.Runs.{asked, requests_named, last_stage, shared_in, lines_with}

-- ---- a line: it asks nothing, and everything stays; or it makes one request
abbrev unasked : Shared → Executed
unasked s = record { told = untold s.allowance (Answer.Refused Malformed); blocks = s.blocks; loans = s.loans }

abbrev made : Shared → sharing.Request Entry → Executed
made s r =
    let y = shared_after 768 s r in
    record { told = told_of y.allowance (shared_reply 768 s r); blocks = y.blocks; loans = y.loans }

on_line :
    (t : List ℕ) (s : Shared) (P : List (sharing.Request Entry) → Executed → Type 0) (q : Request) → P [] (unasked s) →
    ((r : sharing.Request Entry) → P (r ∷ []) (made s r)) → P (asked t q) (executed t s.allowance s.blocks s.loans q)
unfolding executed performed
on_line t s P Request.Turn none one = one sharing.Request.Turn
on_line t s P (Request.To m (Command.Call i k x)) none one = one (sharing.Request.To m (Entry.Call i k x))
on_line t s P (Request.To m (Command.Exit i)) none one = one (sharing.Request.To m (Entry.Exit i))
on_line t s P (Request.To m (Command.Step i)) none one = one (sharing.Request.To m (Entry.Step i))
on_line t s P (Request.To m (Command.Trace i)) none one = one (sharing.Request.To m (Entry.Trace i))
on_line t s P (Request.To m (Command.Read v)) none one = one (sharing.Request.To m (Entry.Read v))
on_line t s P (Request.To m (Command.Change k from count start end)) none one = one (sharing.Request.To m (Entry.Change k from (part t start end)))
on_line t s P (Request.To m Command.Malformed) none one = none

-- ---- the lines one after the other
abbrev after : Stage → Line → Executed → Stage
after s m x = stage (record { allowance = x.told.allowance; at = m.next; line = place_after s.state.line m.lines }) x.blocks x.loans

-- the line of a request, and the reply that it takes
abbrev said : Stage → Line → Report → Answer → List ℕ
said s m r x = line_text s.state.line m.request r x

abbrev reply_in : List (sharing.Request Entry) → List Reply → Reply
reply_in qs rs = get_or (take (length qs) rs) 0 (untraced (Answer.Refused Malformed))

module _ (t : List ℕ) where
  run_lines : (ms : List Line) (s : Stage) → shared_in (last_stage t s ms) ≡ shared_run 768 (shared_in s) (requests_named t ms)
  unfolding last_stage requests_named shared_run after_line
  run_lines [] s = refl
  run_lines (m ∷ ms) s =
      on_line t (shared_in s) (λ qs x. shared_in (last_stage t (after s m x) ms) ≡ shared_run 768 (shared_in s) (qs ++ requests_named t ms)) m.request
      (run_lines ms (after s m (unasked (shared_in s)))) (λ r. run_lines ms (after s m (made (shared_in s) r)))

  told_lines : (ms : List Line) (s : Stage) → lines_of t s ms ≡ lines_with t s.state.line ms (shared_replies 768 (shared_in s) (requests_named t ms))
  unfolding lines_of lines_with requests_named shared_replies line_of after_line
  told_lines [] s = refl
  told_lines (m ∷ ms) s =
      on_line t (shared_in s)
      (λ qs x.
      let rs = shared_replies 768 (shared_in s) (qs ++ requests_named t ms) in
      said s m x.told.report x.told.answer ++ lines_of t (after s m x) ms
      ≡ said s m (reply_in qs rs).report (reply_in qs rs).answer ++ lines_with t (place_after s.state.line m.lines) ms (drop (length qs) rs))
      m.request
      (ap (λ (l : List ℕ). said s m no_report (Answer.Refused Malformed) ++ l) (told_lines ms (after s m (unasked (shared_in s)))))
      (λ r.
      let y = shared_reply 768 (shared_in s) r in
      ap (λ (l : List ℕ). said s m y.report y.answer ++ l) (told_lines ms (after s m (made (shared_in s) r))))

  -- THE SESSION from a stage on: what the machines share after its lines, and their words, are those after the requests that the lines name; and its printed
  -- text is that of their replies
  pub machines_run :
      (s : Stage) → shared_in (last_stage t s (requests t s.state.at)) ≡ shared_run 768 (shared_in s) (requests_named t (requests t s.state.at))
  machines_run s = run_lines (requests t s.state.at) s

  pub machines_replies :
      (s : Stage) →
      lines_text t s
      ≡ lines_with t s.state.line (requests t s.state.at) (shared_replies 768 (shared_in s) (requests_named t (requests t s.state.at)))
  unfolding lines_text
  machines_replies s = told_lines (requests t s.state.at) s

-- ---- the pieces that the program prints
module _ (t : List ℕ) where
  rest_is : (m : Line) (ms : List Line) (at : ℕ) → requests t at ≡ m ∷ ms → ms ≡ requests t m.next
  rest_is m ms at e = go (true_or_false (ltb at (length t)))
    where
      go : (ltb at (length t) ≡ true) ⊎ (ltb at (length t) ≡ false) → ms ≡ requests t m.next
      go (inl h) = let f = requests_more t at (ltb-true at (length t) h) in cc
      go (inr h) = let f = requests_end t at (ltb-false at (length t) h) in clash (cc)

  -- a piece leaves what the lines after it go on from
  gather_last :
      (room : ℕ) (ms : List Line) (g : Gathered) → requests t g.stage.state.at ≡ ms →
      let x = (gather t room g ms).stage in
      last_stage t x (requests t x.state.at) ≡ last_stage t g.stage ms
  unfolding gather last_stage after_line
  gather_last room [] g e = rw e
  gather_last room (m ∷ ms) g e =
      let next : Gathered = record { text = g.text ++ line_of t g.stage m; stage = after_line t g.stage m } in
      on_test (λ (x : Gathered). last_stage t x.stage (requests t x.stage.state.at) ≡ last_stage t g.stage (m ∷ ms))
      (leb (length g.text + longest) room)
      (λ _. gather_last room ms next (sym (rest_is m ms g.stage.state.at e))) (λ _. rw e)

module _ {t : List ℕ} {s : State} {bs ls b : List ℕ} {r : Printed} {bs' ls' z : List ℕ} (p : Prints t s bs ls b r bs' ls' z) where
  pub prints_last : last_stage t (stage r.state bs' ls') (requests t r.state.at) ≡ last_stage t (stage s bs ls) (requests t s.at)
  unfolding fitting
  prints_last =
      ap (λ (x : Stage). last_stage t x (requests t x.state.at)) p.session
      ∙ gather_last t (length b) (requests t s.at) (record { text = []; stage = stage s bs ls }) refl

  -- after the last piece the lent words hold what the requests leave
  pub prints_all :
      length t ≤ r.state.at → shared_in (stage r.state bs' ls') ≡ shared_run 768 (shared_in (stage s bs ls)) (requests_named t (requests t s.at))
  unfolding last_stage
  prints_all h =
      ap (λ (ms : List Line). shared_in (last_stage t (stage r.state bs' ls') ms)) (sym (requests_end t r.state.at h))
      ∙ (ap shared_in prints_last ∙ machines_run t (stage s bs ls))

-- ---- the inputs of every call that a text names have 32 bits each
asked_fits : (t : List ℕ) (j : ℕ) (m : Command) → FitsCommand m → AllFitRequests (asked t (Request.To j m))
unfolding AllFitRequests
asked_fits t j (Command.Call i k x) h = (h.inputs, tt)
asked_fits t j (Command.Exit i) h = (tt, tt)
asked_fits t j (Command.Step i) h = (tt, tt)
asked_fits t j (Command.Trace i) h = (tt, tt)
asked_fits t j (Command.Read v) h = (tt, tt)
asked_fits t j (Command.Change k from count start end) h = (tt, tt)
asked_fits t j Command.Malformed h = tt

request_fits : (t : List ℕ) (at : ℕ) → AllFitRequests (asked t (request t at).request)
unfolding request AllFitRequests
request_fits t at =
    on_test (λ (m : Line). AllFitRequests (asked t m.request)) (has_word t at turn_line) (λ _. (tt, tt)) (λ _. go (word t 44 (verb_at t at).next))
  where
    go : (w : Option (Found ℕ)) → AllFitRequests (asked t (after_machine t (verb_at t at).value at w).request)
    go (Some m) = asked_fits t m.value (fields_at t (verb_at t at).value at m.next).command (fields_fit t (verb_at t at).value at m.next)
    go None = tt

fit_append : (xs ys : List (sharing.Request Entry)) → AllFitRequests xs → AllFitRequests ys → AllFitRequests (xs ++ ys)
unfolding AllFitRequests
fit_append [] ys p q = q
fit_append (x ∷ xs) ys p q = (p.0, fit_append xs ys p.1 q)

pub named_fit : (t : List ℕ) (at : ℕ) → AllFitRequests (requests_named t (requests t at))
unfolding AllFitRequests requests_named
named_fit t =
    requests_induction t (λ (ms : List Line). AllFitRequests (requests_named t ms)) tt
    (λ at ms h. fit_append (asked t (request t at).request) (requests_named t ms) (request_fits t at) h)
