-- What a request to one of several machines hands back, from what the function below it ensures and from how its answer is told.
use Prim.Native.Nat.{ℕ, ◌*◌}
use mathlib.Core.Path.{◌≡◌, refl, ap, subst, ◌∙◌}
use mathlib.Core.Bool.{Bool, true, false, ◌||◌}
use mathlib.Core.List.{List, []}
use lib.Dec.{ltb}
use lib.ListN.{length}
use Rattle.construction.specs.declared.answers.Answer.{Answer}
use Rattle.construction.specs.History.{Entry}
use Rattle.lent_runs.specs.Runs.{Reply, untraced}
use Rattle.std.specs.Prelude.{Result}
use Rattle.construction.specs.declared.answers.Refusal.{Refusal}
use Rattle.allowance.specs.declared.Allowance.{Allowance}
use Rattle.allowance.specs.Opening.{opened_as, answer_of_opened, left_by}
use Rattle.allowance.proofs.Fours.{answers_opening, leaves_opening}
use Rattle.allowance_words.specs.Words.{allowance_in, with_allowance, terms_in}
use Rattle.shared_processor.specs.declared.stepping.{Stepped.Stepped, Traced.Traced}
use Rattle.shared_processor.specs.Requests.{Performs}
use Rattle.embedding.specs.Numbers.{told, status_of, numbers_of, report_numbers}
use Rattle.embedding.specs.Machines.{OpensMachines, are_too_few, Asks, AsksTelling, StepsMachine, TracesMachine}

-- opening: with too few words of the allowance, or of the terms, and with enough of both
or_true : (a : Bool) → (a || true) ≡ true
or_true true = refl
or_true false = refl

module _ (w : List ℕ) (count steps : ℕ) (t : List ℕ) where
  pub opens_none : ltb (length w) 14 ≡ true → OpensMachines w count steps t 11 w
  opens_none h = record { status = rw h; allowance = rw h }

  pub opens_short : ltb (length t) (2 * count) ≡ true → OpensMachines w count steps t 11 w
  opens_short h =
      let e : are_too_few w count t ≡ true = ap (λ (b : Bool). ltb (length w) 14 || b) h ∙ or_true (ltb (length w) 14) in
      record { status = rw e; allowance = rw e }

  terms_four : (l : List ℕ) → length (terms_in l) ≡ 4
  unfolding terms_in
  terms_four l = refl

  pub opens :
      {o : Result Allowance Refusal} {r : ℕ} {x : List ℕ} → ltb (length w) 14 ≡ false → ltb (length t) (2 * count) ≡ false → o ≡ opened_as count steps (terms_in t) →
      (r ≡ status_of (answer_of_opened o)) × (x ≡ with_allowance w (left_by o)) → OpensMachines w count steps t r x
  opens h k e (p, q) =
      record {
        status = rw (h, k) (p ∙ (ap (λ (y : Result Allowance Refusal). status_of (answer_of_opened y)) e ∙ ap status_of (answers_opening count steps (terms_in t))));
        allowance =
            rw (h, k)
            (q
            ∙ (ap (λ (y : Result Allowance Refusal). with_allowance w (left_by y)) e
            ∙ ap (with_allowance w) (leaves_opening count steps (terms_in t) (terms_four t))));
      }

-- a request that looks at no loan
module _ {w bs : List ℕ} {m : ℕ} {e : Entry} {a : Allowance} {y : Answer} {r : ℕ} {cs : List ℕ} where
  pub asks : a ≡ allowance_in w → Performs a 0 bs [] m e (untraced y) a cs [] → r ≡ status_of y → Asks w bs m e r cs
  asks f g p =
      let h = subst (λ (b : Allowance). Performs b 0 bs [] m e (untraced y) b cs []) f g in
      record { status = p ∙ ap (λ (x : Reply). status_of x.answer) h.reply; allowance = h.allowance; blocks = h.blocks }

  pub asks_telling :
      (o : List ℕ) {z : List ℕ} → a ≡ allowance_in w → Performs a 0 bs [] m e (untraced y) a cs [] →
      (r ≡ status_of y) × (z ≡ told o (numbers_of y)) → AsksTelling w bs m e o r cs z
  asks_telling o f g (p, q) =
      let h = subst (λ (b : Allowance). Performs b 0 bs [] m e (untraced y) b cs []) f g in
      record { asks = asks f g p; out = q ∙ ap (λ (x : Reply). told o (numbers_of x.answer)) h.reply }

-- a step, and a traced one
module _ {w : List ℕ} {stride : ℕ} {bs ls : List ℕ} {m : ℕ} {e : Entry} {r : ℕ} {x cs ms z : List ℕ} where
  made :
      (o : List ℕ) {y : Reply} {c : Allowance} → Performs (allowance_in w) stride bs ls m e y c cs ms →
      r ≡ status_of y.answer → z ≡ told o (numbers_of y.answer) → x ≡ with_allowance w c → StepsMachine w stride bs ls m e o r x cs ms z
  made o h p q s =
      record {
        status = p ∙ ap (λ (x : Reply). status_of x.answer) h.reply;
        allowance = s ∙ ap (with_allowance w) h.allowance;
        blocks = h.blocks;
        loans = h.loans;
        out = q ∙ ap (λ (x : Reply). told o (numbers_of x.answer)) h.reply;
      }

  pub steps :
      (o : List ℕ) {a : Allowance} {y : Stepped} → a ≡ allowance_in w → Performs a stride bs ls m e (untraced y.answer) y.allowance cs ms →
      (r ≡ status_of y.answer) × (z ≡ told o (numbers_of y.answer)) × (x ≡ with_allowance w y.allowance) → StepsMachine w stride bs ls m e o r x cs ms z
  steps o {y = y} f g (p, q, s) = made o (subst (λ (b : Allowance). Performs b stride bs ls m e (untraced y.answer) y.allowance cs ms) f g) p q s

  pub traces :
      (o u : List ℕ) {a : Allowance} {y : Traced} {v : List ℕ} → a ≡ allowance_in w →
      Performs a stride bs ls m e (record { answer = y.answer; report = y.report }) y.allowance cs ms →
      (r ≡ status_of y.answer) × (z ≡ told o (numbers_of y.answer)) × (x ≡ with_allowance w y.allowance) × (v ≡ told u (report_numbers y.report)) →
      TracesMachine w stride bs ls m e o u r x cs ms z v
  traces o u {y = y} f g (p, q, s, k) =
      let h = subst (λ (b : Allowance). Performs b stride bs ls m e (record { answer = y.answer; report = y.report }) y.allowance cs ms) f g in
      record { step = made o h p q s; report = k ∙ ap (λ (x : Reply). told u (report_numbers x.report)) h.reply }
