-- What the machines answer to each command, by what the requests give.
use Prim.Native.Nat.{ℕ}
use mathlib.Core.Bool.{true, false}
use mathlib.Core.List.{List, [], ◌∷◌}
use mathlib.Core.Path.{◌≡◌, refl, sym, ◌∙◌, ap}
use mathlib.Core.Logic.{◌⊎◌, inl, inr}
use lib.Dec.{ltb}
use borrow.Author.Tests.{eq-eqb}
use Rattle.construction.specs.declared.{cells.Words.Words, answers.Answer.Answer}
use Rattle.construction.specs.declared.answers.Refusal.TheVariants.{Malformed}
use Rattle.construction.specs.History.{Entry}
use Rattle.construction.proofs.Basics.{true_or_false}
use Rattle.commands.specs.declared.Command.{Command}
use Rattle.commands.specs.Commands.{Inside}
use Rattle.commands.specs.Commands.{part as text_part}
use Rattle.allowance.specs.declared.Allowance.{Allowance}
use Rattle.allowance.specs.Allowing.{turn}
use Rattle.allowance.specs.Requests.{Answered, request}
use Rattle.lent_runs.specs.Runs.{Memory, Reply, untraced}
use Rattle.shared_processor.specs.declared.stepping.{Stepped.Stepped, Traced.Traced}
use Rattle.shared_processor.specs.Parts.{part, with_part}
use Rattle.shared_processor.specs.Requests.{reply_for, request_to, Performs}
use Rattle.shared_processor.proofs.Parts.{part_kept}
use Rattle.shared_processor.proofs.Requests.{Plain}
use Rattle.machine_commands.specs.declared.Request.{Request}
use Rattle.machine_commands.specs.Requests.{InsideOf}
use Rattle.machine_session.specs.Answering.{untold, told_of, perform_entries, performed, executed, Executes}

-- ---- a request that looks at no loan does the same with every loan, and leaves it
module _ (a : Allowance) (stride : ℕ) (bs ls : List ℕ) (m : ℕ) where
  record Alike (x y : Answered Memory Reply) : Type 0 where
    pub outcome : x.outcome ≡ y.outcome
    pub allowance : x.machines.allowance ≡ y.machines.allowance
    pub block : (x.machines.states m).block ≡ (y.machines.states m).block
    pub loan : (y.machines.states m).loan ≡ part stride ls m

  by_number : {P : Type 0} → (ltb m a.count ≡ true → P) → (ltb m a.count ≡ false → P) → P
  by_number {P} f g = go (true_or_false (ltb m a.count))
    where
      go : (ltb m a.count ≡ true) ⊎ (ltb m a.count ≡ false) → P
      go (inl h) = f h
      go (inr h) = g h

  alike : (e : Entry) → Plain e → Alike (request_to a 0 bs [] m e) (request_to a stride bs ls m e)
  unfolding request_to request
  alike (Entry.Call i k x) _ =
      by_number
      (λ h. record { outcome = rw h; allowance = rw h; block = rw (h, eq-eqb m m refl); loan = rw (h, eq-eqb m m refl) })
      (λ h. record { outcome = rw h; allowance = rw h; block = rw h; loan = rw h })
  alike (Entry.Exit i) _ =
      by_number
      (λ h. record { outcome = rw h; allowance = rw h; block = rw (h, eq-eqb m m refl); loan = rw (h, eq-eqb m m refl) })
      (λ h. record { outcome = rw h; allowance = rw h; block = rw h; loan = rw h })
  alike (Entry.Step i) none = absurd none
  alike (Entry.Trace i) none = absurd none
  alike (Entry.Read v) _ =
      by_number
      (λ h. record { outcome = rw h; allowance = rw h; block = rw (h, eq-eqb m m refl); loan = rw (h, eq-eqb m m refl) })
      (λ h. record { outcome = rw h; allowance = rw h; block = rw h; loan = rw h })
  alike (Entry.Change k from t) _ =
      by_number
      (λ h. record { outcome = rw h; allowance = rw h; block = rw (h, eq-eqb m m refl); loan = rw (h, eq-eqb m m refl) })
      (λ h. record { outcome = rw h; allowance = rw h; block = rw h; loan = rw h })

  with_loans :
      (e : Entry) → Plain e → {r : Reply} {c : Allowance} {bs' : List ℕ} → Performs a 0 bs [] m e r c bs' [] → Performs a stride bs ls m e r c bs' ls
  with_loans e plain p =
      let x = alike e plain in
      record {
        reply = p.reply ∙ ap (reply_for e) x.outcome;
        allowance = p.allowance ∙ x.allowance;
        blocks = p.blocks ∙ ap (with_part 1456 bs m) x.block;
        loans = sym (ap (with_part stride ls m) x.loan ∙ part_kept stride ls m);
      }

-- ---- the answers
module _ (t : List ℕ) (a : Allowance) (bs ls : List ℕ) (m : ℕ) (c : Command) {r : Traced} where
  of_entry :
      (e : Entry) → performed t a bs ls m c ≡ perform_entries a bs ls m (e ∷ []) → {y : Reply} {d : Allowance} {bs' ls' : List ℕ} →
      Performs a 768 bs ls m e y d bs' ls' → r ≡ told_of d y → Executes (performed t a bs ls m c) r bs' ls'
  of_entry e h p q =
      rw h (record { told = q ∙ (λ j. told_of (p.allowance j) (p.reply j)); blocks = p.blocks; loans = p.loans })

  pub called :
      {i k : ℕ} {x : Words} {s : Answer} {bs' : List ℕ} → c ≡ Command.Call i k x → Performs a 0 bs [] m (Entry.Call i k x) (untraced s) a bs' [] →
      r ≡ untold a s → Executes (performed t a bs ls m c) r bs' ls
  unfolding performed
  called {i} {k} {x} e p q = of_entry (Entry.Call i k x) (rw e) (with_loans a 768 bs ls m (Entry.Call i k x) tt p) q

  pub exited :
      {i : ℕ} {s : Answer} {bs' : List ℕ} → c ≡ Command.Exit i → Performs a 0 bs [] m (Entry.Exit i) (untraced s) a bs' [] → r ≡ untold a s →
      Executes (performed t a bs ls m c) r bs' ls
  unfolding performed
  exited {i} e p q = of_entry (Entry.Exit i) (rw e) (with_loans a 768 bs ls m (Entry.Exit i) tt p) q

  pub stepped :
      {i : ℕ} {s : Stepped} {bs' ls' : List ℕ} → c ≡ Command.Step i →
      Performs a 768 bs ls m (Entry.Step i) (untraced s.answer) s.allowance bs' ls' → r ≡ untold s.allowance s.answer →
      Executes (performed t a bs ls m c) r bs' ls'
  unfolding performed
  stepped {i} e p q = of_entry (Entry.Step i) (rw e) p q

  pub traced :
      {i : ℕ} {bs' ls' : List ℕ} → c ≡ Command.Trace i →
      Performs a 768 bs ls m (Entry.Trace i) (record { answer = r.answer; report = r.report }) r.allowance bs' ls' →
      Executes (performed t a bs ls m c) r bs' ls'
  unfolding performed
  traced {i} e p = of_entry (Entry.Trace i) (rw e) p refl

  pub read :
      {v : ℕ} {s : Answer} → c ≡ Command.Read v → Performs a 0 bs [] m (Entry.Read v) (untraced s) a bs [] → r ≡ untold a s →
      Executes (performed t a bs ls m c) r bs ls
  unfolding performed
  read {v} e p q = of_entry (Entry.Read v) (rw e) (with_loans a 768 bs ls m (Entry.Read v) tt p) q

  pub changed :
      {k from count start end : ℕ} {s : Answer} {bs' : List ℕ} → c ≡ Command.Change k from count start end →
      Performs a 0 bs [] m (Entry.Change k from (text_part t start end)) (untraced s) a bs' [] → r ≡ untold a s →
      Executes (performed t a bs ls m c) r bs' ls
  unfolding performed
  changed {k} {from} {count} {start} {end} e p q =
      let x = Entry.Change k from (text_part t start end) in
      of_entry x (rw e) (with_loans a 768 bs ls m x tt p) q

  pub malformed : c ≡ Command.Malformed → r ≡ untold a (Answer.Refused Malformed) → Executes (performed t a bs ls m c) r bs ls
  unfolding performed
  malformed e q = rw e (record { told = q; blocks = refl; loans = refl })

-- a request
module _ (t : List ℕ) (a : Allowance) (bs ls : List ℕ) (q : Request) {r : Traced} where
  pub to :
      {m : ℕ} {c : Command} {bs' ls' : List ℕ} → q ≡ Request.To m c → Executes (performed t a bs ls m c) r bs' ls' →
      Executes (executed t a bs ls q) r bs' ls'
  unfolding executed
  to e x = rw e x

  pub turned : {b : Allowance} → q ≡ Request.Turn → b ≡ turn a → r ≡ untold b (Answer.Taken) → Executes (executed t a bs ls q) r bs ls
  unfolding executed
  turned e f h = rw e (record { told = h ∙ ap (λ (x : Allowance). untold x Answer.Taken) f; blocks = refl; loans = refl })

-- the text of a change lies in the calls text
pub inside_of : (t : List ℕ) {q : Request} {m : ℕ} {c : Command} → q ≡ Request.To m c → InsideOf t q → Inside t c
inside_of t e h = rw e at h
