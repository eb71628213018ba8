-- What each case of a request leaves, as the functions have it
use Prim.Native.Nat.{ℕ, ◌-◌, ◌*◌, ◌+◌, ◌<◌, ◌≤◌, min}
use mathlib.Core.Path.{◌≡◌, refl, sym, ap, subst, ◌∙◌}
use mathlib.Core.Bool.{true, false, cond}
use mathlib.Core.List.{List, [], ◌++◌}
use native.Mathlib.Omega.{arith}
use lib.Dec.{eqb, ltb}
use lib.ListN.{length, take, drop, length-take, length-drop}
use borrow.Author.Tests.{lt-ltb, ltb-true, ltb-false, eq-eqb}
use Rattle.construction.specs.declared.{answers.Answer.Answer, answers.Refusal.Refusal}
use Rattle.construction.specs.declared.answers.Refusal.TheVariants as refusals
use Rattle.construction.specs.Answers.{is_refused}
use Rattle.construction.specs.History.{Entry, Steps}
use Rattle.construction.proofs.Basics.{on_test, clash}
use Rattle.block.specs.Layout.{control_in, last_in, count_in}
use Rattle.lent_card.specs.Requests.{read_answer}
use Rattle.lent_steps.specs.Steps.{step_verdict, advanced, answer_to}
use Rattle.lent_runs.specs.Runs.{Memory, Reply, untraced, reply_in, block_after, loan_after, is_accepted, as_left}
use Rattle.lent_runs.proofs.Judged.{answer_accepts, Stays}
use Rattle.lent_runs.proofs.Judged as lent-judged
use Rattle.lent_runs.proofs.Untouched.{untouched}
use Rattle.allowance.specs.declared.Allowance.{Allowance}
use Rattle.allowance.specs.Allowing.{has_allowance, spend}
use Rattle.allowance.specs.Requests.{Outcome, Machines, Acted, Answered, kept, acted, request}
use Rattle.allowance.proofs.Statements.{not_there}
use Rattle.shared_processor.specs.declared.stepping.Stepped.{Stepped}
use Rattle.shared_processor.specs.Parts.{part, with_part}
use Rattle.shared_processor.specs.Judging.{step_judged}
use Rattle.shared_processor.specs.Requests.{is_card_step, lent_cards, refusal_of, reply_for, memory_in, machines_in, request_to, Performs}
use Rattle.shared_processor.proofs.Parts.{part_kept, cut, pasted, shorter}

-- a part of some words, as code hands it on, and the words with another in its place
abbrev pub piece : List ℕ → ℕ → ℕ → List ℕ
piece words s e = take (e - s) (drop s words)

abbrev pub around : List ℕ → ℕ → ℕ → List ℕ → List ℕ
around words s e w = take s words ++ (w ++ drop (e - s) (drop s words))

pub piece_length : (words : List ℕ) (s e : ℕ) → e ≤ length words → length (piece words s e) ≡ e - s
piece_length words s e h = simp (length-take, length-drop) (shorter e s (length words) h)

module _ (a : Allowance) (stride : ℕ) (blocks loans : List ℕ) (m : ℕ) (e : Entry) where
  abbrev machines : Machines Memory
  machines = machines_in a stride blocks loans

  abbrev here : Memory
  here = memory_in stride blocks loans m

  abbrev done : Acted Memory Reply
  done = lent_cards.act here (as_left here e)

  -- everything stays as it was
  stays : (o : Outcome Reply) → request_to a stride blocks loans m e ≡ kept machines o → Performs a stride blocks loans m e (reply_for e o) a blocks loans
  stays o h =
      record {
        reply = ap (λ (y : Answered Memory Reply). reply_for e y.outcome) (sym h);
        allowance = ap (λ (y : Answered Memory Reply). y.machines.allowance) (sym h);
        blocks = sym (ap (λ (y : Answered Memory Reply). with_part 1456 blocks m (y.machines.states m).block) h ∙ part_kept 1456 blocks m);
        loans = sym (ap (λ (y : Answered Memory Reply). with_part stride loans m (y.machines.states m).loan) h ∙ part_kept stride loans m);
      }

  -- the machine acts
  acts :
      (c : Allowance) → request_to a stride blocks loans m e ≡ acted machines m done c →
      Performs a stride blocks loans m e done.answer c (with_part 1456 blocks m done.state.block) (with_part stride loans m done.state.loan)
  acts c h =
      let own : cond (eqb m m) done.state here ≡ done.state = rw (eq-eqb m m refl) in
      record {
        reply = ap (λ (y : Answered Memory Reply). reply_for e y.outcome) (sym h);
        allowance = ap (λ (y : Answered Memory Reply). y.machines.allowance) (sym h);
        blocks = sym
            (ap (λ (y : Answered Memory Reply). with_part 1456 blocks m (y.machines.states m).block) h ∙ ap
            (λ (y : Memory). with_part 1456 blocks m y.block) own);
        loans = sym
            (ap (λ (y : Answered Memory Reply). with_part stride loans m (y.machines.states m).loan) h ∙ ap
            (λ (y : Memory). with_part stride loans m y.loan) own);
      }

  absent_is : a.count ≤ m → request_to a stride blocks loans m e ≡ kept machines Outcome.NoMachine
  unfolding request_to
  absent_is p = not_there lent_cards machines m (as_left here e) p

  free_is : m < a.count → is_card_step e done.answer.answer ≡ false → request_to a stride blocks loans m e ≡ acted machines m done a
  unfolding request_to request
  free_is p q = rw (lt-ltb m a.count p, q)

  stopped_is :
      m < a.count → is_card_step e done.answer.answer ≡ true → has_allowance a m ≡ false →
      request_to a stride blocks loans m e ≡ kept machines Outcome.NoAllowance
  unfolding request_to request
  stopped_is p q r = rw (lt-ltb m a.count p, q, r)

  spent_is :
      m < a.count → is_card_step e done.answer.answer ≡ true → has_allowance a m ≡ true →
      request_to a stride blocks loans m e ≡ acted machines m done (spend a m)
  unfolding request_to request
  spent_is p q r = rw (lt-ltb m a.count p, q, r)

  -- 5
  pub absent : a.count ≤ m → Performs a stride blocks loans m e (untraced (refusal_of e refusals.NoProcess)) a blocks loans
  absent p = stays Outcome.NoMachine (absent_is p)

-- the requests that are no steps
abbrev pub Plain : Entry → Type 0
Plain (Entry.Call i k inputs) = Unit
Plain (Entry.Exit i) = Unit
Plain (Entry.Step i) = ⊥
Plain (Entry.Trace i) = ⊥
Plain (Entry.Read v) = Unit
Plain (Entry.Change k from t) = Unit

module _ (a : Allowance) (blocks : List ℕ) (m : ℕ) (there : m < a.count) where
  plain_is :
      (e : Entry) → Plain e →
      Performs a 0 blocks [] m e (reply_in (part 1456 blocks m) [] e) a (with_part 1456 blocks m (block_after (part 1456 blocks m) [] e)) []
  unfolding part with_part
  plain_is (Entry.Call i k inputs) _ = acts a 0 blocks [] m (Entry.Call i k inputs) a (free_is a 0 blocks [] m (Entry.Call i k inputs) there refl)
  plain_is (Entry.Exit i) _ = acts a 0 blocks [] m (Entry.Exit i) a (free_is a 0 blocks [] m (Entry.Exit i) there refl)
  plain_is (Entry.Step i) none = absurd none
  plain_is (Entry.Trace i) none = absurd none
  plain_is (Entry.Read v) _ = acts a 0 blocks [] m (Entry.Read v) a (free_is a 0 blocks [] m (Entry.Read v) there refl)
  plain_is (Entry.Change k from t) _ =
      acts a 0 blocks [] m (Entry.Change k from t) a (free_is a 0 blocks [] m (Entry.Change k from t) there refl)

  pub plain :
      (s t : ℕ) → s ≡ min (1456 * m) (length blocks) → t ≡ min (s + 1456) (length blocks) → (e : Entry) → Plain e →
      {r : Reply} {z : List ℕ} → r ≡ reply_in (piece blocks s t) [] e → z ≡ block_after (piece blocks s t) [] e →
      Performs a 0 blocks [] m e r a (around blocks s t z) []
  plain s t at to e p {r} {z} told left =
      let same = cut 1456 blocks m s t at to in
      let x = plain_is e p in
      let size : length z ≡ t - s =
      ap length left ∙ ((untouched (piece blocks s t) [] e).block.size ∙ piece_length blocks s t (omega arith)) in
      record {
        reply = told ∙ (ap (λ (b : List ℕ). reply_in b [] e) same ∙ x.reply);
        allowance = x.allowance;
        blocks =
            pasted 1456 blocks m s t at to z size
            ∙ (ap (with_part 1456 blocks m) (left ∙ ap (λ (b : List ℕ). block_after b [] e) same) ∙ x.blocks);
        loans = x.loans;
      }

  -- a read, which leaves the words
  pub read_plain :
      (s t : ℕ) → s ≡ min (1456 * m) (length blocks) → t ≡ min (s + 1456) (length blocks) → (v : ℕ) →
      {r : Answer} → r ≡ read_answer (piece blocks s t) v → Performs a 0 blocks [] m (Entry.Read v) (untraced r) a blocks []
  read_plain s t at to v told =
      let x = plain_is (Entry.Read v) tt in
      record {
        reply = ap untraced (told ∙ ap (λ (b : List ℕ). read_answer b v) (cut 1456 blocks m s t at to)) ∙ x.reply;
        allowance = x.allowance;
        blocks = sym (part_kept 1456 blocks m) ∙ x.blocks;
        loans = x.loans;
      }

-- a step by what judges it
module _ (a : Allowance) (stride : ℕ) (blocks loans : List ℕ) (m i : ℕ) where
  abbrev verdict : Answer
  verdict = step_verdict (part 1456 blocks m) (part stride loans m) i

  on_judged {κ} :
      (P : Stepped → Type κ) →
      (a.count ≤ m → P (record { allowance = a; answer = Answer.Refused refusals.NoProcess })) →
      (m < a.count → is_refused verdict ≡ true → P (record { allowance = a; answer = verdict })) →
      (m < a.count → is_refused verdict ≡ false → has_allowance a m ≡ true → P (record { allowance = spend a m; answer = Answer.Taken })) →
      (m < a.count → is_refused verdict ≡ false → has_allowance a m ≡ false → P (record { allowance = a; answer = Answer.Refused refusals.NoAllowance })) →
      P (step_judged a stride blocks loans m i)
  unfolding step_judged
  on_judged P absent own goes stopped =
      on_test P (ltb m a.count)
      (λ t. on_test P (is_refused verdict) (own (ltb-true _ _ t))
      (λ v. on_test P (has_allowance a m) (goes (ltb-true _ _ t) v) (stopped (ltb-true _ _ t) v)))
      (λ t. absent (ltb-false _ _ t))

  -- an accepted step has an answer that is no refusal
  accepted_step : is_refused verdict ≡ false → is_refused (answer_to (part 1456 blocks m) (part stride loans m) i) ≡ false
  unfolding answer_to
  accepted_step v =
      let b = part 1456 blocks m in
      let d = advanced b (part stride loans m) i in
      rw v (answer_accepts (control_in d i).place (last_in d i) (count_in d i)).0

  -- what the card itself takes, and what it refuses
  takes : {e : Entry} → Steps e i → is_refused verdict ≡ false →
      (is_accepted (part 1456 blocks m) (part stride loans m) e ≡ true) × (is_card_step e (reply_in (part 1456 blocks m) (part stride loans m) e).answer ≡ true)
  takes Steps.by_step v = (rw v, rw (accepted_step v))
  takes Steps.by_trace v = (rw v, rw (accepted_step v))

  refuses : {e : Entry} → Steps e i → is_refused verdict ≡ true →
      (is_accepted (part 1456 blocks m) (part stride loans m) e ≡ false)
      × (reply_in (part 1456 blocks m) (part stride loans m) e ≡ untraced verdict)
      × (block_after (part 1456 blocks m) (part stride loans m) e ≡ part 1456 blocks m)
      × (is_card_step e (reply_in (part 1456 blocks m) (part stride loans m) e).answer ≡ false)
  refuses k v = go k
    where
      x : Stays (part 1456 blocks m) (part stride loans m) i verdict
      x = lent-judged.stays (part 1456 blocks m) (part stride loans m) i verdict refl v

      told : is_refused (answer_to (part 1456 blocks m) (part stride loans m) i) ≡ true
      told = ap is_refused x.answer ∙ v

      go : {e : Entry} → Steps e i →
          (is_accepted (part 1456 blocks m) (part stride loans m) e ≡ false)
          × (reply_in (part 1456 blocks m) (part stride loans m) e ≡ untraced verdict)
          × (block_after (part 1456 blocks m) (part stride loans m) e ≡ part 1456 blocks m)
          × (is_card_step e (reply_in (part 1456 blocks m) (part stride loans m) e).answer ≡ false)
      go Steps.by_step = (rw v, ap untraced x.answer, x.block, rw told)
      go Steps.by_trace = (rw v, (λ j. record { answer = x.answer j; report = x.report j }), x.block, rw told)

  no_line_lem : {e : Entry} → Steps e i → (why : Refusal) → refusal_of e why ≡ Answer.Refused why
  no_line_lem Steps.by_step why = refl
  no_line_lem Steps.by_trace why = refl

  module _ (e : Entry) (k : Steps e i) where
    abbrev Leaves : Reply → Allowance → List ℕ → List ℕ → Type 0
    Leaves r b y z = Performs a stride blocks loans m e r b y z

    becomes : {r r' : Reply} {b : Allowance} {y y' z z' : List ℕ} → Leaves r b y z → r' ≡ r → y' ≡ y → z' ≡ z → Leaves r' b y' z'
    becomes x p q t = record { reply = p ∙ x.reply; allowance = x.allowance; blocks = q ∙ x.blocks; loans = t ∙ x.loans }

    own_refused : m < a.count → is_refused verdict ≡ true → Leaves (untraced verdict) a blocks loans
    own_refused there v =
        let x = refuses k v in
        let l = part stride loans m in
        let same : cond (is_accepted (part 1456 blocks m) l e) (loan_after (part 1456 blocks m) l e) l ≡ l = rw x.0 in
        becomes (acts a stride blocks loans m e a (free_is a stride blocks loans m e there x.3))
        (sym x.1) (sym (ap (with_part 1456 blocks m) x.2 ∙ part_kept 1456 blocks m))
        (sym (ap (with_part stride loans m) same ∙ part_kept stride loans m))

    -- a step that is refused leaves everything as it was
    pub refused_step :
        (j : Stepped) → j ≡ step_judged a stride blocks loans m i → is_refused j.answer ≡ true → Leaves (untraced j.answer) j.allowance blocks loans
    refused_step j h r =
        subst (λ (q : Stepped). is_refused q.answer ≡ true → Leaves (untraced q.answer) q.allowance blocks loans) (sym h)
        (on_judged (λ (q : Stepped). is_refused q.answer ≡ true → Leaves (untraced q.answer) q.allowance blocks loans)
        (λ p _. becomes (absent a stride blocks loans m e p) (ap untraced (sym (no_line_lem k refusals.NoProcess))) refl refl)
        (λ p v _. own_refused p v) (λ p v w z. clash (cc))
        (λ p v w _. becomes (stays a stride blocks loans m e Outcome.NoAllowance (stopped_is a stride blocks loans m e p (takes k v).1 w))
        (ap untraced (sym (no_line_lem k refusals.NoAllowance))) refl refl)) r

    -- a step that is accepted is made on the words of its machine
    record Goes (j : Stepped) : Type 0 where
      pub there : m < a.count
      pub taken : is_refused verdict ≡ false
      pub has : has_allowance a m ≡ true
      pub spent : j.allowance ≡ spend a m

    goes : (j : Stepped) → j ≡ step_judged a stride blocks loans m i → is_refused j.answer ≡ false → Goes j
    goes j h r =
        subst (λ (q : Stepped). is_refused q.answer ≡ false → Goes q) (sym h)
        (on_judged (λ (q : Stepped). is_refused q.answer ≡ false → Goes q) (λ p z. clash (cc)) (λ p v z. clash (cc))
        (λ p v w _. record { there = p; taken = v; has = w; spent = refl }) (λ p v w z. clash (cc))) r

    module _
        (s t : ℕ) (at : s ≡ min (1456 * m) (length blocks)) (to : t ≡ min (s + 1456) (length blocks))
        (c d : ℕ) (from : c ≡ min (stride * m) (length loans)) (past : d ≡ min (c + stride) (length loans))
      where
        pub accepted_step_made :
            (j : Stepped) → j ≡ step_judged a stride blocks loans m i → is_refused j.answer ≡ false →
            {r : Reply} {y z : List ℕ} → r ≡ reply_in (piece blocks s t) (piece loans c d) e → y ≡ block_after (piece blocks s t) (piece loans c d) e →
            z ≡ loan_after (piece blocks s t) (piece loans c d) e → Leaves r j.allowance (around blocks s t y) (around loans c d z)
        accepted_step_made j h n {r} {y} {z} told left lent =
            let g = goes j h n in
            let b = part 1456 blocks m in
            let l = part stride loans m in
            let sameb = cut 1456 blocks m s t at to in
            let samel = cut stride loans m c d from past in
            let x = acts a stride blocks loans m e (spend a m) (spent_is a stride blocks loans m e g.there (takes k g.taken).1 g.has) in
            let kept = untouched (piece blocks s t) (piece loans c d) e in
            let sizeb : length y ≡ t - s = ap length left ∙ (kept.block.size ∙ piece_length blocks s t (omega arith)) in
            let sizel : length z ≡ d - c = ap length lent ∙ (kept.size ∙ piece_length loans c d (omega arith)) in
            let mine : loan_after b l e ≡ cond (is_accepted b l e) (loan_after b l e) l = rw (takes k g.taken).0 in
            record {
              reply = told ∙ ((λ q. reply_in (sameb q) (samel q) e) ∙ x.reply);
              allowance = g.spent ∙ x.allowance;
              blocks =
                  pasted 1456 blocks m s t at to y sizeb
                  ∙ (ap (with_part 1456 blocks m) (left ∙ (λ q. block_after (sameb q) (samel q) e)) ∙ x.blocks);
              loans =
                  pasted stride loans m c d from past z sizel
                  ∙ (ap (with_part stride loans m) (lent ∙ ((λ q. loan_after (sameb q) (samel q) e) ∙ mine)) ∙ x.loans);
            }
