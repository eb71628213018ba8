-- THE MACHINES OF A SESSION (document 02, order 14): where neither the terms nor a card nor the calls are refused, the program prints the replies of machines
-- that share a processor, each of them opened with its card; so that the theorems of the crate shared_runs speak of what it prints.
use Rattle.std.specs.Prelude.{Ok, Err}
use Prim.Native.Nat.{ℕ, zero, suc, ◌+◌, ◌*◌, ◌≤◌, ◌<◌}
use mathlib.Core.Path.{◌≡◌, refl, ap, ◌∙◌}
use mathlib.Core.Bool.{Bool, true, false, cond, ◌||◌}
use mathlib.Core.Logic.{◌≢◌}
use mathlib.Core.List.{List, [], ◌∷◌, ◌++◌}
use native.Mathlib.Nat.{le_trans, mul-le-mul, mul-le-mul_left}
use native.Mathlib.Omega.{arith}
use lib.Dec.{ltb}
use lib.ListN.{length, get_or, replicate, length-replicate}
use borrow.Author.Tests.{lt-ltb, le-ltb}
use Rattle.grammar.proofs.Cases.{on_test, clash}
use Rattle.construction.specs.declared.{answers.Answer.Answer, card.Card.Card}
use Rattle.construction.specs.declared.answers.Refusal.TheVariants.{BadTerms}
use Rattle.construction.specs.Answers.{answer_fields, refused_with}
use Rattle.construction.specs.Opening.{fresh, opened}
use Rattle.construction.specs.History.{Entry}
use Rattle.construction.specs.Types.{Verdict}
use Rattle.construction.proofs.Text.Bounds.{opened_bounded}
use Rattle.block.proofs.Gets.{process_count_is}
use Rattle.loan.specs.Loans.{loan_words}
use Rattle.lent_text.specs.Opened.{opened_block}
use Rattle.lent_text.proofs.Theorems.{opened_card as card-opened}
use Rattle.allowance.specs.declared.{Quota.Quota, Allowance.Allowance}
use Rattle.allowance.specs.Allowing.{quota_at}
use Rattle.allowance.specs.Opening.{is_accepted, allowance, allowance_from}
use Rattle.allowance.specs.Requests.{Request}
use Rattle.allowance.specs.Counting.{steps_of, steps_of_all}
use Rattle.allowance.proofs.Opening.{accepted_terms}
use Rattle.shared_processor.specs.Parts.{part}
use Rattle.shared_processor.specs.Requests.{lent_cards}
use Rattle.shared_processor.proofs.Parts.{part_length}
use Rattle.shared_processor.proofs.OpenedCards.{opened_card, opened_others}
use Rattle.shared_runs.specs.Runs.{Shared, shared_reply, shared_run, shared_replies, shared_log, OpenedWith, AsAlone}
use Rattle.shared_runs.proofs.Statements.{as_alone}
use Rattle.shared_runs.proofs.Numbers.{ceilings_shared, turn_shared, share_shared}
use Rattle.machine_commands.specs.Requests.{requests}
use Rattle.std.specs.Prelude.{Option, Some, None, Result}
use Rattle.grammar.specs.declared.Found.{Found}
use Rattle.machine_terms.specs.declared.{Pair.Pair, Terms.Terms}
use Rattle.machine_terms.specs.Terms.{line, machines_word, Quotas, quotas_read, refused, judged_as, with_quotas, with_head, terms}
use Rattle.machine_session.specs.declared.Printed.{Printed}
use Rattle.machine_session.specs.Session.{stage, lines_text}
use Rattle.machine_session.specs.Starting.{one_verdict, one_blocks, Cards, with_verdict, opened_cards, Beginning, beginning, session, Starts}
use Rattle.machine_session.specs.Runs.{requests_named, last_stage, shared_in, lines_with, cards_of, first_stage, opened_shared, Accepted}
use Rattle.machine_session.proofs.Runs.{machines_run, machines_replies, named_fit}

-- ---- terms that are accepted are those of an opening
on_terms :
    (t : List ℕ) (P : Allowance → Type 0) → ((count steps : ℕ) (qs : List Quota) → is_accepted count steps qs ≡ true → P (allowance count steps qs)) →
    (terms t).verdict ≡ Ok tt → P (terms t).allowance
unfolding terms refused judged_as allowance_from
on_terms t P f = on_test Q (ltb 16384 (length t)) (λ _ h. clash (cc)) (λ _. head (line t 0 machines_word))
  where
    Q : Terms → Type 0
    Q w = w.verdict ≡ Ok tt → P w.allowance

    judged : (count steps : ℕ) (qs : List Quota) (b : Bool) → is_accepted count steps qs ≡ b →
        Q (judged_as (cond b (Ok (allowance count steps qs)) (Err BadTerms)))
    judged count steps qs true e h = f count steps qs e
    judged count steps qs false e h = clash (cc)

    with_read : (count steps : ℕ) (r : Quotas) → Q (with_quotas count steps r)
    with_read count steps (Ok qs) = judged count steps qs (is_accepted count steps qs) refl
    with_read count steps (Err n) = λ h. clash (cc)

    head : (p : Option (Found Pair)) → Q (with_head t p)
    head (Some x) =
        let v = x.value in
        on_test Q (ltb v.a 1 || ltb 4 v.a) (λ _ h. clash (cc)) (λ _. with_read v.a v.b (quotas_read t x.next v.a))
    head None = λ h. clash (cc)

-- ---- each card stands in the block of its machine
module _ (count : ℕ) where
  one_other : (k : ℕ) (text bs : List ℕ) (j : ℕ) → j ≢ k → part 1456 (one_blocks count k text bs) j ≡ part 1456 bs j
  one_other k text bs j ne = on_test (λ (x : List ℕ). part 1456 x j ≡ part 1456 bs j) (ltb k count) (λ _. opened_others text bs k j ne) (λ _. refl)

  next : (k : ℕ) (text : List ℕ) (texts : List (List ℕ)) (bs : List ℕ) → (opened_cards count k (text ∷ texts) bs).opened.verdict ≡ Ok tt →
      (opened_cards count k (text ∷ texts) bs ≡ opened_cards count (suc k) texts (one_blocks count k text bs))
      × ((opened_cards count (suc k) texts (one_blocks count k text bs)).opened.verdict ≡ Ok tt)
  unfolding opened_cards
  next k text texts bs = go (one_verdict count k text bs)
    where
      rest : Cards
      rest = opened_cards count (suc k) texts (one_blocks count k text bs)

      go : (v : Verdict) → (with_verdict k v (one_blocks count k text bs) rest).opened.verdict ≡ Ok tt →
          (with_verdict k v (one_blocks count k text bs) rest ≡ rest) × (rest.opened.verdict ≡ Ok tt)
      go (Ok _) h = (refl, h)
      go (Err e) h = clash (cc)

  below : (texts : List (List ℕ)) (k : ℕ) (bs : List ℕ) → (opened_cards count k texts bs).opened.verdict ≡ Ok tt →
      (j : ℕ) → j < k → part 1456 (opened_cards count k texts bs).blocks j ≡ part 1456 bs j
  unfolding opened_cards
  below [] k bs h j l = refl
  below (text ∷ texts) k bs h j l =
      let e = next k text texts bs h in
      ap (λ (x : Cards). part 1456 x.blocks j) e.0
      ∙ (below texts (suc k) (one_blocks count k text bs) e.1 j (omega arith)
      ∙ one_other k text bs j (λ q. omega arith))

  there : (texts : List (List ℕ)) (k : ℕ) (bs : List ℕ) → (opened_cards count k texts bs).opened.verdict ≡ Ok tt →
      (i j : ℕ) → j ≡ k + i → i < length texts → j < count →
      part 1456 (opened_cards count k texts bs).blocks j ≡ opened_block (get_or texts i []) (part 1456 bs j)
  there [] k bs h i j q l m = absurd (omega arith)
  there (text ∷ texts) k bs h zero j q l m =
      let e = next k text texts bs h in
      let here : j ≡ k = omega arith in
      ap (λ (x : Cards). part 1456 x.blocks j) e.0
      ∙ (below texts (suc k) (one_blocks count k text bs) e.1 j (omega arith)
      ∙ rw (here, lt-ltb k count (omega arith)) (opened_card text bs k))
  there (text ∷ texts) k bs h (suc i) j q l m =
      let e = next k text texts bs h in
      ap (λ (x : Cards). part 1456 x.blocks j) e.0
      ∙ (there texts (suc k) (one_blocks count k text bs) e.1 i j (omega arith) (omega arith) m
      ∙ ap (opened_block (get_or texts i [])) (one_other k text bs j (λ p. omega arith)))

-- a loan of 768 words is enough for every card: 8 processes, a weight of 32, three words an item
loan_enough : (t b : List ℕ) → 1456 ≤ length b → loan_words (opened_block t b) ≤ 768
unfolding opened fresh
loan_enough t b long =
    let p = (opened_bounded t).process_count in
    let e = process_count_is (opened_block t b) b ∙ ap (λ (c : Card). c.process_count) (card-opened t b long b) in
    mul-le-mul {n₂ = 24} {m₂ = 32} (omega arith) (omega arith)

-- the parts of four machines are whole
whole : (size n m : ℕ) → size * 4 ≤ n → m < 4 → size ≤ length (part size (replicate n 0) m)
whole size n m h l =
    let e = part_length size (replicate n 0) m in
    let f = length-replicate {A = ℕ} n 0 in
    let g : size * m ≤ size * 3 = mul-le-mul_left size (omega arith) in
    omega arith

module _ (text : List ℕ) (cards : List (List ℕ)) (agreed : (terms text).verdict ≡ Ok tt) where
  abbrev sharing : Allowance → Shared
  sharing a = record { allowance = a; blocks = (cards_of text cards).blocks; loans = replicate 3072 0 }

  -- machine m has its card, and a loan that is long enough
  pub session_opened :
      (cards_of text cards).opened.verdict ≡ Ok tt → (m : ℕ) → m < (terms text).allowance.count → m < length cards →
      OpenedWith 768 (get_or cards m []) (part 1456 (replicate 5824 0) m) (opened_shared text cards) m
  session_opened h m p l =
      let four = on_terms text (λ a. a.count ≤ 4) (λ count steps qs q. (accepted_terms count steps qs q).four) agreed in
      let b = part 1456 (replicate 5824 0) m in
      let long : 1456 ≤ length b = whole 1456 5824 m (omega arith) (omega arith) in
      record {
        long = long;
        block = there (terms text).allowance.count cards 0 (replicate 5824 0) h m m (omega arith) l p;
        lent = le_trans (loan_enough (get_or cards m []) b long) (whole 768 3072 m (omega arith) (omega arith));
      }

  -- after every list of requests: 'Nobody passes a ceiling, all together never pass T', and shares are sure
  module _ (rs : List (Request Entry)) where
    pub session_ceilings : (m : ℕ) → steps_of lent_cards m 0 (shared_log 768 (opened_shared text cards) rs) ≤ (quota_at (terms text).allowance m).ceiling
    session_ceilings m =
        on_terms text (λ a. steps_of lent_cards m 0 (shared_log 768 (sharing a) rs) ≤ (quota_at a m).ceiling)
        (λ count steps qs h. ceilings_shared count steps qs h 768 (cards_of text cards).blocks (replicate 3072 0) rs m) agreed

    pub session_turn : steps_of_all lent_cards 0 (shared_log 768 (opened_shared text cards) rs) ≤ (terms text).allowance.steps
    session_turn =
        on_terms text (λ a. steps_of_all lent_cards 0 (shared_log 768 (sharing a) rs) ≤ a.steps)
        (λ count steps qs h. turn_shared count steps qs h 768 (cards_of text cards).blocks (replicate 3072 0) rs) agreed

    pub session_share :
        (m : ℕ) (e : Entry) → steps_of lent_cards m 0 (shared_log 768 (opened_shared text cards) rs) < (quota_at (terms text).allowance m).share →
        answer_fields (shared_reply 768 (shared_run 768 (opened_shared text cards) rs) (Request.To m e)).answer ≡ refused_with 19 → ⊥
    session_share m e =
        on_terms text
        (λ a. steps_of lent_cards m 0 (shared_log 768 (sharing a) rs) < (quota_at a m).share →
        answer_fields (shared_reply 768 (shared_run 768 (sharing a) rs) (Request.To m e)).answer ≡ refused_with 19 → ⊥)
        (λ count steps qs h. share_shared count steps qs h 768 (cards_of text cards).blocks (replicate 3072 0) rs m e) agreed

-- ---- the session
module _ (text : List ℕ) (cards : List (List ℕ)) (calls : List ℕ) (ok : Accepted text cards calls) where
  begins :
      beginning text cards calls (replicate 5824 0)
      ≡ record { text = []; state = (first_stage text cards).state; blocks = (cards_of text cards).blocks }
  unfolding beginning
  begins = rw (ok.agreed, ok.opened, le-ltb 65536 (length calls) ok.short)

  -- where the functions start
  pub session_starts :
      {b : List ℕ} {r : Printed} {bs z : List ℕ} → Starts text cards calls (replicate 5824 0) b r bs z →
      stage r.state bs (replicate 3072 0) ≡ first_stage text cards
  session_starts h =
      (λ i. stage (h.state i) (h.blocks i) (replicate 3072 0))
      ∙ ap (λ (x : Beginning). stage x.state x.blocks (replicate 3072 0)) begins

  -- WHAT THE PROGRAM LEAVES AND PRINTS: the machines after the requests of the calls, and the lines of these requests with the machines' replies
  pub session_run :
      shared_in (last_stage calls (first_stage text cards) (requests calls 0)) ≡ shared_run 768 (opened_shared text cards) (requests_named calls (requests calls 0))
  session_run = machines_run calls (first_stage text cards)

  pub session_replies :
      session text cards calls
      ≡ lines_with calls 1 (requests calls 0) (shared_replies 768 (opened_shared text cards) (requests_named calls (requests calls 0)))
  unfolding session
  session_replies =
      ap (λ (x : Beginning). x.text ++ lines_text calls (stage x.state x.blocks (replicate 3072 0))) begins
      ∙ machines_replies calls (first_stage text cards)

  -- 'each machine answers as it would alone with its own calls, less the steps that got 19'
  pub session_as_alone :
      (m : ℕ) → m < (terms text).allowance.count → m < length cards →
      AsAlone 768 (get_or cards m []) (part 1456 (replicate 5824 0) m) (opened_shared text cards) m (requests_named calls (requests calls 0))
  session_as_alone m h l =
      as_alone 768 (get_or cards m []) (part 1456 (replicate 5824 0) m) (opened_shared text cards) m (requests_named calls (requests calls 0)) h
      (session_opened text cards ok.agreed ok.opened m h l) (named_fit calls 0)
