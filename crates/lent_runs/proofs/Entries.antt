-- One entry on block and loan is that entry on the card that stands there.
use Prim.Native.Nat.{ℕ, ◌<◌, ◌≤◌, min}
use mathlib.Core.Path.{◌≡◌, refl, sym, ◌∙◌, ap, subst}
use mathlib.Core.Bool.{Bool, true, false, cond, not, ◌&&◌, true≢false}
use mathlib.Core.List.{List}
use native.Mathlib.Omega.{arith}
use lib.Dec.{ltb}
use lib.ListN.{length, take}
use borrow.Author.Tests.{ltb-true, ltb-false}
use Rattle.construction.specs.declared.{answers.Answer.Answer, answers.Answered.Answered, texts.Contents.Contents}
use Rattle.construction.specs.declared.answers.Refusal.TheVariants.{NoProcess, NotBusy, LimitReached}
use Rattle.construction.specs.Parts.{contents_of, local_at}
use Rattle.construction.specs.Weight.{card_weight}
use Rattle.construction.specs.Answers.{is_refused}
use Rattle.construction.specs.Requests.{is_idle, call, request_exit, step, read}
use Rattle.construction.specs.Changes.{change}
use Rattle.construction.specs.Tracing.{trace}
use Rattle.construction.specs.History.{Entry, FitsEntry, act}
use Rattle.construction.proofs.Basics.{and_true}
use Rattle.construction.proofs.Observing.Entries.{on_step}
use Rattle.construction.proofs.Statements.OneAccess.{one_access}
use Rattle.requests.specs.Judging.{judged}
use Rattle.codes.specs.Codes.{byte}
use Rattle.codes.specs.Types.{Card, Dictionary, Control, H21}
use Rattle.block.specs.Layout.{process_count_in, steps_in, limit_in, room_in, noted_in, control_in}
use Rattle.block.specs.Cards.{dictionary_at, card_of}
use Rattle.block.proofs.Standing.{number_same}
use Rattle.block.proofs.Gets.{process_count_is, control_is, dictionary_is}
use Rattle.loan.specs.Loans.{loan_words}
use Rattle.lent_machine.proofs.Keeping.{kept_room}
use Rattle.lent_card.specs.Requests.{call_block, exit_block, change_block, RoomKept}
use Rattle.lent_card.proofs.Cards.{call_is, exit_is, read_is, change_is}
use Rattle.lent_card.proofs.Rooms.{call_room_kept, exit_room_kept, change_room_kept}
use Rattle.lent_steps.specs.Steps.{step_verdict, step_block, step_loan, answer_to, report_to}
use Rattle.lent_steps.proofs.Judging.{judged_in}
use Rattle.lent_steps.proofs.Keeping.{step_block_kept}
use Rattle.lent_steps.proofs.Stepped.{step_is, report_is}
use Rattle.lent_runs.specs.Runs.{Handed, Memory, reply_in, reply_of, untraced, is_eleven, is_short, is_accepted, memory_after}
use Rattle.lent_runs.proofs.Loans.{NoneNoted, same_card_lem}
use Rattle.lent_runs.proofs.Requested.{Counts, call_counts, exit_counts, change_counts, call_within, exit_within, change_within, call_numbers}
use Rattle.lent_runs.proofs.Requested.{exit_numbers, read_numbers, change_numbers}
use Rattle.lent_runs.proofs.Others.{step_others}
use Rattle.lent_runs.proofs.Judged.{own_numbers, step_judged_lem, step_refused, step_short, step_taken, taken_numbers, Stays}

-- a card on which H21 finds room
abbrev pub Roomy : Card → Type 0
Roomy c =
    (i : ℕ) → i < c.process_count → (local_at c i).control.place ≡ H21 → (local_at c i).dictionary.length < min 32 (card_weight (contents_of c))

-- a card stands in a memory
pub record Stands (m : Memory) (c : Card) : Type 0 where
  pub long : 1456 ≤ length m.block
  pub card : card_of m.block m.loan ≡ c
  pub room : RoomKept m.block m.loan
  pub none : NoneNoted m.block

-- what an entry comes to
pub data Passed (c : Card) (m : Memory) (x : Handed) : Type 0 where
  skipped : is_short m x ≡ true → Stands (memory_after m x) c → Passed c m x
  went :
      is_short m x ≡ false → reply_in m.block x.loan x.entry ≡ reply_of c x.entry → Stands (memory_after m x) (act c x.entry).card → Passed c m x

-- nothing is noted past the last process still
none_noted : {b c : List ℕ} → Counts b c → NoneNoted b → NoneNoted c
none_noted x none j p = x.noted j ∙ none j (let e = x.processes in omega arith)

-- a step leaves the text that the card was opened with
step_contents : (c : Card) (i : ℕ) → contents_of (step c i).card ≡ contents_of c
step_contents c i = on_step (λ (x : Answered). contents_of x.card ≡ contents_of c) c (λ r. refl) i (λ p q r. sym (one_access c i).text.0)

-- a step, by the card that it goes by
module _ (b l m : List ℕ) (c : Card) (s : Stands (record { block = b; loan = m }) c) (i : ℕ) where
  -- a refused one, with any loan
  back_answer : is_refused (judged_in b i) ≡ true → (answer_to b l i ≡ (step c i).answer) × ((step c i).card ≡ c)
  back_answer r =
      let e = ap (λ (d : Card). step d i) (sym s.card) ∙ step_judged_lem b i m in
      let stays = step_refused b l i r in
      (stays.answer ∙ sym (ap (λ (x : Answered). x.answer) e ∙ rw r), ap (λ (x : Answered). x.card) e ∙ rw r s.card)

  -- an accepted one, with the loan as it was left
  module _ (r : is_refused (judged_in b i) ≡ false) (lent : loan_words b ≤ length l) (same : take (loan_words b) l ≡ take (loan_words b) m) (roomy : Roomy c) where
    here : card_of b l ≡ c
    here = same_card_lem b l m same s.none ∙ s.card

    below : i < process_count_in b
    below = go (ltb i (process_count_in b) && ltb i 8) refl r
      where
        go :
            (t : Bool) → ltb i (process_count_in b) && ltb i 8 ≡ t →
            is_refused (judged t NoProcess (not (is_idle (control_in b i).place)) NotBusy (ltb (steps_in b) (limit_in b)) LimitReached) ≡ false →
            i < process_count_in b
        go true e h = ltb-true i (process_count_in b) (and_true (ltb i (process_count_in b)) (ltb i 8) e).0
        go false e h = absurd (true≢false h)

    has_room : (control_in b i).place ≡ H21 → noted_in b i < room_in b
    unfolding dictionary_at
    has_room e =
        let p : process_count_in b ≡ c.process_count = process_count_is b l ∙ ap (λ (d : Card). d.process_count) here in
        let t : (control_in b i).place ≡ (local_at c i).control.place =
        ap (λ (x : Control). x.place) (control_is b l i) ∙ ap (λ (d : Card). (local_at d i).control.place) here in
        let n : noted_in b i ≡ (local_at c i).dictionary.length = ap (λ (d : Dictionary). d.length) (dictionary_is b l i) ∙ ap
        (λ (d : Card). (local_at d i).dictionary.length) here in
        let w : room_in b ≡ min 32 (card_weight (contents_of c)) = s.room ∙ ap (λ (d : Card). min 32 (card_weight (contents_of d))) s.card in
        let q = below in
        let h = roomy i (omega arith) (sym t ∙ e) in
        omega arith

    went_answered : record { card = card_of (step_block b l i) (step_loan b l i); answer = answer_to b l i } ≡ step c i
    went_answered = step_is b l i lent has_room ∙ ap (λ (d : Card). step d i) here

    went_report : report_to b l i ≡ (trace c i).report
    went_report = report_is b l i lent has_room ∙ ap (λ (d : Card). (trace d i).report) here

    went_stands : Stands (record { block = step_block b l i; loan = step_loan b l i }) (step c i).card
    went_stands =
        let kept = step_block_kept b l i in
        let card = ap (λ (x : Answered). x.card) went_answered in
        let text = step_contents c i in
        record {
          long = let e = kept.size in let h = s.long in omega arith;
          card = card;
          room = kept_room kept ∙
              (s.room ∙ ap (λ (x : Contents). min 32 (card_weight x))
              (ap (λ (d : Card). contents_of d) s.card ∙ sym (ap (λ (d : Card). contents_of d) card ∙ text)));
          none = λ j p. step_others b l i j (λ e. let q = below in let z = count_kept in omega arith) ∙ s.none j (let z = count_kept in omega arith);
        }
      where
        count_kept : process_count_in (step_block b l i) ≡ process_count_in b
        count_kept = ap byte (number_same b (step_block b l i) 0 1 0 (step_block_kept b l i).size ((step_block_kept b l i).counts 0 (omega arith)))

-- the memory after a step
abbrev pub step_memory : Memory → List ℕ → ℕ → Memory
step_memory m l i =
    record { block = step_block m.block l i; loan = cond (not (is_refused (step_verdict m.block l i))) (step_loan m.block l i) m.loan }

-- what a step comes to: 11 and nothing else, or what the step by value comes to
pub data Stepping (c : Card) (m : Memory) (l : List ℕ) (i : ℕ) : Type 0 where
  short : is_eleven (answer_to m.block l i) ≡ true → Stands (step_memory m l i) c → Stepping c m l i
  goes :
      is_eleven (answer_to m.block l i) ≡ false → answer_to m.block l i ≡ (step c i).answer → report_to m.block l i ≡ (trace c i).report →
      Stands (step_memory m l i) (step c i).card → Stepping c m l i

module _ (m : Memory) (c : Card) (s : Stands m c) (roomy : Roomy c) (l : List ℕ) (i : ℕ) where
  abbrev b : List ℕ
  b = m.block

  abbrev Unaltered : Type 0
  Unaltered = not (is_refused (step_verdict b l i)) ≡ true → take (loan_words b) l ≡ take (loan_words b) m.loan

  -- a refused step leaves the memory
  remains : {x : Answer} → Stays b l i x → is_refused x ≡ true → {d : Card} → d ≡ c → Stands (step_memory m l i) d
  remains {x} y r {d} e =
      let same : step_memory m l i ≡ m =
      let blocks = y.block in
      let v : is_refused (step_verdict b l i) ≡ true = ap is_refused y.verdict ∙ r in
      λ j. record { block = blocks j; loan = cond (not (v j)) (step_loan b l i) m.loan } in
      subst (λ (z : Memory). Stands z d) (sym same) (subst (λ (z : Card). Stands m z) (sym e) s)

  pub steps : Unaltered → Stepping c m l i
  unfolding trace
  steps same = by (is_refused (judged_in b i)) refl (ltb (length l) (loan_words b)) refl
    where
      by : (t : Bool) → is_refused (judged_in b i) ≡ t → (u : Bool) → ltb (length l) (loan_words b) ≡ u → Stepping c m l i
      by true r u _ =
          let stays = step_refused b l i r in
          let x = back_answer b l m.loan c s i r in
          let told : is_refused (step c i).answer ≡ true = ap is_refused (sym x.0 ∙ stays.answer) ∙ r in
          Stepping.goes (ap is_eleven stays.answer ∙ own_numbers b i) x.0 (stays.report ∙ rw told) (remains stays r x.1)
      by false r true q =
          let stays = step_short b l i r (ltb-true (length l) (loan_words b) q) in
          Stepping.short (ap is_eleven stays.answer) (remains stays refl refl)
      by false r false q =
          let lent = ltb-false (length l) (loan_words b) q in
          let v = step_taken b l i r lent in
          let u : is_refused (step_verdict b l i) ≡ false = ap is_refused v in
          let handed = same (rw v) in
          let answer = ap (λ (x : Answered). x.answer) (went_answered b l m.loan c s i r lent handed roomy) in
          let after : record { block = step_block b l i; loan = step_loan b l i } ≡ step_memory m l i =
          λ j. record { block = step_block b l i; loan = cond (not (sym u j)) (step_loan b l i) m.loan } in
          Stepping.goes (taken_numbers b l i v) answer (went_report b l m.loan c s i r lent handed roomy)
          (subst (λ (z : Memory). Stands z (step c i).card) after (went_stands b l m.loan c s i r lent handed roomy))

-- ONE ENTRY
module _ (b l : List ℕ) (c : Card) (s : Stands (record { block = b; loan = l }) c) (roomy : Roomy c) where
  -- a request that leaves the loan
  onward :
      (after : List ℕ) (d : Card) → length after ≡ length b → card_of after l ≡ d → RoomKept after l → Counts b after →
      Stands (record { block = after; loan = l }) d
  onward after d size card room counts = record { long = let h = s.long in omega arith; card = card; room = room; none = none_noted counts s.none }

  passes_by :
      (h : List ℕ) (e : Entry) → FitsEntry e → (is_accepted b h e ≡ true → take (loan_words b) h ≡ take (loan_words b) l) →
      Passed c (record { block = b; loan = l }) (record { entry = e; loan = h })
  unfolding trace
  passes_by h (Entry.Call i k inputs) f _ =
      let e = call_is b l i k inputs f ∙ ap (λ (d : Card). call d i k inputs) s.card in
      Passed.went (call_numbers b i k) (ap (λ (z : Answered). untraced z.answer) e)
      (onward (call_block b i k inputs) (call c i k inputs).card (call_within b i k inputs).size (ap (λ (z : Answered). z.card) e)
      (call_room_kept b l s.room i k inputs f) (call_counts b i k inputs))
  passes_by h (Entry.Exit i) f _ =
      let e = exit_is b l i ∙ ap (λ (d : Card). request_exit d i) s.card in
      Passed.went (exit_numbers b i) (ap (λ (z : Answered). untraced z.answer) e)
      (onward (exit_block b i) (request_exit c i).card (exit_within b i).size (ap (λ (z : Answered). z.card) e)
      (exit_room_kept b l s.room i) (exit_counts b i))
  passes_by h (Entry.Step i) f q = steps_by (steps (record { block = b; loan = l }) c s roomy h i q)
    where
      steps_by : Stepping c (record { block = b; loan = l }) h i → Passed c (record { block = b; loan = l }) (record { entry = Entry.Step i; loan = h })
      steps_by (Stepping.short p z) = Passed.skipped p z
      steps_by (Stepping.goes p a r z) = Passed.went p (ap untraced a) z
  passes_by h (Entry.Trace i) f q = steps_by (steps (record { block = b; loan = l }) c s roomy h i q)
    where
      steps_by : Stepping c (record { block = b; loan = l }) h i → Passed c (record { block = b; loan = l }) (record { entry = Entry.Trace i; loan = h })
      steps_by (Stepping.short p z) = Passed.skipped p z
      steps_by (Stepping.goes p a r z) = Passed.went p (λ j. record { answer = a j; report = r j }) z
  passes_by h (Entry.Read v) f _ =
      let e = read_is b l v ∙ ap (λ (d : Card). read d v) s.card in
      Passed.went (read_numbers b v) (ap (λ (z : Answered). untraced z.answer) e)
      (record { long = s.long; card = ap (λ (z : Answered). z.card) e; room = s.room; none = s.none })
  passes_by h (Entry.Change k from t) f _ =
      let e = change_is b l s.room k from t ∙ ap (λ (d : Card). change d k from t) s.card in
      Passed.went (change_numbers b k from t) (ap (λ (z : Answered). untraced z.answer) e)
      (onward (change_block b k from t) (change c k from t).card (change_within b k from t).size (ap (λ (z : Answered). z.card) e)
      (change_room_kept b l s.room k from t) (change_counts b k from t))

pub passes :
    (m : Memory) (c : Card) → Stands m c → Roomy c → (x : Handed) → FitsEntry x.entry →
    (is_accepted m.block x.loan x.entry ≡ true → take (loan_words m.block) x.loan ≡ take (loan_words m.block) m.loan) → Passed c m x
passes m c s roomy x fits same = passes_by m.block m.loan c s roomy x.loan x.entry fits same
