-- A STEP ON BLOCK AND LOAN IS THE STEP ON THE CARD THAT STANDS THERE (document 02, order 10), for every block and every loan of p × w items: the block and the
-- loan after it hold the card after it, and answer and report are the same. A process that is about to note a record has fewer than w items, which the
-- theorem of limits (construction) says of every card of a run. A step with a shorter loan, or one that is refused, leaves block and loan as they were.
use Prim.Native.Nat.{ℕ, ◌<◌, ◌≤◌}
use mathlib.Core.Path.{◌≡◌, refl, sym, ◌∙◌, ap}
use mathlib.Core.Bool.{Bool, true, false, cond, not, ◌&&◌, true≢false}
use mathlib.Core.List.{List}
use lib.Dec.{ltb}
use lib.ListN.{length, get_or}
use borrow.Author.Tests.{lt-ltb, le-ltb, ltb-true}
use Rattle.construction.specs.declared.{accesses.Access.Access, answers.Answer.Answer, answers.Answered.Answered, card.Card.Card, accesses.Label.Label}
use Rattle.construction.specs.declared.answers.Refusal.TheVariants.{NoProcess, NotBusy, LimitReached, ShortBuffer}
use Rattle.construction.specs.Dictionary.{no_item}
use Rattle.construction.specs.Parts.{local_at}
use Rattle.construction.specs.Answers.{is_refused}
use Rattle.construction.specs.Machine.{access_of, access_in, cell_by, writing, perform, advance, swap_of}
use Rattle.construction.specs.OneAccess.{touched_cell}
use Rattle.construction.specs.Requests.{is_idle, refused, step_answer, answer_of, step}
use Rattle.construction.specs.Tracing.{label_of, report_with, report_of, no_report, trace}
use Rattle.construction.proofs.Basics.{and_true}
use Rattle.construction.proofs.Statements.Tracing.{answers}
use Rattle.requests.specs.Judging.{judged}
use Rattle.requests.proofs.Arrays.{in_room}
use Rattle.block.specs.Layout.{process_count_in, limit_in, steps_in, room_in, control_in, exit_in, last_gate_in, mask_in, noted_in}
use Rattle.block.specs.Cards.{card_of}
use Rattle.block.proofs.Gets.{process_count_is, limit_is, steps_is, control_is, exit_is, count_is, last_gate_is, last_is, mask_is, dictionary_is}
use Rattle.loan.specs.Loans.{loan_words, has_items, held_dictionary}
use Rattle.loan.proofs.Kept.{held_is}
use Rattle.lent_helping.specs.Steps.{access_loan}
use Rattle.lent_helping.proofs.Keeps.{has_items_lem}
use Rattle.lent_helping.proofs.Performs.{access_swap_is, advance_is}
use Rattle.lent_card.proofs.Cards.{there_long}
use Rattle.lent_steps.specs.Steps.{lent_judged, step_verdict, access_at, advanced, step_block, step_loan, answer_in, answer_to, item_to, cell_to, swap_to, report_to}
use Rattle.lent_steps.proofs.Judging.{judged_in}

-- the answer of a process, by the card that stands in a block
answer_is : (b l : List ℕ) (i : ℕ) (d : Card) → card_of b l ≡ d → answer_in b i ≡ answer_of (local_at d i)
answer_is b l i d e =
    let t = control_is b l i in
    let a = last_is b l i in
    let n = count_is b l i in
    (λ j. step_answer (t j).place (a j) (n j)) ∙ ap (λ (x : Card). answer_of (local_at x i)) e

-- H21 alone is an access that notes
abbrev is_note : Access → Bool
is_note Access.None = false
is_note (Access.Gate a) = false
is_note (Access.Announcement a) = false
is_note Access.Help = false
is_note Access.Note = true
is_note Access.Write = false

at_top : (exit : Bool) → is_note (access_of Label.P5 exit) ≡ false
unfolding access_of
at_top true = refl
at_top false = refl

noting : (p : Label) (exit : Bool) → access_of p exit ≡ Access.Note → p ≡ Label.H21
unfolding access_of
noting Label.H21 exit e = refl
noting Label.Idle exit e = absurd (true≢false (sym (ap is_note e)))
noting Label.P1 exit e = absurd (true≢false (sym (ap is_note e)))
noting Label.P3 exit e = absurd (true≢false (sym (ap is_note e)))
noting Label.P7 exit e = absurd (true≢false (sym (ap is_note e)))
noting Label.P10 exit e = absurd (true≢false (sym (ap is_note e)))
noting Label.C2 exit e = absurd (true≢false (sym (ap is_note e)))
noting Label.C4 exit e = absurd (true≢false (sym (ap is_note e)))
noting Label.P13 exit e = absurd (true≢false (sym (ap is_note e)))
noting Label.P14 exit e = absurd (true≢false (sym (ap is_note e)))
noting Label.P16 exit e = absurd (true≢false (sym (ap is_note e)))
noting Label.H36 exit e = absurd (true≢false (sym (ap is_note e)))
noting Label.P19 exit e = absurd (true≢false (sym (ap is_note e)))
noting Label.P20 exit e = absurd (true≢false (sym (ap is_note e)))
noting Label.P21 exit e = absurd (true≢false (sym (ap is_note e)))
noting Label.P22 exit e = absurd (true≢false (sym (ap is_note e)))
noting Label.F1 exit e = absurd (true≢false (sym (ap is_note e)))
noting Label.F3 exit e = absurd (true≢false (sym (ap is_note e)))
noting Label.P6 exit e = absurd (true≢false (sym (ap is_note e)))
noting Label.P5 exit e = absurd (true≢false (sym (ap is_note e) ∙ at_top exit))

module _ (b l : List ℕ) (i : ℕ) where
  abbrev c : Card
  c = card_of b l

  -- the access is the machine's
  access_at_is : access_at b i ≡ access_in (local_at c i)
  access_at_is =
      let t = control_is b l i in
      let e = exit_is b l i in
      λ j. access_of (t j).place (e j)

  -- a step by its tests
  stepped_by :
      (t₁ t₂ t₃ : Bool) (after left : List ℕ) (x : Answer) (y : Answered) →
      (t₁ ≡ true → ◌≡◌ {A = Answered} (record { card = card_of after left; answer = x }) y) →
      let v = lent_judged (judged t₁ NoProcess t₂ NotBusy t₃ LimitReached) false in
      ◌≡◌ {A = Answered} (record { card = card_of (cond (is_refused v) b after) (cond (is_refused v) l left); answer = cond (is_refused v) v x })
      (cond (not t₁) (refused c NoProcess) (cond (not t₂) (refused c NotBusy) (cond (not t₃) (refused c LimitReached) y)))
  stepped_by false t₂ t₃ after left x y h = refl
  stepped_by true false t₃ after left x y h = refl
  stepped_by true true false after left x y h = refl
  stepped_by true true true after left x y h = h refl

  -- refusals 5, 8 and 10 are those of the card
  same_refused :
      (t₁ t₂ t₃ : Bool) (y : Answered) → is_refused y.answer ≡ false →
      let x = judged t₁ NoProcess t₂ NotBusy t₃ LimitReached in
      let z = cond (not t₁) (refused c NoProcess) (cond (not t₂) (refused c NotBusy) (cond (not t₃) (refused c LimitReached) y)) in
      (is_refused x ≡ is_refused z.answer) × (is_refused x ≡ true → x ≡ z.answer)
  same_refused false t₂ t₃ y h = (refl, λ _. refl)
  same_refused true false t₃ y h = (refl, λ _. refl)
  same_refused true true false y h = (refl, λ _. refl)
  same_refused true true true y h = (sym h, λ e. absurd (true≢false (sym e)))

  abbrev after : Answered
  after = record { card = advance c i; answer = answer_of (local_at (advance c i) i) }

  judged_is : (is_refused (judged_in b i) ≡ is_refused (step c i).answer) × (is_refused (judged_in b i) ≡ true → judged_in b i ≡ (step c i).answer)
  unfolding step
  judged_is =
      let processes = process_count_is b l in
      let control = control_is b l i in
      let steps = steps_is b l in
      let limit = limit_is b l in
      rw (processes, control, steps, limit)
      (same_refused (ltb i c.process_count && ltb i 8) (not (is_idle (local_at c i).control.place)) (ltb c.steps c.limit) after
      (answers (local_at (advance c i) i)))

  -- a step that 5, 8 or 10 refuses: with any loan
  pub step_turned_back :
      is_refused (step c i).answer ≡ true → (answer_to b l i ≡ (step c i).answer) × (step_block b l i ≡ b) × (step_loan b l i ≡ l)
  unfolding answer_to step_block step_loan step_verdict
  step_turned_back h =
      let e : is_refused (judged_in b i) ≡ true = judged_is.0 ∙ h in
      (rw (e, e) (judged_is.1 e), rw (e, e), rw (e, e))

  -- a step with a loan too short that they leave: 11
  pub step_short :
      length l < loan_words b → is_refused (step c i).answer ≡ false →
      (answer_to b l i ≡ Answer.Refused ShortBuffer) × (step_block b l i ≡ b) × (step_loan b l i ≡ l)
  unfolding answer_to step_block step_loan step_verdict
  step_short h k =
      let e : is_refused (judged_in b i) ≡ false = judged_is.0 ∙ k in
      let s = lt-ltb (length l) (loan_words b) h in
      (rw (e, s), rw (e, s), rw (e, s))

  module _ (lent : loan_words b ≤ length l) (room : (control_in b i).place ≡ Label.H21 → noted_in b i < room_in b) where
    items : ltb i (process_count_in b) && ltb i 8 ≡ true → has_items b l i ≡ true
    items p = has_items_lem b l i (ltb-true i (process_count_in b) (and_true (ltb i (process_count_in b)) (ltb i 8) p).0) lent

    -- an accepted step
    advanced_is : ltb i (process_count_in b) && ltb i 8 ≡ true → card_of (advanced b l i) (access_loan (access_at b i) b l i) ≡ advance c i
    advanced_is p =
        advance_is b l (there_long b 0 i (ltb i 8) p) i (in_room i (process_count_in b) 8 p) (items p) (λ e. room (noting (control_in b i).place (exit_in b i) e))

    pub step_is : ◌≡◌ {A = Answered} (record { card = card_of (step_block b l i) (step_loan b l i); answer = answer_to b l i }) (step (card_of b l) i)
    unfolding step answer_to step_block step_loan step_verdict
    step_is =
        let processes = process_count_is b l in
        let control = control_is b l i in
        let steps = steps_is b l in
        let limit = limit_is b l in
        let short = le-ltb (length l) (loan_words b) lent in
        rw short
        (stepped_by (ltb i (process_count_in b) && ltb i 8) (not (is_idle (control_in b i).place)) (ltb (steps_in b) (limit_in b)) (advanced b l i)
        (access_loan (access_at b i) b l i) (answer_in (advanced b l i) i) after
        (λ p. let e = advanced_is p in let x = answer_is (advanced b l i) (access_loan (access_at b i) b l i) i (advance c i) e in
        λ j. record { card = e j; answer = x j }))
        ∙ λ j. cond (not (ltb i (processes j) && ltb i 8)) (refused c NoProcess)
        (cond (not (not (is_idle (control j).place))) (refused c NotBusy)
        (cond (not (ltb (steps j) (limit j))) (refused c LimitReached) after))

    -- WHAT IS TOLD OF IT
    module _ (p : ltb i (process_count_in b) && ltb i 8 ≡ true) where
      own_dictionary : held_dictionary b l i ≡ (local_at c i).dictionary
      own_dictionary = held_is b l i (items p) ∙ dictionary_is b l i

      item_to_is : item_to b l i ≡ (writing (local_at c i).gate.seq (local_at c i).control (local_at c i).dictionary).item
      unfolding writing
      item_to_is =
          let d = own_dictionary in
          let t = control_is b l i in
          λ j. get_or (d j).items (t j).target no_item

      cell_to_is : cell_to b l i ≡ touched_cell c i
      cell_to_is =
          let a = access_at_is in
          let processes = process_count_is b l in
          let g = last_gate_is b l i in
          let t = control_is b l i in
          let e = item_to_is in
          λ j. cell_by (a j) (processes j) i (g j) (t j).target (e j).variable

      swap_to_is : swap_to b l i ≡ swap_of c i
      unfolding swap_of
      swap_to_is =
          let a = access_at_is in
          access_swap_is b l (there_long b 0 i (ltb i 8) p) i (in_room i (process_count_in b) 8 p) (items p) (access_at b i) ∙ λ j. (perform (a j) c i).swap

      told_is :
          report_with (label_of (control_in b i).place (exit_in b i)) (cell_to b l i) (swap_to b l i) (last_gate_in (advanced b l i) i).seq
          (mask_in (advanced b l i) i)
          ≡ report_of c i
      unfolding report_of
      told_is =
          let d = advanced b l i in
          let m = access_loan (access_at b i) b l i in
          let e = advanced_is p in
          let t = control_is b l i in
          let x = exit_is b l i in
          let cell = cell_to_is in
          let swap = swap_to_is in
          let g : last_gate_in d i ≡ (local_at (advance c i) i).gate = last_gate_is d m i ∙ ap (λ (k : Card). (local_at k i).gate) e in
          let mask : mask_in d i ≡ (local_at (advance c i) i).mask = mask_is d m i ∙ ap (λ (k : Card). (local_at k i).mask) e in
          λ j. report_with (label_of (t j).place (x j)) (cell j) (swap j) (g j).seq (mask j)

    pub report_is : report_to b l i ≡ (trace (card_of b l) i).report
    unfolding trace report_to step_verdict
    report_is =
        let short = le-ltb (length l) (loan_words b) lent in
        rw short (go (is_refused (judged_in b i)) refl)
      where
        go :
            (q : Bool) → is_refused (judged_in b i) ≡ q →
            cond (is_refused (lent_judged (judged_in b i) false)) no_report
            (report_with (label_of (control_in b i).place (exit_in b i)) (cell_to b l i) (swap_to b l i) (last_gate_in (advanced b l i) i).seq
            (mask_in (advanced b l i) i))
            ≡ cond (is_refused (step c i).answer) no_report (report_of c i)
        go true e = rw (e, e, sym judged_is.0 ∙ e)
        go false e = rw (e, sym judged_is.0 ∙ e)
            (told_is (below (ltb i (process_count_in b) && ltb i 8) (not (is_idle (control_in b i).place)) (ltb (steps_in b) (limit_in b)) e))
          where
            below : (t₁ t₂ t₃ : Bool) → is_refused (judged t₁ NoProcess t₂ NotBusy t₃ LimitReached) ≡ false → t₁ ≡ true
            below true t₂ t₃ h = refl
            below false t₂ t₃ h = absurd (true≢false h)
