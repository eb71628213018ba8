-- THE REQUESTS ON A BLOCK ARE THOSE ON THE CARD THAT STANDS THERE (document 02, order 10), for every block, also one that is too short, and every loan: the
-- block after a request holds the card after it, and the answers are the same.
use Rattle.std.specs.Prelude.{Ok, Err}
use Prim.Native.Nat.{ℕ, zero, suc, ◌+◌, ◌<◌, ◌≤◌}
use mathlib.Core.Path.{◌≡◌, refl, sym, ◌∙◌, ap}
use mathlib.Core.Bool.{Bool, true, false, cond, not, ◌&&◌, ◌||◌}
use mathlib.Core.List.{List}
use native.Mathlib.Omega.{arith}
use lib.Dec.{leb, ltb}
use lib.ListN.{length, set}
use lib.Seq.{set-get_or}
use borrow.Author.Tests.{ltb-true, leb-true}
use Rattle.construction.specs.declared.{answers.Refusal.Refusal, answers.Answer.Answer}
use Rattle.construction.specs.declared.answers.Refusal.TheVariants.{NoProcess, NoProgram, Busy, NotBusy, NoPlace, NotAhead, Unsettled}
use Rattle.construction.specs.Parts.{idle_control, no_operation, announcement_at, contents_of, local_at, with_own, with_local, with_revision}
use Rattle.construction.specs.Machine.{holder_of}
use Rattle.construction.specs.Requests.{is_idle, refused, invoked, exiting, shown, value_of, call, request_exit, read}
use Rattle.construction.specs.Changes.{change_read, program_text, is_behind, some_behind, unchanged, if_read, change}
use Rattle.construction.proofs.Basics.{and_true}
use Rattle.requests.specs.Judging.{judged, if_text_accepted}
use Rattle.requests.proofs.Arrays.{in_room}
use Rattle.codes.specs.Types.{Words, Gate, Control, Operation, Card, P1}
use Rattle.codes.specs.Parts.{word_at}
use Rattle.codes.specs.Codes.{byte, bit, control_words, operation_words}
use Rattle.construction.specs.Cells.{FitsWords}
use Rattle.construction.specs.Types.{Verdict}
use Rattle.codes.proofs.Values.{FitsOperation}
use Rattle.block.specs.Layout.{is_room, number_at, process_count_in, variable_count_in, program_count_in, gate_in, control_in, from_in, put_control, put_operation, put_exit}
use Rattle.block.specs.Cards.{card_of, with_operation, with_exit, with_count}
use Rattle.block.proofs.Gets.{process_count_is, variable_count_is, program_count_is, gate_is, announcement_is, record_is, control_is, last_gate_is, from_is}
use Rattle.block.proofs.Puts.{control_stored, operation_stored, exit_stored, count_stored, revision_stored, put_row_length, put_number_length}
use Rattle.block.proofs.Fitting.{variable_count_fits}
use Rattle.texts.proofs.Readings.{change_read_fits}
use Rattle.lent_machine.proofs.Own.{gates_read-kept, announcements_read-kept, simulations_kept, dictionaries_kept, masks_kept}
use Rattle.lent_card.specs.Requests.{unless_refused, call_answer, put_call, call_block, exit_answer, exit_block, value_in, read_answer, change_text, behind_in}
use Rattle.lent_card.specs.Requests.{change_answer, put_change, change_block, RoomKept}

-- a block that has a process, or a program, is long enough
pub there_long : (b : List ℕ) (base i : ℕ) (r : Bool) → ltb i (byte (number_at b base 1 0)) && r ≡ true → 1456 ≤ length b
unfolding number_at is_room
there_long b base i r e = go (leb 1456 (length b)) refl (and_true (ltb i (byte (cond (leb 1456 (length b) && true) (word_at b (base + 0)) 0))) r e).0
  where
    go : (t : Bool) → leb 1456 (length b) ≡ t → ltb i (byte (cond (t && true) (word_at b (base + 0)) 0)) ≡ true → 1456 ≤ length b
    go true q h = leb-true 1456 (length b) q
    go false q h = absurd (omega (arith, ltb-true i 0 h))

module _ (b l : List ℕ) where
  abbrev c : Card
  c = card_of b l

  -- a request by its three tests
  requested :
      (t₁ t₂ t₃ : Bool) (r₁ r₂ r₃ : Refusal) (after : List ℕ) (d : Card) → (t₁ ≡ true → t₂ ≡ true → card_of after l ≡ d) →
      record { card = card_of (unless_refused (judged t₁ r₁ t₂ r₂ t₃ r₃) b after) l; answer = judged t₁ r₁ t₂ r₂ t₃ r₃ }
      ≡ cond (not t₁) (refused c r₁) (cond (not t₂) (refused c r₂) (cond (not t₃) (refused c r₃) (record { card = d; answer = Answer.Taken })))
  requested false t₂ t₃ r₁ r₂ r₃ after d p = refl
  requested true false t₃ r₁ r₂ r₃ after d p = refl
  requested true true false r₁ r₂ r₃ after d p = refl
  requested true true true r₁ r₂ r₃ after d p = let e = p refl refl in λ j. record { card = e j; answer = Answer.Taken }

  -- a call leaves the rest of its process as it was
  called :
      1456 ≤ length b → (i k : ℕ) (inputs : Words) → k < 8 → FitsWords inputs →
      card_of (put_call b i k inputs) l ≡ with_local c i (invoked (local_at c i) k inputs)
  called long i k inputs p f =
      let t : Control = record { place = P1; target = 0 } in
      let o : Operation = record { program = k; inputs = inputs } in
      let fits : FitsOperation o = record { program = omega arith; inputs = f } in
      let b₁ = put_control b i t in
      let b₂ = put_operation b₁ i o in
      let b₃ = put_exit b₂ i false in
      let s₁ = put_row_length b 336 8 i 2 (control_words t) in
      let s₂ = put_row_length b₁ 352 8 i 5 (operation_words o) in
      let s₃ = put_number_length b₂ 392 8 i (bit false) in
      let gates_read = gates_read-kept c i in
      let announcements_read = announcements_read-kept c i in
      let simulations = simulations_kept c i in
      let dictionaries = dictionaries_kept c i in
      let masks = masks_kept c i in
      count_stored b₃ l (omega arith) i 0
      ∙ (ap (λ (x : Card). with_count x i 0) (exit_stored b₂ l (omega arith) i false)
      ∙ (ap (λ (x : Card). with_count (with_exit x i false) i 0) (operation_stored b₁ l (omega arith) i o fits)
      ∙ (ap (λ (x : Card). with_count (with_exit (with_operation x i o) i false) i 0) (control_stored b l long i t (omega arith))
      ∙ λ j. with_own c (set c.controls i t) (set c.operations i o) (set c.exits i false) (set c.counts i 0) (sym gates_read j)
      (sym announcements_read j)
      (sym simulations j) (sym dictionaries j) (sym masks j))))

  pub call_is :
      (i k : ℕ) (inputs : Words) → FitsWords inputs →
      record { card = card_of (call_block b i k inputs) l; answer = call_answer b i k } ≡ call (card_of b l) i k inputs
  unfolding call call_block call_answer
  call_is i k inputs f =
      let processes = process_count_is b l in
      let programs = program_count_is b l in
      let control = control_is b l i in
      requested (ltb i (process_count_in b) && ltb i 8) (ltb k (program_count_in b) && ltb k 8) (is_idle (control_in b i).place) NoProcess NoProgram Busy
      (put_call b i k inputs) (with_local c i (invoked (local_at c i) k inputs))
      (λ p q. called (there_long b 0 i (ltb i 8) p) i k inputs (in_room k (program_count_in b) 8 q) f)
      ∙ λ j. cond (not (ltb i (processes j) && ltb i 8)) (refused c NoProcess)
      (cond (not (ltb k (programs j) && ltb k 8)) (refused c NoProgram)
      (cond (not (is_idle (control j).place)) (refused c Busy)
      (record { card = with_local c i (invoked (local_at c i) k inputs); answer = Answer.Taken })))

  asked : 1456 ≤ length b → (i : ℕ) → card_of (put_exit b i true) l ≡ with_local c i (exiting (local_at c i))
  asked long i =
      let controls = set-get_or c.controls i idle_control in
      let operations = set-get_or c.operations i no_operation in
      let counts = set-get_or c.counts i 0 in
      let gates_read = gates_read-kept c i in
      let announcements_read = announcements_read-kept c i in
      let simulations = simulations_kept c i in
      let dictionaries = dictionaries_kept c i in
      let masks = masks_kept c i in
      exit_stored b l long i true
      ∙ λ j. with_own c (sym controls j) (sym operations j) (set c.exits i true) (sym counts j) (sym gates_read j) (sym announcements_read j)
      (sym simulations j)
      (sym dictionaries j) (sym masks j)

  pub exit_is : (i : ℕ) → record { card = card_of (exit_block b i) l; answer = exit_answer b i } ≡ request_exit (card_of b l) i
  unfolding request_exit exit_block exit_answer
  exit_is i =
      let processes = process_count_is b l in
      let control = control_is b l i in
      requested (ltb i (process_count_in b) && ltb i 8) (not (is_idle (control_in b i).place)) true NoProcess NotBusy NotBusy
      (put_exit b i true) (with_local c i (exiting (local_at c i))) (λ p q. asked (there_long b 0 i (ltb i 8) p) i)
      ∙ λ j. cond (not (ltb i (processes j) && ltb i 8)) (refused c NoProcess)
      (cond (not (not (is_idle (control j).place))) (refused c NotBusy)
      (record { card = with_local c i (exiting (local_at c i)); answer = Answer.Taken }))

  looked :
      (t : Bool) (x : ℕ) → record { card = c; answer = cond (not t) (Answer.Refused NoPlace) (Answer.Value x) }
      ≡ cond (not t) (refused c NoPlace) (record { card = c; answer = Answer.Value x })
  looked true x = refl
  looked false x = refl

  pub read_is : (v : ℕ) → record { card = card_of b l; answer = read_answer b v } ≡ read (card_of b l) v
  unfolding read value_of read_answer
  read_is v =
      let variables = variable_count_is b l in
      let gate = gate_is b l in
      let a = announcement_is b l (holder_of (gate_in b).holder) ∙ ap (λ (g : Gate). announcement_at c (holder_of g.holder)) gate in
      let cell = record_is b l v in
      looked (ltb v (variable_count_in b) && ltb v 64) (value_in b v)
      ∙ λ j. cond (not (ltb v (variables j) && ltb v 64)) (refused c NoPlace) (record { card = c; answer = Answer.Value (shown (gate j) (a j) (cell j)) })

  behind_is : (number n : ℕ) → behind_in b number n ≡ some_behind c.controls c.gates_read c.process_count number n
  unfolding behind_in some_behind
  behind_is number zero = refl
  behind_is number (suc i) =
      let processes = process_count_is b l in
      let control = control_is b l i in
      let gate = last_gate_is b l i in
      let others = behind_is number i in
      λ j. (ltb i (processes j) && is_behind (control j).place (gate j) number) || others j

  -- a change by its tests
  changed_by :
      (t : Bool) (v : Verdict) (ahead unsettled : Bool) (after : List ℕ) (d : Card) → (t ≡ true → card_of after l ≡ d) → (x : Answer) →
      x ≡ cond (not t) (Answer.RefusedAt NoProgram 0)
      (if_text_accepted v (cond (not ahead) (Answer.RefusedAt NotAhead 0) (cond unsettled (Answer.RefusedAt Unsettled 0) Answer.Taken))) →
      record { card = card_of (unless_refused x b after) l; answer = x }
      ≡ cond (not t) (unchanged c NoProgram 0)
      (if_read v c (cond (not ahead) (unchanged c NotAhead 0) (cond unsettled (unchanged c Unsettled 0) (record { card = d; answer = Answer.Taken }))))
  changed_by false v ahead unsettled after d p x e = rw e
  changed_by true (Err said) ahead unsettled after d p x e = rw e
  changed_by true (Ok _) false unsettled after d p x e = rw e
  changed_by true (Ok _) true true after d p x e = rw e
  changed_by true (Ok _) true false after d p x e = let q = p refl in rw e (λ j. record { card = q j; answer = Answer.Taken })

  pub change_is :
      RoomKept b l → (k from : ℕ) (t : List ℕ) →
      record { card = card_of (change_block b k from t) l; answer = change_answer b k from t } ≡ change (card_of b l) k from t
  unfolding change change_block change_answer change_read
  change_is kept k from t =
      let programs = program_count_is b l in
      let variables = variable_count_is b l in
      let gate = gate_is b l in
      let last = from_is b l k in
      let behind = behind_is (from_in b k) 8 ∙ ap (λ (z : ℕ). some_behind c.controls c.gates_read c.process_count z 8) last in
      let read : change_text b t ≡ change_read (contents_of c) t = λ j. program_text (variables j) (kept j) t in
      let fewer = variable_count_fits b in
      let y = (change_text b t).program in
      changed_by (ltb k (program_count_in b) && ltb k 8) (change_text b t).verdict (ltb (gate_in b).seq from)
      (ltb (gate_in b).seq (from_in b k) || behind_in b (from_in b k) 8) (put_change b k from y) (with_revision c k from y)
      (λ p. revision_stored b l (there_long b 2 k (ltb k 8) p) k from y (change_read_fits (variable_count_in b) (omega arith) t _)) _ refl
      ∙ λ j. cond (not (ltb k (programs j) && ltb k 8)) (unchanged c NoProgram 0)
      (if_read (read j).verdict c
      (cond (not (ltb (gate j).seq from)) (unchanged c NotAhead 0)
      (cond (ltb (gate j).seq (last j) || behind j) (unchanged c Unsettled 0)
      (record { card = with_revision c k from (read j).program; answer = Answer.Taken }))))
