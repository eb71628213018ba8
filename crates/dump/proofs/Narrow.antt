-- What a read shows has 32 bits (document 01: 'Variables, inputs, outputs and the registers r0 to r3 are unsigned 32-bit words'): the words of the
-- sequential run stay so, if the inputs of every call are.
use Rattle.std.specs.Prelude.{Ok, Err}
use Prim.Native.Nat.{ℕ, zero, suc, ◌+◌, ◌≤◌, ◌<◌, min}
use mathlib.Core.Bool.{true, cond, not, ◌&&◌}
use mathlib.Core.Path.{◌≡◌, refl, ◌∙◌, ap, subst}
use mathlib.Core.List.{List, [], ◌∷◌}
use native.Mathlib.Omega.{arith}
use lib.Dec.{eqb, leb, ltb}
use lib.ListN.{length, get_or, set, take}
use borrow.Author.Tests.{ltb-true, not-false}
use Rattle.grammar.proofs.Cases.{on_test, and_true, clash}
use Rattle.construction.specs.Types.{Decoded, CardLine}
use Rattle.construction.specs.declared.{cells.Words.Words, programs.Instruction.Instruction, programs.Encoded.Encoded}
use Rattle.construction.specs.declared.{programs.Line.Line, programs.Program.Program, simulations.Simulation.Simulation, card.Card.Card}
use Rattle.construction.specs.declared.{texts.Contents.Contents}
use Rattle.construction.specs.declared.answers.Refusal.{Refusal}
use Rattle.construction.specs.declared.answers.Refusal.TheVariants.{TooLong, Malformed}
use Rattle.construction.specs.Cells.{FitsWords}
use Rattle.construction.specs.Instructions.{fetch, no_line, no_program, started, decode, encoded, encode}
use Rattle.construction.specs.Effects.{Store}
use Rattle.construction.specs.Sequential.{Ending, word_at, with_stores, next_executed, run_from, sequential}
use Rattle.construction.specs.Lines.{ins_line, sheet_line, var_line, card_line}
use Rattle.construction.specs.Parts.{contents_of}
use Rattle.construction.specs.Opening.{fresh, refused_at, program_refused_at, with_line, ins_from, read_program, with_program, programs_from, with_start, vars_from}
use Rattle.construction.specs.Opening.{at_end, then_programs, after_card, read_card, opened}
use Rattle.construction.specs.Weight.{card_weight}
use Rattle.construction.specs.Changes.{change_read, if_program_accepted}
use Rattle.construction.specs.History.{Entry, FitsEntry, FitEntries, act, Invocation, Replacement, History, Event, event_of, latest_call, text_at, finishing, with_finish, with_finishes}
use Rattle.construction.specs.History.{with_response, with_entry, Observation, observe, observe_all, opening, run}
use Rattle.construction.specs.Types.{Verdict}
use Rattle.construction.specs.Readings.{ProgramReading, Reading}
use Rattle.construction.proofs.Basics.{set_keeps, get_or_replicate_same}
use Rattle.construction.proofs.Text.Lines.{card_read, ins_read, var_read}
use Rattle.construction.proofs.Text.Decoding.{decoded_encodes}
use Rattle.construction.proofs.Text.Reading.{after_fields, after_length, on_ins, on_sheet, on_weighed, on_program, on_var, on_accepted, on_card_lem}
use Rattle.construction.proofs.Simulating.Effects.{on_executed_lem}
use Rattle.construction.proofs.Simulating.Sizes.{Small, FitsConstant, FitsSimulation, FitStores, FitsExecuted, zeros_fit, started_fits, next_fits}

-- ---- instructions: the constant is a word
-- a constant that was decoded is a word
constant_narrow : (n a b : ℕ) → decode n (encoded 2 a b 0) ≡ Ok (Instruction.Constant a b) → Small b
unfolding decode
constant_narrow n a b =
    on_test (λ (d : Decoded). d ≡ Ok (Instruction.Constant a b) → Small b) (not (ltb a 4 && (ltb b 4294967296 && true)))
    (λ t d. clash (cc))
    (λ t d. let h = and_true (ltb a 4) _ (not-false _ t) in ltb-true b 4294967296 (and_true (ltb b 4294967296) true h.1).0)

decoded_narrow : (n : ℕ) (x : Encoded) (y : Instruction) → n ≤ 256 → decode n x ≡ Ok y → FitsConstant y
unfolding encode
decoded_narrow n x Instruction.Stop h e = tt
decoded_narrow n x (Instruction.Input a b) h e = tt
decoded_narrow n x (Instruction.Constant a b) h e =
    constant_narrow n a b (ap (λ (z : Encoded). decode n z) (decoded_encodes n x h (Instruction.Constant a b) e).back ∙ e)
decoded_narrow n x (Instruction.Load a v) h e = tt
decoded_narrow n x (Instruction.Store v b) h e = tt
decoded_narrow n x (Instruction.LoadAt a b) h e = tt
decoded_narrow n x (Instruction.StoreAt a b) h e = tt
decoded_narrow n x (Instruction.Add a b) h e = tt
decoded_narrow n x (Instruction.Subtract a b) h e = tt
decoded_narrow n x (Instruction.SkipEqual a b c) h e = tt
decoded_narrow n x (Instruction.SkipLess a b c) h e = tt
decoded_narrow n x (Instruction.Output a b) h e = tt
decoded_narrow n x (Instruction.Allocate a) h e = tt
decoded_narrow n x (Instruction.Free a) h e = tt

-- ---- programs
abbrev NarrowProgram : Program → Type 0
NarrowProgram p = (k : ℕ) → FitsConstant (get_or p.lines k no_line).instruction

none_narrow : NarrowProgram no_program
none_narrow k = rw (get_or_replicate_same 32 k no_line) tt

abbrev NarrowReading : ProgramReading → Type 0
NarrowReading r = NarrowProgram r.program

ins_narrow : (n : ℕ) (t : List ℕ) (m k : ℕ) (r : ProgramReading) → n ≤ 256 → NarrowReading r → NarrowReading (ins_from n t m k r)
unfolding ins_from
ins_narrow n t zero k r small h = h
ins_narrow n t (suc m) k r small h =
    on_ins NarrowReading (ins_line n t r.at) r k (λ x. ins_from n t m (suc k) x)
    (λ y i e. ins_narrow n t m (suc k) (with_line r k y i) small
    (λ j. set_keeps (λ (l : Line). FitsConstant l.instruction) r.program.lines k j (record { instruction = y }) no_line
    (λ _. let d = ins_read n t r.at y i e in decoded_narrow n d.numbers y small d.fits) (h j)))
    (λ why. none_narrow)

read_narrow : (n most : ℕ) (t : List ℕ) (at line : ℕ) → n ≤ 256 → NarrowReading (read_program n most t at line)
unfolding read_program
read_narrow n most t at line small =
    on_sheet NarrowReading n most t (sheet_line t at) line
    (λ m i _. on_weighed NarrowReading most (line + m) (ins_from n t m 0 (after_length m i (suc line)))
    (λ _. ins_narrow n t m 0 (after_length m i (suc line)) small none_narrow) none_narrow)
    (λ why. none_narrow)

ended_narrow : (t : List ℕ) (v : Verdict) (r : ProgramReading) → NarrowReading r →
    NarrowReading (if_program_accepted v r (cond (eqb r.at (length t)) r (program_refused_at Malformed r.line)))
ended_narrow t (Ok _) r h = on_test NarrowReading (eqb r.at (length t)) (λ _. h) (λ _. none_narrow)
ended_narrow t (Err e) r h = h

change_narrow : (x : Contents) (t : List ℕ) → x.variable_count ≤ 256 → NarrowReading (change_read x t)
unfolding change_read
change_narrow x t small =
    on_test NarrowReading (ltb 16384 (length t)) (λ _. none_narrow)
    (λ _. let r = read_program x.variable_count (min 32 (card_weight x)) t 0 1 in
    ended_narrow t r.verdict r (read_narrow x.variable_count (min 32 (card_weight x)) t 0 1 small))

-- ---- what a text opens to: narrow starting values and programs; and no process without a variable
record NarrowContents (x : Contents) : Type 0 where
  starts : (v : ℕ) → Small (get_or x.starts v 0)
  programs : (k : ℕ) → NarrowProgram (get_or x.programs k no_program)
  small : x.variable_count ≤ 256
  some : x.variable_count ≡ 0 → x.process_count ≡ 0

abbrev NarrowText : Reading → Type 0
NarrowText r = NarrowContents r.contents

empty_narrow : (why : Refusal) (line : ℕ) → NarrowText (refused_at why line)
empty_narrow why line =
    record {
      starts = λ v. rw (get_or_replicate_same {A = ℕ} 64 v 0) (omega arith);
      programs = λ k. rw (get_or_replicate_same 8 k no_program) none_narrow;
      small = omega arith;
      some = λ _. refl;
    }

vars_narrow : (t : List ℕ) (m k : ℕ) (r : Reading) → NarrowText r → NarrowText (vars_from t m k r)
unfolding vars_from
vars_narrow t zero k r h = h
vars_narrow t (suc m) k r h =
    on_var NarrowText (var_line t r.at) r k (λ x. vars_from t m (suc k) x)
    (λ v i e. vars_narrow t m (suc k) (with_start r k v i)
    (record {
      starts = λ j. set_keeps Small r.contents.starts k j v 0 (λ _. (var_read t r.at v i e).fits) (h.starts j);
      programs = h.programs;
      small = h.small;
      some = h.some;
    }))
    (λ why. empty_narrow why r.line)

programs_narrow : (t : List ℕ) (m k : ℕ) (r : Reading) → NarrowText r → NarrowText (programs_from t m k r)
unfolding programs_from
programs_narrow t zero k r h = h
programs_narrow t (suc m) k r h =
    let x = read_program r.contents.variable_count 32 t r.at r.line in
    on_program NarrowText x.verdict x r k (λ y. programs_from t m (suc k) y)
    (λ _. programs_narrow t m (suc k) (with_program r k x)
    (record {
      starts = h.starts;
      programs = λ j. set_keeps NarrowProgram r.contents.programs k j x.program no_program
          (λ _. read_narrow r.contents.variable_count 32 t r.at r.line h.small) (h.programs j);
      small = h.small;
      some = h.some;
    }))
    empty_narrow

card_narrow : (t : List ℕ) (x : CardLine) → card_line t 0 ≡ x → NarrowText (after_card t x)
card_narrow t x e =
    on_card_lem NarrowText t x
    (λ p n s l i f.
    let c = (card_read t 0 p n s l i (e ∙ f)).fits in
    let none = empty_narrow Malformed 0 in
    let first : NarrowText (after_fields p n s l i) =
    record
    { starts = none.starts; programs = none.programs; small = omega (arith, c.variable_count); some = λ z. absurd (omega (arith, c.variable_count)) } in
    let r = vars_from t n 0 (after_fields p n s l i) in
    let vars = vars_narrow t n 0 (after_fields p n s l i) first in
    let programs = on_accepted NarrowText r (λ y. programs_from t s 0 y) (λ _. programs_narrow t s 0 r vars) (λ _ _ _. vars) in
    let q = then_programs t s r in
    on_accepted NarrowText q (λ y. at_end t y)
    (λ _. on_test NarrowText (eqb q.at (length t)) (λ _. programs) (λ _. empty_narrow Malformed q.line)) (λ _ _ _. programs))
    (λ why. empty_narrow why 1)

contents_narrow : (t : List ℕ) → NarrowContents (read_card t).contents
unfolding read_card
contents_narrow t = on_test NarrowText (ltb 16384 (length t)) (λ _. empty_narrow TooLong 0) (λ _. card_narrow t (card_line t 0) refl)

-- ---- the sequential run
abbrev NarrowWords : List ℕ → Type 0
NarrowWords words = (v : ℕ) → Small (get_or words v 0)

stores_narrow : (words : List ℕ) (l : List Store) → NarrowWords words → FitStores l → NarrowWords (with_stores words l)
stores_narrow words [] h q = h
stores_narrow words (x ∷ l) h q =
    stores_narrow (set words x.variable x.value) l (λ v. set_keeps Small words x.variable v x.value 0 (λ _. q.0) (h v)) q.1

fetch_narrow : (p : Program) (k : ℕ) → NarrowProgram p → FitsConstant (fetch p k)
unfolding fetch
fetch_narrow p k h = on_test FitsConstant (ltb k p.length) (λ _. h k) (λ _. tt)

module _ (n : ℕ) (p : Program) (inputs : Words) (hp : NarrowProgram p) (hi : FitsWords inputs) where
  run_narrow :
      (fuel : ℕ) (s : Simulation) (words : List ℕ) → FitsSimulation s → NarrowWords words → NarrowWords (run_from n p inputs fuel s words).words
  unfolding run_from
  run_narrow zero s words hs hw = hw
  run_narrow (suc fuel) s words hs hw =
      on_executed_lem (λ (r : Ending). NarrowWords r.words) (next_executed n p inputs s words)
      (λ _. hw)
      (λ _. hw)
      (λ t l e.
      let q = subst FitsExecuted e (next_fits n p inputs (word_at words) s (fetch_narrow p s.counter hp) hi hw hs) in
      run_narrow fuel t (with_stores words l) q.0 (stores_narrow words l hw q.1))

  sequential_narrow : (words : List ℕ) → NarrowWords words → NarrowWords (sequential n p inputs words).words
  unfolding sequential
  sequential_narrow words hw =
      on_test NarrowWords (run_from n p inputs 32 started words).yields.fault (λ _. hw) (λ _. run_narrow 32 started words started_fits hw)

-- ---- the observer's notes
abbrev NarrowCalls : List Invocation → Type 0
NarrowCalls [] = Unit {0}
NarrowCalls (x ∷ xs) = FitsWords x.inputs × NarrowCalls xs

abbrev NarrowChanges : List Replacement → Type 0
NarrowChanges [] = Unit {0}
NarrowChanges (x ∷ xs) = NarrowProgram x.text × NarrowChanges xs

record NarrowHistory (s : History) : Type 0 where
  calls : NarrowCalls s.operations
  changes : NarrowChanges s.changes
  words : NarrowWords s.words

latest_narrow : (xs : List Invocation) (i : ℕ) → NarrowCalls xs → FitsWords (latest_call xs i).inputs
unfolding latest_call
latest_narrow [] i h = zeros_fit
latest_narrow (x ∷ xs) i h =
    on_test (λ (y : Invocation). FitsWords y.inputs) (eqb x.process i) (λ _. h.0) (λ _. latest_narrow xs i h.1)

module _ (o : Card) (ho : NarrowContents (contents_of o)) where
  text_narrow : (ys : List Replacement) (k number : ℕ) → NarrowChanges ys → NarrowProgram (text_at (contents_of o) ys k number)
  unfolding text_at
  text_narrow [] k number h = ho.programs k
  text_narrow (y ∷ ys) k number h =
      on_test NarrowProgram (eqb y.program k && leb y.from number) (λ _. h.0) (λ _. text_narrow ys k number h.1)

  finish_narrow : (gate : ℕ) (is : List ℕ) (s : History) → NarrowHistory s → NarrowHistory (with_finishes o gate is s)
  unfolding with_finishes
  finish_narrow gate [] s h = h
  finish_narrow gate (i ∷ is) s h =
      finish_narrow gate is (with_finish o gate i s)
      (record {
        calls = h.calls;
        changes = h.changes;
        words =
            let x = latest_call s.operations i in
            sequential_narrow o.variable_count (text_at (contents_of o) s.changes x.program (suc (length s.order))) x.inputs
            (text_narrow s.changes x.program (suc (length s.order)) h.changes) (latest_narrow s.operations i h.calls) s.words h.words;
      })

  response_narrow : (s : History) (i : ℕ) (v : Event) → NarrowHistory s → NarrowHistory (with_response s i v)
  response_narrow s i Event.taken h = h
  response_narrow s i (Event.returned r) h = record { calls = h.calls; changes = h.changes; words = h.words }
  response_narrow s i Event.none h = h

  entry_narrow : (s : History) (e : Entry) (v : Event) → FitsEntry e → NarrowHistory s → NarrowHistory (with_entry o s e v)
  entry_narrow s (Entry.Call i k x) Event.taken q h = record { calls = (q, h.calls); changes = h.changes; words = h.words }
  entry_narrow s (Entry.Call i k x) (Event.returned r) q h = h
  entry_narrow s (Entry.Call i k x) Event.none q h = h
  entry_narrow s (Entry.Exit i) v q h = h
  entry_narrow s (Entry.Step i) v q h = response_narrow s i v h
  entry_narrow s (Entry.Trace i) v q h = response_narrow s i v h
  entry_narrow s (Entry.Read x) v q h = h
  entry_narrow s (Entry.Change k from t) Event.taken q h = record
      { calls = h.calls; changes = (change_narrow (contents_of o) t ho.small, h.changes); words = h.words }
  entry_narrow s (Entry.Change k from t) (Event.returned r) q h = h
  entry_narrow s (Entry.Change k from t) Event.none q h = h

  all_narrow : (m : Observation) (es : List Entry) → FitEntries es → NarrowHistory m.history → NarrowHistory (observe_all o m es).history
  unfolding observe_all observe
  all_narrow m [] q h = h
  all_narrow m (e ∷ es) q h =
      let r = act m.card e in
      all_narrow (observe o m e) es q.1
      (entry_narrow (with_finishes o m.card.gate.seq (finishing m.card r.card) m.history) e (event_of r.answer) q.0
      (finish_narrow m.card.gate.seq (finishing m.card r.card) m.history h))

start_narrow : (starts : List ℕ) (n : ℕ) → NarrowWords starts → NarrowWords (take n starts)
start_narrow starts zero h v = omega arith
start_narrow [] (suc n) h v = h v
start_narrow (x ∷ l) (suc n) h zero = h zero
start_narrow (x ∷ l) (suc n) h (suc v) = start_narrow l n (λ w. h (suc w)) v

-- the words of the bench after any list of entries whose inputs are words
pub words_narrow : (t : List ℕ) (es : List Entry) → FitEntries es → (v : ℕ) → get_or (run (opened t).card es).history.words v 0 < 4294967296
unfolding opened fresh
words_narrow t es q =
    let c = contents_narrow t in
    (all_narrow (opened t).card c (opening (opened t).card) es q
    (record { calls = tt; changes = tt; words = start_narrow (read_card t).contents.starts (read_card t).contents.variable_count c.starts })).words

-- a card without variables has no process
pub no_process : (t : List ℕ) → (opened t).card.variable_count ≡ 0 → (opened t).card.process_count ≡ 0
unfolding opened fresh
no_process t e = (contents_narrow t).some e
