-- WHERE NOTHING IS PRINTED THE SWEEP BEGINS (document 02, order 12): the files then leave every process called, so that the pieces of the sweep are one
-- sweep, from the card text and the calls on.
use Rattle.std.specs.Prelude.{Ok, Err}
use Prim.Native.Nat.{ℕ, zero, suc, ◌+◌, ◌*◌, ◌<◌, ◌≤◌}
use mathlib.Core.Path.{◌≡◌, refl, sym, ◌∙◌, ap, subst}
use mathlib.Core.Bool.{Bool, true, false, not}
use mathlib.Core.List.{List, [], ◌∷◌}
use native.Mathlib.Decide.{ℕ_discrete}
use native.Mathlib.Nat.{mul-le-mul}
use native.Mathlib.Omega.{arith}
use lib.Dec.{eqb, ltb}
use lib.ListN.{length, length-set}
use borrow.Author.Tests.{lt-ltb, le-leb, eqb-false}
use Rattle.grammar.specs.Reading.{has_word}
use Rattle.grammar.specs.Writing.{largest, place_after}
use Rattle.grammar.proofs.Cases.{on_test, clash}
use Rattle.construction.specs.declared.{answers.Answered.Answered, card.Card.Card, texts.Contents.Contents, accesses.Control.Control}
use Rattle.construction.specs.declared.accesses.Label.TheVariants.{P1}
use Rattle.construction.specs.Answers.{is_refused}
use Rattle.construction.specs.Parts.{idle_control, contents_of}
use Rattle.construction.specs.Lines.{card_line}
use Rattle.construction.specs.Requests.{is_program, is_idle, is_busy, call}
use Rattle.construction.specs.Opening.{fresh, read_card, opened}
use Rattle.construction.specs.Writing.{text_of}
use Rattle.construction.specs.History.{Entry, Observation, run}
use Rattle.construction.proofs.Basics.{on_set}
use Rattle.construction.proofs.Text.Bounds.{opened_bounded}
use Rattle.construction.proofs.Text.RoundTrip.{given_back_lem}
use Rattle.construction.proofs.Observing.Entries.{on_call}
use Rattle.construction.specs.Cells.{FitsWords}
use Rattle.construction.specs.Types.{Verdict}
use Rattle.block.specs.Layout.{process_count_in, room_in}
use Rattle.block.specs.Cards.{card_of}
use Rattle.block.proofs.Gets.{process_count_is}
use Rattle.calls.specs.Tables.{request_in}
use Rattle.calls.specs.Texts.{Calls as CallsOf, calls_of, line_refusal}
use Rattle.commands.specs.CommandFields.{command_fields}
use Rattle.commands.specs.Printing.{verb_of, head_text, line_text}
use Rattle.loan.specs.Loans.{loan_words}
use Rattle.lent_card.specs.Requests.{call_answer, call_block}
use Rattle.lent_card.proofs.Cards.{call_is}
use Rattle.lent_text.specs.Opened.{opened_block, judged}
use Rattle.lent_text.proofs.Theorems.{opened_card, opened_room}
use Rattle.lent_runs.specs.Runs.{Memory, AllFit, remember, handing, opened_memory, memory_of}
use Rattle.lent_runs.proofs.Handing.{runs_every_list}
use Rattle.xorshift.specs.Xorshift.{drawn}
use Rattle.lent_sweep.specs.Sweeps.{start, swept}
use Rattle.lent_sweep.specs.Entries.{call_of}
use Rattle.lent_sweep.specs.Limits.{AllBusy, AllCalled}
use Rattle.sweeping.specs.declared.Started.{Started}
use Rattle.sweeping.specs.Pieces.{begun, stage, in_pieces}
use Rattle.sweeping.specs.Starting.{Begun, called_from, called, Starting, calls_starting, card_starting, starting, Starts}
use Rattle.sweeping.proofs.CallWords.{Table, words_of, table_read, inputs_fit}
use Rattle.sweeping.proofs.Whole.{sweep_at, pieces_are_one}

-- the calls of m processes, from process i on; and of all processes of a card
unfoldable pub calls_from : List ℕ → ℕ → ℕ → List Entry
calls_from table zero i = []
calls_from table (suc m) i = call_of table i ∷ calls_from table m (suc i)

abbrev pub every_call : List ℕ → List ℕ → List Entry
every_call card table = calls_from table (opened card).card.process_count 0

calls_fit : {table : List ℕ} → Table table → (m i : ℕ) (k : Memory) → AllFit (handing k (calls_from table m i))
unfolding AllFit handing calls_from
calls_fit h zero i k = tt
calls_fit h (suc m) i k = (inputs_fit h i, calls_fit h m (suc i) _)

-- the processes below i are called
record CalledTo (o c : Card) (table : List ℕ) (i : ℕ) : Type 0 where
  text : contents_of c ≡ contents_of o
  controls : length c.controls ≡ 8
  busy : (j : ℕ) → j < i → is_busy c j ≡ true
  programs : (j : ℕ) → j < i → is_program o (request_in table j).program ≡ true

-- one more, if its call is not refused
module _ (o c : Card) (table : List ℕ) (i : ℕ) (few : o.process_count ≤ 8) (h : CalledTo o c table i) where
  next : is_refused (call c i (request_in table i).program (request_in table i).inputs).answer ≡ false →
      CalledTo o (call c i (request_in table i).program (request_in table i).inputs).card table (suc i)
  next =
      on_call (λ (r : Answered). is_refused r.answer ≡ false → CalledTo o r.card table (suc i)) c (λ why e. clash (cc)) i _ _
      (λ below there idle e.
      record {
        text = h.text;
        controls = simp length-set h.controls;
        busy =
            λ j lt.
            on_set (λ (t : Control). not (is_idle t.place) ≡ true) c.controls i j (record { place = P1; target = 0 }) idle_control
            (omega (arith, h.controls, ap (λ (x : Contents). x.process_count) h.text)) (λ _. refl) (λ ne. h.busy j (omega (arith, ne)));
        programs = λ j lt. by there j lt (ℕ_discrete j i);
      })
    where
      by : is_program c (request_in table i).program ≡ true → (j : ℕ) → j < suc i → Dec (j ≡ i) → is_program o (request_in table j).program ≡ true
      by there j lt (yes e) = rw e (rw (ap (λ (x : Contents). x.program_count) h.text) at there)
      by there j lt (no ne) = h.programs j (omega (arith, ne))

-- the calls that are made where no line is printed, and what they leave; a call does not write the loan
record Made (o : Card) (table b l block : List ℕ) (m i p : ℕ) : Type 0 where
  to : CalledTo o (card_of block l) table p
  memory : remember (record { block = b; loan = l }) (handing (record { block = b; loan = l }) (calls_from table m i)) ≡ record { block = block; loan = l }

module _ (o : Card) (few : o.process_count ≤ 8) {table : List ℕ} (h : Table table) (l : List ℕ) where
  made :
      (m i p : ℕ) → m + i ≡ p → (b : List ℕ) → CalledTo o (card_of b l) table i → (called_from table m i b).text ≡ [] →
      Made o table b l (called_from table m i b).block m i p
  unfolding called_from remember handing calls_from line_text head_text verb_of command_fields
  made zero i p n b t = λ e. record { to = subst (CalledTo o (card_of b l) table) (omega arith) t; memory = refl }
  made (suc m) i p n b t =
      let x = request_in table i in
      let r = call_is b l i x.program x.inputs (inputs_fit h i) in
      on_test (λ (z : Begun). z.text ≡ [] → Made o table b l z.block (suc m) i p) (is_refused (call_answer b i x.program)) (λ _ e. clash (cc))
      (λ q e.
      let on = subst (λ (z : Answered). is_refused z.answer ≡ false → CalledTo o z.card table (suc i)) (sym r) (next o (card_of b l) table i few t) q in
      let rest = made m (suc i) p (omega arith) (call_block b i x.program x.inputs) on e in
      record { to = rest.to; memory = rest.memory })

-- an accepted text has processes: the card writes it again byte for byte, a card without processes writes no bytes, and no bytes are no card text
pub some_process : (t : List ℕ) → (opened t).verdict ≡ Ok tt → 0 < (opened t).card.process_count
unfolding text_of opened read_card card_line has_word
some_process t a = by (eqb (opened t).card.process_count 0) refl
  where
    by : (z : Bool) → eqb (opened t).card.process_count 0 ≡ z → 0 < (opened t).card.process_count
    by true e = let n : [] ≡ t = rw e at (given_back_lem t a) in clash (let v = rw (← n) at a in cc)
    by false e = let ne = eqb-false (opened t).card.process_count 0 e in omega (arith, ne)

-- `start` tells how many bytes it printed
nothing_printed : (text : List ℕ) → place_after 0 (length text) ≡ 0 → text ≡ []
nothing_printed [] h = refl
nothing_printed (x ∷ xs) h = absurd (omega arith)

-- what `start` leaves where the sweep begins: the block after all calls, which are entries of demand 3, and a table of calls that can be made again
pub record Begins (card b l block table : List ℕ) : Type 0 where
  pub fits : AllFit (handing (opened_memory card b l) (every_call card table))
  pub memory : memory_of card b l (handing (opened_memory card b l) (every_call card table)) ≡ record { block = block; loan = l }
  pub busy : AllBusy (run (opened card).card (every_call card table)).card
  pub called : AllCalled (opened card).card table
  pub words : (i : ℕ) → FitsWords (request_in table i).inputs
  pub some : 0 < (opened card).card.process_count

few : (card : List ℕ) → (opened card).card.process_count ≤ 8
unfolding opened fresh
few card = (opened_bounded card).process_count

processes : (card b : List ℕ) → 1456 ≤ length b → process_count_in (opened_block card b) ≡ (opened card).card.process_count
processes card b long = process_count_is (opened_block card b) [] ∙ ap (λ (c : Card). c.process_count) (opened_card card b long [])

-- a loan of 768 words is long enough for every card text
pub loan_enough : (card b : List ℕ) → 1456 ≤ length b → loan_words (opened_block card b) ≤ 768
loan_enough card b long =
    let p : 3 * process_count_in (opened_block card b) ≤ 24 = omega (arith, few card, processes card b long) in
    let w : room_in (opened_block card b) ≤ 32 = omega (arith, opened_room card b long) in
    mul-le-mul p w

module _ (card b l : List ℕ) (long : 1456 ≤ length b) (lent : loan_words (opened_block card b) ≤ length l) where
  abbrev o : Card
  o = (opened card).card

  abbrev first : Memory
  first = opened_memory card b l

  none_called : (table : List ℕ) → CalledTo o (card_of first.block l) table 0
  unfolding opened fresh
  none_called table =
      rw (opened_card card b long l) (record { text = refl; controls = refl; busy = λ j lt. absurd (omega arith); programs = λ j lt. absurd (omega arith) })

  -- after the calls
  all_called : {table : List ℕ} → Table table → (opened card).verdict ≡ Ok tt → (called table first.block).text ≡ [] →
      Begins card b l (called table first.block).block table
  all_called {table} h a e =
      let block = (called table first.block).block in
      let n = processes card b long in
      let x = made o (few card) h l (process_count_in first.block) 0 o.process_count (omega arith) first.block (none_called table) e in
      let to = x.to in
      let memory = subst (λ (k : ℕ). memory_of card b l (handing first (calls_from table k 0)) ≡ record { block = block; loan = l }) n x.memory in
      let fits = calls_fit h o.process_count 0 first in
      let stands : card_of block l ≡ (run o (every_call card table)).card =
      ap (λ (m : Memory). card_of m.block m.loan) (sym memory) ∙ ap (λ (m : Observation). m.card) (runs_every_list card b l long lent _ fits) in
      record {
        fits = fits;
        memory = memory;
        busy = subst AllBusy stands (λ i lt. to.busy i (omega (arith, ap (λ (y : Contents). y.process_count) to.text)));
        called = λ i lt. (lt-ltb (i * 5 + 4) (length table) (omega (arith, few card, h.size)), to.programs i lt);
        words = inputs_fit h;
        some = some_process card a;
      }

  -- a printed line has a byte, so that where nothing is printed the files are good and all calls are taken
  pub begins : (calls : List ℕ) → (starting card calls b).text ≡ [] → Begins card b l (starting card calls b).block (starting card calls b).table
  unfolding starting line_refusal opened
  begins calls = by (read_card card).verdict refl
    where
      P : Starting → Type 0
      P s = s.text ≡ [] → Begins card b l s.block s.table

      with_lines : (x : CallsOf) → Table (words_of x) → (read_card card).verdict ≡ Ok tt → P (calls_starting (opened_block card b) x)
      with_lines (Ok words) h a = all_called h a
      with_lines (Err wrong) h a = λ e. clash (cc)

      by : (v : Verdict) → (read_card card).verdict ≡ v → P (card_starting calls (opened_block card b) (judged v b))
      by (Ok _) a =
          rw (le-leb 1456 (length b) long)
          (on_test P (ltb 65536 (length calls)) (λ _ e. clash (cc))
          (λ _. with_lines (calls_of calls (process_count_in (opened_block card b))) (table_read calls _) a))
      by (Err said) a = λ e. clash (cc)

  -- THE WHOLE SWEEP, from its two files on: where nothing is printed of them, its pieces come to the fold of the single requests over the whole drawn schedule
  pub whole_sweep :
      (calls : List ℕ) → (starting card calls b).text ≡ [] → (steps seed : ℕ) → steps ≤ largest →
      let s = starting card calls b in
      swept s.table (start s.block l) (drawn steps seed o.process_count) ≡ sweep_at
      (in_pieces steps s.table (stage s.block l (begun steps seed)))
  whole_sweep calls e steps seed h =
      let s = starting card calls b in
      let x = begins calls e in
      subst
      (λ (m : Memory). swept s.table (start m.block m.loan) (drawn steps seed o.process_count) ≡ sweep_at
      (in_pieces steps s.table (stage m.block m.loan (begun steps seed))))
      x.memory
      (pieces_are_one card b l long lent s.table x.words x.called x.some _ x.fits x.busy steps seed h)

  -- the same by what `start` gives: the length of what it printed, the block and the table
  pub started_sweep :
      {calls buffer b' z : List ℕ} {r : Started} → Starts card calls b buffer r b' z → r.length ≡ 0 → (steps seed : ℕ) → steps ≤ largest →
      swept r.table (start b' l) (drawn steps seed o.process_count) ≡ sweep_at (in_pieces steps r.table (stage b' l (begun steps seed)))
  started_sweep {calls} x e steps seed h =
      rw (x.table, x.block) (whole_sweep calls (nothing_printed (starting card calls b).text (sym x.put.place ∙ e)) steps seed h)
