-- What a change comes to (document 02, order 11), in the customer's words: when 14 and 16 are given, what a taken change switches, and that every
-- operation runs the text of its gate number.
use Rattle.std.specs.Prelude.{ℕ, suc, ◌≤◌, ◌<◌, ◌≡◌, Bool, true, false, cond, ◌&&◌, ◌⊎◌, List, [], ◌∷◌, ◌++◌, length, get_or, replicate, eqb, leb, Ok}
use Rattle.grammar.specs.Reading.{found}
use Rattle.construction.specs.Types.{Card, Contents}
use Rattle.construction.specs.Instructions.{no_line}
use Rattle.construction.specs.Weight.{weight, card_weight}
use Rattle.construction.specs.Lines.{sheet_line}
use Rattle.construction.specs.Parts.{contents_of, local_at, texts_of, program_of}
use Rattle.construction.specs.Requests.{is_process}
use Rattle.construction.specs.Opening.{program_so_far, ins_from}
use Rattle.construction.specs.Changes.{change_read, has_read}
use Rattle.construction.specs.History.{Entry, Replacement, Invocation, Finish, operation_at, start_words, text_at, bench_run, run}
use Rattle.construction.specs.Readings.{ProgramReading}

-- 14 of a change: its `sheet` line, which says m instructions from the place i on, and its m `ins` lines are good, and the text counts more than 32 or more than
-- 'the card's w, which stays that of the opening text'. Its line is that of the last instruction; a line left over is not looked at.
abbrev pub instructions_read : Contents → List ℕ → ℕ → ℕ → ProgramReading
instructions_read x t m i = ins_from x.variable_count t m 0 (program_so_far m (replicate 32 no_line) i 2)

pub record Overweight (x : Contents) (t : List ℕ) (line : ℕ) : Type 0 where
  pub m : ℕ
  pub i : ℕ
  pub sheet : sheet_line t 0 ≡ Ok (found m i)
  pub good : (instructions_read x t m i).verdict ≡ Ok tt
  pub heavy : (32 < weight (instructions_read x t m i).program) ⊎ (card_weight x < weight (instructions_read x t m i).program)
  pub last : line ≡ suc m

-- 16: 'the last change of that sheet lies above the gate's number or some operation under way last read a gate number below it (one that has read none
-- doesn't count)'
pub data UnsettledBy (c : Card) (k : ℕ) : Type 0 where
  pending : c.gate.seq < get_or c.from k 0 → UnsettledBy c k
  behind :
      (i : ℕ) → is_process c i ≡ true → has_read (local_at c i).control.place ≡ true → (local_at c i).gate.seq < get_or c.from k 0 → UnsettledBy c k

-- the number of the last change of program k that an observer noted, 0 if there was none
unfoldable pub last_change : List Replacement → ℕ → ℕ
last_change [] k = 0
last_change (y ∷ ys) k = cond (eqb y.program k) y.from (last_change ys k)

-- the opened card o after the list of entries es, beside the bench, which goes by the changes that the observer noted
pub record RunsItsText (o : Card) (es : List Entry) : Type 0 where
  -- the last change of a program, as refusal 16 has it, is the last one noted
  pub last : (k : ℕ) → k < 8 → get_or (run o es).card.from k 0 ≡ last_change (run o es).history.changes k
  -- the card's choice of a text is the bench's, for every number that the gate has or will have
  pub ahead :
      (k number : ℕ) → (run o es).card.gate.seq ≤ number →
      program_of (texts_of (run o es).card) k number ≡ text_at (contents_of o) (run o es).history.changes k number
  -- and for the number that an operation under way last read, however late it is
  pub helping :
      (i : ℕ) → i < o.process_count → has_read (local_at (run o es).card i).control.place ≡ true → (k : ℕ) →
      program_of (texts_of (run o es).card) k (local_at (run o es).card i).gate.seq
      ≡ text_at (contents_of o) (run o es).history.changes k (local_at (run o es).card i).gate.seq

-- the words after the bench ran the operations of an order, newest first, each by the text of its number among all these changes
unfoldable pub bench_words : Card → List Replacement → List Invocation → List Finish → List ℕ
bench_words o changes xs [] = start_words o
bench_words o changes xs (f ∷ fs) =
    (bench_run o changes (suc (length fs)) (operation_at xs f.operation) (bench_words o changes xs fs)).words

-- each yields what the bench gets for it by the text of its gate number. A done answer tells that number and that yield (`returns` of demand 3).
abbrev pub AllRun : Card → List Replacement → List Invocation → List Finish → Type 0
AllRun o changes xs [] = Unit
AllRun o changes xs (f ∷ fs) =
    (f.yields ≡ (bench_run o changes f.gate (operation_at xs f.operation) (bench_words o changes xs fs)).yields) × AllRun o changes xs fs

-- the opened card o after the list of entries es: so did every finished operation, and the bench's words are those that they left
pub record RunsByNumber (o : Card) (es : List Entry) : Type 0 where
  pub operations : AllRun o (run o es).history.changes (run o es).history.operations (run o es).history.order
  pub words : bench_words o (run o es).history.changes (run o es).history.operations (run o es).history.order ≡ (run o es).history.words

-- an entry, taken or not, that brings program k another text for operations with this number
abbrev pub brings : Entry → ℕ → ℕ → Bool
brings (Entry.Call i j inputs) k number = false
brings (Entry.Exit i) k number = false
brings (Entry.Step i) k number = false
brings (Entry.Trace i) k number = false
brings (Entry.Read v) k number = false
brings (Entry.Change j from t) k number = eqb j k && leb from number

abbrev pub NoneBrings : List Entry → ℕ → ℕ → Type 0
NoneBrings [] k number = Unit
NoneBrings (e ∷ es) k number = (brings e k number ≡ false) × NoneBrings es k number

-- a change of program k from a number on to the text t, after the entries es₁ and before the entries es₂
pub record Switches (o : Card) (es₁ es₂ : List Entry) (k from : ℕ) (t : List ℕ) : Type 0 where
  -- 'Operations numbered G or later run the new text, even if called before the change', until a further change
  pub later :
      (number : ℕ) → from ≤ number → NoneBrings es₂ k number →
      text_at (contents_of o) (run o (es₁ ++ (Entry.Change k from t ∷ es₂))).history.changes k number ≡ (change_read (contents_of o) t).program
  -- 'earlier ones the old', whatever is changed further
  pub earlier :
      (number : ℕ) → number < from →
      text_at (contents_of o) (run o (es₁ ++ (Entry.Change k from t ∷ es₂))).history.changes k number
      ≡ text_at (contents_of o) (run o es₁).history.changes k number
  -- 'whoever helps and however late': a helper that last read a number below G runs the old text
  pub helping :
      (i : ℕ) → i < o.process_count →
      let l = local_at (run o (es₁ ++ (Entry.Change k from t ∷ es₂))).card i in
      has_read l.control.place ≡ true → l.gate.seq < from →
      program_of (texts_of (run o (es₁ ++ (Entry.Change k from t ∷ es₂))).card) k l.gate.seq
      ≡ text_at (contents_of o) (run o es₁).history.changes k l.gate.seq
