-- An answer is known by its fields (specs/Answers, KnownAnswers): two answers with the same word and numbers are the same, so no value, length or count of
-- steps can pass for a refusal.
use Rattle.std.specs.Prelude.{Ok, Err}
use Prim.Native.Nat.{ℕ}
use Prim.Native.String.{String}
use mathlib.Core.Path.{◌≡◌, refl, sym, ap, ◌∙◌}
use mathlib.Core.Bool.{Bool, true, false, cond}
use mathlib.Core.List.{[], ◌∷◌, ◌++◌}
use lib.ListN.{get_or, length}
use Rattle.grammar.specs.Reading.{found, has_word}
use Rattle.construction.specs.Types.{Yield, Instruction, Decoded, Refusal, TooLong, Malformed, OutOfRange, UnknownCode, NoProcess, NoProgram, Busy}
use Rattle.construction.specs.Types.{NotBusy, NoPlace, LimitReached, ShortBuffer, OperandOutOfRange, UnusedOperand, TooHeavy, Answer, RowSwap, CardLine}
use Rattle.construction.specs.Types.{VarLine, SheetLine, InsLine, Verdict, Written, NotAhead, Unsettled, TooLarge, BadTerms, NoAllowance, told_at}
use Rattle.construction.specs.Answers.{bytes, Fields, fields, number_of, output_numbers, done_word, answer_fields, verdict_fields, written_fields, row_fields}
use Rattle.construction.specs.Answers.{decoded_fields, card_line_fields, var_line_fields, sheet_line_fields, ins_line_fields}
use Rattle.construction.specs.KnownAnswers.{card_line_end, var_line_end, sheet_line_end, ins_line_end, KnownBy, KnownByFields}
use Rattle.construction.specs.Instructions.{instruction_of, encode, encoded}
use Rattle.construction.specs.Lines.{card_numbers}
use lib.Dec.{eqb}

-- what can be read back is known
known : {A B : Type 0} (tell : A → B) (from : B → A) → ((a : A) → from (tell a) ≡ a) → (a b : A) → tell a ≡ tell b → a ≡ b
known tell from back a b e = sym (back a) ∙ (ap from e ∙ back b)

-- a refusal from its number
abbrev refusal_from : ℕ → Refusal
refusal_from n =
    get_or
    (TooLong ∷ TooLong ∷ Malformed ∷ OutOfRange ∷ UnknownCode ∷ NoProcess ∷ NoProgram ∷ Busy ∷ NotBusy ∷ NoPlace ∷ LimitReached ∷ ShortBuffer ∷
    OperandOutOfRange ∷ UnusedOperand ∷ TooHeavy ∷ NotAhead ∷ Unsettled ∷ TooLarge ∷ BadTerms ∷ NoAllowance ∷ [])
    n TooLong

refusal_back : (r : Refusal) → refusal_from (number_of r) ≡ r
refusal_back TooLong = refl
refusal_back Malformed = refl
refusal_back OutOfRange = refl
refusal_back UnknownCode = refl
refusal_back NoProcess = refl
refusal_back NoProgram = refl
refusal_back Busy = refl
refusal_back NotBusy = refl
refusal_back NoPlace = refl
refusal_back LimitReached = refl
refusal_back ShortBuffer = refl
refusal_back OperandOutOfRange = refl
refusal_back UnusedOperand = refl
refusal_back TooHeavy = refl
refusal_back NotAhead = refl
refusal_back Unsettled = refl
refusal_back TooLarge = refl
refusal_back BadTerms = refl
refusal_back NoAllowance = refl

pub number_known : (r s : Refusal) → number_of r ≡ number_of s → r ≡ s
number_known = known number_of refusal_from refusal_back

-- an answer from its fields
module _ (f : Fields) where
  abbrev says : String → Bool
  says word = has_word f.word 0 (bytes word)

  abbrev number : ℕ → ℕ
  number k = get_or f.numbers k 0

  abbrev why : Refusal
  why = refusal_from (number 0)

  abbrev pub is_refusal : Bool
  is_refusal = says "refused"

  abbrev done_from : Bool → Answer
  done_from fault =
      Answer.Done (number 0)
      (record { outputs = record { w0 = number 1; w1 = number 2; w2 = number 3; w3 = number 4 }; fault = fault }) (number 5)

  abbrev answer_from : Answer
  answer_from =
      cond (says "taken") Answer.Taken
      (cond (says "run") Answer.Run
      (cond (says "done") (done_from false)
      (cond (says "fault") (done_from true)
      (cond (says "exited") (Answer.Exited (number 0))
      (cond is_refusal (cond (eqb (length f.numbers) 2) (Answer.RefusedAt why (number 1)) (Answer.Refused why)) (Answer.Value (number 0)))))))

  abbrev verdict_from : Verdict
  verdict_from = cond is_refusal (Err (told_at why (number 1))) (Ok tt)

  abbrev written_from : Written
  written_from = cond is_refusal (Err why) (Ok (number 0))

  abbrev row_from : RowSwap
  row_from = cond (says "won") (Ok true) (cond (says "lost") (Ok false) (Err why))

  abbrev instruction_from : Instruction
  instruction_from = instruction_of (encoded (number 0) (number 1) (number 2) (number 3))

  abbrev decoded_from : Decoded
  decoded_from = cond is_refusal (Err why) (Ok instruction_from)

  -- a line from its fields and the place past it
  abbrev card_from : ℕ → CardLine
  card_from end = cond is_refusal (Err why) (Ok (found (card_numbers (number 0) (number 1) (number 2) (number 3)) end))

  abbrev var_from : ℕ → VarLine
  var_from end = cond is_refusal (Err why) (Ok (found (number 0) end))

  abbrev sheet_from : ℕ → SheetLine
  sheet_from end = cond is_refusal (Err why) (Ok (found (number 0) end))

  abbrev ins_from : ℕ → InsLine
  ins_from end = cond is_refusal (Err why) (Ok (found instruction_from end))

done_back :
    (n : ℕ) (y : Yield) (k : ℕ) (b : Bool) → y.fault ≡ b →
    answer_from (fields (done_word b) (n ∷ (output_numbers y.outputs ++ (k ∷ [])))) ≡ Answer.Done n y k
unfolding has_word
done_back n y k true e = ap (λ (b : Bool). Answer.Done n (record { outputs = y.outputs; fault = b }) k) (sym e)
done_back n y k false e = ap (λ (b : Bool). Answer.Done n (record { outputs = y.outputs; fault = b }) k) (sym e)

answer_back : (a : Answer) → answer_from (answer_fields a) ≡ a
unfolding answer_fields has_word
answer_back Answer.Taken = refl
answer_back Answer.Run = refl
answer_back (Answer.Done n y k) = done_back n y k y.fault refl
answer_back (Answer.Exited k) = refl
answer_back (Answer.Value x) = refl
answer_back (Answer.Refused r) = ap Answer.Refused (refusal_back r)
answer_back (Answer.RefusedAt r line) = ap (λ (x : Refusal). Answer.RefusedAt x line) (refusal_back r)

verdict_back : (v : Verdict) → verdict_from (verdict_fields v) ≡ v
unfolding verdict_fields has_word
verdict_back (Ok _) = refl
verdict_back (Err e) = ap (λ (x : Refusal). Err (told_at x e.line)) (refusal_back e.refusal)

written_back : (w : Written) → written_from (written_fields w) ≡ w
unfolding written_fields has_word
written_back (Ok n) = refl
written_back (Err r) = ap Err (refusal_back r)

row_back : (a : RowSwap) → row_from (row_fields a) ≡ a
unfolding row_fields has_word
row_back (Ok true) = refl
row_back (Ok false) = refl
row_back (Err r) = ap Err (refusal_back r)

instruction_back : (x : Instruction) → instruction_of (encode x) ≡ x
unfolding encode
instruction_back Instruction.Stop = refl
instruction_back (Instruction.Input a b) = refl
instruction_back (Instruction.Constant a b) = refl
instruction_back (Instruction.Load a v) = refl
instruction_back (Instruction.Store v b) = refl
instruction_back (Instruction.LoadAt a b) = refl
instruction_back (Instruction.StoreAt a b) = refl
instruction_back (Instruction.Add a b) = refl
instruction_back (Instruction.Subtract a b) = refl
instruction_back (Instruction.SkipEqual a b c) = refl
instruction_back (Instruction.SkipLess a b c) = refl
instruction_back (Instruction.Output a b) = refl
instruction_back (Instruction.Allocate a) = refl
instruction_back (Instruction.Free a) = refl

decoded_back : (d : Decoded) → decoded_from (decoded_fields d) ≡ d
unfolding decoded_fields has_word
decoded_back (Ok x) = ap Ok (instruction_back x)
decoded_back (Err r) = ap Err (refusal_back r)

card_back : (x : CardLine) → card_from (card_line_fields x) (card_line_end x) ≡ x
unfolding card_line_fields has_word
card_back (Ok x) = refl
card_back (Err r) = ap Err (refusal_back r)

var_back : (x : VarLine) → var_from (var_line_fields x) (var_line_end x) ≡ x
unfolding var_line_fields has_word
var_back (Ok x) = refl
var_back (Err r) = ap Err (refusal_back r)

sheet_back : (x : SheetLine) → sheet_from (sheet_line_fields x) (sheet_line_end x) ≡ x
unfolding sheet_line_fields has_word
sheet_back (Ok x) = refl
sheet_back (Err r) = ap Err (refusal_back r)

ins_back : (x : InsLine) → ins_from (ins_line_fields x) (ins_line_end x) ≡ x
unfolding ins_line_fields decoded_fields has_word
ins_back (Ok x) = ap (λ (y : Instruction). Ok (found y x.next)) (instruction_back x.value)
ins_back (Err r) = ap Err (refusal_back r)

-- the other way is plain
both : {A B : Type 0} (tell : A → B) → ((a b : A) → tell a ≡ tell b → a ≡ b) → KnownBy tell
both tell h a b = (h a b, ap tell)

pub answer_known : (a b : Answer) → answer_fields a ≡ answer_fields b → a ≡ b
answer_known = known answer_fields answer_from answer_back

pub verdict_known : (a b : Verdict) → verdict_fields a ≡ verdict_fields b → a ≡ b
verdict_known = known verdict_fields verdict_from verdict_back

pub written_known : (a b : Written) → written_fields a ≡ written_fields b → a ≡ b
written_known = known written_fields written_from written_back

pub row_known : (a b : RowSwap) → row_fields a ≡ row_fields b → a ≡ b
row_known = known row_fields row_from row_back

-- every enum that a public function answers
pub known_by_fields : KnownByFields
known_by_fields = record {
  refusal = both number_of number_known;
  answer = both answer_fields answer_known;
  verdict = both verdict_fields verdict_known;
  written = both written_fields written_known;
  row = both row_fields row_known;
  decoded = both decoded_fields (known decoded_fields decoded_from decoded_back);
  card = both _ (known {B = Fields × ℕ} (λ (x : CardLine). (card_line_fields x, card_line_end x)) (λ f. card_from f.0 f.1) card_back);
  var = both _ (known {B = Fields × ℕ} (λ (x : VarLine). (var_line_fields x, var_line_end x)) (λ f. var_from f.0 f.1) var_back);
  sheet = both _ (known {B = Fields × ℕ} (λ (x : SheetLine). (sheet_line_fields x, sheet_line_end x)) (λ f. sheet_from f.0 f.1) sheet_back);
  ins = both _ (known {B = Fields × ℕ} (λ (x : InsLine). (ins_line_fields x, ins_line_end x)) (λ f. ins_from f.0 f.1) ins_back);
}
