-- Every answer by its fields: the word of its case and its numbers, as document 01 gives them. 'If an answer is an enum, a definition gives this
-- paper's number and values for every case of the enum, and the promises use that definition.'
use Rattle.std.specs.Prelude.{ℕ, ◌≡◌, Bool, true, false, List, [], ◌∷◌, ◌++◌, Ok, Err}
use Prim.Native.Char.{code}
use Prim.Native.String.{String}
use Rattle.grammar.specs.Writing.{decimal}
use Rattle.construction.specs.Types.{Words, Decoded, Encoded, Card, Refusal, TooLong, Malformed, OutOfRange, UnknownCode, NoProcess, NoProgram, Busy}
use Rattle.construction.specs.Types.{NotBusy, NoPlace, LimitReached, ShortBuffer, OperandOutOfRange, UnusedOperand, TooHeavy, NotAhead, Unsettled}
use Rattle.construction.specs.Types.{TooLarge, BadTerms, NoAllowance, Answer, Answered, RowSwap, CardLine, VarLine, SheetLine, InsLine, Verdict, Written}
use Rattle.construction.specs.Instructions.{encode}

-- the bytes of a text
abbrev pub bytes : String → List ℕ
bytes String.[] = []
bytes (String.◌∷◌ x xs) = code x ∷ bytes xs

-- the word of a case, no bytes where the paper gives it none, and the numbers that follow
pub record Fields : Type 0 where
  pub word : List ℕ
  pub numbers : List ℕ

abbrev pub fields : String → List ℕ → Fields
fields word numbers = record { word = bytes word; numbers = numbers }

-- '`refused` and the number'
abbrev pub refused_with : ℕ → Fields
refused_with number = fields "refused" (number ∷ [])

-- the number of a refusal in the table of 'Turned back', 12 and 13 in document 02, order 8, 14 in its order 9, 15 and 16 in its order 11, 17 in its order 13,
-- 18 and 19 in its order 14
abbrev pub number_of : Refusal → ℕ
number_of TooLong = 1
number_of Malformed = 2
number_of OutOfRange = 3
number_of UnknownCode = 4
number_of NoProcess = 5
number_of NoProgram = 6
number_of Busy = 7
number_of NotBusy = 8
number_of NoPlace = 9
number_of LimitReached = 10
number_of ShortBuffer = 11
number_of OperandOutOfRange = 12
number_of UnusedOperand = 13
number_of TooHeavy = 14
number_of NotAhead = 15
number_of Unsettled = 16
number_of TooLarge = 17
number_of BadTerms = 18
number_of NoAllowance = 19

-- a call, an exit request, a step or a read: '`taken`, `run`, `done` with four outputs and the operation's own steps, `exited` with its own
-- steps, the looked value, or `refused` and the number'; 'a done answer gives it', the gate number, 'before the outputs' (document 02, order 4);
-- 'The answer says `fault` where it said `done`' (order 6)
abbrev pub output_numbers : Words → List ℕ
output_numbers o = o.w0 ∷ o.w1 ∷ o.w2 ∷ o.w3 ∷ []

abbrev pub done_word : Bool → String
done_word true = "fault"
done_word false = "done"

unfoldable pub answer_fields : Answer → Fields
answer_fields Answer.Taken = fields "taken" []
answer_fields Answer.Run = fields "run" []
answer_fields (Answer.Done number y steps) = fields (done_word y.fault) (number ∷ (output_numbers y.outputs ++ (steps ∷ [])))
answer_fields (Answer.Exited steps) = fields "exited" (steps ∷ [])
answer_fields (Answer.Value x) = fields "" (x ∷ [])
answer_fields (Answer.Refused r) = refused_with (number_of r)
answer_fields (Answer.RefusedAt r line) = fields "refused" (number_of r ∷ line ∷ [])

-- tests of an answer: an operation runs on, a request is refused (one that is not is taken)
abbrev pub is_run : Answer → Bool
is_run Answer.Taken = false
is_run Answer.Run = true
is_run (Answer.Done number y steps) = false
is_run (Answer.Exited steps) = false
is_run (Answer.Value x) = false
is_run (Answer.Refused r) = false
is_run (Answer.RefusedAt r line) = false

abbrev pub is_refused : Answer → Bool
is_refused Answer.Taken = false
is_refused Answer.Run = false
is_refused (Answer.Done number y steps) = false
is_refused (Answer.Exited steps) = false
is_refused (Answer.Value x) = false
is_refused (Answer.Refused r) = true
is_refused (Answer.RefusedAt r line) = true

-- a card text: accepted, or '`card,refused,number,line`'
unfoldable pub verdict_fields : Verdict → Fields
verdict_fields (Ok _) = fields "accepted" []
verdict_fields (Err e) = fields "refused" (number_of e.refusal ∷ e.line ∷ [])

-- the writer 'tells the length', or is refused
unfoldable pub written_fields : Written → Fields
written_fields (Ok n) = fields "" (n ∷ [])
written_fields (Err r) = refused_with (number_of r)

-- a swap on a lent row 'tells which', or is refused
unfoldable pub row_fields : RowSwap → Fields
row_fields (Ok true) = fields "won" []
row_fields (Ok false) = fields "lost" []
row_fields (Err r) = refused_with (number_of r)

-- 'each line yields either its fields or a refusal number'; the place past the line is none of the paper's numbers
unfoldable pub card_line_fields : CardLine → Fields
card_line_fields (Ok x) = let v = x.value in fields "card" (v.process_count ∷ v.variable_count ∷ v.program_count ∷ v.limit ∷ [])
card_line_fields (Err r) = refused_with (number_of r)

unfoldable pub var_line_fields : VarLine → Fields
var_line_fields (Ok x) = fields "var" (x.value ∷ [])
var_line_fields (Err r) = refused_with (number_of r)

unfoldable pub sheet_line_fields : SheetLine → Fields
sheet_line_fields (Ok x) = fields "sheet" (x.value ∷ [])
sheet_line_fields (Err r) = refused_with (number_of r)

-- an instruction by its code and operands
abbrev pub encoded_fields : Encoded → Fields
encoded_fields e = fields "ins" (e.code ∷ e.a ∷ e.b ∷ e.c ∷ [])

unfoldable pub decoded_fields : Decoded → Fields
decoded_fields (Ok x) = encoded_fields (encode x)
decoded_fields (Err r) = refused_with (number_of r)

unfoldable pub ins_line_fields : InsLine → Fields
ins_line_fields (Ok x) = decoded_fields (Ok x.value)
ins_line_fields (Err r) = decoded_fields (Err r)

-- a request on the card c is refused with a number: 'Elsewhere the card and all lent cells and bytes remain as they were'
pub record Refuses (c : Card) (r : Answered) (number : ℕ) : Type 0 where
  pub refusal : answer_fields r.answer ≡ refused_with number
  pub kept : r.card ≡ c

-- a change is refused with a number and a line of its text (document 02, order 11)
pub record RefusesAt (c : Card) (r : Answered) (number line : ℕ) : Type 0 where
  pub refusal : answer_fields r.answer ≡ fields "refused" (number ∷ line ∷ [])
  pub kept : r.card ≡ c

-- Fields in a line of text, 'parted by commas': each follows a comma.
unfoldable pub numbers_text : List ℕ → List ℕ
numbers_text [] = []
numbers_text (n ∷ ns) = 44 ∷ (decimal n ++ numbers_text ns)

abbrev pub word_text : List ℕ → List ℕ
word_text [] = []
word_text (x ∷ xs) = 44 ∷ x ∷ xs

unfoldable pub fields_text : Fields → List ℕ
fields_text f = word_text f.word ++ numbers_text f.numbers
