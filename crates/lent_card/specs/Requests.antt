-- Call, exit request (document 01: wish), read (document 01: look) and change (document 02, order 11) on a card that stands in a block of lent words
-- (order 10): the answer, and the block after it. What is judged is taken out of the block, and what a taken request changes is put back; a refused one
-- leaves the block as it was. A block that is too short has no processes, programs and variables, so 5, 6 and 9 answer there.
use Rattle.std.specs.Prelude.{ℕ, zero, suc, min, ◌≡◌, Bool, true, false, cond, not, ◌&&◌, ◌||◌, List, ltb}
use Rattle.construction.specs.declared.{answers.Answer.Answer}
use Rattle.construction.specs.declared.answers.Refusal.TheVariants.{NoPlace}
use Rattle.construction.specs.Weight.{card_weight}
use Rattle.construction.specs.Parts.{contents_of}
use Rattle.construction.specs.Machine.{holder_of}
use Rattle.construction.specs.Requests.{shown}
use Rattle.construction.specs.Answers.{is_refused}
use Rattle.construction.specs.Changes.{program_text, is_behind}
use Rattle.construction.specs.Readings.{ProgramReading}
use Rattle.requests.specs.Judging.{call_judged, exit_judged, change_judged}
use Rattle.codes.specs.Types.{Words, Program, P1}
use Rattle.block.specs.Layout.{process_count_in, variable_count_in, program_count_in, room_in, gate_in, announcement_in, record_in, control_in, put_control, put_operation}
use Rattle.block.specs.Layout.{put_exit, put_count, last_gate_in, from_in, put_from, put_later, keep_later}
use Rattle.block.specs.Cards.{card_of}

-- a request that is refused leaves the block as it was
abbrev pub unless_refused : Answer → List ℕ → List ℕ → List ℕ
unless_refused x b after = cond (is_refused x) b after

-- call: refusals 5, 6, 7
unfoldable pub call_answer : List ℕ → ℕ → ℕ → Answer
call_answer b i k = call_judged i (process_count_in b) k (program_count_in b) (control_in b i).place

-- a process takes up an operation; an earlier exit request is over and its own steps count anew
abbrev pub put_call : List ℕ → ℕ → ℕ → Words → List ℕ
put_call b i k inputs =
    put_count (put_exit (put_operation (put_control b i (record { place = P1; target = 0 })) i (record { program = k; inputs = inputs })) i false) i 0

unfoldable pub call_block : List ℕ → ℕ → ℕ → Words → List ℕ
call_block b i k inputs = unless_refused (call_answer b i k) b (put_call b i k inputs)

-- exit request: refusals 5, 8
unfoldable pub exit_answer : List ℕ → ℕ → Answer
exit_answer b i = exit_judged i (process_count_in b) (control_in b i).place

unfoldable pub exit_block : List ℕ → ℕ → List ℕ
exit_block b i = unless_refused (exit_answer b i) b (put_exit b i true)

-- read: refusal 9
abbrev pub value_in : List ℕ → ℕ → ℕ
value_in b v = shown (gate_in b) (announcement_in b (holder_of (gate_in b).holder)) (record_in b v)

unfoldable pub read_answer : List ℕ → ℕ → Answer
read_answer b v = cond (not (ltb v (variable_count_in b) && ltb v 64)) (Answer.Refused NoPlace) (Answer.Value (value_in b v))

-- change: refusals 6; 1, 2, 3, 4, 12, 13, 14 of the text; 15, 16. What a text may weigh is w of the opening text, which stands in the block.
abbrev pub change_text : List ℕ → List ℕ → ProgramReading
change_text b t = program_text (variable_count_in b) (room_in b) t

-- an operation under way last read a gate number below this one, among the first n processes
unfoldable pub behind_in : List ℕ → ℕ → ℕ → Bool
behind_in b number zero = false
behind_in b number (suc i) = (ltb i (process_count_in b) && is_behind (control_in b i).place (last_gate_in b i) number) || behind_in b number i

unfoldable pub change_answer : List ℕ → ℕ → ℕ → List ℕ → Answer
change_answer b k from t =
    change_judged k (program_count_in b) (change_text b t).verdict (gate_in b).seq from (from_in b k) (behind_in b (from_in b k) 8)

-- program k changed to y: its later text becomes the earlier one
abbrev pub put_change : List ℕ → ℕ → ℕ → Program → List ℕ
put_change b k from y = put_later (put_from (keep_later b k) k from) k y

unfoldable pub change_block : List ℕ → ℕ → ℕ → List ℕ → List ℕ
change_block b k from t = unless_refused (change_answer b k from t) b (put_change b k from (change_text b t).program)

-- w of the block is that of the text that its card was opened with ('which stays that of the opening text whatever is changed')
abbrev pub RoomKept : List ℕ → List ℕ → Type 0
RoomKept b l = room_in b ≡ min 32 (card_weight (contents_of (card_of b l)))
