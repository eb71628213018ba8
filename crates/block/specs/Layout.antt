-- Where each part of a card stands in a block of 1456 words that its owner lends (document 02, order 10): every part is an interval of words, by kind.
--
--   0 to 4      processes, variables, programs, step limit, accepted steps
--   5           the gate                                 2 words: holder (0 for nobody, m + 1 for process m), seq
--   7           w, the room of each dictionary
--   8           announcements, 8 of                      9 words: program, flag, seq, number, four words, fault mark
--   80          records, 64 of                           4 words: val[0], val[1], toggle, seq
--   336         controls, 8 of                              2 words: place, target
--   352         operations, 8 of                         5 words: program, four inputs
--   392, 400    exit requests; own steps                 8 words each
--   408         gates last read, 8 of                    2 words
--   424         announcements last read, 8 of            9 words
--   496         simulations, 8 of                       10 words: counter, four registers, four outputs, fault mark
--   576, 584    lengths of the dictionaries; sets of noted variables   8 words each
--   592         starting values                         64 words
--   656         opening texts, 8 of                     33 words: length, a word for each of 32 instructions
--   920         numbers from which the later texts hold  8 words
--   928, 1192   earlier texts; later texts, 8 of each   33 words
use Rattle.std.specs.Prelude.{ℕ, ◌+◌, ◌*◌, min, Bool, cond, ◌&&◌, List, leb, ltb, length, set}
use Rattle.construction.specs.Cells.{open_gate, open_announcement, open_record}
use Rattle.construction.specs.Instructions.{started, no_program}
use Rattle.construction.specs.Parts.{idle_control, no_operation, no_gate}
use Rattle.codes.specs.Types.{Gate, Announcement, Record, Control, Operation, Simulation, Program}
use Rattle.codes.specs.Parts.{word_at, part, stores}
use Rattle.codes.specs.Codes.{byte, half, odd, bit, gate_of, gate_words, control_of, control_words, announcement_of, announcement_words, record_of, record_words}
use Rattle.codes.specs.Codes.{operation_of, operation_words, simulation_of, simulation_words, program_of, program_words}

-- whether there is a part i of n: a block that is too short holds nothing
unfoldable pub is_room : List ℕ → ℕ → ℕ → Bool
is_room b i n = leb 1456 (length b) && ltb i n

-- part i of n of one kind, each of so many words, from word `base` on; what an empty card has there, where there is none
unfoldable pub row_at : {A : Type 0} → List ℕ → ℕ → ℕ → ℕ → (List ℕ → A) → A → ℕ → A
row_at b base size n decode none i = cond (is_room b i n) (decode (part b (base + size * i) size)) none

-- the block with other words there
unfoldable pub put_row : List ℕ → ℕ → ℕ → ℕ → ℕ → List ℕ → List ℕ
put_row b base size n i words = cond (is_room b i n) (stores b (base + size * i) words) b

-- the same of a kind that has one word each
unfoldable pub number_at : List ℕ → ℕ → ℕ → ℕ → ℕ
number_at b base n i = cond (is_room b i n) (word_at b (base + i)) 0

unfoldable pub put_number : List ℕ → ℕ → ℕ → ℕ → ℕ → List ℕ
put_number b base n i x = cond (is_room b i n) (set b (base + i) x) b

-- the counts of the card
abbrev pub process_count_in : List ℕ → ℕ
process_count_in b = byte (number_at b 0 1 0)

abbrev pub variable_count_in : List ℕ → ℕ
variable_count_in b = byte (number_at b 1 1 0)

abbrev pub program_count_in : List ℕ → ℕ
program_count_in b = byte (number_at b 2 1 0)

abbrev pub limit_in : List ℕ → ℕ
limit_in b = number_at b 3 1 0

abbrev pub steps_in : List ℕ → ℕ
steps_in b = number_at b 4 1 0

-- w, the room of each dictionary
abbrev pub room_in : List ℕ → ℕ
room_in b = min (number_at b 7 1 0) 32

-- the shared cells
abbrev pub gate_in : List ℕ → Gate
gate_in b = row_at b 5 2 1 gate_of open_gate 0

abbrev pub announcement_in : List ℕ → ℕ → Announcement
announcement_in b m = row_at b 8 9 8 announcement_of open_announcement m

abbrev pub record_in : List ℕ → ℕ → Record
record_in b v = row_at b 80 4 64 record_of (open_record 0) v

-- what a process keeps
abbrev pub control_in : List ℕ → ℕ → Control
control_in b i = row_at b 336 2 8 control_of idle_control i

abbrev pub operation_in : List ℕ → ℕ → Operation
operation_in b i = row_at b 352 5 8 operation_of no_operation i

abbrev pub exit_in : List ℕ → ℕ → Bool
exit_in b i = odd (number_at b 392 8 i)

abbrev pub count_in : List ℕ → ℕ → ℕ
count_in b i = number_at b 400 8 i

abbrev pub last_gate_in : List ℕ → ℕ → Gate
last_gate_in b i = row_at b 408 2 8 gate_of no_gate i

abbrev pub last_in : List ℕ → ℕ → Announcement
last_in b i = row_at b 424 9 8 announcement_of open_announcement i

abbrev pub simulation_in : List ℕ → ℕ → Simulation
simulation_in b i = row_at b 496 10 8 simulation_of started i

abbrev pub mask_in : List ℕ → ℕ → ℕ
mask_in b i = number_at b 584 8 i

-- how many items a process has noted: a dictionary has at most w
abbrev pub noted_in : List ℕ → ℕ → ℕ
noted_in b i = min (byte (number_at b 576 8 i)) (room_in b)

-- the texts of a program, and the number from which the later one holds
abbrev pub start_in : List ℕ → ℕ → ℕ
start_in b v = half (number_at b 592 64 v)

abbrev pub opening_text : List ℕ → ℕ → Program
opening_text b k = row_at b 656 33 8 program_of no_program k

abbrev pub from_in : List ℕ → ℕ → ℕ
from_in b k = number_at b 920 8 k

abbrev pub earlier_text : List ℕ → ℕ → Program
earlier_text b k = row_at b 928 33 8 program_of no_program k

abbrev pub later_text : List ℕ → ℕ → Program
later_text b k = row_at b 1192 33 8 program_of no_program k

-- the block with one part replaced
abbrev pub put_process_count : List ℕ → ℕ → List ℕ
put_process_count b x = put_number b 0 1 0 x

abbrev pub put_variable_count : List ℕ → ℕ → List ℕ
put_variable_count b x = put_number b 1 1 0 x

abbrev pub put_program_count : List ℕ → ℕ → List ℕ
put_program_count b x = put_number b 2 1 0 x

abbrev pub put_limit : List ℕ → ℕ → List ℕ
put_limit b x = put_number b 3 1 0 x

abbrev pub put_room : List ℕ → ℕ → List ℕ
put_room b x = put_number b 7 1 0 x

abbrev pub put_start : List ℕ → ℕ → ℕ → List ℕ
put_start b v x = put_number b 592 64 v x

abbrev pub put_steps : List ℕ → ℕ → List ℕ
put_steps b x = put_number b 4 1 0 x

abbrev pub put_gate : List ℕ → Gate → List ℕ
put_gate b g = put_row b 5 2 1 0 (gate_words g)

abbrev pub put_announcement : List ℕ → ℕ → Announcement → List ℕ
put_announcement b m a = put_row b 8 9 8 m (announcement_words a)

abbrev pub put_record : List ℕ → ℕ → Record → List ℕ
put_record b v r = put_row b 80 4 64 v (record_words r)

abbrev pub put_control : List ℕ → ℕ → Control → List ℕ
put_control b i t = put_row b 336 2 8 i (control_words t)

abbrev pub put_operation : List ℕ → ℕ → Operation → List ℕ
put_operation b i o = put_row b 352 5 8 i (operation_words o)

abbrev pub put_exit : List ℕ → ℕ → Bool → List ℕ
put_exit b i e = put_number b 392 8 i (bit e)

abbrev pub put_count : List ℕ → ℕ → ℕ → List ℕ
put_count b i x = put_number b 400 8 i x

abbrev pub put_last_gate : List ℕ → ℕ → Gate → List ℕ
put_last_gate b i g = put_row b 408 2 8 i (gate_words g)

abbrev pub put_last : List ℕ → ℕ → Announcement → List ℕ
put_last b i a = put_row b 424 9 8 i (announcement_words a)

abbrev pub put_simulation : List ℕ → ℕ → Simulation → List ℕ
put_simulation b i s = put_row b 496 10 8 i (simulation_words s)

abbrev pub put_noted : List ℕ → ℕ → ℕ → List ℕ
put_noted b i n = put_number b 576 8 i n

abbrev pub put_mask : List ℕ → ℕ → ℕ → List ℕ
put_mask b i x = put_number b 584 8 i x

abbrev pub put_from : List ℕ → ℕ → ℕ → List ℕ
put_from b k x = put_number b 920 8 k x

abbrev pub put_opening : List ℕ → ℕ → Program → List ℕ
put_opening b k y = put_row b 656 33 8 k (program_words y)

abbrev pub put_earlier : List ℕ → ℕ → Program → List ℕ
put_earlier b k y = put_row b 928 33 8 k (program_words y)

abbrev pub put_later : List ℕ → ℕ → Program → List ℕ
put_later b k y = put_row b 1192 33 8 k (program_words y)

-- the later text of program k becomes the earlier one
abbrev pub keep_later : List ℕ → ℕ → List ℕ
keep_later b k = put_row b 928 33 8 k (part b (1192 + 33 * k) 33)
