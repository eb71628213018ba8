-- The parts of a card as words, one field a word: every list of words is some value.
use Rattle.std.specs.Prelude.{◌≡◌, refl, ℕ, suc, ◌+◌, ◌-◌, ◌*◌, ◌/◌, ◌%◌, Bool, cond, List, [], ◌∷◌, eqb, length, get_or, set, Option, None, Some}
use Rattle.construction.specs.Labels.{label_row}
use Rattle.construction.specs.Instructions.{encode, no_line}
use Rattle.codes.specs.Types.{Encoded, Gate, Flag, Done, Active, Exit, Words, Announcement, Record, Label, Idle, P1, P3, P5, P7}
use Rattle.codes.specs.Types.{P10, C2, C4, P13, P14, P16, H21, H36, P19, P20, P21, P22, F1, F3, P6, Control, Operation, Simulation, Item, Instruction}
use Rattle.codes.specs.Types.{Program}
use Rattle.codes.specs.Parts.{word_at, table}

abbrev pub byte : ℕ → ℕ
byte w = w % 256

abbrev pub half : ℕ → ℕ
half w = w % 4294967296

abbrev pub odd : ℕ → Bool
odd w = eqb (w % 2) 1

abbrev pub bit : Bool → ℕ
bit b = cond b 1 0

unfoldable pub holder_from : ℕ → Option ℕ
holder_from w = cond (eqb w 0) None (Some (byte (w - 1)))

abbrev pub holder_word : Option ℕ → ℕ
holder_word None = 0
holder_word (Some m) = m + 1

unfoldable pub flag_from : ℕ → Flag
flag_from w = cond (eqb w 0) Done (cond (eqb w 1) Active Exit)

abbrev pub flag_word : Flag → ℕ
flag_word Done = 0
flag_word Active = 1
flag_word Exit = 2

-- a place by the table of labels, and back
abbrev pub place_word : Label → ℕ
place_word place = (label_row place).word

unfoldable pub place_from : ℕ → Label
place_from w =
    cond (eqb w 1) P1
    (cond (eqb w 2) P3
    (cond (eqb w 3) P5
    (cond (eqb w 4) P7
    (cond (eqb w 5) P10
    (cond (eqb w 6) C2
    (cond (eqb w 7) C4
    (cond (eqb w 8) P13
    (cond (eqb w 9) P14
    (cond (eqb w 10) P16
    (cond (eqb w 11) H21
    (cond (eqb w 12) H36
    (cond (eqb w 13) P19
    (cond (eqb w 14) P20
    (cond (eqb w 15) P21
    (cond (eqb w 16) P22
    (cond (eqb w 17) F1
    (cond (eqb w 18) F3
    (cond (eqb w 19) P6
    Idle))))))))))))))))))

-- four numbers of 32 bits each, from word k on

abbrev pub halves : List ℕ → ℕ → Words
halves w k = record { w0 = half (word_at w k); w1 = half (word_at w (k + 1)); w2 = half (word_at w (k + 2)); w3 = half (word_at w (k + 3)) }

abbrev pub put_halves : List ℕ → ℕ → Words → List ℕ
put_halves w k x = set (set (set (set w k x.w0) (k + 1) x.w1) (k + 2) x.w2) (k + 3) x.w3

-- a value of a part's words, and the words of a value

-- a number of 64 bits (document 01: the numbers of an operation, the step limit) is its word
abbrev pub number_of : List ℕ → ℕ
number_of w = word_at w 0

abbrev pub number_words : ℕ → List ℕ
number_words x = x ∷ []

abbrev pub gate_of : List ℕ → Gate
gate_of w = record { holder = holder_from (word_at w 0); seq = word_at w 1 }

abbrev pub gate_words : Gate → List ℕ
gate_words g = holder_word g.holder ∷ g.seq ∷ []

abbrev pub control_of : List ℕ → Control
control_of w = record { place = place_from (word_at w 0); target = byte (word_at w 1) }

abbrev pub control_words : Control → List ℕ
control_words t = place_word t.place ∷ t.target ∷ []

abbrev pub announcement_of : List ℕ → Announcement
announcement_of w =
    record {
      program = byte (word_at w 0);
      flag = flag_from (word_at w 1);
      seq = word_at w 2;
      number = word_at w 3;
      words = halves w 4;
      fault = odd (word_at w 8);
    }

abbrev pub announcement_words : Announcement → List ℕ
announcement_words a =
    a.program ∷ flag_word a.flag ∷ a.seq ∷ a.number ∷ a.words.w0 ∷ a.words.w1 ∷ a.words.w2 ∷ a.words.w3 ∷ bit a.fault ∷ []

abbrev pub record_of : List ℕ → Record
record_of w = record { val0 = half (word_at w 0); val1 = half (word_at w 1); toggle = odd (word_at w 2); seq = word_at w 3 }

abbrev pub record_words : Record → List ℕ
record_words r = r.val0 ∷ r.val1 ∷ bit r.toggle ∷ r.seq ∷ []

abbrev pub operation_of : List ℕ → Operation
operation_of w = record { program = byte (word_at w 0); inputs = halves w 1 }

abbrev pub operation_words : Operation → List ℕ
operation_words o = o.program ∷ o.inputs.w0 ∷ o.inputs.w1 ∷ o.inputs.w2 ∷ o.inputs.w3 ∷ []

abbrev pub simulation_of : List ℕ → Simulation
simulation_of w =
    record {
      counter = byte (word_at w 0);
      registers = halves w 1;
      yields = record { outputs = halves w 5; fault = odd (word_at w 9) };
    }

abbrev pub simulation_words : Simulation → List ℕ
simulation_words s =
    s.counter ∷ s.registers.w0 ∷ s.registers.w1 ∷ s.registers.w2 ∷ s.registers.w3
    ∷ s.yields.outputs.w0 ∷ s.yields.outputs.w1 ∷ s.yields.outputs.w2 ∷ s.yields.outputs.w3 ∷ bit s.yields.fault ∷ []

-- an item in three words: seq; val0 and val1; value, variable and toggle
abbrev pub pair : ℕ → ℕ → ℕ
pair low high = low + high * 4294967296

abbrev pub upper : ℕ → ℕ
upper w = w / 4294967296

abbrev pub item_of : List ℕ → Item
item_of w =
    record {
      variable = byte (upper (word_at w 2));
      value = half (word_at w 2);
      cell = record { val0 = half (word_at w 1); val1 = half (upper (word_at w 1)); toggle = odd (upper (word_at w 2) / 256); seq = word_at w 0 };
    }

abbrev pub item_words : Item → List ℕ
item_words e =
    e.cell.seq ∷ pair e.cell.val0 e.cell.val1 ∷ pair e.value (e.variable + bit e.cell.toggle * 256) ∷ []

-- an instruction in a word: code, a, c in its bytes 0, 1, 2, b in its upper half
unfoldable pub instruction_from : ℕ → Instruction
instruction_from w =
    let a = byte (w / 256) in
    let x = half (w / 4294967296) in
    let b = byte (w / 4294967296) in
    let c = byte (w / 65536) in
    cond (eqb (byte w) 1) (Instruction.Input a b)
    (cond (eqb (byte w) 2) (Instruction.Constant a x)
    (cond (eqb (byte w) 3) (Instruction.Load a b)
    (cond (eqb (byte w) 4) (Instruction.Store a b)
    (cond (eqb (byte w) 5) (Instruction.LoadAt a b)
    (cond (eqb (byte w) 6) (Instruction.StoreAt a b)
    (cond (eqb (byte w) 7) (Instruction.Add a b)
    (cond (eqb (byte w) 8) (Instruction.Subtract a b)
    (cond (eqb (byte w) 9) (Instruction.SkipEqual a b c)
    (cond (eqb (byte w) 10) (Instruction.SkipLess a b c)
    (cond (eqb (byte w) 11) (Instruction.Output a b)
    (cond (eqb (byte w) 13) (Instruction.Allocate a)
    (cond (eqb (byte w) 14) (Instruction.Free a)
    Instruction.Stop))))))))))))

-- .. and back: the four numbers of its line
abbrev pub packed : Encoded → ℕ
packed x = byte x.code + byte x.a * 256 + byte x.c * 65536 + half x.b * 4294967296

abbrev pub instruction_word : Instruction → ℕ
instruction_word x = packed (encode x)

-- a program: its length, and a word for each of its 32 lines
abbrev pub program_of : List ℕ → Program
program_of w = record { length = byte (word_at w 0); lines = table 32 (λ k. record { instruction = instruction_from (word_at w (suc k)) }) }

abbrev pub program_words : Program → List ℕ
program_words y = y.length ∷ table 32 (λ k. instruction_word (get_or y.lines k no_line).instruction)

-- always 33 words
pub program_long : (y : Program) → length (program_words y) ≡ 33
unfolding table
program_long y = refl
