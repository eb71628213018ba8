-- The fourteen instructions (document 01, 'The card text', and document 02, order 9): what one does, decoding and encoding.
use Rattle.std.specs.Prelude.{ℕ, suc, ◌+◌, ◌-◌, min, Bool, true, cond, not, ◌&&◌, List, [], ◌∷◌, eqb, leb, ltb, get_or, replicate, Option, None, Some, Ok, Err}
use Rattle.construction.specs.Types.{Words, Instruction, OperandKind, Unused, Register, Word, Variable, Skip, Format, Decoded, Encoded}
use Rattle.construction.specs.Types.{Line, Program, Effect, Simulation, UnknownCode, OperandOutOfRange, UnusedOperand}
use Rattle.construction.specs.Cells.{zeros, no_yield, fault_yield}

-- word k of four
unfoldable pub word : Words → ℕ → ℕ
word f k = cond (eqb k 0) f.w0 (cond (eqb k 1) f.w1 (cond (eqb k 2) f.w2 f.w3))

-- four words with x at place k
unfoldable pub with_word : Words → ℕ → ℕ → Words
with_word f k x =
    cond (eqb k 0)
    (record { w0 = x; w1 = f.w1; w2 = f.w2; w3 = f.w3 })
    (cond (eqb k 1)
    (record { w0 = f.w0; w1 = x; w2 = f.w2; w3 = f.w3 })
    (cond (eqb k 2)
    (record { w0 = f.w0; w1 = f.w1; w2 = x; w3 = f.w3 })
    (record { w0 = f.w0; w1 = f.w1; w2 = f.w2; w3 = x })))

-- codes 7 and 8: plus and minus 'shall hold at 4,294,967,295 and at 0' (document 02, order 2); minus on natural numbers stops at 0
unfoldable pub sum : ℕ → ℕ → ℕ
sum x y = min 4294967295 (x + y)

unfoldable pub difference : ℕ → ℕ → ℕ
difference x y = x - y

-- a variable is touched only if it is there: 'In codes 5 and 6 a number of n or more ends the operation as a fault' (document 02, order 6)
unfoldable pub load : ℕ → ℕ → ℕ → Effect
load n a v = cond (ltb v n) (Effect.Load a v) Effect.Fault

unfoldable pub store : ℕ → ℕ → ℕ → Effect
store n v x = cond (ltb v n) (Effect.Store v x) Effect.Fault

-- a number that a cell can have (document 02, order 9): variable 0 is none
abbrev pub is_cell : ℕ → ℕ → Bool
is_cell n v = not (eqb v 0) && ltb v n

-- code 14: 'A cell number of n or more, or 0 given back, is a fault', tested 'before any touch'
unfoldable pub free : ℕ → ℕ → Effect
free n c = cond (is_cell n c) (Effect.Free c) Effect.Fault

-- the table of codes: what an instruction does on a card of n variables. The sequential run and the helper both go by it.
unfoldable pub effect_of : ℕ → Words → Words → Instruction → Effect
effect_of n inputs r Instruction.Stop = Effect.Stop
effect_of n inputs r (Instruction.Input a b) = Effect.Set a (word inputs b)
effect_of n inputs r (Instruction.Constant a b) = Effect.Set a b
effect_of n inputs r (Instruction.Load a v) = load n a v
effect_of n inputs r (Instruction.Store v b) = store n v (word r b)
effect_of n inputs r (Instruction.LoadAt a b) = load n a (word r b)
effect_of n inputs r (Instruction.StoreAt a b) = store n (word r a) (word r b)
effect_of n inputs r (Instruction.Add a b) = Effect.Set a (sum (word r a) (word r b))
effect_of n inputs r (Instruction.Subtract a b) = Effect.Set a (difference (word r a) (word r b))
effect_of n inputs r (Instruction.SkipEqual a b c) = Effect.Skip (cond (eqb (word r a) (word r b)) c 0)
effect_of n inputs r (Instruction.SkipLess a b c) = Effect.Skip (cond (ltb (word r a) (word r b)) c 0)
effect_of n inputs r (Instruction.Output a b) = Effect.Output a (word r b)
effect_of n inputs r (Instruction.Allocate a) = Effect.Allocate a
effect_of n inputs r (Instruction.Free a) = free n (word r a)

-- the place after the next one and c more, at most the end of the room for a program
unfoldable pub forward : ℕ → ℕ → ℕ
forward k c = min 32 (suc (k + c))

-- 'Registers and outputs start at 0'
abbrev pub started : Simulation
started = record { counter = 0; registers = zeros; yields = no_yield }

-- the state after r[a] took x, after output a took x, and after c instructions were skipped
unfoldable pub with_register : Simulation → ℕ → ℕ → Simulation
with_register s a x =
    record { counter = forward s.counter 0; registers = with_word s.registers a x; yields = s.yields }

unfoldable pub with_output : Simulation → ℕ → ℕ → Simulation
with_output s a x =
    record {
      counter = forward s.counter 0;
      registers = s.registers;
      yields = record { outputs = with_word s.yields.outputs a x; fault = s.yields.fault };
    }

unfoldable pub skipped : Simulation → ℕ → Simulation
skipped s c = record { counter = forward s.counter c; registers = s.registers; yields = s.yields }

-- the state that a fault leaves: whatever was output, it yields zeros and the mark
unfoldable pub faulted : Simulation → Simulation
faulted s = record { counter = s.counter; registers = s.registers; yields = fault_yield }

-- a program of no lines
abbrev pub no_line : Line
no_line = record { instruction = Instruction.Stop }

abbrev pub no_program : Program
no_program = record { length = 0; lines = replicate 32 no_line }

-- the instruction at a place; 'a sheet also stops past its end'
unfoldable pub fetch : Program → ℕ → Instruction
fetch program k = cond (ltb k program.length) (get_or program.lines k no_line).instruction Instruction.Stop

-- an instruction with so many behind it: 'a skip past the end stands at the end' (document 02, order 5)
abbrev pub shortened : ℕ → Instruction → Instruction
shortened remaining Instruction.Stop = Instruction.Stop
shortened remaining (Instruction.Input a b) = Instruction.Input a b
shortened remaining (Instruction.Constant a b) = Instruction.Constant a b
shortened remaining (Instruction.Load a v) = Instruction.Load a v
shortened remaining (Instruction.Store v b) = Instruction.Store v b
shortened remaining (Instruction.LoadAt a b) = Instruction.LoadAt a b
shortened remaining (Instruction.StoreAt a b) = Instruction.StoreAt a b
shortened remaining (Instruction.Add a b) = Instruction.Add a b
shortened remaining (Instruction.Subtract a b) = Instruction.Subtract a b
shortened remaining (Instruction.SkipEqual a b c) = Instruction.SkipEqual a b (min c remaining)
shortened remaining (Instruction.SkipLess a b c) = Instruction.SkipLess a b (min c remaining)
shortened remaining (Instruction.Output a b) = Instruction.Output a b
shortened remaining (Instruction.Allocate a) = Instruction.Allocate a
shortened remaining (Instruction.Free a) = Instruction.Free a

-- the instruction at the counter, and what it does
abbrev pub next_instruction : Program → ℕ → Instruction
next_instruction program k = shortened (program.length - suc k) (fetch program k)

abbrev pub next_effect : ℕ → Program → Words → Simulation → Effect
next_effect n program inputs s = effect_of n inputs s.registers (next_instruction program s.counter)

-- a number from low to high
abbrev pub in_range : ℕ → ℕ → ℕ → Bool
in_range low high x = leb low x && leb x high

-- a row of the table of codes: the kinds of the operands a, b and c, and the instruction 'with only its own operands'
pub record CodeRow : Type 0 where
  pub format : Option Format
  pub instruction : ℕ → ℕ → ℕ → Instruction

-- the format of a code: 'a, b and c' of its row
abbrev pub kinds : OperandKind → OperandKind → OperandKind → Format
kinds a b c = record { a = a; b = b; c = c }

abbrev pub row : OperandKind → OperandKind → OperandKind → (ℕ → ℕ → ℕ → Instruction) → CodeRow
row a b c make = record { format = Some (kinds a b c); instruction = make }

abbrev pub no_row : CodeRow
no_row = record { format = None; instruction = λ a b c. Instruction.Stop }

-- the table: a row for each code, from 0, which is none, to 14
abbrev pub codes : List CodeRow
codes =
    no_row
    ∷ row Register Register Unused (λ a b c. Instruction.Input a b)
    ∷ row Register Word Unused (λ a b c. Instruction.Constant a b)
    ∷ row Register Variable Unused (λ a b c. Instruction.Load a b)
    ∷ row Variable Register Unused (λ a b c. Instruction.Store a b)
    ∷ row Register Register Unused (λ a b c. Instruction.LoadAt a b)
    ∷ row Register Register Unused (λ a b c. Instruction.StoreAt a b)
    ∷ row Register Register Unused (λ a b c. Instruction.Add a b)
    ∷ row Register Register Unused (λ a b c. Instruction.Subtract a b)
    ∷ row Register Register Skip (λ a b c. Instruction.SkipEqual a b c)
    ∷ row Register Register Skip (λ a b c. Instruction.SkipLess a b c)
    ∷ row Register Register Unused (λ a b c. Instruction.Output a b)
    ∷ row Unused Unused Unused (λ a b c. Instruction.Stop)
    ∷ row Register Unused Unused (λ a b c. Instruction.Allocate a)
    ∷ row Register Unused Unused (λ a b c. Instruction.Free a)
    ∷ []

abbrev pub row_of : ℕ → CodeRow
row_of code = get_or codes code no_row

abbrev pub instruction_of : Encoded → Instruction
instruction_of x = (row_of x.code).instruction x.a x.b x.c

-- 'Registers, inputs and outputs are numbered 0 to 3, variables 0 to n - 1', a constant is a word, a skip 1 to 31; an unused operand has no range
abbrev pub ranged : ℕ → OperandKind → ℕ → Bool
ranged n Unused x = true
ranged n Register x = ltb x 4
ranged n Word x = ltb x 4294967296
ranged n Variable x = ltb x n
ranged n Skip x = in_range 1 31 x

-- 'unused ones are 0'
abbrev pub unused_zero : OperandKind → ℕ → Bool
unused_zero Unused x = eqb x 0
unused_zero Register x = true
unused_zero Word x = true
unused_zero Variable x = true
unused_zero Skip x = true

-- whether each operand passes a test against its kind
abbrev pub each_operand : (OperandKind → ℕ → Bool) → Format → Encoded → Bool
each_operand test f x = test f.a x.a && (test f.b x.b && test f.c x.c)

-- `code,a,b,c` on a card of n variables to an instruction, or a refusal (document 02, order 8): 'Number 4 stays for an unknown code, 12 is an
-- operand out of range, and 13 an unused operand that isn't 0, tested in that sequence'
abbrev pub decode_as : Option Format → ℕ → Encoded → Decoded
decode_as None n x = Err UnknownCode
decode_as (Some f) n x =
    cond (not (each_operand (ranged n) f x)) (Err OperandOutOfRange)
    (cond (not (each_operand unused_zero f x)) (Err UnusedOperand)
    (Ok (instruction_of x)))

unfoldable pub decode : ℕ → Encoded → Decoded
decode n x = decode_as (row_of x.code).format n x

abbrev pub encoded : ℕ → ℕ → ℕ → ℕ → Encoded
encoded code a b c = record { code = code; a = a; b = b; c = c }

-- an instruction back to `code,a,b,c`
unfoldable pub encode : Instruction → Encoded
encode Instruction.Stop = encoded 12 0 0 0
encode (Instruction.Input a b) = encoded 1 a b 0
encode (Instruction.Constant a b) = encoded 2 a b 0
encode (Instruction.Load a v) = encoded 3 a v 0
encode (Instruction.Store v b) = encoded 4 v b 0
encode (Instruction.LoadAt a b) = encoded 5 a b 0
encode (Instruction.StoreAt a b) = encoded 6 a b 0
encode (Instruction.Add a b) = encoded 7 a b 0
encode (Instruction.Subtract a b) = encoded 8 a b 0
encode (Instruction.SkipEqual a b c) = encoded 9 a b c
encode (Instruction.SkipLess a b c) = encoded 10 a b c
encode (Instruction.Output a b) = encoded 11 a b 0
encode (Instruction.Allocate a) = encoded 13 a 0 0
encode (Instruction.Free a) = encoded 14 a 0 0
