-- An instruction whose operands fit its word is read again from it, and so is a program from its words; what is read from words fits.
use Prim.Native.Nat.{ℕ, suc, ◌+◌, ◌*◌, ◌/◌, ◌<◌}
use mathlib.Core.Path.{◌≡◌, refl, sym, ◌∙◌, ap, subst}
use mathlib.Core.Bool.{Bool, true, false, cond}
use mathlib.Core.List.{List, [], ◌∷◌}
use native.Mathlib.Omega.{arith}
use lib.Dec.{eqb, ltb}
use lib.ListN.{length, get_or}
use Rattle.construction.specs.Instructions.{encode, encoded, no_line, no_program, fetch}
use Rattle.construction.proofs.Basics.{get_or_replicate_same}
use Rattle.codes.specs.Types.{Instruction, Line, Program}
use Rattle.codes.specs.Parts.{word_at, table}
use Rattle.codes.specs.Codes.{byte, half, instruction_from, packed, instruction_word, program_of, program_words}
use Rattle.codes.proofs.Blocks.{length_table, table_same, get_or_table, table_or}
use Rattle.codes.proofs.Values.{half_fits, byte_fits}

-- operands that fit: bytes, and a constant of 32 bits
abbrev pub FitsInstruction : Instruction → Type 0
FitsInstruction Instruction.Stop = Unit {0}
FitsInstruction (Instruction.Input a b) = (a < 256) × (b < 256)
FitsInstruction (Instruction.Constant a x) = (a < 256) × (x < 4294967296)
FitsInstruction (Instruction.Load a v) = (a < 256) × (v < 256)
FitsInstruction (Instruction.Store v b) = (v < 256) × (b < 256)
FitsInstruction (Instruction.LoadAt a b) = (a < 256) × (b < 256)
FitsInstruction (Instruction.StoreAt a b) = (a < 256) × (b < 256)
FitsInstruction (Instruction.Add a b) = (a < 256) × (b < 256)
FitsInstruction (Instruction.Subtract a b) = (a < 256) × (b < 256)
FitsInstruction (Instruction.SkipEqual a b c) = (a < 256) × (b < 256) × (c < 256)
FitsInstruction (Instruction.SkipLess a b c) = (a < 256) × (b < 256) × (c < 256)
FitsInstruction (Instruction.Output a b) = (a < 256) × (b < 256)
FitsInstruction (Instruction.Allocate a) = a < 256
FitsInstruction (Instruction.Free a) = a < 256

-- the instruction of a code and its operands, as `instruction_from` has it
abbrev chosen : ℕ → ℕ → ℕ → ℕ → ℕ → Instruction
chosen code a x b c =
    cond (eqb code 1) (Instruction.Input a b)
    (cond (eqb code 2) (Instruction.Constant a x)
    (cond (eqb code 3) (Instruction.Load a b)
    (cond (eqb code 4) (Instruction.Store a b)
    (cond (eqb code 5) (Instruction.LoadAt a b)
    (cond (eqb code 6) (Instruction.StoreAt a b)
    (cond (eqb code 7) (Instruction.Add a b)
    (cond (eqb code 8) (Instruction.Subtract a b)
    (cond (eqb code 9) (Instruction.SkipEqual a b c)
    (cond (eqb code 10) (Instruction.SkipLess a b c)
    (cond (eqb code 11) (Instruction.Output a b)
    (cond (eqb code 13) (Instruction.Allocate a)
    (cond (eqb code 14) (Instruction.Free a)
    Instruction.Stop))))))))))))

-- the numbers of a line are read again from its word
module _ (code a b c : ℕ) (p : code < 256) (q : a < 256) (r : b < 4294967296) (s : c < 256) where
  abbrev whole : ℕ
  whole = packed (encoded code a b c)

  plain : whole ≡ code + a * 256 + c * 65536 + b * 4294967296
  plain =
      let z0 : byte code ≡ code = omega arith in
      let z1 : byte a ≡ a = omega arith in
      let z2 : byte c ≡ c = omega arith in
      let z3 : half b ≡ b = omega arith in
      rw (z0, z1, z2, z3)

  code_back : byte whole ≡ code
  code_back = ap byte plain ∙ omega arith

  a_back : byte (whole / 256) ≡ a
  a_back =
      let z : (code + a * 256 + c * 65536 + b * 4294967296) / 256 ≡ a + c * 256 + b * 16777216 = omega arith in
      ap (λ (w : ℕ). byte (w / 256)) plain ∙ ap byte z ∙ omega arith

  c_back : byte (whole / 65536) ≡ c
  c_back =
      let z : (code + a * 256 + c * 65536 + b * 4294967296) / 65536 ≡ c + b * 65536 = omega arith in
      ap (λ (w : ℕ). byte (w / 65536)) plain ∙ ap byte z ∙ omega arith

  b_whole : whole / 4294967296 ≡ b
  b_whole =
      let z : (code + a * 256 + c * 65536 + b * 4294967296) / 4294967296 ≡ b = omega arith in
      ap (λ (w : ℕ). w / 4294967296) plain ∙ z

  word_back : instruction_from whole ≡ chosen code a b (byte b) c
  unfolding instruction_from
  word_back =
      let x : half (whole / 4294967296) ≡ b = ap half b_whole ∙ omega arith in
      let y : byte (whole / 4294967296) ≡ byte b = ap byte b_whole in
      λ j. chosen (code_back j) (a_back j) (x j) (y j) (c_back j)

two_back : (code a b c : ℕ) → code < 256 → a < 256 → b < 256 → c < 256 → instruction_from (packed (encoded code a b c)) ≡ chosen code a b b c
two_back code a b c p q r s =
    let z : byte b ≡ b = omega arith in
    word_back code a b c p q (omega arith) s ∙ ap (λ (y : ℕ). chosen code a b y c) z

pub instruction_back : (x : Instruction) → FitsInstruction x → instruction_from (instruction_word x) ≡ x
unfolding encode
instruction_back Instruction.Stop h = two_back 12 0 0 0 (omega arith) (omega arith) (omega arith) (omega arith)
instruction_back (Instruction.Input a b) h = two_back 1 a b 0 (omega arith) h.0 h.1 (omega arith)
instruction_back (Instruction.Constant a x) h = word_back 2 a x 0 (omega arith) h.0 h.1 (omega arith)
instruction_back (Instruction.Load a v) h = two_back 3 a v 0 (omega arith) h.0 h.1 (omega arith)
instruction_back (Instruction.Store v b) h = two_back 4 v b 0 (omega arith) h.0 h.1 (omega arith)
instruction_back (Instruction.LoadAt a b) h = two_back 5 a b 0 (omega arith) h.0 h.1 (omega arith)
instruction_back (Instruction.StoreAt a b) h = two_back 6 a b 0 (omega arith) h.0 h.1 (omega arith)
instruction_back (Instruction.Add a b) h = two_back 7 a b 0 (omega arith) h.0 h.1 (omega arith)
instruction_back (Instruction.Subtract a b) h = two_back 8 a b 0 (omega arith) h.0 h.1 (omega arith)
instruction_back (Instruction.SkipEqual a b c) h = two_back 9 a b c (omega arith) h.0 h.1 h.2
instruction_back (Instruction.SkipLess a b c) h = two_back 10 a b c (omega arith) h.0 h.1 h.2
instruction_back (Instruction.Output a b) h = two_back 11 a b 0 (omega arith) h.0 h.1 (omega arith)
instruction_back (Instruction.Allocate a) h = two_back 13 a 0 0 (omega arith) h (omega arith) (omega arith)
instruction_back (Instruction.Free a) h = two_back 14 a 0 0 (omega arith) h (omega arith) (omega arith)

-- what is read from a word fits
either {ℓ κ} : {A : Type ℓ} (P : A → Type κ) (t : Bool) {x y : A} → P x → P y → P (cond t x y)
either P true p q = p
either P false p q = q

chosen_fits : (code a x b c : ℕ) → a < 256 → x < 4294967296 → b < 256 → c < 256 → FitsInstruction (chosen code a x b c)
chosen_fits code a x b c p q r s =
    either FitsInstruction (eqb code 1) (p, r)
    (either FitsInstruction (eqb code 2) (p, q)
    (either FitsInstruction (eqb code 3) (p, r)
    (either FitsInstruction (eqb code 4) (p, r)
    (either FitsInstruction (eqb code 5) (p, r)
    (either FitsInstruction (eqb code 6) (p, r)
    (either FitsInstruction (eqb code 7) (p, r)
    (either FitsInstruction (eqb code 8) (p, r)
    (either FitsInstruction (eqb code 9) (p, r, s)
    (either FitsInstruction (eqb code 10) (p, r, s)
    (either FitsInstruction (eqb code 11) (p, r)
    (either FitsInstruction (eqb code 13) p
    (either FitsInstruction (eqb code 14) p tt))))))))))))

pub instruction_fits : (w : ℕ) → FitsInstruction (instruction_from w)
unfolding instruction_from
instruction_fits w =
    chosen_fits (byte w) (byte (w / 256)) (half (w / 4294967296)) (byte (w / 4294967296)) (byte (w / 65536))
    (byte_fits (w / 256)) (half_fits (w / 4294967296)) (byte_fits (w / 4294967296)) (byte_fits (w / 65536))

-- a program of 32 lines whose numbers fit
pub record FitsProgram (y : Program) : Type 0 where
  pub size : y.length < 256
  pub lines : (k : ℕ) → FitsInstruction (get_or y.lines k no_line).instruction
  pub count : length y.lines ≡ 32

table_get_or : {A : Type 0} (xs : List A) (d : A) → table (length xs) (λ k. get_or xs k d) ≡ xs
unfolding table
table_get_or [] d = refl
table_get_or (x ∷ xs) d = rw (table_get_or xs d)

pub program_back : (y : Program) → FitsProgram y → program_of (program_words y) ≡ y
program_back y p =
    let f : ℕ → Line = λ k. get_or y.lines k no_line in
    let g : ℕ → ℕ = λ k. instruction_word (f k).instruction in
    let lines =
    table_same 32 f (λ k. record { instruction = instruction_from (word_at (table 32 g) k) })
    (λ k q. let e = ap instruction_from (get_or_table 32 k g 0 q) ∙ instruction_back (f k).instruction (p.lines k) in λ j. record { instruction = e j }) in
    let all : table 32 f ≡ y.lines = rw (sym p.count) (table_get_or y.lines no_line) in
    let count : byte y.length ≡ y.length = omega (arith, p.size) in
    λ j. record { length = count j; lines = (lines ∙ all) j }

pub program_fits : (w : List ℕ) → FitsProgram (program_of w)
program_fits w =
    record {
      size = byte_fits (word_at w 0);
      lines = λ k. subst (λ (x : Line). FitsInstruction x.instruction) (sym (table_or 32 k line no_line)) (go (ltb k 32) k);
      count = length_table 32 line;
    }
  where
    line : ℕ → Line
    line k = record { instruction = instruction_from (word_at w (suc k)) }

    go : (t : Bool) (k : ℕ) → FitsInstruction (cond t (line k) no_line).instruction
    go true k = instruction_fits (word_at w (suc k))
    go false k = tt

pub no_program_fits : FitsProgram no_program
no_program_fits = record
    { size = omega arith; lines = λ k. subst (λ (x : Line). FitsInstruction x.instruction) (sym (get_or_replicate_same 32 k no_line)) tt; count = refl }

-- and so does what is fetched of it
pub fetch_fits : (y : Program) → FitsProgram y → (k : ℕ) → FitsInstruction (fetch y k)
unfolding fetch
fetch_fits y p k = either FitsInstruction (ltb k y.length) (p.lines k) tt
