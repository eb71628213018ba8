-- Decoding and encoding by the table of codes (document 01, 'The card text'): what is known of each row, and of each operand that fits its kind.
use mathlib.Core.Bool.{Bool, true, false, cond, not}
use mathlib.Core.Path.{◌≡◌, refl, sym, ◌∙◌, ap, subst}
use mathlib.Core.List.{List, [], ◌∷◌}
use Prim.Native.Nat.{ℕ, zero, suc, ◌%◌, ◌<◌, ◌≤◌}
use lib.Dec.{eqb, ltb}
use lib.ListN.{length, get_or, get_or-eq_default}
use native.Mathlib.Omega.{arith}
use borrow.Author.Tests.{eqb-true, ltb-true, eq-eqb, ne_eqb, not-false}
use Rattle.std.specs.Prelude.{Option, None, Some, Ok, Err}
use Rattle.grammar.proofs.RoundTrip.{Small}
use Rattle.construction.specs.Types.{Instruction, OperandKind, Unused, Register, Word, Variable, Skip, Format, Decoded, Encoded}
use Rattle.construction.specs.Types.{UnknownCode, OperandOutOfRange, UnusedOperand}
use Rattle.construction.specs.Instructions.{CodeRow, no_row, codes, row_of, instruction_of, ranged, unused_zero, each_operand, decode, decode_as, encoded}
use Rattle.construction.specs.Instructions.{encode}
use Rattle.construction.proofs.Basics.{on_test, and_true, clash}
use Rattle.construction.proofs.Text.Lines.{range_true}

-- ---- what holds of each row of a table, and of a code past the last, holds of the row of every code
abbrev pub Rows : (ℕ → CodeRow → Type 0) → List CodeRow → Type 0
Rows P [] = (k : ℕ) → P k no_row
Rows P (r ∷ l) = P 0 r × Rows (λ k. P (suc k)) l

pub rows_at : (P : ℕ → CodeRow → Type 0) (l : List CodeRow) → Rows P l → (k : ℕ) → P k (get_or l k no_row)
rows_at P [] h k = h k
rows_at P (r ∷ l) h zero = h.0
rows_at P (r ∷ l) h (suc k) = rows_at (λ j. P (suc j)) l h.1 k

-- a code past the table has no row
pub past_rows : (code : ℕ) → length codes ≤ code → no_row ≡ row_of code
past_rows code h = sym (get_or-eq_default codes no_row h)

-- ---- what an instruction keeps of an operand: nothing, a byte or a word
abbrev kept : OperandKind → ℕ → ℕ
kept Unused x = 0
kept Register x = x % 256
kept Word x = x % 4294967296
kept Variable x = x % 256
kept Skip x = x % 256

-- what it keeps of all three
abbrev kept_of : Format → Encoded → Encoded
kept_of f x = encoded x.code (kept f.a x.a) (kept f.b x.b) (kept f.c x.c)

-- an operand within the range of its kind, and 0 where it is unused, is kept whole, and is a word
operand_kept :
    (n : ℕ) (kind : OperandKind) (x : ℕ) → n ≤ 256 → ranged n kind x ≡ true → unused_zero kind x ≡ true → (kept kind x ≡ x) × (x < 4294967296)
operand_kept n Unused x h e z = omega (arith, eqb-true x 0 z)
operand_kept n Register x h e z = omega (arith, ltb-true x 4 e)
operand_kept n Word x h e z = omega (arith, ltb-true x 4294967296 e)
operand_kept n Variable x h e z = omega (arith, ltb-true x n e)
operand_kept n Skip x h e z = omega (arith, range_true 1 31 x e)

-- ---- the instruction of the low bytes of operands; only a constant, of code 2, is longer
abbrev from_bytes : Encoded → Instruction
from_bytes x =
    cond (eqb x.code 2) (Instruction.Constant (x.a % 256) (x.b % 4294967296))
    (instruction_of (encoded x.code (x.a % 256) (x.b % 256) (x.c % 256)))

-- it is the instruction of z, what is kept of the operands, and this encodes to z
abbrev Keeps : Encoded → Encoded → Type 0
Keeps x z = (from_bytes x ≡ instruction_of z) × (encode (instruction_of z) ≡ z) × (ltb z.code 4294967296 ≡ true)

-- so it is for each row
abbrev Sound : ℕ → Option Format → Type 0
Sound k None = Unit {0}
Sound k (Some f) = (a b c : ℕ) → Keeps (encoded k a b c) (kept_of f (encoded k a b c))

codes_sound : (k : ℕ) → Sound k (row_of k).format
unfolding encode
codes_sound =
    rows_at (λ k r. Sound k r.format) codes (
      tt,
      (
        λ a b c. (refl, refl, refl),
        (
          λ a b c. (refl, refl, refl),
          (
            λ a b c. (refl, refl, refl),
            (
              λ a b c. (refl, refl, refl),
              (
                λ a b c. (refl, refl, refl),
                (
                  λ a b c. (refl, refl, refl),
                  (
                    λ a b c. (refl, refl, refl),
                    (
                      λ a b c. (refl, refl, refl),
                      (
                        λ a b c. (refl, refl, refl),
                        (
                          λ a b c. (refl, refl, refl),
                          (
                            λ a b c. (refl, refl, refl),
                            (
                              λ a b c. (refl, refl, refl),
                              (λ a b c. (refl, refl, refl), (λ a b c. (refl, refl, refl), λ k. tt)),
                            ),
                          ),
                        ),
                      ),
                    ),
                  ),
                ),
              ),
            ),
          ),
        ),
      ),
    )

-- what decodes encodes to the same numbers, which no reading has kept down
pub record Decodes (x : Encoded) (y : Instruction) : Type 0 where
  pub back : encode y ≡ x
  pub small : Small x.code x.a x.b x.c

-- ---- a code that has a format, with operands within their ranges, and 0 where they are unused
module _
    (n : ℕ) (x : Encoded) (h : n ≤ 256) {f : Format}
    (e : (row_of x.code).format ≡ Some f)
    (t : each_operand (ranged n) f x ≡ true) (z : each_operand unused_zero f x ≡ true) where
  abbrev Kept : OperandKind → ℕ → Type 0
  Kept kind y = (kept kind y ≡ y) × (y < 4294967296)

  operands : Kept f.a x.a × Kept f.b x.b × Kept f.c x.c
  operands =
      let t₁ = and_true (ranged n f.a x.a) _ t in
      let t₂ = and_true (ranged n f.b x.b) _ t₁.1 in
      let z₁ = and_true (unused_zero f.a x.a) _ z in
      let z₂ = and_true (unused_zero f.b x.b) _ z₁.1 in
      (operand_kept n f.a x.a h t₁.0 z₁.0, operand_kept n f.b x.b h t₂.0 z₂.0, operand_kept n f.c x.c h t₂.1 z₂.1)

  whole : kept_of f x ≡ x
  whole = λ i. record { code = x.code; a = operands.0.0 i; b = operands.1.0 i; c = operands.2.0 i }

  sound : Sound x.code (Some f)
  sound = subst (Sound x.code) e (codes_sound x.code)

  built : from_bytes x ≡ instruction_of x
  built = (sound x.a x.b x.c).0 ∙ ap instruction_of whole

  decodes : Decodes x (instruction_of x)
  decodes =
      let s = sound x.a x.b x.c in
      let k = ltb-true x.code 4294967296 s.2 in
      let o = operands in
      record {
        back = ap (λ (y : Encoded). encode (instruction_of y)) (sym whole) ∙ s.1 ∙ whole;
        small = record { small_a = omega arith; small_b = omega arith; small_c = omega arith; small_d = omega arith };
      }

pub decoded_encodes : (n : ℕ) (x : Encoded) → n ≤ 256 → (y : Instruction) → decode n x ≡ Ok y → Decodes x y
unfolding decode
decoded_encodes n x h y = by (row_of x.code).format refl
  where
    by : (o : Option Format) → (row_of x.code).format ≡ o → decode_as o n x ≡ Ok y → Decodes x y
    by None e = λ d. clash (cc)
    by (Some f) e =
        on_test (λ (d : Decoded). d ≡ Ok y → Decodes x y) (not (each_operand (ranged n) f x))
        (λ t d. clash (cc))
        (λ t. on_test (λ (d : Decoded). d ≡ Ok y → Decodes x y) (not (each_operand unused_zero f x))
        (λ z d. clash (cc))
        (λ z d. subst (Decodes x) (cc) (decodes n x h e (not-false _ t) (not-false _ z))))

-- ---- what a decoder finds, by the format that it looked up and the tests that it made
module _ (n : ℕ) (x : Encoded) {o : Option Format} (e : o ≡ (row_of x.code).format) where
  pub decode_unknown : o ≡ None → Err UnknownCode ≡ decode n x
  unfolding decode
  decode_unknown p = rw (← e, p)

  module _ {f : Format} (p : o ≡ Some f) {t : Bool} (q : t ≡ each_operand (ranged n) f x) where
    pub decode_range : t ≡ false → Err OperandOutOfRange ≡ decode n x
    unfolding decode
    decode_range z = rw (← e, p, ← q, z)

    module _ (z : t ≡ true) {u : Bool} (r : u ≡ each_operand unused_zero f x) where
      pub decode_unused : u ≡ false → Err UnusedOperand ≡ decode n x
      unfolding decode
      decode_unused y = rw (← e, p, ← q, z, ← r, y)

      module _ (h : n ≤ 256) (y : u ≡ true) where
        decode_valid : {k : Instruction} → k ≡ from_bytes x → Ok k ≡ decode n x
        unfolding decode
        decode_valid s = rw (← e, p, ← q, z, ← r, y, s ∙ built n x h (sym e ∙ p) (sym q ∙ z) (sym r ∙ y))

        pub decode_constant : x.code ≡ 2 → Ok (Instruction.Constant (x.a % 256) (x.b % 4294967296)) ≡ decode n x
        decode_constant k = decode_valid (rw (eq-eqb x.code 2 k))

        pub decode_bytes :
            {k : Instruction} → (x.code ≡ 2 → ⊥) → k ≡ instruction_of (encoded x.code (x.a % 256) (x.b % 256) (x.c % 256)) → Ok k ≡ decode n x
        decode_bytes ne s = decode_valid (s ∙ rw (ne_eqb x.code 2 ne))
