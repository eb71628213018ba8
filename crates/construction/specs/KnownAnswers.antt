-- The enums that functions answer are known by their fields (document 01: 'If an answer is an enum, a definition gives this paper's number and values
-- for every case of the enum, and the promises use that definition'): a promise that an answer equals a definition is one by its fields.
use Rattle.std.specs.Prelude.{ℕ, ◌≡◌, Ok, Err}
use Rattle.construction.specs.Types.{CardLine, VarLine, SheetLine, InsLine}
use Rattle.construction.specs.Answers.{Fields, number_of, answer_fields, verdict_fields, written_fields, row_fields, card_line_fields, var_line_fields}
use Rattle.construction.specs.Answers.{sheet_line_fields, decoded_fields, ins_line_fields}

-- the place past a line, 0 where it is refused
abbrev pub card_line_end : CardLine → ℕ
card_line_end (Ok x) = x.next
card_line_end (Err r) = 0

abbrev pub var_line_end : VarLine → ℕ
var_line_end (Ok x) = x.next
var_line_end (Err r) = 0

abbrev pub sheet_line_end : SheetLine → ℕ
sheet_line_end (Ok x) = x.next
sheet_line_end (Err r) = 0

abbrev pub ins_line_end : InsLine → ℕ
ins_line_end (Ok x) = x.next
ins_line_end (Err r) = 0

-- a value and what is told of it determine each other
abbrev pub KnownBy : {A B : Type 0} → (A → B) → Type 0
KnownBy {A} tell = (a b : A) → (tell a ≡ tell b → a ≡ b) × (a ≡ b → tell a ≡ tell b)

-- a line is known by its fields and the place past it, which is none of the paper's numbers
pub record KnownByFields : Type 0 where
  pub refusal : KnownBy number_of
  pub answer : KnownBy answer_fields
  pub verdict : KnownBy verdict_fields
  pub written : KnownBy written_fields
  pub row : KnownBy row_fields
  pub decoded : KnownBy decoded_fields
  pub card : KnownBy {B = Fields × ℕ} (λ (x : CardLine). (card_line_fields x, card_line_end x))
  pub var : KnownBy {B = Fields × ℕ} (λ (x : VarLine). (var_line_fields x, var_line_end x))
  pub sheet : KnownBy {B = Fields × ℕ} (λ (x : SheetLine). (sheet_line_fields x, sheet_line_end x))
  pub ins : KnownBy {B = Fields × ℕ} (λ (x : InsLine). (ins_line_fields x, ins_line_end x))
