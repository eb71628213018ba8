-- The lines of a card text (document 01, 'The card text'): each yields its fields and the place past it, or a refusal.
use Rattle.std.specs.Prelude.{ℕ, ◌+◌, Bool, cond, ◌&&◌, List, [], ◌∷◌, ◌++◌, ltb, Option, Some, None, Ok, Err}
use Rattle.grammar.specs.declared.{Found.Found, Four.Four}
use Rattle.grammar.specs.Reading.{found, field, four, has_word}
use Rattle.grammar.specs.Writing.{field_text, four_text}
use Rattle.construction.specs.Types.{Instruction, Decoded, Encoded, Malformed, OutOfRange, CardNumbers, CardLine, VarLine, SheetLine, InsLine}
use Rattle.construction.specs.Instructions.{in_range, decode, encode, encoded}

-- `card,` `var,` `sheet,` `ins,`
abbrev pub card_word : List ℕ
card_word = 99 ∷ 97 ∷ 114 ∷ 100 ∷ 44 ∷ []

abbrev pub var_word : List ℕ
var_word = 118 ∷ 97 ∷ 114 ∷ 44 ∷ []

abbrev pub sheet_word : List ℕ
sheet_word = 115 ∷ 104 ∷ 101 ∷ 101 ∷ 116 ∷ 44 ∷ []

abbrev pub ins_word : List ℕ
ins_word = 105 ∷ 110 ∷ 115 ∷ 44 ∷ []

-- 'p processes (1 to 8), n variables (1 to 64), s sheets (1 to 8) .. and a step limit (1 to 1,000,000,000,000,000,000)'
abbrev pub card_fits : ℕ → ℕ → ℕ → ℕ → Bool
card_fits p n s l = in_range 1 8 p && (in_range 1 64 n && (in_range 1 8 s && in_range 1 1000000000000000000 l))

-- what the first line says: the fields of `card,p,n,s,limit`
abbrev pub card_numbers : ℕ → ℕ → ℕ → ℕ → CardNumbers
card_numbers p n s l = record { process_count = p; variable_count = n; program_count = s; limit = l }

-- `card,p,n,s,limit`
unfoldable pub judge_card : Option (Found Four) → CardLine
judge_card (Some x) =
    let v = x.value in
    cond (card_fits v.a v.b v.c v.d) (Ok (found (card_numbers v.a v.b v.c v.d) x.next)) (Err OutOfRange)
judge_card None = Err Malformed

unfoldable pub card_line : List ℕ → ℕ → CardLine
card_line t at = cond (has_word t at card_word) (judge_card (four t (at + 5))) (Err Malformed)

-- `var,value`: a 32-bit word
unfoldable pub judge_var : Option (Found ℕ) → VarLine
judge_var (Some x) = cond (ltb x.value 4294967296) (Ok x) (Err OutOfRange)
judge_var None = Err Malformed

unfoldable pub var_line : List ℕ → ℕ → VarLine
var_line t at = cond (has_word t at var_word) (judge_var (field t 10 (at + 4))) (Err Malformed)

-- `sheet,length`: 1 to 32 instructions
unfoldable pub judge_sheet : Option (Found ℕ) → SheetLine
judge_sheet (Some x) = cond (in_range 1 32 x.value) (Ok x) (Err OutOfRange)
judge_sheet None = Err Malformed

unfoldable pub sheet_line : List ℕ → ℕ → SheetLine
sheet_line t at = cond (has_word t at sheet_word) (judge_sheet (field t 10 (at + 6))) (Err Malformed)

-- `ins,code,a,b,c` on a card of n variables
abbrev pub ins_of : Decoded → ℕ → InsLine
ins_of (Ok x) i = Ok (found x i)
ins_of (Err why) i = Err why

unfoldable pub judge_ins : ℕ → Option (Found Four) → InsLine
judge_ins n (Some x) = let v = x.value in ins_of (decode n (encoded v.a v.b v.c v.d)) x.next
judge_ins n None = Err Malformed

unfoldable pub ins_line : ℕ → List ℕ → ℕ → InsLine
ins_line n t at = cond (has_word t at ins_word) (judge_ins n (four t (at + 4))) (Err Malformed)

-- the other way: the text of each line
unfoldable pub card_text : ℕ → ℕ → ℕ → ℕ → List ℕ
card_text p n s l = card_word ++ four_text p n s l

unfoldable pub var_text : ℕ → List ℕ
var_text v = var_word ++ field_text 10 v

unfoldable pub sheet_text : ℕ → List ℕ
sheet_text m = sheet_word ++ field_text 10 m

abbrev pub encoded_text : Encoded → List ℕ
encoded_text x = ins_word ++ four_text x.code x.a x.b x.c

unfoldable pub ins_text : Instruction → List ℕ
ins_text x = encoded_text (encode x)
