-- One of the three texts of a program (document 02, order 11), where it stands in a block: of each kind it is what specs/Layout of the crate block has
use Rattle.std.specs.Prelude.{ℕ, List}
use Rattle.construction.specs.Instructions.{no_program}
use Rattle.codes.specs.Types.{Program}
use Rattle.codes.specs.Codes.{program_of, program_words}
use Rattle.block.specs.Layout.{row_at, put_row}
use Rattle.texts.specs.declared.Text.{Text}
use Rattle.texts.specs.declared.Text.TheVariants.{Opening, Earlier, Later}

-- the first word of the texts of a kind
abbrev pub text_base : Text → ℕ
text_base Opening = 656
text_base Earlier = 928
text_base Later = 1192

-- the text of program k, and the block with another one
abbrev pub text_at : List ℕ → Text → ℕ → Program
text_at b x k = row_at b (text_base x) 33 8 program_of no_program k

abbrev pub put_text : List ℕ → Text → ℕ → Program → List ℕ
put_text b x k y = put_row b (text_base x) 33 8 k (program_words y)
