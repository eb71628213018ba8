-- What a card text leaves in a block of 1456 words that its owner lends, and what is told of it (document 02, order 10). Each part stands where specs/Layout of the crate block has it.
use Rattle.std.specs.Prelude.{ℕ, zero, suc, cond, List, ◌++◌, ◌≡◌, leb, length, get_or, drop, replicate, Ok, Err}
use Rattle.construction.specs.declared.{texts.Contents.Contents, programs.Program.Program}
use Rattle.construction.specs.declared.answers.Refusal.TheVariants.{ShortBuffer}
use Rattle.construction.specs.Cells.{open_gate, open_record}
use Rattle.construction.specs.Instructions.{no_program}
use Rattle.construction.specs.Opening.{read_card}
use Rattle.construction.specs.Weight.{card_weight}
use Rattle.construction.specs.Types.{Verdict, told_at}
use Rattle.block.specs.Layout.{put_room, put_process_count, put_variable_count, put_program_count, put_limit, put_gate, put_start, put_record, put_opening, put_earlier}
use Rattle.block.specs.Layout.{put_later}

-- the first n words are 0, the words past them are kept
unfoldable pub zeroed : ℕ → List ℕ → List ℕ
zeroed n b = replicate n 0 ++ drop n b

-- every word of a card is 0; a block that is too short is left as it was
unfoldable pub cleared : List ℕ → List ℕ
cleared b = cond (leb 1456 (length b)) (zeroed 1456 b) b

-- w, the counts, the step limit and the gate
unfoldable pub put_head : List ℕ → Contents → List ℕ
put_head b x =
    put_gate
    (put_limit
    (put_program_count (put_variable_count (put_process_count (put_room b (card_weight x)) x.process_count) x.variable_count) x.program_count)
    x.limit)
    open_gate

-- the starting value of variable v, with its record; and those of the first n variables
abbrev pub put_value : List ℕ → ℕ → ℕ → List ℕ
put_value b v x = put_record (put_start b v x) v (open_record x)

unfoldable pub put_values : ℕ → List ℕ → List ℕ → List ℕ
put_values zero b xs = b
put_values (suc n) b xs = put_value (put_values n b xs) n (get_or xs n 0)

-- program k, which is its opening, its earlier and its later text (order 11); and the first n programs
abbrev pub put_texts : List ℕ → ℕ → Program → List ℕ
put_texts b k y = put_later (put_earlier (put_opening b k y) k y) k y

unfoldable pub put_programs : ℕ → List ℕ → List Program → List ℕ
put_programs zero b xs = b
put_programs (suc n) b xs = put_texts (put_programs n b xs) n (get_or xs n no_program)

-- the block of the card that these contents open to: a part that is not put is as its words 0 have it
unfoldable pub contents_block : List ℕ → Contents → List ℕ
contents_block b x = put_programs 8 (put_values 64 (put_head (cleared b) x) x.starts) x.programs

-- that of a text; a refused text has the contents of the empty card
unfoldable pub opened_block : List ℕ → List ℕ → List ℕ
opened_block t b = contents_block b (read_card t).contents

-- a text's own refusals come first; then a block that is too short is refused with 11, at line 0
abbrev pub judged : Verdict → List ℕ → Verdict
judged (Ok _) b = cond (leb 1456 (length b)) (Ok tt) (Err (told_at ShortBuffer 0))
judged (Err e) b = Err e

-- the answer r, and the words z that a block of the words b has then
pub record Opens (t b : List ℕ) (r : Verdict) (z : List ℕ) : Type 0 where
  pub answer : r ≡ judged (read_card t).verdict b
  pub words : z ≡ opened_block t b
