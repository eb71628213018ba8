-- What a sweep prints (document 02, order 12): `steps,COUNT`, `done,COUNT` and `fault,COUNT` (answers `done` and `fault`), `wait,LONGEST,BOUND` (the most own steps that a
-- returned operation told, beside order 3's number for this card), `gate,SEQ`, then `look,V,VALUE` for every variable.
use Rattle.std.specs.Prelude.{ℕ, zero, suc, List, [], ◌++◌, unwrap_or}
use Prim.Native.String.{String}
use Rattle.grammar.specs.Writing.{field_text}
use Rattle.construction.specs.Answers.{bytes}
use Rattle.construction.specs.Tracing.{no_report}
use Rattle.wait_table.specs.Table.{wait_for}
use Rattle.commands.specs.declared.Command.{Command}
use Rattle.commands.specs.Printing.{line_text}
use Rattle.block.specs.Layout.{process_count_in, variable_count_in, room_in, gate_in}
use Rattle.lent_card.specs.Requests.{read_answer}
use Rattle.lent_sweep.specs.declared.Counts.{Counts}

-- the longest wait on the card in a block; a card that opened is in the table
abbrev pub bound_in : List ℕ → ℕ
bound_in b = unwrap_or (wait_for (process_count_in b) (room_in b)) 0

abbrev pub count_text : String → ℕ → List ℕ
count_text word n = bytes word ++ field_text 10 n

abbrev pub counts_text : Counts → List ℕ
counts_text c = count_text "steps," c.accepted ++ (count_text "done," c.done ++ count_text "fault," c.faulted)

abbrev pub wait_text : ℕ → ℕ → List ℕ
wait_text longest bound = bytes "wait," ++ (field_text 44 longest ++ field_text 10 bound)

unfoldable pub head_text : List ℕ → Counts → List ℕ
head_text b c = counts_text c ++ (wait_text c.longest (bound_in b) ++ count_text "gate," (gate_in b).seq)

-- the lines of m variables, from variable v on
unfoldable pub reads_text : List ℕ → ℕ → ℕ → List ℕ
reads_text b zero v = []
reads_text b (suc m) v = line_text 0 (Command.Read v) no_report (read_answer b v) ++ reads_text b m (suc v)

unfoldable pub summary_text : List ℕ → Counts → List ℕ
summary_text b c = head_text b c ++ reads_text b (variable_count_in b) 0
