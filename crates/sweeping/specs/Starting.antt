-- What the files of a sweep come to (document 02, order 12): the card is judged first, then the length of the calls, then their lines, of which there is one for each
-- process; then 'every process is called', and the first call that is refused is printed. Where nothing is printed the sweep begins.
use Rattle.std.specs.Prelude.{ℕ, zero, suc, ◌≤◌, ◌≡◌, cond, List, [], ltb, length, replicate, Ok, Err}
use Rattle.grammar.specs.Writing.{Put}
use Rattle.construction.specs.Answers.{is_refused}
use Rattle.construction.specs.Opening.{read_card}
use Rattle.construction.specs.Tracing.{no_report}
use Rattle.construction.specs.Types.{Verdict}
use Rattle.calls.specs.Tables.{request_in}
use Rattle.calls.specs.Texts.{Calls as CallsOf, calls_of, line_refusal}
use Rattle.commands.specs.declared.Command.{Command}
use Rattle.commands.specs.Printing.{line_text, longest, card_refusal, calls_refusal}
use Rattle.block.specs.Layout.{process_count_in}
use Rattle.lent_card.specs.Requests.{call_answer, call_block}
use Rattle.lent_text.specs.Opened.{opened_block, judged}
use Rattle.sweeping.specs.declared.Started.{Started}

-- a line that is printed, and the block after it
pub record Begun : Type 0 where
  pub text : List ℕ
  pub block : List ℕ

-- the calls of m processes, from process i on: the first that is refused is printed, and none after it is made
abbrev pub call_line : List ℕ → List ℕ → ℕ → List ℕ
call_line calls b i =
    let x = request_in calls i in
    line_text 0 (Command.Call i x.program x.inputs) no_report (call_answer b i x.program)

unfoldable pub called_from : List ℕ → ℕ → ℕ → List ℕ → Begun
called_from calls zero i b = record { text = []; block = b }
called_from calls (suc m) i b =
    let x = request_in calls i in
    let after = call_block b i x.program x.inputs in
    cond (is_refused (call_answer b i x.program)) (record { text = call_line calls b i; block = after }) (called_from calls m (suc i) after)

abbrev pub called : List ℕ → List ℕ → Begun
called calls b = called_from calls (process_count_in b) 0 b

-- a line r long, put into the buffer, and the block after the calls
pub record Calls (calls b buffer : List ℕ) (r : ℕ) (b' z : List ℕ) : Type 0 where
  pub put : Put buffer 0 (called calls b).text r z
  pub short : r ≤ longest
  pub block : b' ≡ (called calls b).block

-- the files judged one after the other
pub record Starting : Type 0 where
  pub text : List ℕ
  pub block : List ℕ
  pub table : List ℕ

abbrev pub no_calls : List ℕ
no_calls = replicate 40 0

abbrev pub over : ℕ → Started
over n = record { length = n; table = no_calls }

abbrev pub stopped : List ℕ → List ℕ → Starting
stopped text b = record { text = text; block = b; table = no_calls }

abbrev pub calls_starting : List ℕ → CallsOf → Starting
calls_starting b (Ok words) = record { text = (called words b).text; block = (called words b).block; table = words }
calls_starting b (Err wrong) = stopped (line_refusal wrong.line) b

abbrev pub card_starting : List ℕ → List ℕ → Verdict → Starting
card_starting calls b (Ok _) =
    cond (ltb 65536 (length calls)) (stopped calls_refusal b) (calls_starting b (calls_of calls (process_count_in b)))
card_starting calls b (Err e) = stopped (card_refusal (Err e)) b

unfoldable pub starting : List ℕ → List ℕ → List ℕ → Starting
starting card calls b = card_starting calls (opened_block card b) (judged (read_card card).verdict b)

pub record Starts (card calls b buffer : List ℕ) (r : Started) (b' z : List ℕ) : Type 0 where
  pub put : Put buffer 0 (starting card calls b).text r.length z
  pub short : r.length ≤ longest
  pub block : b' ≡ (starting card calls b).block
  pub table : r.table ≡ (starting card calls b).table
