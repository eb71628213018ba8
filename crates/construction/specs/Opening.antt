-- What a card text opens to (document 01, 'The card text' and 'Turned back'): judged by its length, then line by line.
use Rattle.std.specs.Prelude.{ℕ, zero, suc, ◌+◌, false, cond, List, map, length, set, replicate, eqb, ltb, Ok, Err}
use Rattle.construction.specs.Types.{Instruction, Line, Program, Card, Refusal, TooLong, Malformed, TooHeavy, CardLine, VarLine, SheetLine, InsLine}
use Rattle.construction.specs.Types.{Contents, Verdict, Opened, told_at}
use Rattle.construction.specs.Cells.{open_gate, open_announcement, open_record}
use Rattle.construction.specs.Instructions.{no_line, no_program, started}
use Rattle.construction.specs.Weight.{weight}
use Rattle.construction.specs.Dictionary.{empty}
use Rattle.construction.specs.Parts.{idle_control, no_operation, no_gate}
use Rattle.construction.specs.Lines.{card_line, var_line, sheet_line, ins_line}
use Rattle.construction.specs.Readings.{ProgramReading, Reading}

-- the contents that the line `card,p,n,s,limit` alone gives ..
abbrev pub begun : ℕ → ℕ → ℕ → ℕ → Contents
begun p n s l =
    record {
      process_count = p;
      variable_count = n;
      program_count = s;
      limit = l;
      starts = replicate 64 0;
      programs = replicate 8 no_program;
    }

-- .. and contents with other starting values and programs
abbrev pub gathered : Contents → List ℕ → List Program → Contents
gathered x starts programs =
    record {
      process_count = x.process_count;
      variable_count = x.variable_count;
      program_count = x.program_count;
      limit = x.limit;
      starts = starts;
      programs = programs;
    }

-- 'the card with no processes, variables or sheets, its limit 0'
abbrev pub no_contents : Contents
no_contents = begun 0 0 0 0

-- the card as its text opens it: all cells and processes as at opening
unfoldable pub fresh : Contents → Card
fresh x =
    record {
      process_count = x.process_count;
      variable_count = x.variable_count;
      program_count = x.program_count;
      limit = x.limit;
      starts = x.starts;
      programs = x.programs;
      from = replicate 8 0;
      earlier = x.programs;
      later = x.programs;
      gate = open_gate;
      announcements = replicate 8 open_announcement;
      records = map open_record x.starts;
      steps = 0;
      controls = replicate 8 idle_control;
      operations = replicate 8 no_operation;
      exits = replicate 8 false;
      counts = replicate 8 0;
      gates_read = replicate 8 no_gate;
      announcements_read = replicate 8 open_announcement;
      simulations = replicate 8 started;
      dictionaries = replicate 8 empty;
      masks = replicate 8 0;
    }

-- 'A refused text gives its line, counted from 1 (0 for refusal 1)'
abbrev pub refused_at : Refusal → ℕ → Reading
refused_at why line = record { verdict = Err (told_at why line); contents = no_contents; at = 0; line = line }

abbrev pub program_refused_at : Refusal → ℕ → ProgramReading
program_refused_at why line = record { verdict = Err (told_at why line); program = no_program; at = 0; line = line }

-- what has been read so far of a program and of a card, the place of the next line and its number
abbrev pub program_so_far : ℕ → List Line → ℕ → ℕ → ProgramReading
program_so_far m lines at line = record { verdict = Ok tt; program = record { length = m; lines = lines }; at = at; line = line }

abbrev pub so_far : Contents → ℕ → ℕ → Reading
so_far x at line = record { verdict = Ok tt; contents = x; at = at; line = line }

-- the next m `ins` lines, the first for place k of the program
abbrev pub with_line : ProgramReading → ℕ → Instruction → ℕ → ProgramReading
with_line r k x i = program_so_far r.program.length (set r.program.lines k (record { instruction = x })) i (suc r.line)

abbrev pub next_ins : InsLine → ProgramReading → ℕ → (ProgramReading → ProgramReading) → ProgramReading
next_ins (Ok x) r k go = go (with_line r k x.value x.next)
next_ins (Err why) r k go = program_refused_at why r.line

unfoldable pub ins_from : ℕ → List ℕ → ℕ → ℕ → ProgramReading → ProgramReading
ins_from n t zero k r = r
ins_from n t (suc m) k r = next_ins (ins_line n t r.at) r k (λ x. ins_from n t m (suc k) x)

-- 'A sheet with more than 32 by that count is refused with 14, at its last line, after 13' (document 02, order 9): its lines are good by then.
-- `most` is 32 in a card, and in a change the card's own weight, if that is less (order 11).
abbrev pub judge_weight : ℕ → Verdict → ℕ → ProgramReading → ProgramReading
judge_weight most (Ok _) last r = cond (ltb most (weight r.program)) (program_refused_at TooHeavy last) r
judge_weight most (Err e) last r = r

abbrev pub weighed : ℕ → ℕ → ProgramReading → ProgramReading
weighed most last r = judge_weight most r.verdict last r

-- one program: `sheet,length` and its lines, m lines after that one
abbrev pub program_after : ℕ → ℕ → List ℕ → SheetLine → ℕ → ProgramReading
program_after n most t (Ok x) line =
    let m = x.value in weighed most (line + m) (ins_from n t m 0 (program_so_far m (replicate 32 no_line) x.next (suc line)))
program_after n most t (Err why) line = program_refused_at why line

unfoldable pub read_program : ℕ → ℕ → List ℕ → ℕ → ℕ → ProgramReading
read_program n most t at line = program_after n most t (sheet_line t at) line

-- the next m programs, the first with number k
abbrev pub with_program : Reading → ℕ → ProgramReading → Reading
with_program r k x =
    let y = r.contents in so_far (gathered y y.starts (set y.programs k x.program)) x.at x.line

abbrev pub next_program : Verdict → ProgramReading → Reading → ℕ → (Reading → Reading) → Reading
next_program (Ok _) x r k go = go (with_program r k x)
next_program (Err e) x r k go = refused_at e.refusal e.line

unfoldable pub programs_from : List ℕ → ℕ → ℕ → Reading → Reading
programs_from t zero k r = r
programs_from t (suc m) k r =
    let x = read_program r.contents.variable_count 32 t r.at r.line in
    next_program x.verdict x r k (λ y. programs_from t m (suc k) y)

-- the next m `var` lines, the first for variable k
abbrev pub with_start : Reading → ℕ → ℕ → ℕ → Reading
with_start r k v i = let y = r.contents in so_far (gathered y (set y.starts k v) y.programs) i (suc r.line)

abbrev pub next_var : VarLine → Reading → ℕ → (Reading → Reading) → Reading
next_var (Ok x) r k go = go (with_start r k x.value x.next)
next_var (Err why) r k go = refused_at why r.line

unfoldable pub vars_from : List ℕ → ℕ → ℕ → Reading → Reading
vars_from t zero k r = r
vars_from t (suc m) k r = next_var (var_line t r.at) r k (λ x. vars_from t m (suc k) x)

-- a refusal ends the reading
abbrev pub if_accepted : Verdict → Reading → (Reading → Reading) → Reading
if_accepted (Ok _) r go = go r
if_accepted (Err e) r go = r

-- 'Nothing follows': a line left over is refusal 2
abbrev pub at_end : List ℕ → Reading → Reading
at_end t r = cond (eqb r.at (length t)) r (refused_at Malformed r.line)

abbrev pub then_end : List ℕ → Reading → Reading
then_end t r = if_accepted r.verdict r (λ x. at_end t x)

abbrev pub then_programs : List ℕ → ℕ → Reading → Reading
then_programs t s r = if_accepted r.verdict r (λ x. programs_from t s 0 x)

-- the lines after the first: n `var` lines, then s programs
abbrev pub after_card : List ℕ → CardLine → Reading
after_card t (Ok x) =
    let v = x.value in
    let first = so_far (begun v.process_count v.variable_count v.program_count v.limit) x.next 2 in
    then_end t (then_programs t v.program_count (vars_from t v.variable_count 0 first))
after_card t (Err why) = refused_at why 1

-- refusal 1: 'card text over the byte limit'
unfoldable pub read_card : List ℕ → Reading
read_card t = cond (ltb 16384 (length t)) (refused_at TooLong 0) (after_card t (card_line t 0))

-- the card that a text opens to, the empty card of a refused text too
unfoldable pub opened : List ℕ → Opened
opened t = record { card = fresh (read_card t).contents; verdict = (read_card t).verdict }
