-- Every row of the tables of worked pieces and of small examples (document 01, 'Proving pieces' and 'Turned back') holds, by computation.
use mathlib.Core.Path.{◌≡◌, refl, ap}
use mathlib.Core.List.{List, [], ◌∷◌, map}
use lib.ListN.{take, get_or}
use native.Mathlib.Omega.{arith}
use Rattle.construction.specs.Types.{Gate, Announcement, Record, Answer}
use Rattle.construction.specs.Cells.{open_record}
use Rattle.construction.specs.Opening.{opened}
use Rattle.construction.specs.Lines.{card_text, var_text, sheet_text, ins_text}
use Rattle.construction.specs.Instructions.{encode}
use Rattle.construction.specs.Tracing.{trace}
use Rattle.construction.specs.Answers.{verdict_fields, written_fields, card_line_fields, var_line_fields, sheet_line_fields, decoded_fields, ins_line_fields}
use Rattle.construction.specs.Writing.{written, text_of, vars_text, programs_text, lines_text}
use Rattle.construction.specs.Examples.Terms.{Row, card_after, answers_to, AllHold}
use Rattle.construction.specs.Examples.Pieces.{rows}
use Rattle.construction.specs.Examples.Traces.{AllTold, traced_rows}
use Rattle.construction.specs.Examples.Refusals.{AllTextsRefused, refused_texts, FullOpens}
use Rattle.construction.specs.Examples.Refusals.{AllYielded, yielded_lines, AllEntriesRefused, refused_entries, BufferRefused}
use Rattle.construction.specs.Examples.Changes.{changed_rows}
use Rattle.construction.proofs.Statements.Refusals.{call_no_program, call_busy, step_no_process, step_not_busy, step_limit, read_no_place}
use Rattle.construction.proofs.Statements.Computing.{reading, answering}

-- what a row shows, and what it is to show: one equation, so that the card is computed once for its parts
abbrev Shown : Type 0
Shown = List Answer × Gate × List Announcement × Record

shown : Row → Shown
shown r =
    let o = (opened r.text).card in
    let c = card_after o r.entries in
    (answers_to o r.entries, c.gate, take c.process_count c.announcements, get_or c.records r.variable (open_record 0))

abbrev expected : Row → Shown
expected r = (r.answers, r.gate, r.announcements, r.cell)

all_hold : (rs : List Row) → map shown rs ≡ map expected rs → AllHold rs
unfolding shown
all_hold [] e = tt
all_hold (r ∷ rs) e =
    let h : shown r ≡ expected r = cc in
    ((ap (λ (s : Shown). s.0) h, (ap (λ (s : Shown). s.1) h, ap (λ (s : Shown). s.2) h, ap (λ (s : Shown). s.3) h)), all_hold rs (cc))

pub rows_hold : AllHold rows
unfolding answering shown
rows_hold = all_hold rows refl

-- the pieces of order 11
pub changed_rows_hold : AllHold changed_rows
unfolding answering shown
changed_rows_hold = all_hold changed_rows refl

-- the pieces that speak of lines
pub rows_told : AllTold traced_rows
unfolding answering
rows_told = (refl, (refl, (refl, (refl, (refl, (refl, tt))))))

pub texts_refused : AllTextsRefused refused_texts
unfolding reading verdict_fields
texts_refused = (refl, (refl, (refl, (refl, (refl, (refl, (refl, (refl, (refl, (refl, tt))))))))))

pub full_opens : FullOpens
unfolding reading verdict_fields
full_opens = refl

pub lines_yield : AllYielded yielded_lines
unfolding reading encode card_line_fields var_line_fields sheet_line_fields decoded_fields ins_line_fields
lines_yield = (refl, (refl, (refl, (refl, (refl, (refl, (refl, (refl, (refl, (refl, (refl, (refl, tt))))))))))))

-- by the laws of refusals, whose premises are computed: to compare the two cards instead would take half the time of checking this crate
pub entries_refused : AllEntriesRefused refused_entries
unfolding trace
entries_refused = (
  step_no_process _ _ (unfold answering in refl),
  (
    call_no_program _ _ _ _ (unfold answering in refl) (unfold answering in refl),
    (
      call_busy _ _ _ _ (unfold answering in refl) (unfold answering in refl) (unfold answering in refl),
      (
        step_not_busy _ _ (unfold answering in refl) (unfold answering in refl),
        (
          read_no_place _ _ (unfold answering in refl),
          (
            step_limit _ _ (unfold answering in refl) (unfold answering in refl) (unfold answering in (omega arith)),
            (
              step_no_process _ _ (unfold answering in refl),
              (
                step_not_busy _ _ (unfold answering in refl) (unfold answering in refl),
                (
                  step_limit _ _ (unfold answering in refl) (unfold answering in refl) (unfold answering in (omega arith)),
                  tt,
                ),
              ),
            ),
          ),
        ),
      ),
    ),
  ),
)

pub buffer_refused : BufferRefused
unfolding reading written text_of vars_text programs_text lines_text card_text var_text sheet_text ins_text encode written_fields
buffer_refused = refl
