-- What the worked examples compute with. A declaration that unfolds one of the names below unfolds all that its own line names.
use lib.Count.{ones, ones_in}
use Rattle.grammar.specs.Reading.{four, field, number, digits, has_word}
use Rattle.grammar.specs.Writing.{decimal, decimals}
use Rattle.construction.specs.Opening.{opened, read_card, vars_from, programs_from, read_program, ins_from, fresh}
use Rattle.construction.specs.Lines.{card_line, judge_card, var_line, judge_var, sheet_line, judge_sheet, ins_line, judge_ins}
use Rattle.construction.specs.Instructions.{decode, effect_of, fetch, word, with_word, sum, difference, load, store, free, forward, with_register}
use Rattle.construction.specs.Instructions.{with_output, skipped, faulted}
use Rattle.construction.specs.Sequential.{sequential, run_from}
use Rattle.construction.specs.Requests.{call, request_exit, step, read, value_of}
use Rattle.construction.specs.Machine.{advance, swap_of, perform, access_of, access_gate, access_announcement, first_choice, begin_help, note, writing}
use Rattle.construction.specs.Marks.{with_bit}
use Rattle.construction.specs.Tracing.{trace, report_of}
use Rattle.construction.specs.Helping.{simulate, simulate_from}
use Rattle.construction.specs.Effects.{allocated}
use Rattle.construction.specs.Weight.{weight_before, heaviest}
use Rattle.construction.specs.Dictionary.{position, assign, value_under, insert, altered, unaltered, next_write}
use Rattle.construction.specs.Cells.{same_words, same_gate, same_announcement, same_record, swap_gate, swap_announcement, swap_record, released, current}
use Rattle.construction.specs.Cells.{previous, rewritten}
use Rattle.construction.specs.History.{observe, observe_all, with_finishes, latest, latest_call, turned, text_at}
use Rattle.construction.specs.Parts.{program_of}
use Rattle.construction.specs.Changes.{change, change_read, some_behind}

-- a text is read
unfoldable pub reading : Unit {0}
unfolding opened read_card card_line judge_card four field number digits has_word vars_from var_line judge_var programs_from read_program sheet_line judge_sheet ins_from
    ins_line judge_ins decode weight_before fetch fresh decimal decimals
reading = tt

-- and requests are answered
unfoldable pub answering : Unit {0}
unfolding reading program_of change change_read heaviest some_behind call request_exit step read value_of advance perform access_of access_gate access_announcement
    first_choice begin_help note writing simulate simulate_from allocated effect_of word with_word sum difference load store free forward with_register with_output
    skipped faulted position assign value_under insert altered unaltered next_write same_words same_gate same_announcement same_record swap_gate swap_announcement
    swap_record released current previous rewritten with_bit ones ones_in swap_of trace report_of
answering = tt

-- and a history is kept
unfoldable pub observing : Unit {0}
unfolding answering text_at observe observe_all with_finishes latest latest_call turned sequential run_from
observing = tt
