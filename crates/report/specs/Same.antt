-- Cards compared: true where every field and every element of every array is the same ('the card as it was').
use Rattle.std.specs.Prelude.{ℕ, zero, suc, Bool, true, false, ◌&&◌, List, [], eqb, get_or}
use Rattle.construction.specs.declared.{cells.Announcement.Announcement, cells.Yield.Yield, cells.Record.Record, programs.Instruction.Instruction, programs.Line.Line, programs.Program.Program}
use Rattle.construction.specs.declared.{simulations.Item.Item, simulations.Dictionary.Dictionary, simulations.Simulation.Simulation, accesses.Control.Control}
use Rattle.construction.specs.declared.{card.Operation.Operation, card.Card.Card}
use Rattle.construction.specs.Cells.{same_bool, same_words, same_gate, same_announcement, same_record, open_announcement, open_record}
use Rattle.construction.specs.Instructions.{no_line, started}
use Rattle.construction.specs.Dictionary.{no_item}
use Rattle.construction.specs.Parts.{idle_control, no_operation, no_gate}
use Rattle.codes.specs.Codes.{instruction_word, place_word}

-- a test holds of every number below n
unfoldable pub all_below : ℕ → (ℕ → Bool) → Bool
all_below zero test = true
all_below (suc n) test = all_below n test && test n

-- an instruction is known by its word (`instruction_back`, crates/codes/proofs/Programs)
abbrev pub same_instruction : Instruction → Instruction → Bool
same_instruction a b = eqb (instruction_word a) (instruction_word b)

abbrev pub same_line : Line → Line → Bool
same_line a b = same_instruction a.instruction b.instruction

unfoldable pub same_program : Program → Program → Bool
same_program a b = eqb a.length b.length && all_below 32 (λ k. same_line (get_or a.lines k no_line) (get_or b.lines k no_line))

unfoldable pub same_starts : List ℕ → List ℕ → Bool
same_starts a b = all_below 64 (λ v. eqb (get_or a v 0) (get_or b v 0))

unfoldable pub same_records : List Record → List Record → Bool
same_records a b = all_below 64 (λ v. same_record (get_or a v (open_record 0)) (get_or b v (open_record 0)))

unfoldable pub same_item : Item → Item → Bool
same_item a b = eqb a.variable b.variable && (eqb a.value b.value && same_record a.cell b.cell)

unfoldable pub same_dictionary : Dictionary → Dictionary → Bool
same_dictionary a b = eqb a.length b.length && all_below 32 (λ k. same_item (get_or a.items k no_item) (get_or b.items k no_item))

-- a place is known by its word (`place_back`, crates/codes/proofs/Values)
unfoldable pub same_control : Control → Control → Bool
same_control a b = eqb (place_word a.place) (place_word b.place) && eqb a.target b.target

unfoldable pub same_operation : Operation → Operation → Bool
same_operation a b = eqb a.program b.program && same_words a.inputs b.inputs

unfoldable pub same_yield : Yield → Yield → Bool
same_yield a b = same_words a.outputs b.outputs && same_bool a.fault b.fault

unfoldable pub same_simulation : Simulation → Simulation → Bool
same_simulation a b =
    eqb a.counter b.counter
    && (same_words a.registers b.registers && same_yield a.yields b.yields)

-- the texts of program i: as it was opened, and as it was changed (document 02, order 11), the number of its last change, the earlier and the later text
abbrev pub program_at : List Program → ℕ → Program
program_at l i = get_or l i (record { length = 0; lines = [] })

unfoldable pub same_texts : Card → Card → ℕ → Bool
same_texts a b i =
    same_program (program_at a.programs i) (program_at b.programs i)
    && (eqb (get_or a.from i 0) (get_or b.from i 0)
    && (same_program (program_at a.earlier i) (program_at b.earlier i) && same_program (program_at a.later i) (program_at b.later i)))

-- what the call of process i asked for and how far it came, and the set of the variables that it noted
unfoldable pub same_work : Card → Card → ℕ → Bool
same_work a b i =
    same_control (get_or a.controls i idle_control) (get_or b.controls i idle_control)
    && (same_operation (get_or a.operations i no_operation) (get_or b.operations i no_operation)
    && (same_bool (get_or a.exits i false) (get_or b.exits i false)
    && (eqb (get_or a.counts i 0) (get_or b.counts i 0) && eqb (get_or a.masks i 0) (get_or b.masks i 0))))

abbrev pub announcement_at : List Announcement → ℕ → Announcement
announcement_at l i = get_or l i open_announcement

abbrev pub dictionary_at : List Dictionary → ℕ → Dictionary
dictionary_at l i = get_or l i (record { length = 0; items = [] })

-- the announcement of process i, what it last read and what it simulates
unfoldable pub same_reads : Card → Card → ℕ → Bool
same_reads a b i =
    same_announcement (announcement_at a.announcements i) (announcement_at b.announcements i)
    && (same_gate (get_or a.gates_read i no_gate) (get_or b.gates_read i no_gate)
    && (same_announcement (announcement_at a.announcements_read i) (announcement_at b.announcements_read i)
    && (same_simulation (get_or a.simulations i started) (get_or b.simulations i started)
    && same_dictionary (dictionary_at a.dictionaries i) (dictionary_at b.dictionaries i))))

-- all that stands at place i of an array of eight: the texts of program i, the announcement of process i, and its own state
unfoldable pub same_at : Card → Card → ℕ → Bool
same_at a b i = same_texts a b i && (same_work a b i && same_reads a b i)

-- the fields that are no arrays
unfoldable pub same_numbers : Card → Card → Bool
same_numbers a b =
    eqb a.process_count b.process_count
    && (eqb a.variable_count b.variable_count
    && (eqb a.program_count b.program_count
    && (eqb a.limit b.limit && (eqb a.steps b.steps && same_gate a.gate b.gate))))

unfoldable pub same_card : Card → Card → Bool
same_card a b =
    same_numbers a b
    && (same_starts a.starts b.starts && (same_records a.records b.records && all_below 8 (same_at a b)))
