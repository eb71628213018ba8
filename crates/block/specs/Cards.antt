-- The card that stands in a block and a loan (document 02, order 10): the dictionaries stand in the loan, everything else in the block. Every block and
-- every loan hold some card.
use Rattle.std.specs.Prelude.{ℕ, ◌+◌, ◌-◌, ◌*◌, Bool, cond, List, ◌++◌, leb, ltb, length, set, replicate}
use Rattle.construction.specs.Dictionary.{no_item}
use Rattle.construction.specs.Opening.{fresh, no_contents}
use Rattle.construction.specs.Parts.{with_own}
use Rattle.codes.specs.Types.{Gate, Announcement, Control, Operation, Simulation, Dictionary, Program, Item, Card}
use Rattle.codes.specs.Parts.{word_at, part, table, rows}
use Rattle.codes.specs.Codes.{byte, half, odd, gate_of, control_of, announcement_of, record_of, operation_of, simulation_of, item_of, program_of}
use Rattle.block.specs.Layout.{room_in, noted_in, from_in, earlier_text, later_text}

-- item k from item `base` on in a loan, three words an item
abbrev pub item_place : ℕ → ℕ → ℕ
item_place base k = (base + k) * 3

abbrev pub item_at : List ℕ → ℕ → ℕ → Item
item_at l base k = item_of (part l (item_place base k) 3)

-- a dictionary of n items from item `base` on; past them it is as an empty one
unfoldable pub dictionary_at : List ℕ → ℕ → ℕ → Dictionary
dictionary_at l base n = record { length = n; items = table n (λ k. item_at l base k) ++ replicate (32 - n) no_item }

-- that of process i: its items start at item w i
abbrev pub dictionary_in : List ℕ → List ℕ → ℕ → Dictionary
dictionary_in b l i = dictionary_at l (room_in b * i) (noted_in b i)

-- the text of program k that an operation with this gate number runs
abbrev pub text_in : List ℕ → ℕ → ℕ → Program
text_in b k number = cond (ltb number (from_in b k)) (earlier_text b k) (later_text b k)

-- n words one behind the other, each taken for a value
abbrev pub numbers {ℓ} : {A : Type ℓ} → List ℕ → ℕ → ℕ → (ℕ → A) → List A
numbers b base n decode = table n (λ i. decode (word_at b (base + i)))

-- the card that a block of 1456 words or more holds
unfoldable pub standing : List ℕ → List ℕ → Card
standing b l =
    record {
      process_count = byte (word_at b 0);
      variable_count = byte (word_at b 1);
      program_count = byte (word_at b 2);
      limit = word_at b 3;
      starts = numbers b 592 64 half;
      programs = rows b 656 33 8 program_of;
      from = numbers b 920 8 (λ w. w);
      earlier = rows b 928 33 8 program_of;
      later = rows b 1192 33 8 program_of;
      gate = gate_of (part b 5 2);
      announcements = rows b 8 9 8 announcement_of;
      records = rows b 80 4 64 record_of;
      steps = word_at b 4;
      controls = rows b 336 2 8 control_of;
      operations = rows b 352 5 8 operation_of;
      exits = numbers b 392 8 odd;
      counts = numbers b 400 8 (λ w. w);
      gates_read = rows b 408 2 8 gate_of;
      announcements_read = rows b 424 9 8 announcement_of;
      simulations = rows b 496 10 8 simulation_of;
      dictionaries = table 8 (λ i. dictionary_in b l i);
      masks = numbers b 584 8 (λ w. w);
    }

-- a block that is too short holds the card of a refused text, 'with no processes, variables or sheets, its limit 0'
unfoldable pub card_of : List ℕ → List ℕ → Card
card_of b l = cond (leb 1456 (length b)) (standing b l) (fresh no_contents)

-- the card with one part of what process i keeps replaced
abbrev pub with_control : Card → ℕ → Control → Card
with_control c i x = with_own c (set c.controls i x) c.operations c.exits c.counts c.gates_read c.announcements_read c.simulations c.dictionaries c.masks

abbrev pub with_operation : Card → ℕ → Operation → Card
with_operation c i x = with_own c c.controls (set c.operations i x) c.exits c.counts c.gates_read c.announcements_read c.simulations c.dictionaries c.masks

abbrev pub with_exit : Card → ℕ → Bool → Card
with_exit c i x = with_own c c.controls c.operations (set c.exits i x) c.counts c.gates_read c.announcements_read c.simulations c.dictionaries c.masks

abbrev pub with_count : Card → ℕ → ℕ → Card
with_count c i x = with_own c c.controls c.operations c.exits (set c.counts i x) c.gates_read c.announcements_read c.simulations c.dictionaries c.masks

abbrev pub with_gate_read : Card → ℕ → Gate → Card
with_gate_read c i x = with_own c c.controls c.operations c.exits c.counts (set c.gates_read i x) c.announcements_read c.simulations c.dictionaries c.masks

abbrev pub with_copy : Card → ℕ → Announcement → Card
with_copy c i x = with_own c c.controls c.operations c.exits c.counts c.gates_read (set c.announcements_read i x) c.simulations c.dictionaries c.masks

abbrev pub with_simulation : Card → ℕ → Simulation → Card
with_simulation c i x = with_own c c.controls c.operations c.exits c.counts c.gates_read c.announcements_read (set c.simulations i x) c.dictionaries c.masks

abbrev pub with_dictionary : Card → ℕ → Dictionary → Card
with_dictionary c i x = with_own c c.controls c.operations c.exits c.counts c.gates_read c.announcements_read c.simulations (set c.dictionaries i x) c.masks

abbrev pub with_mask : Card → ℕ → ℕ → Card
with_mask c i x = with_own c c.controls c.operations c.exits c.counts c.gates_read c.announcements_read c.simulations c.dictionaries (set c.masks i x)

-- the card with other texts of its programs: the opening ones, the numbers from which the later ones hold, the earlier and the later ones
abbrev pub with_texts : Card → List Program → List ℕ → List Program → List Program → Card
with_texts c programs from earlier later =
    record {
      process_count = c.process_count;
      variable_count = c.variable_count;
      program_count = c.program_count;
      limit = c.limit;
      starts = c.starts;
      programs = programs;
      from = from;
      earlier = earlier;
      later = later;
      gate = c.gate;
      announcements = c.announcements;
      records = c.records;
      steps = c.steps;
      controls = c.controls;
      operations = c.operations;
      exits = c.exits;
      counts = c.counts;
      gates_read = c.gates_read;
      announcements_read = c.announcements_read;
      simulations = c.simulations;
      dictionaries = c.dictionaries;
      masks = c.masks;
    }

abbrev pub with_opening : Card → ℕ → Program → Card
with_opening c k y = with_texts c (set c.programs k y) c.from c.earlier c.later

abbrev pub with_from : Card → ℕ → ℕ → Card
with_from c k number = with_texts c c.programs (set c.from k number) c.earlier c.later

abbrev pub with_earlier : Card → ℕ → Program → Card
with_earlier c k y = with_texts c c.programs c.from (set c.earlier k y) c.later

abbrev pub with_later : Card → ℕ → Program → Card
with_later c k y = with_texts c c.programs c.from c.earlier (set c.later k y)

-- the card with other counts, step limit and starting values
abbrev pub with_head : Card → ℕ → ℕ → ℕ → ℕ → List ℕ → Card
with_head c p n s limit starts =
    record {
      process_count = p;
      variable_count = n;
      program_count = s;
      limit = limit;
      starts = starts;
      programs = c.programs;
      from = c.from;
      earlier = c.earlier;
      later = c.later;
      gate = c.gate;
      announcements = c.announcements;
      records = c.records;
      steps = c.steps;
      controls = c.controls;
      operations = c.operations;
      exits = c.exits;
      counts = c.counts;
      gates_read = c.gates_read;
      announcements_read = c.announcements_read;
      simulations = c.simulations;
      dictionaries = c.dictionaries;
      masks = c.masks;
    }

abbrev pub with_process_count : Card → ℕ → Card
with_process_count c x = with_head c x c.variable_count c.program_count c.limit c.starts

abbrev pub with_variable_count : Card → ℕ → Card
with_variable_count c x = with_head c c.process_count x c.program_count c.limit c.starts

abbrev pub with_program_count : Card → ℕ → Card
with_program_count c x = with_head c c.process_count c.variable_count x c.limit c.starts

abbrev pub with_limit : Card → ℕ → Card
with_limit c x = with_head c c.process_count c.variable_count c.program_count x c.starts

abbrev pub with_start : Card → ℕ → ℕ → Card
with_start c v x = with_head c c.process_count c.variable_count c.program_count c.limit (set c.starts v x)
