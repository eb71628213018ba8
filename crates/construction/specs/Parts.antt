-- The parts of a card: the shared cells, the own state of each process, and the card with one part replaced.
use Rattle.std.specs.Prelude.{ℕ, Bool, false, cond, List, get_or, set, ltb, None}
use Rattle.construction.specs.Types.{Gate, Announcement, Record, Program, Dictionary, Simulation, Idle, Control, Operation, Card, Contents}
use Rattle.construction.specs.Cells.{zeros, open_announcement, open_record}
use Rattle.construction.specs.Instructions.{started, no_program}
use Rattle.construction.specs.Dictionary.{empty}

abbrev pub idle_control : Control
idle_control = record { place = Idle; target = 0 }

abbrev pub no_operation : Operation
no_operation = record { program = 0; inputs = zeros }

abbrev pub no_gate : Gate
no_gate = record { holder = None; seq = 0 }

-- what a card was opened with
abbrev pub contents_of : Card → Contents
contents_of c =
    record {
      process_count = c.process_count;
      variable_count = c.variable_count;
      program_count = c.program_count;
      limit = c.limit;
      starts = c.starts;
      programs = c.programs;
    }

-- the shared cells: A[i] and R[v]
abbrev pub announcement_at : Card → ℕ → Announcement
announcement_at c i = get_or c.announcements i open_announcement

abbrev pub record_at : Card → ℕ → Record
record_at c v = get_or c.records v (open_record 0)

-- the own state of a process: its place, what its call asked for, its exit request, its own steps, the gate and the announcement that it
-- last read (g and a of the paper), the program that it simulates, its dictionary and the set of the variables noted there
pub record Local : Type 0 where
  pub control : Control
  pub operation : Operation
  pub exit : Bool
  pub steps : ℕ
  pub gate : Gate
  pub announcement : Announcement
  pub simulation : Simulation
  pub dictionary : Dictionary
  pub mask : ℕ

abbrev pub local_at : Card → ℕ → Local
local_at c i =
    record {
      control = get_or c.controls i idle_control;
      operation = get_or c.operations i no_operation;
      exit = get_or c.exits i false;
      steps = get_or c.counts i 0;
      gate = get_or c.gates_read i no_gate;
      announcement = get_or c.announcements_read i open_announcement;
      simulation = get_or c.simulations i started;
      dictionary = get_or c.dictionaries i empty;
      mask = get_or c.masks i 0;
    }

-- the texts of a card's programs (document 02, order 11): of each program the gate number from which its later text holds, the earlier text and the later
pub record Texts : Type 0 where
  pub from : List ℕ
  pub earlier : List Program
  pub later : List Program

abbrev pub texts_of : Card → Texts
texts_of c = record { from = c.from; earlier = c.earlier; later = c.later }

-- 'Operations numbered G or later run the new text, .. earlier ones the old': the program k that an operation with this gate number runs
unfoldable pub program_of : Texts → ℕ → ℕ → Program
program_of x k number = cond (ltb number (get_or x.from k 0)) (get_or x.earlier k no_program) (get_or x.later k no_program)

-- the card of the same opening text: the texts of its programs, its shared cells, its accepted steps, and what its processes keep
abbrev pub with_texts_and_state :
    Card → Texts → Gate → List Announcement → List Record → ℕ →
    List Control → List Operation → List Bool → List ℕ → List Gate → List Announcement → List Simulation → List Dictionary → List ℕ → Card
with_texts_and_state c texts gate announcements records steps controls operations exits counts gates_read announcements_read simulations dictionaries masks =
    record {
      process_count = c.process_count;
      variable_count = c.variable_count;
      program_count = c.program_count;
      limit = c.limit;
      starts = c.starts;
      programs = c.programs;
      from = texts.from;
      earlier = texts.earlier;
      later = texts.later;
      gate = gate;
      announcements = announcements;
      records = records;
      steps = steps;
      controls = controls;
      operations = operations;
      exits = exits;
      counts = counts;
      gates_read = gates_read;
      announcements_read = announcements_read;
      simulations = simulations;
      dictionaries = dictionaries;
      masks = masks;
    }

-- with the same texts ..
abbrev pub with_state :
    Card → Gate → List Announcement → List Record → ℕ →
    List Control → List Operation → List Bool → List ℕ → List Gate → List Announcement → List Simulation → List Dictionary → List ℕ → Card
with_state c = with_texts_and_state c (texts_of c)

-- .. and with other texts and the same state
abbrev pub with_texts : Card → Texts → Card
with_texts c texts =
    with_texts_and_state c texts c.gate c.announcements c.records c.steps
    c.controls c.operations c.exits c.counts c.gates_read c.announcements_read c.simulations c.dictionaries c.masks

-- the card with other shared cells, ..
abbrev pub with_cells : Card → Gate → List Announcement → List Record → Card
with_cells c gate announcements records =
    with_state c gate announcements records c.steps
    c.controls c.operations c.exits c.counts c.gates_read c.announcements_read c.simulations c.dictionaries c.masks

abbrev pub with_gate : Card → Gate → Card
with_gate c g = with_cells c g c.announcements c.records

abbrev pub with_announcement : Card → ℕ → Announcement → Card
with_announcement c m a = with_cells c c.gate (set c.announcements m a) c.records

abbrev pub with_record : Card → ℕ → Record → Card
with_record c v r = with_cells c c.gate c.announcements (set c.records v r)

-- .. with other arrays of what the processes keep, ..
abbrev pub with_own :
    Card → List Control → List Operation → List Bool → List ℕ → List Gate → List Announcement → List Simulation → List Dictionary → List ℕ → Card
with_own c = with_state c c.gate c.announcements c.records c.steps

-- .. with another own state of process i, ..
abbrev pub with_local : Card → ℕ → Local → Card
with_local c i l =
    with_own c (set c.controls i l.control) (set c.operations i l.operation) (set c.exits i l.exit) (set c.counts i l.steps)
    (set c.gates_read i l.gate) (set c.announcements_read i l.announcement) (set c.simulations i l.simulation)
    (set c.dictionaries i l.dictionary) (set c.masks i l.mask)

-- .. and with another count of accepted steps
abbrev pub with_steps : Card → ℕ → Card
with_steps c k =
    with_state c c.gate c.announcements c.records k
    c.controls c.operations c.exits c.counts c.gates_read c.announcements_read c.simulations c.dictionaries c.masks

-- the card with program k changed to y from a gate number on: its later text becomes the earlier one
abbrev pub with_revision : Card → ℕ → ℕ → Program → Card
with_revision c k from y =
    with_texts c
    (record {
      from = set c.from k from;
      earlier = set c.earlier k (get_or c.later k no_program);
      later = set c.later k y;
    })
