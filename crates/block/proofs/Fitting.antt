-- What is taken out of a block fits, so that it can be put back: for every block and every number
use Prim.Native.Nat.{ℕ, zero, suc, ◌+◌, ◌-◌, ◌*◌, ◌<◌, ◌≤◌}
use mathlib.Core.Path.{sym, subst}
use mathlib.Core.Bool.{Bool, true, false, cond}
use mathlib.Core.List.{List, ◌++◌}
use native.Mathlib.Omega.{arith}
use lib.Dec.{ltb}
use lib.ListN.{get_or, replicate}
use Rattle.construction.specs.Cells.{open_gate, open_announcement, open_record}
use Rattle.construction.specs.Instructions.{started, no_program}
use Rattle.construction.specs.Dictionary.{no_item}
use Rattle.construction.specs.Parts.{idle_control, no_operation, no_gate}
use Rattle.construction.proofs.Basics.{get_or_replicate_same}
use Rattle.codes.specs.Types.{Item}
use Rattle.codes.specs.Parts.{word_at, part, table}
use Rattle.codes.specs.Codes.{gate_of, control_of, announcement_of, record_of, operation_of, simulation_of, program_of}
use Rattle.codes.proofs.Values as values
use Rattle.construction.proofs.Simulating.Sizes.{FitsSimulation, zeros_fit, started_fits}
use Rattle.codes.proofs.Values.{Fits, nobody_fits, from_fits, FitsAnnouncement, FitsItem, FitsRecord, FitsOperation, half_fits}
use Rattle.codes.proofs.Values.{byte_fits}
use Rattle.codes.proofs.Programs.{FitsProgram, program_fits, no_program_fits}
use Rattle.block.specs.Layout.{is_room, row_at, number_at, process_count_in, variable_count_in, program_count_in, room_in, noted_in, gate_in, announcement_in}
use Rattle.block.specs.Layout.{record_in, control_in, operation_in, last_gate_in, last_in, simulation_in, start_in, opening_text, earlier_text, later_text}
use Rattle.block.specs.Cards.{item_place, item_at, dictionary_at, text_in}

-- what every value of words has, and what stands where there is no part, every part has
either {ℓ κ} : {A : Type ℓ} (P : A → Type κ) (t : Bool) {x y : A} → P x → P y → P (cond t x y)
either P true p q = p
either P false p q = q

row_fits :
    {A : Type 0} (P : A → Type 0) (b : List ℕ) (base size n : ℕ) (decode : List ℕ → A) (none : A) (i : ℕ) → ((w : List ℕ) → P (decode w)) → P none →
    P (row_at b base size n decode none i)
unfolding row_at
row_fits P b base size n decode none i p q = either P (is_room b i n) (p (part b (base + size * i) size)) q

no_announcement : FitsAnnouncement open_announcement
no_announcement = record { program = omega arith; w0 = omega arith; w1 = omega arith; w2 = omega arith; w3 = omega arith }

module _ (b : List ℕ) where
  pub process_count_fits : process_count_in b < 256
  process_count_fits = byte_fits (number_at b 0 1 0)

  pub variable_count_fits : variable_count_in b < 256
  variable_count_fits = byte_fits (number_at b 1 1 0)

  pub program_count_fits : program_count_in b < 256
  program_count_fits = byte_fits (number_at b 2 1 0)

  pub room_fits : room_in b ≤ 32
  room_fits = omega arith

  pub gate_fits : Fits (gate_in b).holder
  gate_fits = row_fits (λ g. Fits g.holder) b 5 2 1 gate_of open_gate 0 (λ w. from_fits (word_at w 0)) nobody_fits

  module _ (i : ℕ) where
    pub noted_room : noted_in b i ≤ room_in b
    noted_room = omega arith

    pub noted_fits : noted_in b i ≤ 32
    noted_fits = omega arith

    pub announcement_fits : FitsAnnouncement (announcement_in b i)
    announcement_fits = row_fits FitsAnnouncement b 8 9 8 announcement_of open_announcement i values.announcement_fits no_announcement

    pub record_fits : FitsRecord (record_in b i)
    record_fits = row_fits FitsRecord b 80 4 64 record_of (open_record 0) i values.record_fits (record { val0 = omega arith; val1 = omega arith })

    pub control_fits : (control_in b i).target < 256
    control_fits = row_fits (λ t. t.target < 256) b 336 2 8 control_of idle_control i (λ w. byte_fits (word_at w 1)) (omega arith)

    pub operation_fits : FitsOperation (operation_in b i)
    operation_fits = row_fits FitsOperation b 352 5 8 operation_of no_operation i values.operation_fits (record { program = omega arith; inputs = zeros_fit })

    pub last_gate_fits : Fits (last_gate_in b i).holder
    last_gate_fits = row_fits (λ g. Fits g.holder) b 408 2 8 gate_of no_gate i (λ w. from_fits (word_at w 0)) nobody_fits

    pub last_fits : FitsAnnouncement (last_in b i)
    last_fits = row_fits FitsAnnouncement b 424 9 8 announcement_of open_announcement i values.announcement_fits no_announcement

    pub simulation_fits : FitsSimulation (simulation_in b i)
    simulation_fits =
        row_fits FitsSimulation b 496 10 8 simulation_of started i values.simulation_fits started_fits

    pub start_fits : start_in b i < 4294967296
    start_fits = half_fits (number_at b 592 64 i)

    pub opening_text_fits : FitsProgram (opening_text b i)
    opening_text_fits = row_fits FitsProgram b 656 33 8 program_of no_program i program_fits no_program_fits

    pub earlier_text_fits : FitsProgram (earlier_text b i)
    earlier_text_fits = row_fits FitsProgram b 928 33 8 program_of no_program i program_fits no_program_fits

    pub later_text_fits : FitsProgram (later_text b i)
    later_text_fits = row_fits FitsProgram b 1192 33 8 program_of no_program i program_fits no_program_fits

    pub text_fits : (number : ℕ) → FitsProgram (text_in b i number)
    text_fits number = either FitsProgram (ltb number (number_at b 920 8 i)) earlier_text_fits later_text_fits

-- the items of a dictionary, and what lies past them
items_fit : (n m : ℕ) (f : ℕ → Item) (k : ℕ) → ((j : ℕ) → FitsItem (f j)) → FitsItem (get_or (table n f ++ replicate m no_item) k no_item)
unfolding table
items_fit zero m f k h =
    subst FitsItem (sym (get_or_replicate_same m k no_item)) (record { variable = omega arith; value = omega arith; val0 = omega arith; val1 = omega arith })
items_fit (suc n) m f zero h = h 0
items_fit (suc n) m f (suc k) h = items_fit n m (λ j. f (suc j)) k (λ j. h (suc j))

pub dictionary_fits : (l : List ℕ) (base n k : ℕ) → FitsItem (get_or (dictionary_at l base n).items k no_item)
unfolding dictionary_at
dictionary_fits l base n k = items_fit n (32 - n) (λ j. item_at l base j) k (λ j. values.item_fits (part l (item_place base j) 3))
