-- The start of a help on a block (lines P16 to P18) is the machine's on the card that stands there, whatever stands in the block.
use Prim.Native.Nat.{ℕ, ◌*◌, ◌<◌, ◌≤◌, min}
use mathlib.Core.Path.{◌≡◌, refl, sym, ◌∙◌, ap}
use mathlib.Core.Bool.{Bool, true, false, cond}
use Rattle.std.specs.Prelude.{Option, Some, None}
use Rattle.std.specs.Option.{is_some}
use mathlib.Core.List.{List}
use native.Mathlib.Omega.{arith}
use lib.ListN.{length, set}
use Rattle.construction.specs.declared.accesses.Begun.{Begun}
use Rattle.construction.specs.Dictionary.{empty}
use Rattle.construction.specs.Parts.{local_at, announcement_at, texts_of, program_of, with_own, with_announcement, with_steps}
use Rattle.construction.specs.Machine.{go_to, holder_of, helps, helped, begin_help, begun_from, perform}
use Rattle.codes.specs.Types.{Gate, Announcement, Program, Dictionary, Simulation, Control, Access, Card, P21}
use Rattle.construction.proofs.Simulating.Sizes.{FitsSimulation}
use Rattle.codes.proofs.Values.{FitsAnnouncement}
use Rattle.block.specs.Layout.{variable_count_in, room_in, control_in, last_gate_in, put_simulation, put_noted, put_mask, put_last, put_control}
use Rattle.block.specs.Cards.{dictionary_at, card_of, text_in, with_control, with_copy, with_simulation, with_dictionary, with_mask}
use Rattle.block.proofs.Gets.{empty_at, variable_count_is, announcement_is, control_is, last_gate_is, text_is}
use Rattle.block.proofs.Puts.{simulation_stored, dictionary_stored, mask_stored, last_stored, control_stored}
use Rattle.block.proofs.Fitting.{announcement_fits, control_fits}
use Rattle.loan.specs.Simulated.{begun_in}
use Rattle.loan.proofs.Kept.{begun_fits, begun_target}
use Rattle.lent_machine.specs.Accesses.{next, counted}
use Rattle.lent_machine.proofs.Own.{placed, gates_read-kept, accepted, copy_put, announcement_same}
use Rattle.lent_machine.proofs.Keeping.{simulation_kept, noted_kept, mask_kept, last_kept}
use Rattle.lent_helping.specs.Helps.{number_in, helped_in, help_begun, help_passed, help_step}
use Rattle.lent_helping.proofs.Keeps.{help_step_kept}

-- what a process keeps that begins a program, with nothing noted
begun_placed :
    (c : Card) (i : ℕ) (s : Simulation) (a : Announcement) (t : Control) →
    with_control (with_copy (with_mask (with_dictionary (with_simulation c i s) i empty) i 0) i a) i t ≡ placed c i t (local_at c i).gate a s empty 0
begun_placed c i s a t =
    let gates_read = gates_read-kept c i in
    λ j. with_own c (set c.controls i t) c.operations c.exits c.counts (sym gates_read j) (set c.announcements_read i a)
    (set c.simulations i s) (set c.dictionaries i empty) (set c.masks i 0)

module _ (b l : List ℕ) (i : ℕ) where
  -- nothing noted is the empty dictionary
  unnoted : 1456 ≤ length b → card_of (put_noted b i 0) l ≡ with_dictionary (card_of b l) i empty
  unnoted long =
      let z : min 0 (room_in b) ≡ 0 = omega arith in
      dictionary_stored b l long l i 0 (omega arith) (λ k p ne. refl)
      ∙ ap (λ (d : Dictionary). with_dictionary (card_of b l) i d) (ap (λ (n : ℕ). dictionary_at l (room_in b * i) n) z ∙ empty_at l (room_in b * i))

module _ (b l : List ℕ) (long : 1456 ≤ length b) (i : ℕ) where
  begun_put :
      (s : Simulation) (a : Announcement) (t : Control) → FitsSimulation s → FitsAnnouncement a → t.target < 256 →
      card_of (put_control (put_last (put_mask (put_noted (put_simulation b i s) i 0) i 0) i a) i t) l
      ≡ placed (card_of b l) i t (local_at (card_of b l) i).gate a s empty 0
  begun_put s a t fs fa ft =
      let c = put_simulation b i s in
      let d = put_noted c i 0 in
      let e = put_mask d i 0 in
      let sc = (simulation_kept b i s).size in
      let sd = (noted_kept c i 0).size in
      let se = (mask_kept d i 0).size in
      let sf = (last_kept e i a).size in
      control_stored (put_last e i a) l (omega arith) i t ft
      ∙ ap (λ (k : Card). with_control k i t) (last_stored e l (omega arith) i a fa)
      ∙ ap (λ (k : Card). with_control (with_copy k i a) i t) (mask_stored d l (omega arith) i 0)
      ∙ ap (λ (k : Card). with_control (with_copy (with_mask k i 0) i a) i t) (unnoted c l i (omega arith))
      ∙ ap (λ (k : Card). with_control (with_copy (with_mask (with_dictionary k i empty) i 0) i a) i t) (simulation_stored b l long i s fs)
      ∙ begun_placed (card_of b l) i s a t

  -- the access on what is taken out, but for the simulation, which stays where nothing is helped
  abbrev begun_as : Control → Option Begun → Begun
  begun_as control began = begun_from control (local_at (card_of b l) i).simulation began

  -- the card after the access, but for the counts
  abbrev begun_card : ℕ → Announcement → Control → Option Begun → Card
  begun_card m cell control began =
      let o = local_at (card_of b l) i in
      let x = begun_as control began in
      placed (with_announcement (card_of b l) m cell) i x.control o.gate cell x.simulation (cond (is_some began) empty o.dictionary)
      (cond (is_some began) 0 o.mask)

  help_placed :
      let number = number_in b i in
      let cell = helped_in b i in
      card_of (help_step b i) l
      ≡ begun_card (holder_of (last_gate_in b i).holder) cell (control_in b i) (begin_help (variable_count_in b) (text_in b cell.program number) cell number)
  unfolding help_step begin_help
  help_placed = go (helps (helped_in b i) (number_in b i))
    where
      go :
          (t : Bool) →
          let number = number_in b i in
          let cell = helped_in b i in
          let x = helped number (begun_in b number cell) 0 in
          card_of (cond t (help_begun b i number cell) (help_passed b i cell)) l
          ≡ begun_card (holder_of (last_gate_in b i).holder) cell (control_in b i)
          (cond t (Some (record { control = x.control; simulation = x.simulation })) None)
      go true =
          let number = number_in b i in
          let cell = helped_in b i in
          let x = helped number (begun_in b number cell) 0 in
          let m = holder_of (last_gate_in b i).holder in
          let o = local_at (card_of b l) i in
          begun_put x.simulation cell x.control (begun_fits b number cell (announcement_fits b m)) (announcement_fits b m) (begun_target b number cell)
          ∙ ap (λ (k : Card). placed k i x.control o.gate cell x.simulation empty 0) (announcement_same b l m)
      go false =
          let cell = helped_in b i in
          let t = go_to (control_in b i) P21 in
          let m = holder_of (last_gate_in b i).holder in
          let o = local_at (card_of b l) i in
          copy_put b l long i cell t (announcement_fits b m) (control_fits b i)
          ∙ ap (λ (k : Card). placed k i t o.gate cell o.simulation o.dictionary o.mask) (announcement_same b l m)

  -- AN ACCEPTED STEP THAT BEGINS A HELP (lines P16 to P18): the block after it holds what `advance` makes of the card that it held
  pub help_step_is : card_of (counted (help_step b i) i) l ≡ with_steps (perform Access.Help (card_of b l) i).card (next (card_of b l).steps)
  unfolding perform
  help_step_is =
      let c = card_of b l in
      let o = local_at c i in
      let gate = last_gate_is b l i in
      let number : number_in b i ≡ o.gate.seq = ap (λ (g : Gate). g.seq) gate in
      let m : holder_of (last_gate_in b i).holder ≡ holder_of o.gate.holder = ap (λ (g : Gate). holder_of g.holder) gate in
      let cell : helped_in b i ≡ announcement_at c (holder_of o.gate.holder) =
      announcement_is b l (holder_of (last_gate_in b i).holder) ∙ ap (announcement_at c) m in
      let n = variable_count_is b l in
      let control = control_is b l i in
      let y : text_in b (helped_in b i).program (number_in b i) ≡ program_of (texts_of c) (announcement_at c (holder_of o.gate.holder)).program o.gate.seq =
      text_is b l (helped_in b i).program (number_in b i) ∙ (λ j. program_of (texts_of c) (cell j).program (number j)) in
      let found = announcement_at c (holder_of o.gate.holder) in
      let began = begin_help c.variable_count (program_of (texts_of c) found.program o.gate.seq) found o.gate.seq in
      let x = begun_as o.control began in
      let size = (help_step_kept b i).size in
      accepted (help_step b i) l (omega arith) i (with_announcement c (holder_of o.gate.holder) found) x.control o.gate found x.simulation
      (cond (is_some began) empty o.dictionary) (cond (is_some began) 0 o.mask)
      (help_placed ∙ λ j. begun_card (m j) (cell j) (control j) (begin_help (n j) (y j) (cell j) (number j)))
