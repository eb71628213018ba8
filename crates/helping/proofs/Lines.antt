-- What the lines P16, H21 and H36 leave, by the tests that decide them
use Prim.Native.Nat.{ℕ, suc, ◌+◌, ◌<◌, ◌≤◌}
use mathlib.Core.Bool.{Bool, true, false}
use mathlib.Core.List.{List}
use mathlib.Core.Path.{◌≡◌, refl}
use native.Mathlib.Numerals.{add-one}
use native.Mathlib.Omega.{arith}
use lib.ListN.{length, get_or, take, length-take, get_or-eq_default}
use borrow.Author.Tests.{lt-ltb, le-ltb}
use Rattle.construction.specs.declared.{cells.Words.Words, cells.Announcement.Announcement, cells.Record.Record, programs.Program.Program}
use Rattle.construction.specs.declared.{simulations.Item.Item, simulations.Dictionary.Dictionary, simulations.Simulation.Simulation, simulations.Pause.Pause}
use Rattle.construction.specs.declared.{accesses.Control.Control, accesses.Begun.Begun, accesses.Helped.Helped, accesses.Writing.Writing}
use Rattle.construction.specs.declared.simulations.Pause.TheVariants.{Ended, Faulted, Lacks}
use Rattle.construction.specs.declared.accesses.Label.TheVariants.{P19, P21}
use Rattle.std.specs.Prelude.{Result, Ok, Err}
use Rattle.std.specs.Option.{ok_or}
use Rattle.construction.specs.Instructions.{started}
use Rattle.construction.specs.Dictionary.{no_item, empty, noted, item_of, insert, next_write, unaltered}
use Rattle.construction.specs.Marks.{with_bit}
use Rattle.construction.specs.Helping.{simulate}
use Rattle.construction.specs.Machine.{go_to, write_control, pause_control, after_pause, helps, begin_help, note, writing}
use Rattle.helping.specs.declared.simulation.Paused.{Paused}
use Rattle.helping.specs.Numbers.{with_values, Numbered, standing}
use Rattle.helping.proofs.Laws as laws

-- a program that starts has nothing to write yet
pub start_writes : (number : ℕ) (xs : List ℕ) (p : Pause) → pause_control p 0 0 ≡ after_pause number (with_values empty xs) p
unfolding next_write unaltered
start_writes number xs Ended = refl
start_writes number xs Faulted = refl
start_writes number xs (Lacks v) = refl

module _ (n : ℕ) (program : Program) (cell : Announcement) (number : ℕ) (control : Control) (b : Bool) (tested : b ≡ helps cell number) where
  pub helps_not : b ≡ false → ◌≡◌ {A = Result Begun Control} (Err (go_to control P21)) (ok_or (begin_help n program cell number) (go_to control P21))
  unfolding begin_help
  helps_not q = rw (← tested, q)

  pub helps_on :
      b ≡ true → (r : Paused) (xs : List ℕ) → simulate n program cell.words started empty ≡ standing r (with_values empty xs) →
      (t : Control) → t ≡ pause_control r.pause 0 0 →
      ◌≡◌ {A = Result Begun Control} (Ok (record { control = t; simulation = r.simulation })) (ok_or (begin_help n program cell number) (go_to control P21))
  unfolding begin_help
  helps_on q r xs e t f = rw (← tested, q, e, f, start_writes number xs r.pause)

-- where a simulation that stands still goes on, by the next write and how many items are noted
pub goes_on :
    (number : ℕ) (d : Dictionary) (p : Pause) (next end : ℕ) → next ≡ next_write number d 0 → end ≡ length (noted d) →
    pause_control p next end ≡ after_pause number d p
goes_on number d Ended next end e f = rw (e, f)
goes_on number d Faulted next end e f = refl
goes_on number d (Lacks v) next end e f = refl

module _ (n : ℕ) (program : Program) (inputs : Words) (cell : Record) (number : ℕ) (control : Control) (s : Simulation) (d : Dictionary) (mask : ℕ) where
  pub passed_by :
      number < cell.seq →
      ◌≡◌ {A = Helped} (record { control = go_to control P19; simulation = s; dictionary = d; mask = mask }) (note n program inputs cell number control s d mask)
  unfolding note
  passed_by p = rw (lt-ltb _ _ p)

  pub noted_on :
      cell.seq ≤ number → (e : Item) → e ≡ item_of number control.target cell → (d₀ : Dictionary) → d₀ ≡ insert d e →
      {ks before : List ℕ} {end : ℕ} → Numbered ks before end d₀ →
      (after : List ℕ) (r : Paused) → simulate n program inputs s d₀ ≡ standing r (with_values d₀ (take end after)) →
      (d₁ : Dictionary) → d₁ ≡ with_values d₀ (take end after) →
      (next : ℕ) → next ≡ next_write number d₁ 0 → (t : Control) → t ≡ pause_control r.pause next end →
      (more : ℕ) → more ≡ with_bit mask control.target →
      ◌≡◌ {A = Helped} (record { control = t; simulation = r.simulation; dictionary = d₁; mask = more }) (note n program inputs cell number control s d mask)
  unfolding note
  noted_on p e ee d₀ ed {end = end} h after r er d₁ e₁ next en t et more em =
      rw (le-ltb _ _ p, ← ee, ← ed, er, et, em, goes_on number d₁ r.pause next end en (rw e₁ (laws.keyed h (take end after)).0), e₁)

module _ (number : ℕ) (control : Control) (d : Dictionary) (full : length d.items ≡ 32) where
  pub written :
      (next : ℕ) → next ≡ next_write number d (control.target + 1) → (end : ℕ) → end ≡ length (noted d) → (t : Control) → t ≡ write_control next end →
      ◌≡◌ {A = Writing} (record { item = get_or d.items control.target no_item; control = t }) (writing number control d)
  unfolding writing
  written next e end f t g = rw (g, e, f, add-one control.target)

  pub past_items :
      32 ≤ control.target →
      ◌≡◌ {A = Writing} (record { item = no_item; control = record { place = P19; target = 0 } }) (writing number control d)
  unfolding writing next_write
  past_items p =
      rw (
        get_or-eq_default d.items no_item {n = control.target} (omega arith),
        le-ltb (next_write number d (suc control.target)) (length (noted d)) (simp length-take (omega arith)),
      )
