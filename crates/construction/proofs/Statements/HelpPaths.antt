-- What is due in a helping by its own reads (specs/Paths) is what the machine does next.
use Prim.Native.Nat.{ℕ, suc, ◌+◌, ◌≤◌, ◌<◌}
use mathlib.Core.Path.{◌≡◌, refl, subst, ap, ◌∙◌}
use mathlib.Core.Bool.{Bool, true, false, cond}
use Rattle.std.specs.Prelude.{Option}
use Rattle.std.specs.Option.{is_some}
use mathlib.Core.Logic.{⊎_elim}
use mathlib.Core.List.{List, [], ◌∷◌}
use native.Mathlib.Omega.{arith}
use lib.Dec.{ltb}
use lib.ListN.{length, get_or, drop, length-take, length-drop, length-replicate}
use lib.Seq.{get_or-take, get_or-drop, drop-drop}
use borrow.Author.Tests.{ltb-true, ltb-false}
use Rattle.construction.specs.Types.{Announcement, Record, Program, Item, Dictionary, Simulation, Pause, Ended, Faulted, Lacks, Simulated, Label, Idle}
use Rattle.construction.specs.Types.{P1, P3, P5, P7, P10, C2, C4, P13, P14, P16, H21, H36, P19, P20, P21, P22, F1, F3, P6, Cell, Control, Begun, Helped}
use Rattle.construction.specs.Instructions.{started}
use Rattle.construction.specs.Dictionary.{no_item, empty, noted, insert, item_of, altered, unaltered, next_write}
use Rattle.construction.specs.Helping.{simulate}
use Rattle.construction.specs.Marks.{with_bit}
use Rattle.construction.specs.Machine.{go_to, helps, after_pause, write_from, helped, begin_help, begun_from, note}
use Rattle.construction.specs.Paths.{Help, Due, altered_in, due_by, due_of, with_read}
use Rattle.construction.proofs.Basics.{on_test, true_or_false}
use Rattle.construction.proofs.Simulating.Sequential.{Short}
use Rattle.construction.proofs.Simulating.Dictionaries.{insert_items}
use Rattle.construction.proofs.Simulating.Simulations.{simulate_empty, simulate_length}
use Rattle.construction.proofs.Simulating.Resuming.{resumes}

-- the altered items of a list: the first one, and those after it
altered_first :
    (number : ℕ) (b : List Item) → unaltered number b < length b →
    altered_in number b ≡ (get_or b (unaltered number b) no_item).variable ∷ altered_in number (drop (suc (unaltered number b)) b)
unfolding altered_in unaltered altered
altered_first number [] h = absurd (omega arith)
altered_first number (e ∷ b) h =
    ⊎_elim (λ (t : altered number e ≡ true). rw t)
    (λ (f : altered number e ≡ false). rw f (altered_first number b (omega (arith, rw f at h))))
    (true_or_false (altered number e))

altered_none : (number : ℕ) (b : List Item) → length b ≤ unaltered number b → altered_in number b ≡ []
unfolding altered_in unaltered altered
altered_none number [] h = refl
altered_none number (e ∷ b) h =
    ⊎_elim (λ (t : altered number e ≡ true). absurd (omega (arith, rw t at h)))
    (λ (f : altered number e ≡ false). rw f (altered_none number b (omega (arith, rw f at h))))
    (true_or_false (altered number e))

-- those of a dictionary from place k on: the next write and those after it, or none
module _ (number : ℕ) (d : Dictionary) (k : ℕ) where
  next_due :
      next_write number d k < length (noted d) →
      altered_in number (drop k (noted d))
      ≡ (get_or d.items (next_write number d k) no_item).variable ∷ altered_in number (drop (suc (next_write number d k)) (noted d))
  unfolding next_write
  next_due h =
      let u = unaltered number (drop k (noted d)) in
      let rest : k + suc u ≡ suc (k + u) = omega arith in
      altered_first number (drop k (noted d)) (rw length-drop (omega arith))
      ∙ (ap (λ (e : Item). e.variable ∷ altered_in number (drop (suc u) (drop k (noted d))))
      (get_or-drop k (noted d) u no_item ∙ get_or-take d.length d.items (k + u) no_item (omega (arith, length-take d.length d.items)))
      ∙ ap (λ (b : List Item). (get_or d.items (k + u) no_item).variable ∷ altered_in number b)
      (drop-drop (suc u) k (noted d) ∙ ap (λ (j : ℕ). drop j (noted d)) rest))

  none_due : length (noted d) ≤ next_write number d k → altered_in number (drop k (noted d)) ≡ []
  unfolding next_write
  none_due h = altered_none number (drop k (noted d)) (rw length-drop (omega arith))

-- a helping of the announcement a with a program, on a card of n variables
abbrev pub help_with : ℕ → Program → Announcement → Dictionary → Help
help_with n program a reads =
    record { variables = n; program = program; inputs = a.words; reads = reads }

abbrev simulated : ℕ → Program → Announcement → Simulation → Dictionary → Simulated
simulated n program a s d = simulate n program a.words s d

-- at H21: from its start, on what was read, the simulation comes to where it stands
pub record Reading (n : ℕ) (program : Program) (v number : ℕ) (a : Announcement) (s : Simulation) (d : Dictionary) (h : Help) (due : Due) : Type 0 where
  pub reads : Dictionary
  pub helps : h ≡ help_with n program a reads
  pub array : length reads.items ≡ 32
  pub stands : simulated n program a started reads ≡ record { pause = Lacks v; simulation = s; dictionary = d }
  pub lacks : due ≡ Due.read v

-- what is known of a helping and of what is due there, by the place and the target of a process, the number, the announcement, the simulation and
-- the dictionary that it keeps, and the program that it runs
abbrev pub HelpAt : ℕ → Program → Label → ℕ → ℕ → Announcement → Simulation → Dictionary → Help → Due → Type 0
HelpAt n program Idle v number a s d h due = Unit
HelpAt n program P1 v number a s d h due = Unit
HelpAt n program P3 v number a s d h due = Unit
HelpAt n program P5 v number a s d h due = Unit
HelpAt n program P7 v number a s d h due = Unit
HelpAt n program P10 v number a s d h due = Unit
HelpAt n program C2 v number a s d h due = Unit
HelpAt n program C4 v number a s d h due = Unit
HelpAt n program P13 v number a s d h due = Unit
HelpAt n program P14 v number a s d h due = Unit
HelpAt n program P16 v number a s d h due = Unit
HelpAt n program H21 v number a s d h due = Reading n program v number a s d h due
HelpAt n program H36 v number a s d h due =
    due ≡ Due.write ((get_or d.items v no_item).variable ∷ altered_in number (drop (suc v) (noted d)))
HelpAt n program P19 v number a s d h due = due ≡ Due.write []
HelpAt n program P20 v number a s d h due = Unit
HelpAt n program P21 v number a s d h due = Unit
HelpAt n program P22 v number a s d h due = Unit
HelpAt n program F1 v number a s d h due = Unit
HelpAt n program F3 v number a s d h due = Unit
HelpAt n program P6 v number a s d h due = Unit

-- only at H21 the program is looked at
module _ (n : ℕ) {x y : Program} (v number : ℕ) (a : Announcement) (s : Simulation) (d : Dictionary) (h : Help) (due : Due) where
  pub help_same : (p : Label) → (p ≡ H21 → x ≡ y) → HelpAt n x p v number a s d h due → HelpAt n y p v number a s d h due
  help_same Idle e q = q
  help_same P1 e q = q
  help_same P3 e q = q
  help_same P5 e q = q
  help_same P7 e q = q
  help_same P10 e q = q
  help_same C2 e q = q
  help_same C4 e q = q
  help_same P13 e q = q
  help_same P14 e q = q
  help_same P16 e q = q
  help_same H21 e q = subst (λ (z : Program). Reading n z v number a s d h due) (e refl) q
  help_same H36 e q = q
  help_same P19 e q = q
  help_same P20 e q = q
  help_same P21 e q = q
  help_same P22 e q = q
  help_same F1 e q = q
  help_same F3 e q = q
  help_same P6 e q = q

module _ (n : ℕ) (program : Program) (number : ℕ) (a : Announcement) where
  abbrev OnControl : Control → Simulation → Dictionary → Help → Due → Type 0
  OnControl x s d h due = HelpAt n program x.place x.target number a s d h due

  -- lines H31 and H32: from place k on
  pub write_due :
      (k : ℕ) (s : Simulation) (d : Dictionary) (h : Help) (due : Due) → due ≡ Due.write (altered_in number (drop k (noted d))) →
      OnControl (write_from number d k) s d h due
  write_due k s d h due e =
      on_test (λ (x : Control). OnControl x s d h due) (ltb (next_write number d k) (length (noted d)))
      (λ z. e ∙ ap Due.write (next_due number d k (ltb-true _ _ z)))
      (λ z. e ∙ ap Due.write (none_due number d k (ltb-false _ _ z)))

  -- as the simulation stands
  pause_due :
      (p : Pause) (s : Simulation) (d reads : Dictionary) (h : Help) (due : Due) → h ≡ help_with n program a reads → length reads.items ≡ 32 →
      simulated n program a started reads ≡ record { pause = p; simulation = s; dictionary = d } → due ≡ due_by number p d →
      OnControl (after_pause number d p) s d h due
  pause_due Ended s d reads h due q array e z = write_due 0 s d h due z
  pause_due Faulted s d reads h due q array e z = z
  pause_due (Lacks v) s d reads h due q array e z = record { reads = reads; helps = q; array = array; stands = e; lacks = z }

  stand_due :
      (x : Simulated) (reads : Dictionary) (h : Help) → h ≡ help_with n program a reads → length reads.items ≡ 32 →
      simulated n program a started reads ≡ x → OnControl (after_pause number x.dictionary x.pause) x.simulation x.dictionary h (due_of number h)
  stand_due x reads h q array e =
      pause_due x.pause x.simulation x.dictionary reads h (due_of number h) q array e
      (ap (due_of number) q ∙ ap (λ (y : Simulated). due_by number y.pause y.dictionary) e)

  -- lines P17, P18 and H1
  pub begin_due :
      (control : Control) (s : Simulation) (d : Dictionary) (h : Help) → h ≡ help_with n program a empty →
      let began = begin_help n program a number in
      let x = begun_from control s began in
      OnControl x.control x.simulation (cond (is_some began) empty d) h (due_of number h)
  unfolding begin_help
  begin_due control s d h q =
      on_test (λ (x : Option Begun). OnControl (begun_from control s x).control (begun_from control s x).simulation (cond (is_some x) empty d) h (due_of number h)) (helps a number)
      (λ _. let x = simulated n program a started empty in
      subst (λ (y : Dictionary). OnControl (after_pause number x.dictionary x.pause) x.simulation y h (due_of number h))
      (simulate_empty n program a.words)
      (stand_due x empty h q (length-replicate 32 no_item) refl))
      (λ _. tt)

  -- lines H21 to H25
  pub note_due :
      (control : Control) (s : Simulation) (d : Dictionary) (mask : ℕ) (h : Help) (due : Due) (r : Record) →
      Short n program → d.length < 32 → Reading n program control.target number a s d h due →
      let x = note n program a.words r number control s d mask in
      let g = with_read number (Cell.Record control.target) r h in
      OnControl x.control x.simulation x.dictionary g (cond (ltb number r.seq) (Due.write []) (due_of number g))
  unfolding note
  note_due control s d mask h due r short spare q = by_test (ltb number r.seq)
    where
      e : Item
      e = item_of number control.target r

      went : Simulated
      went = simulated n program a s (insert d e)

      more : Help
      more = record { variables = h.variables; program = h.program; inputs = h.inputs; reads = insert h.reads e }

      more_is : more ≡ help_with n program a (insert q.reads e)
      more_is =
          ap (λ (g : Help). record { variables = g.variables; program = g.program; inputs = g.inputs; reads = insert g.reads e }) q.helps

      -- the dictionary read is as long as the one kept
      room : q.reads.length < 32
      room =
          omega (
            arith,
            simulate_length n program a.words started q.reads,
            ap (λ (x : Simulated). x.dictionary.length) q.stands,
          )

      goes_on : simulated n program a started (insert q.reads e) ≡ went
      goes_on =
          resumes n program a.words short e control.target started q.reads room q.array
          (ap (λ (x : Simulated). x.pause) q.stands)
          ∙ ap (λ (x : Simulated). simulated n program a x.simulation (insert x.dictionary e)) q.stands

      by_test : (b : Bool) →
          let x : Helped = cond b (record { control = go_to control P19; simulation = s; dictionary = d; mask = mask })
          (helped number went (with_bit mask control.target)) in
          OnControl x.control x.simulation x.dictionary (cond b h more) (cond b (Due.write []) (due_of number (cond b h more)))
      by_test true = refl
      by_test false = stand_due went (insert q.reads e) more more_is (insert_items q.reads e ∙ q.array) goes_on
