-- Over every list of entries the word of a process is the set of the variables that its dictionary notes (document 02, order 1), and a report tells it.
use Prim.Native.Nat.{ℕ, ◌<◌}
use mathlib.Core.Path.{◌≡◌, refl, sym, subst, ap, ◌∙◌}
use mathlib.Core.Bool.{Bool, true, false, cond}
use Rattle.std.specs.Option.{is_some}
use mathlib.Core.List.{List}
use native.Mathlib.Omega.{arith}
use native.Mathlib.Decide.{ℕ_discrete}
use lib.Count.{ones}
use lib.Dec.{ltb}
use lib.ListN.{length, get_or, set}
use lib.Seq.{get_or-set_same, get_or-set_other}
use borrow.Author.Tests.{le-ltb}
use Rattle.construction.specs.Types.{Words, Record, Program, Dictionary, Simulation, Label, P5, H21, Access, Control, Helped, Card}
use Rattle.construction.specs.Types.{Answered}
use Rattle.construction.specs.Dictionary.{empty, noted, find, has, item_of}
use Rattle.construction.specs.Marks.{Marks}
use Rattle.construction.specs.Parts.{Local, local_at, announcement_at, texts_of, program_of}
use Rattle.construction.specs.Machine.{access_of, access_in, holder_of, begin_help, note, perform, advance}
use Rattle.construction.specs.Tracing.{label_of, noted_at, report_of, FromH21ToP20, TellsNoted}
use Rattle.construction.specs.Opening.{fresh, opened}
use Rattle.construction.specs.History.{Entry, observe, run}
use Rattle.construction.proofs.Basics.{on_test, clash, get_or_replicate_same}
use Rattle.construction.proofs.Simulating.Dictionaries.{has_in}
use Rattle.construction.proofs.Simulating.Simulations.{needing_absent}
use Rattle.construction.proofs.Simulating.Marks.{no_bits, marks_insert, marks_simulated}
use Rattle.construction.proofs.Invariant.World.{World, frame_of}
use Rattle.construction.proofs.Invariant.Locals.{Sizes}
use Rattle.construction.proofs.Invariant.Assertions.{LocAt, known}
use Rattle.construction.proofs.Invariant.Cards.{CardInvariant}
use Rattle.construction.proofs.Observing.Outcomes.{Outcome, outcome}
use Rattle.construction.proofs.Observing.Runs.{opened_consistent, opened_keeps}

-- the own state of a process is marked
abbrev Marked : Local → Type 0
Marked l = Marks l.mask l.dictionary

abbrev AllMarked : Card → Type 0
AllMarked c = (i : ℕ) → Marked (local_at c i)

-- line H1: nothing is noted
marks_empty : Marks 0 empty
unfolding ones
marks_empty = record {
  noted = λ v h. absurd (none v h);
  absent = λ v h. no_bits v;
  count = refl;
}
  where
    none : (v : ℕ) → has empty v ≡ true → ⊥
    none v h = let z : ◌≡◌ {A = Bool} false true = sym (le-ltb (find empty v) 0 (omega arith)) ∙ h in clash (cc)

-- what H21 knows of the variable that it reads
pub record Fits (v : ℕ) (d : Dictionary) : Type 0 where
  pub small : v < 64
  pub new : has_in (noted d) v ≡ false
  pub spare : d.length < 32
  pub room : length d.items ≡ 32

-- lines H21 to H25: the variable is noted in both, or in neither
note_marked :
    (n : ℕ) (program : Program) (inputs : Words) (cell : Record) (number : ℕ) (t : Control) (s : Simulation) (d : Dictionary) (mask : ℕ) →
    Fits t.target d → Marks mask d →
    Marks (note n program inputs cell number t s d mask).mask (note n program inputs cell number t s d mask).dictionary
unfolding note
note_marked n program inputs cell number t s d mask q M =
    on_test (λ (x : Helped). Marks x.mask x.dictionary) (ltb number cell.seq) (λ _. M)
    (λ _. marks_simulated n program inputs _ s _ (marks_insert mask d M (item_of number t.target cell) q.small q.new q.spare q.room))

-- the access that notes a variable, which H21 alone makes
data Notes : Access → Type 0 where
  notes : Notes Access.Note

exit_notes_none : (exit : Bool) → Notes (access_of P5 exit) → ⊥
unfolding access_of
exit_notes_none true = elim [ ]
exit_notes_none false = elim [ ]

module _ {c : Card} {w : World} (I : CardInvariant c w) (j : ℕ) where
  noting_at :
      (l : Label) (exit : Bool) → LocAt l (frame_of c w) w j (known (local_at c j)) → Notes (access_of l exit) →
      Fits (local_at c j).control.target (local_at c j).dictionary
  unfolding access_of
  noting_at P5 exit q n = absurd (exit_notes_none exit n)
  noting_at H21 exit q Notes.notes =
      let needs = q.2 in
      record {
        small = omega (arith, needs.inside, I.good.fits.narrow);
        new = needing_absent _ _ _ _ _ _ needs;
        spare = needs.spare;
        room = needs.core.room.array;
      }
  noting_at Label.Idle exit q n = elim n [ ]
  noting_at Label.P1 exit q n = elim n [ ]
  noting_at Label.P3 exit q n = elim n [ ]
  noting_at Label.P7 exit q n = elim n [ ]
  noting_at Label.P10 exit q n = elim n [ ]
  noting_at Label.C2 exit q n = elim n [ ]
  noting_at Label.C4 exit q n = elim n [ ]
  noting_at Label.P13 exit q n = elim n [ ]
  noting_at Label.P14 exit q n = elim n [ ]
  noting_at Label.P16 exit q n = elim n [ ]
  noting_at Label.H36 exit q n = elim n [ ]
  noting_at Label.P19 exit q n = elim n [ ]
  noting_at Label.P20 exit q n = elim n [ ]
  noting_at Label.P21 exit q n = elim n [ ]
  noting_at Label.P22 exit q n = elim n [ ]
  noting_at Label.F1 exit q n = elim n [ ]
  noting_at Label.F3 exit q n = elim n [ ]
  noting_at Label.P6 exit q n = elim q [ ]

-- a word and a dictionary put back for process j
module _ (c : Card) (Z : Sizes c) (j : ℕ) (lt : j < 8) (H : AllMarked c) where
  put_marked_lem : (i word : ℕ) (d : Dictionary) → Marks word d → Marks (get_or (set c.masks j word) i 0) (get_or (set c.dictionaries j d) i empty)
  put_marked_lem i word d h = go (ℕ_discrete i j)
    where
      go : Dec (i ≡ j) → Marks (get_or (set c.masks j word) i 0) (get_or (set c.dictionaries j d) i empty)
      go (yes e) =
          rw e
          (rw (get_or-set_same c.masks j word 0 (omega (arith, Z.masks)), get_or-set_same c.dictionaries j d empty (omega (arith, Z.dictionaries))) h)
      go (no ne) = rw (get_or-set_other c.masks j i word 0 ne, get_or-set_other c.dictionaries j i d empty ne) (H i)

  access_marked : (a : Access) → (Notes a → Fits (local_at c j).control.target (local_at c j).dictionary) → AllMarked (perform a c j).card
  unfolding perform
  access_marked Access.None q i = put_marked_lem i _ _ (H j)
  access_marked (Access.Gate a) q i = put_marked_lem i _ _ (H j)
  access_marked (Access.Announcement a) q i = put_marked_lem i _ _ (H j)
  access_marked Access.Help q i =
      let l = local_at c j in
      let cell = announcement_at c (holder_of l.gate.holder) in
      let program = program_of (texts_of c) cell.program l.gate.seq in
      put_marked_lem i _ _ (begun (is_some (begin_help c.variable_count program cell l.gate.seq)))
    where
      begun : (b : Bool) → Marks (cond b 0 (local_at c j).mask) (cond b empty (local_at c j).dictionary)
      begun true = marks_empty
      begun false = H j
  access_marked Access.Note q i = put_marked_lem i _ _ (note_marked _ _ _ _ _ _ _ _ _ (q Notes.notes) (H j))
  access_marked Access.Write q i = put_marked_lem i _ _ (H j)

-- an accepted step, and every entry
step_marked : {c : Card} {w : World} → CardInvariant c w → (j : ℕ) → j < c.process_count → AllMarked c → AllMarked (advance c j)
unfolding advance
step_marked {c} {w} I j lt H =
    access_marked c I.sizes j (omega (arith, I.good.fits.few)) H (access_in (local_at c j))
    (noting_at I j (local_at c j).control.place (local_at c j).exit (I.locs j lt))

entry_marked :
    {c : Card} {w : World} → CardInvariant c w → {e : Entry} {r : Answered} → Outcome c e r → AllMarked c → AllMarked r.card
entry_marked {c} I (Outcome.turned_back e why) H = H
entry_marked {c} I (Outcome.called j k inputs p b) H = λ i. put_marked_lem c I.sizes j (omega (arith, I.good.fits.few)) H i _ _ (H j)
entry_marked {c} I (Outcome.asked j p) H = λ i. put_marked_lem c I.sizes j (omega (arith, I.good.fits.few)) H i _ _ (H j)
entry_marked {c} I (Outcome.stepped j x p b l) H = step_marked I j p H
entry_marked {c} I (Outcome.shown v x) H = H
entry_marked {c} I (Outcome.unaltered k from t why line) H = H
entry_marked {c} I (Outcome.altered k from t p a l u) H = H

-- over every text and every list of entries the word of each process is the set of the variables that its dictionary notes
pub noted_sets :
    (t : List ℕ) (es : List Entry) (i : ℕ) →
    Marks (local_at (run (opened t).card es).card i).mask (local_at (run (opened t).card es).card i).dictionary
unfolding opened fresh observe
noted_sets t =
    opened_keeps t (λ m. AllMarked m.card) (λ m O e. entry_marked O.inv (outcome m.card e))
    (λ i. rw (get_or_replicate_same 8 i empty, get_or_replicate_same {A = ℕ} 8 i 0) marks_empty)

-- .. and the report of every accepted step tells it: the word goes by the labels from H21 to P20
noting_told : (l : Label) (word : ℕ) → FromH21ToP20 l → noted_at l word ≡ word
noting_told Label.H21 word FromH21ToP20.at-H21 = refl
noting_told Label.H36 word FromH21ToP20.at-H36 = refl
noting_told Label.P19 word FromH21ToP20.at-P19 = refl
noting_told Label.P20 word FromH21ToP20.at-P20 = refl
noting_told Label.Idle word x' = elim x' [ ]
noting_told Label.P1 word x'' = elim x'' [ ]
noting_told Label.P3 word x3 = elim x3 [ ]
noting_told P5 word x4 = elim x4 [ ]
noting_told Label.P7 word x5 = elim x5 [ ]
noting_told Label.P10 word x6 = elim x6 [ ]
noting_told Label.C2 word x7 = elim x7 [ ]
noting_told Label.C4 word x8 = elim x8 [ ]
noting_told Label.P13 word x9 = elim x9 [ ]
noting_told Label.P14 word x10 = elim x10 [ ]
noting_told Label.P16 word x11 = elim x11 [ ]
noting_told Label.P21 word x12 = elim x12 [ ]
noting_told Label.P22 word x13 = elim x13 [ ]
noting_told Label.F1 word x14 = elim x14 [ ]
noting_told Label.F3 word x15 = elim x15 [ ]
noting_told Label.P6 word x16 = elim x16 [ ]

silent_told : (l : Label) (word : ℕ) → (FromH21ToP20 l → ⊥) → noted_at l word ≡ 0
silent_told Label.Idle word other = refl
silent_told Label.P1 word other = refl
silent_told Label.P3 word other = refl
silent_told Label.P5 word other = refl
silent_told Label.P6 word other = refl
silent_told Label.P7 word other = refl
silent_told Label.P10 word other = refl
silent_told Label.C2 word other = refl
silent_told Label.C4 word other = refl
silent_told Label.P13 word other = refl
silent_told Label.P14 word other = refl
silent_told Label.P16 word other = refl
silent_told Label.H21 word other = absurd (other FromH21ToP20.at-H21)
silent_told Label.H36 word other = absurd (other FromH21ToP20.at-H36)
silent_told Label.P19 word other = absurd (other FromH21ToP20.at-P19)
silent_told Label.P20 word other = absurd (other FromH21ToP20.at-P20)
silent_told Label.P21 word other = refl
silent_told Label.P22 word other = refl
silent_told Label.F1 word other = refl
silent_told Label.F3 word other = refl

pub tells_noted :
    (t : List ℕ) (es : List Entry) (i : ℕ) → i < (run (opened t).card es).card.process_count → TellsNoted (run (opened t).card es).card i
unfolding report_of
tells_noted t es i lt =
    let c = (run (opened t).card es).card in
    let l = local_at c i in
    let label = label_of l.control.place l.exit in
    let after = local_at (advance c i) i in
    let M : Marked after = step_marked (opened_consistent t es).inv i lt (noted_sets t es) i in
    record {
      noting = λ h. subst (λ (word : ℕ). Marks word after.dictionary) (sym (noting_told label after.mask h)) M;
      count = λ h. ap ones (noting_told label after.mask h) ∙ M.count;
      silent = λ h. let e = silent_told label after.mask h in (e, ap ones e ∙ marks_empty.count);
    }
