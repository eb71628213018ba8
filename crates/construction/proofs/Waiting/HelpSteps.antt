-- The steps of a helper, on its own course: P16, H21 and H36 for each item, of which there are at most the weight of the card.
use Prim.Native.Nat.{ℕ, suc, ◌+◌, ◌*◌, ◌≤◌, ◌<◌}
use mathlib.Core.Path.{◌≡◌, refl, ◌∙◌}
use mathlib.Core.Bool.{cond}
use Rattle.std.specs.Prelude.{Option}
use Rattle.std.specs.Option.{is_some}
use mathlib.Core.List.{List}
use native.Mathlib.Omega.{arith}
use native.Mathlib.Nat.{le_trans}
use lib.ListN.{length, get_or, set, length-take}
use lib.Dec.{ltb}
use Rattle.construction.specs.Types.{Announcement, Record, Program, Dictionary, Simulation, Pause, Ended, Faulted, Lacks, Simulated, Label, P16, H21, H36}
use Rattle.construction.specs.Types.{P19, P21, Access, Control, Begun, Helped, Card}
use Rattle.construction.specs.Cells.{open_announcement}
use Rattle.construction.specs.Instructions.{started}
use Rattle.construction.specs.Dictionary.{empty, noted, next_write, item_of, insert}
use Rattle.construction.specs.Marks.{with_bit}
use Rattle.construction.specs.Helping.{simulate}
use Rattle.construction.specs.Parts.{Local, local_at, contents_of, announcement_at, record_at, texts_of, program_of, with_announcement, with_record, with_local}
use Rattle.construction.specs.Machine.{go_to, holder_of, write_from, after_pause, helps, begin_help, begun_from, note, writing, after, perform}
use Rattle.construction.specs.Weight.{card_weight}
use Rattle.construction.proofs.Basics.{on_test}
use Rattle.construction.proofs.Simulating.Dictionaries.{insert_length}
use Rattle.construction.proofs.Simulating.Simulations.{simulate_length}
use Rattle.construction.proofs.Invariant.World.{World}
use Rattle.construction.proofs.Invariant.Acting.{Before}
use Rattle.construction.proofs.Waiting.Courses.{Tally, Loop, CourseAt}
use Rattle.construction.proofs.Waiting.CourseSteps.{CourseIn, KnownAt, Now, CourseStep, one_more, put_course}

module _ {c : Card} {w : World} {i : ℕ} (B : Before c w i) (small : (local_at c i).steps ≤ 1000000000000000000) (x : Tally) where
  abbrev heavy : ℕ
  heavy = card_weight (contents_of c)

  abbrev s : ℕ
  s = (local_at c i).gate.seq

  -- a helper's course does not depend on the shared cells
  abbrev At : Label → Local → Type 0
  At l t = (a : Announcement) → CourseAt l c.process_count heavy c.gate a x t

  -- a helper that goes on with a control
  abbrev on : Control → Announcement → Simulation → Dictionary → ℕ → Local
  on t a z d k = after (local_at c i) t (local_at c i).gate a z d k

  -- the next write from item k on, with the dictionary e
  writes :
      {n : ℕ} (d : Dictionary) (k : ℕ) (a : Announcement) (z : Simulation) (e : Dictionary) (mask : ℕ) → Loop c.process_count heavy s n x (local_at c i) →
      n < 7 + e.length + k → n < 7 + 2 * heavy → At (write_from s d k).place (on (write_from s d k) a z e mask)
  unfolding next_write
  writes d k a z e mask q h l b =
      on_test (λ (t : Control). CourseAt t.place c.process_count heavy c.gate b x (on t a z e mask)) (ltb (next_write s d k) (length (noted d)))
      (λ _. one_more small q s _ (omega arith) (omega arith) _ _ _ _ _ _) (λ _. one_more small q s _ (omega arith) (omega arith) _ _ _ _ _ _)

  -- a simulation that stands still
  resumes :
      {n : ℕ} (d : Dictionary) (r : Pause) (a : Announcement) (z : Simulation) (e : Dictionary) (mask : ℕ) → Loop c.process_count heavy s n x (local_at c i) →
      n < 7 + e.length → e.length ≤ heavy → At (after_pause s d r).place (on (after_pause s d r) a z e mask)
  resumes d Ended a z e mask q h l b = writes d 0 a z e mask q (omega arith) (omega arith) b
  resumes d Faulted a z e mask q h l b = one_more small q s _ (omega arith) (omega arith) _ _ _ _ _ _
  resumes d (Lacks v) a z e mask q h l b = one_more small q s _ (omega arith) h _ _ _ _ _ _

  pub at-P16 : Now c i x P16 → CourseStep c i x Access.Help
  unfolding perform begin_help
  at-P16 q =
      let a : Announcement = announcement_at c m in
      let l : List Announcement = set c.announcements m a in
      let z : Simulated = simulate c.variable_count (program_of (texts_of c) a.program s) a.words started empty in
      CourseStep.continued x refl refl refl
      (on_test (λ (b : Option Begun). CourseIn c i x (helping b)) (helps (announcement_at c m) s)
      (λ _. put_course B c.gate l c.records (on (after_pause s z.dictionary z.pause) a z.simulation empty 0) x
      (resumes z.dictionary z.pause a z.simulation empty 0 q (omega arith) (omega arith) (get_or l i open_announcement)))
      (λ _. put_course B c.gate l c.records
      (on (go_to (local_at c i).control P21) a (local_at c i).simulation (local_at c i).dictionary (local_at c i).mask) x
      (one_more small q s _ (omega arith) (omega arith) _ _ _ _ _ _)))
    where
      m : ℕ
      m = holder_of (local_at c i).gate.holder

      helping : Option Begun → Card
      helping began =
          let b = begun_from (local_at c i).control (local_at c i).simulation began in
          with_local (with_announcement c m (announcement_at c m)) i
          (on b.control (announcement_at c m) b.simulation (cond (is_some began) empty (local_at c i).dictionary) (cond (is_some began) 0 (local_at c i).mask))

  pub at-H21 : KnownAt c w i H21 → Now c i x H21 → CourseStep c i x Access.Note
  unfolding perform note
  at-H21 k q =
      let a : Announcement = (local_at c i).announcement in
      let program : Program = program_of (texts_of c) a.program s in
      let r : List Record = set c.records v (record_at c v) in
      let d : Dictionary = insert (local_at c i).dictionary (item_of s v (record_at c v)) in
      let z : Simulated = simulate c.variable_count program a.words (local_at c i).simulation d in
      let longer : z.dictionary.length ≡ suc (local_at c i).dictionary.length =
      simulate_length c.variable_count program a.words (local_at c i).simulation d
      ∙ insert_length (local_at c i).dictionary (item_of s v (record_at c v)) k.2.spare in
      let room : (local_at c i).dictionary.length < heavy = le_trans k.2.fewer (B.light a.program s) in
      CourseStep.continued x refl refl refl
      (on_test (λ (b : Helped). CourseIn c i x (noting b)) (ltb s (record_at c v).seq)
      (λ _. put_course B c.gate c.announcements r
      (on (go_to (local_at c i).control P19) a (local_at c i).simulation (local_at c i).dictionary (local_at c i).mask) x
      (one_more small q s _ (omega arith) (omega arith) _ _ _ _ _ _))
      (λ _. put_course B c.gate c.announcements r
      (on (after_pause s z.dictionary z.pause) a z.simulation z.dictionary (with_bit (local_at c i).mask v)) x
      (resumes z.dictionary z.pause a z.simulation z.dictionary (with_bit (local_at c i).mask v) q (omega (arith, longer))
      (omega (arith, longer, room)) (announcement_at c i))))
    where
      v : ℕ
      v = (local_at c i).control.target

      noting : Helped → Card
      noting b =
          with_local (with_record c v (record_at c v)) i (on b.control (local_at c i).announcement b.simulation b.dictionary b.mask)

  pub at-H36 : KnownAt c w i H36 → Now c i x H36 → CourseStep c i x Access.Write
  unfolding perform writing
  at-H36 k q =
      let a : Announcement = (local_at c i).announcement in
      let d : Dictionary = (local_at c i).dictionary in
      let r : List Record = (perform Access.Write c i).card.records in
      let few : d.length ≤ heavy = le_trans k.2.room.few (B.light a.program s) in
      let inside : (local_at c i).control.target < d.length = omega (arith, k.3.inside, length-take d.length d.items) in
      CourseStep.continued x refl refl refl
      (put_course B c.gate c.announcements r (on (write_from s d (suc (local_at c i).control.target)) a (local_at c i).simulation d (local_at c i).mask) x
      (writes d (suc (local_at c i).control.target) a (local_at c i).simulation d (local_at c i).mask q (omega arith) (omega arith) (announcement_at c i)))
