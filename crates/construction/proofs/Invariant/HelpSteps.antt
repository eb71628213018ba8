-- The steps of a helper that simulates: P16 and H21.
use Prim.Native.Nat.{ℕ, ◌≤◌, ◌<◌}
use mathlib.Core.Path.{◌≡◌, refl, sym, subst, ap, ◌∙◌}
use mathlib.Core.Bool.{false, cond, not}
use Rattle.std.specs.Prelude.{Option, Some}
use Rattle.std.specs.Option.{is_some}
use mathlib.Core.Logic.{◌≢◌, inl, ⊎_elim}
use native.Mathlib.Omega.{arith}
use lib.ListN.{length, set}
use lib.Dec.{ltb, leb}
use borrow.Author.Tests.{ltb-true, ltb-false, leb-true, leb-false, not-true, not-false}
use Rattle.std.specs.Prelude.{Some}
use Rattle.construction.specs.Types.{Done, Announcement, Dictionary, Simulation, Pause, Ended, Faulted, Lacks, Simulated, P16, H21, Access}
use Rattle.construction.specs.Types.{Begun, Helped, Operation, Card, Program}
use Rattle.construction.specs.Cells.{open_announcement, is_done, previous, open_record}
use Rattle.construction.specs.Instructions.{started}
use Rattle.construction.specs.Dictionary.{empty, value_under, item_of, insert}
use Rattle.construction.specs.Sequential.{sequential}
use Rattle.construction.specs.Helping.{simulate}
use Rattle.construction.specs.Parts.{announcement_at, record_at, local_at, with_local, Local, with_announcement, with_record}
use Rattle.construction.specs.Machine.{holder_of, helps, after_pause, perform, helped, begin_help, begun_from, note, after}
use Rattle.construction.proofs.Basics.{on_test, and_true, and_false, is_done-true, is_done-false}
use Rattle.construction.proofs.Simulating.Simulations.{PausedAt, starts, noting, simulates, simulate_empty}
use Rattle.construction.proofs.Invariant.World.{Round, ending_of, ending_in, World, call_in, round_in, word_at, operation_of, Phase, Frame, frame_of}
use Rattle.construction.proofs.Invariant.WorldKept.{phase_at, rounds_few}
use Rattle.construction.proofs.Invariant.Assertions.{Helper, Plan, ItemNoted, program_for, CoreAt, LocAt, Loc}
use Rattle.construction.proofs.Invariant.NextWrites.{pause_loc}
use Rattle.construction.proofs.Invariant.Acting.{world_of, Step, WellFormed, Before, Acted, keeps, goes_on, at_simulation, Chosen}
use lib.Seq.{set-get_or}

-- the ending of a round is the run of its call
run_is :
    (F : Frame) (s : ℕ) (r : Round) (a : Announcement) → r.call ≡ operation_of a →
    sequential F.variable_count (program_for F s a) a.words r.words ≡ ending_of F s r
unfolding ending_of
run_is F s r a e = ap (λ (o : Operation). ending_of F s (record { words = r.words; call = o })) (sym e)

-- a dictionary after a simulation is tidy
paused_tidy :
    (F : Frame) (w : World) (s : ℕ) (a : Announcement) (p : Pause) (l : Simulation) (d : Dictionary) →
    PausedAt F.variable_count (program_for F s a) a.words (round_in w s).words (ending_in F w s) (ItemNoted F w s) p l d →
    WellFormed d
paused_tidy F w s a Ended l d q = record { short = q.room.small; keyed = q.keyed }
paused_tidy F w s a Faulted l d q = record { short = q.room.small; keyed = q.keyed }
paused_tidy F w s a (Lacks v) l d q =
    record { short = q.core.room.small; keyed = q.core.keyed }

module _ {c : Card} {w : World} {i : ℕ} (B : Before c w i) where
  abbrev W : World
  W = world_of c w

  abbrev F : Frame
  F = frame_of c w

  abbrev s : ℕ
  s = (local_at c i).gate.seq

  -- a helper that works on the announcement a goes on with its simulation
  module _ (a : Announcement) (helper : Helper F W i (local_at c i).operation (local_at c i).gate) (plan : Plan F W (local_at c i).gate a)
      (l : Simulation) (d : Dictionary) (core : CoreAt F W s a l d) where
    abbrev x : Simulated
    x = simulate c.variable_count (program_for F s a) a.words l d

    abbrev resumed : Local
    resumed = at_simulation (local_at c i) a (after_pause s x.dictionary x.pause) x.simulation x.dictionary 0

    resumes : WellFormed x.dictionary × Loc F W i resumed
    resumes =
        let q =
        simulates c.variable_count (program_for F s a) a.words (round_in W s).words (ending_in F W s) (ItemNoted F W s)
        (B.good.fits.short a.program s)
        (λ e y p. record { inside = p.inside; base = p.base; kept = p.kept }) l d core in (
          paused_tidy F W s a x.pause x.simulation x.dictionary q,
          pause_loc F W i (local_at c i) a helper plan x.pause x.simulation x.dictionary q,
        )

  -- the process that is helped, and its announcement
  abbrev m : ℕ
  m = holder_of (local_at c i).gate.holder

  abbrev theirs : Announcement
  theirs = announcement_at c m

  -- what P16 comes to
  abbrev helping : Option Begun → Card
  helping began =
      let b = begun_from (local_at c i).control (local_at c i).simulation began in
      with_local (with_announcement c m theirs) i
      (after (local_at c i) b.control (local_at c i).gate theirs b.simulation
      (cond (is_some began) empty (local_at c i).dictionary) (cond (is_some began) 0 (local_at c i).mask))

  abbrev begun : Helped
  begun = helped s (simulate c.variable_count (program_for F s theirs) theirs.words started empty) 0

  -- line P17: an operation that is not done and not too new is the one that the gate is held for
  module _ (nd : theirs.flag ≢ Done) (le : theirs.seq ≤ s) (q : LocAt P16 F W i (local_at c i)) where
    still : (c.gate.holder ≡ Some m) × (c.gate.seq ≡ s)
    still = q.seen.still (omega (arith, (B.good.announced m).fresh nd))

    pending : Phase (Some m) W
    pending = phase_at B.good still.0

    many : s < length W.rounds
    many = omega (arith, pending.0, still.1)

    called : (round_in W s).call ≡ operation_of theirs
    called =
        subst (λ (k : ℕ). (round_in W k).call ≡ call_in W m) still.1 (ap (λ (r : Round). r.call) (pending.2 nd).now)
        ∙ sym (pending.2 nd).asked

    plan : Plan F W (local_at c i).gate theirs
    plan = record {
      below = omega (arith, still.1);
      number = many;
      early = le;
      positive = omega (arith, (B.good.announced m).fresh nd);
      working = record { alike = λ _ _ _. record { program = refl; seq = refl; number = refl; words = refl; fault = refl } };
    }

    -- the first simulation touches no dictionary
    begins : Acted c W i (helping (Some (record { control = begun.control; simulation = begun.simulation })))
    begins =
        let r =
        resumes theirs q plan started empty
        (starts c.variable_count (program_for F s theirs) theirs.words (round_in W s).words (ending_in F W s) (ItemNoted F W s)
        (B.good.recorded.sized s many) (run_is F s (round_in W s) theirs called)) in
        let z = simulate_empty c.variable_count (program_for F s theirs) theirs.words in
        keeps B refl (set-get_or c.announcements m open_announcement) refl _ refl (subst WellFormed z r.0)
        (subst (λ (d : Dictionary). Loc F W i (at_simulation (local_at c i) theirs begun.control begun.simulation d 0)) z r.1)

  pub at-P16 : Chosen c w i → Step c w i P16 Access.Help
  unfolding perform begin_help
  at-P16 chosen q =
      subst
      (λ (p : Program). Acted c W i (helping (begin_help c.variable_count p theirs s)))
      (sym (chosen theirs.program))
      (on_test (λ (x : Option Begun). Acted c W i (helping x)) (helps theirs s)
      (λ e.
      let h = and_true (not (is_done theirs.flag)) _ e in
      begins (is_done-false _ (not-true _ h.0)) (leb-true _ _ h.1) q)
      (λ e. keeps B refl (set-get_or c.announcements m open_announcement) refl _ refl B.tidy (q, record { over = λ _. over e })))
    where
      over : helps theirs s ≡ false → c.gate.seq ≡ s → theirs.flag ≡ Done
      over e z =
          ⊎_elim (λ d. is_done-true theirs.flag (not-false _ d))
          (λ b. absurd (omega (arith, (B.good.announced m).below, leb-false theirs.seq s b.1)))
          (and_false (not (is_done theirs.flag)) (leb theirs.seq s) e)

  -- the variable that H21 notes, and what H21 comes to
  abbrev v : ℕ
  v = (local_at c i).control.target

  abbrev noting_on : Helped → Card
  noting_on x =
      with_local (with_record c v (record_at c v)) i
      (at_simulation (local_at c i) (local_at c i).announcement x.control x.simulation x.dictionary x.mask)

  pub at-H21 : Chosen c w i → Step c w i H21 Access.Note
  unfolding perform note value_under
  at-H21 chosen q =
      subst
      (λ (p : Program). Acted c W i (noting_on (note c.variable_count p (local_at c i).announcement.words (record_at c v) s (local_at c i).control
      (local_at c i).simulation (local_at c i).dictionary (local_at c i).mask)))
      (sym (chosen (local_at c i).announcement.program))
      (on_test (λ (x : Helped). Acted c W i (noting_on x)) (ltb s (record_at c v).seq)
      (λ e.
      let few = rounds_few c.gate.holder W B.good.phase in
      let z : s < c.gate.seq = omega (arith, ltb-true s (record_at c v).seq e, B.good.recorded.below v) in
      goes_on B _ (q.0, q.1, record { yields = inl z; all = inl z }) refl refl kept)
      (λ e.
      let word = base (ltb-false s (record_at c v).seq e) in
      let r =
      resumes (local_at c i).announcement q.0 q.1 (local_at c i).simulation
      (insert (local_at c i).dictionary (item_of s v (record_at c v)))
      (noting c.variable_count (program_for F s (local_at c i).announcement) (local_at c i).announcement.words (round_in W s).words (ending_in F W s)
      (ItemNoted F W s) v (local_at c i).simulation (local_at c i).dictionary (item_of s v (record_at c v)) refl word
      (record { inside = q.2.inside; base = word; kept = inl refl }) q.2) in
      keeps B refl refl kept _ refl r.0 r.1))
    where
      kept : set c.records v (record_at c v) ≡ c.records
      kept = set-get_or c.records v (open_record 0)

      base : (record_at c v).seq ≤ s → value_under s (record_at c v) ≡ word_at (round_in W s).words v
      base le =
          on_test (λ x. x ≡ word_at (round_in W s).words v) (ltb (record_at c v).seq s)
          (λ e. B.good.recorded.old s v q.1.number q.2.inside (ltb-true _ _ e))
          (λ e.
          let z : (record_at c v).seq ≡ s = omega (arith, ltb-false (record_at c v).seq s e) in
          subst (λ (k : ℕ). previous (record_at c v) ≡ word_at (round_in W k).words v) z
          (B.good.recorded.same v q.2.inside (omega (arith, q.1.positive))).0)
