-- The assertion of each place, what a process knows there, and that no move of another process interferes with it.
use Prim.Native.Nat.{ℕ, ◌≤◌, ◌<◌}
use mathlib.Core.Path.{◌≡◌, sym, ap, ◌∙◌}
use mathlib.Core.Bool.{true, false}
use mathlib.Core.Logic.{◌≢◌, ◌⊎◌, inl, inr, ⊎_elim}
use mathlib.Core.List.{List}
use native.Mathlib.Omega.{arith}
use lib.ListN.{length, get_or}
use lib.Seq.{get_or-set_other}
use Rattle.std.specs.Prelude.{None, Some}
use Rattle.construction.specs.Types.{Gate, Active, Yield, Announcement, Program, Item, Dictionary, Simulation, Label, Idle, P1, P3, P5}
use Rattle.construction.specs.Types.{P7, P10, C2, C4, P13, P14, P16, H21, H36, P19, P20, P21, P22, F1, F3, P6, Operation}
use Rattle.construction.specs.Dictionary.{no_item, noted, value_under, altered}
use Rattle.construction.specs.Machine.{holder_of}
use Rattle.construction.proofs.Simulating.Dictionaries.{all_map}
use Rattle.construction.proofs.Simulating.Simulations.{Core, Finished, Needing}
use Rattle.construction.proofs.Invariant.World.{ending_in, World, announcement_in, record_in, left_in, call_in, result_in, round_in, word_at, WorldInvariant}
use Rattle.construction.proofs.Invariant.World.{Quiet, Move, Frame}
use Rattle.construction.proofs.Invariant.World.Move.{stay, ask, announce, leave, take, write, end, free}
use Rattle.construction.proofs.Invariant.Claims.{view_of, Change, Mine, Limit, Past, Gone, Returning, Rested, Last, Seen, Nominated, Working, Halfway}
use Rattle.construction.proofs.Invariant.Claims.{Over, change, call_change, mine_change, silent_change, limit_change, past_change, gone_change}
use Rattle.construction.proofs.Invariant.Claims.{returning_change, rested_change, last_change_lem, seen_stays, nominated_stays, working_stays, halfway_stays}
use Rattle.construction.proofs.Invariant.Claims.{over_stays, below_stays, record_stays, round_stays}
use Rattle.construction.specs.Parts.{Local}

-- process j, with its operation o, has read the gate g, held
pub record Helper (F : Frame) (w : World) (j : ℕ) (o : Operation) (g : Gate) : Type 0 where
  pub mine : Mine (view_of w j) o
  pub named : g.holder ≡ Some (holder_of g.holder)
  pub inside : holder_of g.holder < F.process_count
  pub seen : Seen w (holder_of g.holder) g.seq
  pub limit : Limit (view_of w j) j g.seq

-- a helper that has read g works on the announcement a of the holder
pub record Plan (F : Frame) (w : World) (g : Gate) (a : Announcement) : Type 0 where
  pub below : g.seq ≤ w.gate.seq
  pub number : g.seq < length w.rounds
  pub early : a.seq ≤ g.seq
  pub positive : 0 < g.seq
  pub working : Working w (holder_of g.holder) g.seq a

-- an item of the dictionary of a helper of number s
pub record ItemNoted (F : Frame) (w : World) (s : ℕ) (e : Item) : Type 0 where
  pub inside : e.variable < F.variable_count
  pub base : value_under s e.cell ≡ word_at (round_in w s).words e.variable
  pub kept : (record_in w e.variable ≡ e.cell) ⊎ (s ≤ (record_in w e.variable).seq)

-- an item that needs no write any more
pub record NoWriteDue (w : World) (s : ℕ) (e : Item) : Type 0 where
  pub fine : (s ≤ (record_in w e.variable).seq) ⊎ (e.value ≡ word_at (round_in w s).words e.variable)

-- a helper of number s whose simulation yields o has nothing more to write, or comes too late
pub record Ready (F : Frame) (w : World) (s : ℕ) (o : Yield) : Type 0 where
  pub yields : (s < w.gate.seq) ⊎ (o ≡ (ending_in F w s).yields)
  pub all :
      (s < w.gate.seq)
      ⊎ ((v : ℕ) → v < F.variable_count → (record_in w v).seq < s → word_at (ending_in F w s).words v ≡ word_at (round_in w s).words v)

-- the program that a helper of number s runs for the announcement a
abbrev pub program_for : Frame → ℕ → Announcement → Program
program_for F s a = F.program_at a.program s

-- its simulation, from the words before number s to the ending of number s
module _ (F : Frame) (w : World) (s : ℕ) (a : Announcement) where
  abbrev pub CoreAt : Simulation → Dictionary → Type 0
  CoreAt l d =
      Core F.variable_count (program_for F s a) a.words (round_in w s).words (ending_in F w s) (ItemNoted F w s) l d

  abbrev pub NeedingAt : ℕ → Simulation → Dictionary → Type 0
  NeedingAt v l d =
      Needing F.variable_count (program_for F s a) a.words (round_in w s).words (ending_in F w s) (ItemNoted F w s) v l d

  abbrev pub FinishedAt : Simulation → Dictionary → Type 0
  FinishedAt l d =
      Finished F.variable_count (program_for F s a) a.words (round_in w s).words (ending_in F w s) (ItemNoted F w s) l d

-- item k is to be written, and those before it need no write
pub record Writing (F : Frame) (w : World) (s : ℕ) (b : List Item) (k : ℕ) : Type 0 where
  pub inside : k < length b
  pub due : altered s (get_or b k no_item) ≡ true
  pub before : (q : ℕ) → q < k → NoWriteDue w s (get_or b q no_item)

-- what process j with local state t knows at each place
abbrev pub LocAt : Label → Frame → World → ℕ → Local → Type 0
LocAt Idle F w j t = Quiet w j × Rested (announcement_in w j) (result_in w j) t.announcement
LocAt P1 F w j t = Quiet w j × (t.operation ≡ call_in w j)
LocAt P3 F w j t =
    Quiet w j × (t.operation ≡ call_in w j) × (left_in w j < t.gate.seq) × (t.gate.seq ≤ w.gate.seq)
LocAt P5 F w j t =
    Mine (view_of w j) t.operation × (t.announcement.flag ≡ Active) × (t.announcement.words ≡ t.operation.inputs)
LocAt P7 F w j t = Mine (view_of w j) t.operation
LocAt P10 F w j t = Mine (view_of w j) t.operation
LocAt C2 F w j t =
    Mine (view_of w j) t.operation × (t.gate.holder ≡ None) × (t.gate.seq ≤ w.gate.seq)
    × Limit (view_of w j) j t.gate.seq
LocAt C4 F w j t =
    Mine (view_of w j) t.operation × (t.gate.holder ≡ None) × (t.gate.seq ≤ w.gate.seq)
    × Limit (view_of w j) j t.gate.seq
LocAt P13 F w j t =
    Mine (view_of w j) t.operation × (t.gate.holder ≡ None) × (t.control.target < F.process_count)
    × Nominated w j t.control.target t.gate.seq × Limit (view_of w j) j t.gate.seq
LocAt P14 F w j t = Mine (view_of w j) t.operation × Past (view_of w j)
LocAt P16 F w j t = Helper F w j t.operation t.gate
LocAt H21 F w j t =
    Helper F w j t.operation t.gate × Plan F w t.gate t.announcement
    × NeedingAt F w t.gate.seq t.announcement t.control.target t.simulation t.dictionary
LocAt H36 F w j t =
    Helper F w j t.operation t.gate × Plan F w t.gate t.announcement
    × FinishedAt F w t.gate.seq t.announcement t.simulation t.dictionary
    × Writing F w t.gate.seq (noted t.dictionary) t.control.target
LocAt P19 F w j t =
    Helper F w j t.operation t.gate × Plan F w t.gate t.announcement
    × Ready F w t.gate.seq t.simulation.yields
LocAt P20 F w j t =
    Helper F w j t.operation t.gate × Plan F w t.gate t.announcement
    × Ready F w t.gate.seq t.simulation.yields
    × Halfway w (holder_of t.gate.holder) t.gate.seq
LocAt P21 F w j t = Helper F w j t.operation t.gate × Over w (holder_of t.gate.holder) t.gate.seq
LocAt P22 F w j t = Mine (view_of w j) t.operation × Gone (view_of w j) j
LocAt F1 F w j t = Returning (announcement_in w j) (result_in w j) t.announcement
LocAt F3 F w j t =
    Returning (announcement_in w j) (result_in w j) t.announcement × (t.gate.holder ≡ Some j) × Last (view_of w j) j t.gate.seq
-- the place of no process
LocAt P6 F w j t = ⊥

-- it does not depend on the exit request, on the count of own steps and on the set of the variables noted
abbrev pub known : Local → Local
known t =
    record {
      control = t.control;
      operation = t.operation;
      exit = false;
      steps = 0;
      gate = t.gate;
      announcement = t.announcement;
      simulation = t.simulation;
      dictionary = t.dictionary;
      mask = 0;
    }

abbrev pub Loc : Frame → World → ℕ → Local → Type 0
Loc F w j t = LocAt t.control.place F w j (known t)

module _ {F : Frame} {i : ℕ} {w v : World} (G : WorldInvariant F w) (M : Move F i w v) where
  left_stays : {u : World} (j n : ℕ) → Move F i w u → Quiet w j → left_in w j < n → left_in u j < n
  left_stays j n stay q h = h
  left_stays j n (ask c lt Q) q h = h
  left_stays j n (announce a lt Q fa A) q h = h
  left_stays j n (leave lt fa) q h = h
  left_stays j n (take m lt hn fl op z) q h = h
  left_stays j n (write m v x vl hm fl below ex) q h = h
  left_stays j n (end m lt hm fl all) q h = h
  left_stays j n (free m lt hm d) q h =
      rw (get_or-set_other w.left m j w.gate.seq 0 (λ e. q.free_of (hm ∙ ap Some (sym e)))) h

  pub helper_stays :
      {j : ℕ} {o : Operation} {g : Gate} → Change j (view_of w j) (view_of v j) → Helper F w j o g → Helper F v j o g
  helper_stays C h = record {
    mine = mine_change C h.mine;
    named = h.named;
    inside = h.inside;
    seen = seen_stays G M h.seen;
    limit = limit_change C h.limit;
  }

  pub plan_stays : (g : Gate) (a : Announcement) → Seen w (holder_of g.holder) g.seq → Plan F w g a → Plan F v g a
  plan_stays g a h q = record {
    below = below_stays G M q.below;
    number = (round_stays G M g.seq q.number).1;
    early = q.early;
    positive = q.positive;
    working = working_stays G M h q.working;
  }

  module _ (s : ℕ) (number : s < length w.rounds) (below : s ≤ w.gate.seq) where
    abbrev same_round : round_in v s ≡ round_in w s
    same_round = (round_stays G M s number).0

    noted_stays : (e : Item) → ItemNoted F w s e → ItemNoted F v s e
    noted_stays e q = record {
      inside = q.inside;
      base = rw same_round q.base;
      kept = ⊎_elim (λ z. rw z q.kept) (λ z. inr (rw z below)) (record_stays G M e.variable);
    }

    pub fine_stays : (e : Item) → NoWriteDue w s e → NoWriteDue v s e
    fine_stays e q = record {
      fine = ⊎_elim (λ (z : record_in v e.variable ≡ record_in w e.variable). rw (z, same_round) q.fine)
          (λ z. inl (rw z below)) (record_stays G M e.variable);
    }

    pub ready_stays : (o : Yield) → Ready F w s o → Ready F v s o
    ready_stays o q = record {
      yields = ⊎_elim (λ z. inl (below_stays G M z)) (λ z. inr (rw same_round z)) q.yields;
      all = ⊎_elim (λ z. inl (below_stays G M z))
          (λ z. inr (λ u ul h. rw same_round (z u ul
          (⊎_elim (λ y. rw y at h) (λ y. absurd (omega arith)) (record_stays G M u)))))
          q.all;
    }

    needing_stays :
        (a : Announcement) (u : ℕ) (l : Simulation) (d : Dictionary) → NeedingAt F w s a u l d → NeedingAt F v s a u l d
    needing_stays a u l d q = record {
      core = record {
        booked = all_map (ItemNoted F w s) (ItemNoted F v s) (noted d) noted_stays q.core.booked;
        keyed = q.core.keyed;
        room = q.core.room;
        mem = q.core.mem;
        size = q.core.size;
        agree = rw same_round q.core.agree;
        unmarked = q.core.unmarked;
        rest = rw same_round q.core.rest;
        passed = q.core.passed;
      };
      inside = q.inside;
      next = q.next;
      spare = q.spare;
      fewer = q.fewer;
    }

    pub finished_stays :
        (a : Announcement) (l : Simulation) (d : Dictionary) → FinishedAt F w s a l d → FinishedAt F v s a l d
    finished_stays a l d q = record {
      booked = all_map (ItemNoted F w s) (ItemNoted F v s) (noted d) noted_stays q.booked;
      keyed = q.keyed;
      room = q.room;
      yields = rw same_round q.yields;
      agree = rw same_round q.agree;
    }

    writing_stays : (b : List Item) (k : ℕ) → Writing F w s b k → Writing F v s b k
    writing_stays b k q =
        record { inside = q.inside; due = q.due; before = λ j h. fine_stays (get_or b j no_item) (q.before j h) }

  module _ (j : ℕ) (ne : j ≢ i) where
    abbrev C : Change j (view_of w j) (view_of v j)
    C = change G ne M

    loc_at_stays : (l : Label) (t : Local) → LocAt l F w j t → LocAt l F v j t
    loc_at_stays Idle t q = (silent_change C q.0, rested_change q.0.free_of C q.1)
    loc_at_stays P1 t q = (silent_change C q.0, q.1 ∙ call_change C)
    loc_at_stays P3 t q =
        (silent_change C q.0, q.1 ∙ call_change C, left_stays j t.gate.seq M q.0 q.2, below_stays G M q.3)
    loc_at_stays P5 t q = (mine_change C q.0, q.1, q.2)
    loc_at_stays P7 t q = mine_change C q
    loc_at_stays P10 t q = mine_change C q
    loc_at_stays C2 t q = (mine_change C q.0, q.1, below_stays G M q.2, limit_change C q.3)
    loc_at_stays C4 t q = (mine_change C q.0, q.1, below_stays G M q.2, limit_change C q.3)
    loc_at_stays P13 t q =
        (mine_change C q.0, q.1, q.2, nominated_stays G ne M q.3, limit_change C q.4)
    loc_at_stays P14 t q = (mine_change C q.0, past_change C q.1)
    loc_at_stays P16 t q = helper_stays C q
    loc_at_stays H21 t q = (
      helper_stays C q.0,
      plan_stays t.gate t.announcement q.0.seen q.1,
      needing_stays t.gate.seq q.1.number q.1.below t.announcement t.control.target t.simulation t.dictionary q.2,
    )
    loc_at_stays H36 t q = (
      helper_stays C q.0,
      plan_stays t.gate t.announcement q.0.seen q.1,
      finished_stays t.gate.seq q.1.number q.1.below t.announcement t.simulation t.dictionary q.2,
      writing_stays t.gate.seq q.1.number q.1.below (noted t.dictionary) t.control.target q.3,
    )
    loc_at_stays P19 t q = (
      helper_stays C q.0,
      plan_stays t.gate t.announcement q.0.seen q.1,
      ready_stays t.gate.seq q.1.number q.1.below t.simulation.yields q.2,
    )
    loc_at_stays P20 t q = (
      helper_stays C q.0,
      plan_stays t.gate t.announcement q.0.seen q.1,
      ready_stays t.gate.seq q.1.number q.1.below t.simulation.yields q.2,
      halfway_stays G M q.0.seen q.3,
    )
    loc_at_stays P21 t q = (helper_stays C q.0, over_stays G M q.0.seen q.1)
    loc_at_stays P22 t q = (mine_change C q.0, gone_change C q.1)
    loc_at_stays F1 t q = returning_change C q
    loc_at_stays F3 t q = (returning_change C q.0, q.1, last_change_lem q.0.done C q.2)
    loc_at_stays P6 t q = absurd q

pub loc_stays :
    {F : Frame} {i : ℕ} {w v : World} → WorldInvariant F w → Move F i w v → (j : ℕ) → j ≢ i → (t : Local) → Loc F w j t → Loc F v j t
loc_stays G M j ne t q = loc_at_stays G M j ne t.control.place (known t) q
