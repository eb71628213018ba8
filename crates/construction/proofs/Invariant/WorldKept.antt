-- Every move keeps the world good (lines P3, P6, P13, H36, P19, P20, P21 and F3; and a call).
use Prim.Native.Nat.{ℕ, suc, ◌+◌, ◌≤◌, ◌<◌}
use mathlib.Core.Path.{◌≡◌, refl, sym, subst, ap, ◌∙◌}
use mathlib.Core.Bool.{Bool, true, false, cond, not}
use mathlib.Core.Logic.{◌≢◌, ◌⊎◌, ⊎_elim}
use mathlib.Core.List.{[], ◌∷◌}
use native.Mathlib.Omega.{arith}
use native.Mathlib.Nat.{eq-or-lt_of_le}
use lib.ListN.{length, get_or, set, length-set, length-append, get_or-append}
use lib.Seq.{get_or-set_other, get_or_at}
use Rattle.std.specs.Prelude.{Option, None, Some}
use Rattle.construction.specs.Types.{Done, Active, Exit, Announcement, Record, Operation}
use Rattle.construction.specs.Machine.{flagged}
use Rattle.construction.specs.Cells.{zeros, open_announcement, open_record, current, previous, rewritten}
use Rattle.construction.specs.Sequential.{Ending, sequential}
use Rattle.construction.specs.Parts.{no_operation}
use Rattle.construction.proofs.Basics.{on_set, active_not_done, active_not_exit, exit_not_done, nobody_process, process_same, done_or_not}
use Rattle.construction.proofs.Simulating.Sequential.{sequential_length, sequential_fault}
use Rattle.construction.proofs.Invariant.World.{Round, no_round, ending_of, ending_in, World, announcement_in, record_in, left_in, call_in, round_in, word_at}
use Rattle.construction.proofs.Invariant.World.{operation_of, Held, Phase, Recorded, AnnouncementInvariant, WorldInvariant, asking, announcing, leaving}
use Rattle.construction.proofs.Invariant.World.{taking, storing, ending, freeing, Quiet, Move, Frame}
use Rattle.construction.proofs.Invariant.World.Move.{stay, ask, announce, leave, take, write, end, free}

ending_length : (F : Frame) (s : ℕ) (r : Round) → length (ending_of F s r).words ≡ length r.words
unfolding ending_of
ending_length F s r = sequential_length F.variable_count _ r.call.inputs r.words

-- an operation that ends as a fault outputs zeros
ending_fault : (F : Frame) (s : ℕ) (r : Round) → (ending_of F s r).yields.fault ≡ true → (ending_of F s r).yields.outputs ≡ zeros
unfolding ending_of
ending_fault F s r h = ap (λ (e : Ending). e.yields.outputs) (sequential_fault F.variable_count _ r.call.inputs r.words h)

-- the call of an announcement that is not active is of no matter
recalled :
    {seq left : ℕ} {o p : Operation} {a : Announcement} → AnnouncementInvariant seq left o a → a.flag ≢ Active →
    AnnouncementInvariant seq left p a
recalled A na = record {
  below = A.below;
  fresh = A.fresh;
  number_below = A.number_below;
  unnumbered = A.unnumbered;
  marked = A.marked;
  active_operation = λ e. absurd (na e);
}

current_rewritten : (r : Record) (x s : ℕ) → current (rewritten r x s) ≡ x
unfolding current rewritten
current_rewritten r x s = go r.toggle
  where
    go : (b : Bool) → cond (not b) (cond b r.val1 x) (cond b x r.val0) ≡ x
    go true = refl
    go false = refl

previous_rewritten : (r : Record) (x s : ℕ) → previous (rewritten r x s) ≡ current r
unfolding current previous rewritten
previous_rewritten r x s = go r.toggle
  where
    go : (b : Bool) → cond (not b) (cond b x r.val0) (cond b r.val1 x) ≡ cond b r.val1 r.val0
    go true = refl
    go false = refl

module _ {F : Frame} {w : World} (G : WorldInvariant F w) where
  -- after announcement i was set to a: by cases on whose is meant
  pub announcements_set :
      (P : Announcement → Type 0) (i j : ℕ) (a : Announcement) →
      i < F.process_count → (j ≡ i → P a) → (j ≢ i → P (announcement_in w j)) →
      P (get_or (set w.announcements i a) j open_announcement)
  announcements_set P i j a lt = on_set P w.announcements i j a open_announcement (omega arith)

  -- the phase by the holder of the gate
  pub phase_at : {h : Option ℕ} → w.gate.holder ≡ h → Phase h w
  phase_at e = subst (λ (h : Option ℕ). Phase h w) e G.phase

  announced_set :
      (i : ℕ) (a : Announcement) → i < F.process_count → AnnouncementInvariant w.gate.seq (left_in w i) (call_in w i) a → (m : ℕ) →
      AnnouncementInvariant w.gate.seq (left_in w m) (call_in w m) (announcement_in (announcing w i a) m)
  announced_set i a lt A m =
      announcements_set (AnnouncementInvariant w.gate.seq (left_in w m) (call_in w m)) i m a lt (λ e. rw e A) (λ _. G.announced m)

  phase_ask : (i : ℕ) (q : Operation) (h : Option ℕ) → h ≢ Some i → Phase h w → Phase h (asking w i q)
  phase_ask i q None ne ph = ph
  phase_ask i q (Some m) ne ph =
      rw (get_or-set_other w.calls i m q no_operation (λ e. ne (ap Some e))) ph

  good_ask : (i : ℕ) (q : Operation) → i < F.process_count → Quiet w i → WorldInvariant F (asking w i q)
  good_ask i q lt Q = record {
    fits = G.fits;
    lengths = rw length-set G.lengths;
    size_words = G.size_words;
    left_below = G.left_below;
    bound_below = G.bound_below;
    announced = λ m.
        on_set (λ o. AnnouncementInvariant w.gate.seq (left_in w m) o (announcement_in w m)) w.calls i m q no_operation (omega arith)
        (λ e. recalled (G.announced m) (rw e Q.not_active)) (λ _. G.announced m);
    inside = G.inside;
    phase = phase_ask i q w.gate.holder Q.free_of G.phase;
    recorded = G.recorded;
  }

  phase_announce :
      (i : ℕ) (a : Announcement) (h : Option ℕ) → h ≢ Some i → Phase h w → Phase h (announcing w i a)
  phase_announce i a None ne ph = ph
  phase_announce i a (Some m) ne ph =
      rw (get_or-set_other w.announcements i m a open_announcement (λ e. ne (ap Some e))) ph

  good_announce :
      (i : ℕ) (a : Announcement) → i < F.process_count → Quiet w i → AnnouncementInvariant w.gate.seq (left_in w i) (call_in w i) a →
      WorldInvariant F (announcing w i a)
  good_announce i a lt Q A = record {
    fits = G.fits;
    lengths = rw length-set G.lengths;
    size_words = G.size_words;
    left_below = G.left_below;
    bound_below = G.bound_below;
    announced = announced_set i a lt A;
    inside = G.inside;
    phase = phase_announce i a w.gate.holder Q.free_of G.phase;
    recorded = G.recorded;
  }

  phase_leave :
      (i : ℕ) → i < F.process_count → (announcement_in w i).flag ≡ Active → (h : Option ℕ) → Phase h w → Phase h (leaving w i)
  phase_leave i lt fa None ph = ph
  phase_leave i lt fa (Some m) ph = announcements_set (Held w (call_in w m)) i m _ lt left (λ _. ph)
    where
      left : m ≡ i → Held w (call_in w m) (flagged (announcement_in w i) Exit)
      left e =
          let B = ph.2 (λ d. active_not_done fa (rw e at d)) in
          (ph.0, λ q. absurd (exit_not_done refl q), λ _. record { counted = B.counted; now = B.now; asked = rw (← e) B.asked })

  good_leave : (i : ℕ) → i < F.process_count → (announcement_in w i).flag ≡ Active → WorldInvariant F (leaving w i)
  good_leave i lt fa = record {
    fits = G.fits;
    lengths = simp length-set G.lengths;
    size_words = G.size_words;
    left_below = G.left_below;
    bound_below = λ m.
        on_set (λ r. r ≤ w.gate.seq) w.bound i m w.gate.seq 0 (omega arith)
        (λ _. omega arith) (λ _. G.bound_below m);
    announced = announced_set i _ lt (record {
      below = A.below;
      fresh = λ _. A.fresh (active_not_done fa);
      number_below = A.number_below;
      unnumbered = λ _. A.unnumbered (active_not_done fa);
      marked = λ t. absurd (active_not_done fa (A.marked t).0);
      active_operation = λ q. absurd (active_not_exit q refl);
    });
    inside = G.inside;
    phase = phase_leave i lt fa w.gate.holder G.phase;
    recorded = G.recorded;
  }
    where
      A : AnnouncementInvariant w.gate.seq (left_in w i) (call_in w i) (announcement_in w i)
      A = G.announced i

  -- one round more: the earlier ones are as before
  abbrev new_round : ℕ → Round
  new_round m = record { words = w.words; call = call_in w m }

  earlier : (m s : ℕ) → s < length w.rounds → round_in (taking w m) s ≡ round_in w s
  earlier m s lt = get_or-append w.rounds (new_round m ∷ []) no_round s lt

  latest : (m s : ℕ) → s ≡ length w.rounds → round_in (taking w m) s ≡ new_round m
  latest m s e = get_or_at w.rounds (new_round m) [] no_round s (sym e)

  -- a number below the longer list is below the list, or the last
  split_last : (m s : ℕ) → s < length (taking w m).rounds → (s ≡ length w.rounds) ⊎ (s < length w.rounds)
  split_last m s lt = eq-or-lt_of_le (omega (arith, simp length-append at lt))

  good_take :
      (m : ℕ) → m < F.process_count → w.gate.holder ≡ None → (announcement_in w m).flag ≢ Done →
      operation_of (announcement_in w m) ≡ call_in w m → WorldInvariant F (taking w m)
  good_take m lt hn fl op =
      let R = G.recorded in
      let ph = phase_at hn in
      let more : length (taking w m).rounds ≡ suc (length w.rounds) = rw length-append (omega arith) in
      record {
        fits = G.fits;
        lengths = G.lengths;
        size_words = G.size_words;
        left_below = G.left_below;
        bound_below = G.bound_below;
        announced = G.announced;
        inside = λ j e. rw (← process_same e) lt;
        phase = (
          omega arith,
          λ d. absurd (fl d),
          λ d. record { counted = ph.1; now = latest m w.gate.seq (omega arith); asked = op },
        );
        recorded = record {
          sized = λ s sl.
              ⊎_elim (λ e. rw (latest m s e) G.size_words) (λ l. rw (earlier m s l) (R.sized s l)) (split_last m s sl);
          below = λ v. omega (arith, R.below v);
          old = λ s v sl vl h.
              ⊎_elim (λ e. rw (latest m s e) (R.words_are v vl (omega arith)))
              (λ l. rw (earlier m s l) (R.old s v l vl h)) (split_last m s sl);
          same = λ v vl z. rw (earlier m (record_in w v).seq (R.below v)) (R.same v vl z);
          settled = λ s v sl vl h. rw (earlier m s (omega arith)) (R.settled s v sl vl h);
          words_are = λ v vl e. absurd (omega arith);
        };
      }

  -- the gate is held for an operation of m that is not done
  module _ (m : ℕ) (hm : w.gate.holder ≡ Some m) (fl : (announcement_in w m).flag ≢ Done) where
    many : length w.rounds ≡ suc w.gate.seq
    many = (phase_at hm).0

    counted : w.count ≡ w.gate.seq
    counted = ((phase_at hm).2 fl).counted

    -- variable v is written (H36)
    module _
        (v x : ℕ) (vl : v < F.variable_count) (below : (record_in w v).seq < w.gate.seq)
        (ex : x ≡ word_at (ending_in F w w.gate.seq).words v) where
      set_record :
          (P : Record → Type 0) (u : ℕ) → (u ≡ v → P (rewritten (record_in w v) x w.gate.seq)) → (u ≢ v → P (record_in w u)) →
          P (record_in (storing w v x) u)
      set_record P u =
          on_set P w.records v u (rewritten (record_in w v) x w.gate.seq) (open_record 0) (omega (arith, G.lengths, G.fits))

      recorded_write : Recorded F (storing w v x).records w.rounds w.count w.words
      unfolding rewritten
      recorded_write =
          let R = G.recorded in
          record {
            sized = R.sized;
            below = λ u. set_record (λ q. q.seq < length w.rounds) u (λ _. omega (arith, many)) (λ _. R.below u);
            old = λ s u sl ul.
                set_record (λ q. q.seq < s → current q ≡ word_at (round_in w s).words u) u
                (λ _ h. absurd (omega (arith, many))) (λ _. R.old s u sl ul);
            same = λ u ul.
                set_record
                (λ q. 0 < q.seq →
                (previous q ≡ word_at (round_in w q.seq).words u) × (current q ≡ word_at (ending_in F w q.seq).words u))
                u
                (λ e h. (
                  previous_rewritten (record_in w v) x w.gate.seq ∙ rw e (R.old w.gate.seq v (omega (arith, many)) vl below),
                  current_rewritten (record_in w v) x w.gate.seq ∙ rw e ex,
                ))
                (λ _. R.same u ul);
            settled = λ s u sl ul.
                set_record (λ q. q.seq < s → word_at (ending_in F w s).words u ≡ word_at (round_in w s).words u) u
                (λ _ h. absurd (omega (arith, counted))) (λ _. R.settled s u sl ul);
            words_are = λ u ul e. absurd (omega (arith, many, counted));
          }

      good_write : WorldInvariant F (storing w v x)
      good_write = record {
        fits = G.fits;
        lengths = rw length-set G.lengths;
        size_words = G.size_words;
        left_below = G.left_below;
        bound_below = G.bound_below;
        announced = G.announced;
        inside = G.inside;
        phase = subst (λ (h : Option ℕ). Phase h (storing w v x)) (sym hm) (phase_at hm);
        recorded = recorded_write;
      }

    -- the operation is finished (P19, P20)
    module _
        (lt : m < F.process_count)
        (all : (v : ℕ) → v < F.variable_count → (record_in w v).seq < w.gate.seq →
        word_at (ending_in F w w.gate.seq).words v ≡ word_at (round_in w w.gate.seq).words v) where
      recorded_end : Recorded F w.records w.rounds (suc w.count) (ending_in F w w.gate.seq).words
      recorded_end =
          let R = G.recorded in
          record {
            sized = R.sized;
            below = R.below;
            old = R.old;
            same = R.same;
            settled = λ s v sl vl h.
                ⊎_elim (λ (e : s ≡ w.gate.seq). rw e (all v vl (rw e at h))) (λ l. R.settled s v (omega (arith, counted)) vl h)
                (eq-or-lt_of_le (omega (arith, counted)));
            words_are = λ v vl e.
                ⊎_elim (λ (l : (record_in w v).seq ≡ w.gate.seq). let z = (R.same v vl (omega (arith, G.left_below m))).1 in rw l at z)
                (λ l. R.old w.gate.seq v (omega (arith, many)) vl l ∙ sym (all v vl l))
                (eq-or-lt_of_le (omega (arith, many, R.below v)));
          }

      good_end : WorldInvariant F (ending F w m)
      good_end =
          record {
            fits = G.fits;
            lengths = simp length-set G.lengths;
            size_words =
                ending_length F w.gate.seq (round_in w w.gate.seq) ∙ G.recorded.sized w.gate.seq (omega (arith, many));
            left_below = G.left_below;
            bound_below = G.bound_below;
            announced = announced_set m _ lt (record {
              below = (G.announced m).below;
              fresh = λ q. absurd (q refl);
              number_below = omega arith;
              unnumbered = λ q. absurd (q refl);
              marked = λ t. (refl, ending_fault F w.gate.seq (round_in w w.gate.seq) t);
              active_operation = λ q. absurd (active_not_done q refl);
            });
            inside = G.inside;
            phase = subst (λ (h : Option ℕ). Phase h (ending F w m)) (sym hm) (
              many,
              λ _. omega (arith, counted),
              λ d. absurd (d (announcements_set (λ r. r.flag ≡ Done) m m _ lt (λ _. refl) (λ ne. absurd (ne refl)))),
            );
            recorded = recorded_end;
          }

  good_free :
      (m : ℕ) → m < F.process_count → w.gate.holder ≡ Some m → (announcement_in w m).flag ≡ Done → WorldInvariant F (freeing w m)
  good_free m lt hm d =
      let ph = phase_at hm in
      let many : length w.rounds ≡ suc w.gate.seq = ph.0 in
      let counted : w.count ≡ suc w.gate.seq = ph.1 d in
      let set_left :
      (P : ℕ → Type 0) (j : ℕ) → (j ≡ m → P w.gate.seq) → (j ≢ m → P (left_in w j)) → P (left_in (freeing w m) j) =
      λ P j. on_set P w.left m j w.gate.seq 0 (omega arith) in
      record {
        fits = G.fits;
        lengths = rw length-set G.lengths;
        size_words = G.size_words;
        left_below = λ j. set_left (λ b. b < w.gate.seq + 1) j (λ _. omega arith) (λ _. omega (arith, G.left_below j));
        bound_below = λ j. omega (arith, G.bound_below j);
        announced = λ j.
            let A = G.announced j in
            record {
              below = omega (arith, A.below);
              fresh = λ q. set_left (λ b. b < (announcement_in w j).seq) j (λ e. absurd (q (rw e d))) (λ _. A.fresh q);
              number_below = omega (arith, A.number_below);
              unnumbered = A.unnumbered;
              marked = A.marked;
              active_operation = A.active_operation;
            };
        inside = λ j e. absurd (nobody_process refl e);
        phase = (omega arith, omega arith);
        recorded = G.recorded;
      }

pub good_move : {F : Frame} {i : ℕ} {w v : World} → WorldInvariant F w → Move F i w v → WorldInvariant F v
good_move G stay = G
good_move G (ask q lt Q) = good_ask G _ q lt Q
good_move G (announce a lt Q fa A) = good_announce G _ a lt Q A
good_move G (leave lt fa) = good_leave G _ lt fa
good_move G (take m lt hn fl op z) = good_take G m lt hn fl op
good_move G (write m v x vl hm fl below ex) = good_write G m hm fl v x vl below ex
good_move G (end m lt hm fl all) = good_end G m hm fl lt all
good_move G (free m lt hm d) = good_free G m lt hm d

-- a move does not take the gate's number down, and up by one at most
pub seq_move : {F : Frame} {i : ℕ} {w v : World} → Move F i w v → (w.gate.seq ≤ v.gate.seq) × (v.gate.seq ≤ suc w.gate.seq)
seq_move stay = (omega arith, omega arith)
seq_move (ask c lt Q) = (omega arith, omega arith)
seq_move (announce a lt Q fa A) = (omega arith, omega arith)
seq_move (leave lt fa) = (omega arith, omega arith)
seq_move (take m lt hn fl op z) = (omega arith, omega arith)
seq_move (write m v x vl hm fl below ex) = (omega arith, omega arith)
seq_move (end m lt hm fl all) = (omega arith, omega arith)
seq_move (free m lt hm d) = (omega arith, omega arith)

-- no move alters a text
pub texts_move : {F : Frame} {i : ℕ} {w v : World} → Move F i w v → v.texts ≡ w.texts
texts_move stay = refl
texts_move (ask c lt Q) = refl
texts_move (announce a lt Q fa A) = refl
texts_move (leave lt fa) = refl
texts_move (take m lt hn fl op z) = refl
texts_move (write m v x vl hm fl below ex) = refl
texts_move (end m lt hm fl all) = refl
texts_move (free m lt hm d) = refl

-- the operation that a gate is held for runs on the words so far, and its number is the next
pub ends_now :
    {F : Frame} {w : World} → WorldInvariant F w → (m : ℕ) → w.gate.holder ≡ Some m → (announcement_in w m).flag ≢ Done →
    (w.count ≡ w.gate.seq)
    × (ending_in F w w.gate.seq
    ≡ sequential F.variable_count (F.program_at (call_in w m).program w.gate.seq) (call_in w m).inputs w.words)
unfolding ending_of
ends_now {F} {w} G m hm fl = (counted G m hm fl, ap (ending_of F w.gate.seq) ((phase_at G hm).2 fl).now)

-- how many rounds there are at most, and operations finished at least
pub rounds_few : (h : Option ℕ) (w : World) → Phase h w → length w.rounds ≤ suc w.gate.seq
rounds_few None w ph = omega arith
rounds_few (Some m) w ph = omega arith

pub count_few : (h : Option ℕ) (w : World) → Phase h w → w.count ≤ suc w.gate.seq
count_few None w ph = omega arith
count_few (Some m) w ph =
    ⊎_elim (λ d. omega (arith, ph.1 d)) (λ d. omega (arith, (ph.2 d).counted)) (done_or_not (announcement_in w m).flag)

pub count_many : (h : Option ℕ) (w : World) → Phase h w → w.gate.seq ≤ w.count
count_many None w ph = omega arith
count_many (Some m) w ph =
    ⊎_elim (λ d. omega (arith, ph.1 d)) (λ d. omega (arith, (ph.2 d).counted)) (done_or_not (announcement_in w m).flag)
