-- What a process may claim of the world, and that no move of another process interferes with it.
use Prim.Native.Nat.{ℕ, ◌+◌, ◌≤◌, ◌<◌}
use mathlib.Core.Path.{◌≡◌, refl, sym, ap, ◌∙◌}
use mathlib.Core.Logic.{◌≢◌, ◌⊎◌, inl, inr, ⊎_elim}
use native.Mathlib.Omega.{arith}
use native.Mathlib.Decide.{ℕ_discrete}
use lib.ListN.{length, length-append, get_or-append}
use lib.Seq.{get_or-set_same, get_or-set_other}
use Rattle.std.specs.Prelude.{Option, None, Some}
use Rattle.construction.specs.Types.{Gate, Done, Active, Exit, Yield, Announcement, Operation}
use Rattle.construction.specs.Cells.{open_announcement, open_record, rewritten}
use Rattle.construction.specs.Parts.{no_operation}
use Rattle.construction.specs.Machine.{flagged, finished}
use Rattle.construction.proofs.Basics.{on_set, active_not_done, active_not_exit, exit_not_done, nobody_process, process_same, else_exit}
use Rattle.construction.proofs.Invariant.World.{no_round, ending_in, World, announcement_in, record_in, left_in, bound_in, call_in, Result, no_result, result_in}
use Rattle.construction.proofs.Invariant.World.{result_of, round_in, operation_of, WorldInvariant, asking, announcing, leaving, ending, Silent, Quiet, Move}
use Rattle.construction.proofs.Invariant.World.{Frame}
use Rattle.construction.proofs.Invariant.World.Move.{stay, ask, announce, leave, take, write, end, free}
use Rattle.construction.proofs.Invariant.WorldKept.{announcements_set, seq_move}

-- what a process sees: the gate, and its own announcement, call, result and bound
pub record View : Type 0 where
  pub gate : Gate
  pub announcement : Announcement
  pub call : Operation
  pub result : Result
  pub bound : ℕ

abbrev pub view_of : World → ℕ → View
view_of w j =
    record {
      gate = w.gate;
      announcement = announcement_in w j;
      call = call_in w j;
      result = result_in w j;
      bound = bound_in w j;
    }

-- the same with another gate, and with its operation finished
abbrev pub gated : View → Gate → View
gated x g =
    record { gate = g; announcement = x.announcement; call = x.call; result = x.result; bound = x.bound }

abbrev completed : View → Yield → View
completed x o =
    record {
      gate = x.gate;
      announcement = finished x.announcement x.gate o;
      call = x.call;
      result = record { number = x.gate.seq; yields = o };
      bound = x.bound;
    }

-- what a move of another process changes of the view of j
pub data Change (j : ℕ) (x : View) : View → Type 0 where
  kept : Change j x x
  took :
      (m : ℕ) → x.gate.holder ≡ None →
      (m ≡ j → (x.announcement.flag ≢ Done) × (x.announcement.flag ≡ Exit → x.gate.seq ≤ x.bound)) →
      Change j x (gated x (record { holder = Some m; seq = x.gate.seq }))
  ended : (o : Yield) → x.gate.holder ≡ Some j → x.announcement.flag ≢ Done → Change j x (completed x o)
  freed : x.bound ≤ x.gate.seq → Change j x (gated x (record { holder = None; seq = x.gate.seq + 1 }))

-- the call of j stays
pub call_change : {j : ℕ} {x y : View} → Change j x y → x.call ≡ y.call
call_change kept = refl
call_change (took m hn f) = refl
call_change (ended o h d) = refl
call_change (freed b) = refl

-- the operation o of j is under way and announced: it is the latest call, and the announcement a has the result where it is done, and else asks for it
pub record Owned (a : Announcement) (result : Result) (call o : Operation) : Type 0 where
  pub out : a.flag ≡ Done → result_of a ≡ result
  pub op : a.flag ≢ Done → operation_of a ≡ call
  pub called : o ≡ call

abbrev pub Mine : View → Operation → Type 0
Mine x o = Owned x.announcement x.result x.call o

-- where j asks to exit, it holds the gate under no number past n
pub record Limit (x : View) (j n : ℕ) : Type 0 where
  pub low : x.announcement.flag ≡ Exit → x.bound ≤ n
  pub high : x.announcement.flag ≡ Exit → x.gate.holder ≡ Some j → x.gate.seq ≤ n

-- where j asks to exit, it is not to be given a gate that is free now
pub record Past (x : View) : Type 0 where
  pub past : x.announcement.flag ≡ Exit → x.gate.holder ≡ None → x.bound < x.gate.seq

-- where j asks to exit, it neither holds the gate nor is to be given it
pub record Gone (x : View) (j : ℕ) : Type 0 where
  pub late : x.announcement.flag ≡ Exit → x.bound < x.gate.seq
  pub free_of : x.announcement.flag ≡ Exit → x.gate.holder ≢ Some j

-- j has read that its operation is done
pub record Returning (own : Announcement) (result : Result) (a : Announcement) : Type 0 where
  pub done : own.flag ≡ Done
  pub same : own ≡ a
  pub out : result_of a ≡ result

-- j has returned: its announcement is a, with the result if it is done
pub record Rested (own : Announcement) (result : Result) (a : Announcement) : Type 0 where
  pub same : own ≡ a
  pub out : own.flag ≡ Done → result_of own ≡ result

-- if j holds the gate, then under number n
pub record Last (x : View) (j n : ℕ) : Type 0 where
  pub only : x.gate.holder ≡ Some j → x.gate.seq ≡ n

pub silent_change :
    {j : ℕ} {x y : View} → Change j x y → Silent x.gate x.announcement x.bound j → Silent y.gate y.announcement y.bound j
silent_change kept q = q
silent_change (took m hn f) q = record {
  not_active = q.not_active;
  free_of = λ h. let z = f (process_same h) in let e = else_exit _ z.0 q.not_active in omega (arith, z.1 e, q.late e);
  late = q.late;
}
silent_change (ended o h d) q = absurd (q.free_of h)
silent_change (freed b) q =
    record { not_active = q.not_active; free_of = nobody_process refl; late = λ e. omega (arith, q.late e) }

pub mine_change : {j : ℕ} {o : Operation} {x y : View} → Change j x y → Mine x o → Mine y o
mine_change kept q = q
mine_change (took m hn f) q = q
mine_change (ended o h d) q = record { out = λ _. refl; op = λ n. absurd (n refl); called = q.called }
mine_change (freed b) q = q

pub limit_change : {j n : ℕ} {x y : View} → Change j x y → Limit x j n → Limit y j n
limit_change kept q = q
limit_change (took m hn f) q =
    record { low = q.low; high = λ e h. omega (arith, (f (process_same h)).1 e, q.low e) }
limit_change (ended o h d) q = record { low = λ e. absurd (exit_not_done e refl); high = λ e. absurd (exit_not_done e refl) }
limit_change (freed b) q = record { low = q.low; high = λ _ h. absurd (nobody_process refl h) }

pub past_change : {j : ℕ} {x y : View} → Change j x y → Past x → Past y
past_change kept q = q
past_change (took m hn f) q = record { past = λ _ h. absurd (nobody_process h refl) }
past_change (ended o h d) q = record { past = λ e. absurd (exit_not_done e refl) }
past_change (freed b) q = record { past = λ _ _. omega arith }

pub gone_change : {j : ℕ} {x y : View} → Change j x y → Gone x j → Gone y j
gone_change kept q = q
gone_change (took m hn f) q =
    record { late = q.late; free_of = λ e h. omega (arith, (f (process_same h)).1 e, q.late e) }
gone_change (ended o h d) q =
    record { late = λ e. absurd (exit_not_done e refl); free_of = λ e. absurd (exit_not_done e refl) }
gone_change (freed b) q = record { late = λ e. omega (arith, q.late e); free_of = λ _. nobody_process refl }

pub returning_change :
    {j : ℕ} {a : Announcement} {x y : View} → Change j x y → Returning x.announcement x.result a → Returning y.announcement y.result a
returning_change kept q = q
returning_change (took m hn f) q = q
returning_change (ended o h d) q = absurd (d q.done)
returning_change (freed b) q = q

pub rested_change :
    {j : ℕ} {a : Announcement} {x y : View} → x.gate.holder ≢ Some j → Change j x y → Rested x.announcement x.result a →
    Rested y.announcement y.result a
rested_change ne kept q = q
rested_change ne (took m hn f) q = q
rested_change ne (ended o h d) q = absurd (ne h)
rested_change ne (freed b) q = q

pub last_change_lem : {j n : ℕ} {x y : View} → x.announcement.flag ≡ Done → Change j x y → Last x j n → Last y j n
last_change_lem d kept q = q
last_change_lem d (took m hn f) q = record { only = λ h. absurd ((f (process_same h)).0 d) }
last_change_lem d (ended o h n) q = absurd (n d)
last_change_lem d (freed b) q = record { only = λ h. absurd (nobody_process refl h) }

module _ {F : Frame} {w : World} (G : WorldInvariant F w) where
  -- an operation that is finished, seen by any process
  pub end_change :
      (m j : ℕ) → m < F.process_count → w.gate.holder ≡ Some m → (announcement_in w m).flag ≢ Done →
      Change j (view_of w j) (view_of (ending F w m) j)
  end_change m j lt hm fl = go (ℕ_discrete j m)
    where
      go : Dec (j ≡ m) → Change j (view_of w j) (view_of (ending F w m) j)
      go (yes e) =
          rw (e, get_or-set_same w.announcements m _ open_announcement (omega arith), get_or-set_same w.results m _ no_result (omega arith))
          (ended (ending_in F w w.gate.seq).yields hm fl)
      go (no n) =
          rw (get_or-set_other w.announcements m j _ open_announcement n, get_or-set_other w.results m j _ no_result n) kept

  pub change : {i : ℕ} {v : World} {j : ℕ} → j ≢ i → Move F i w v → Change j (view_of w j) (view_of v j)
  change ne stay = kept
  change {i} {j = j} ne (ask q lt Q) = rw (get_or-set_other w.calls i j q no_operation ne) kept
  change {i} {j = j} ne (announce a lt Q fa A) = rw (get_or-set_other w.announcements i j a open_announcement ne) kept
  change {i} {j = j} ne (leave lt fa) =
      rw (get_or-set_other w.announcements i j _ open_announcement ne, get_or-set_other w.bound i j _ 0 ne) kept
  change ne (take m lt hn fl op z) =
      took m hn (λ e. (rw e at fl, ⊎_elim (λ mi. absurd (ne (sym e ∙ mi))) (λ b. rw e at b) z))
  change ne (write m u x vl hm fl below ex) = kept
  change {j = j} ne (end m lt hm fl all) = end_change m j lt hm fl
  change {j = j} ne (free m lt hm d) = freed (G.bound_below j)

-- the gate was (m, s): it still is, or m's operation has left it under s or later
pub record Seen (w : World) (m s : ℕ) : Type 0 where
  pub still : left_in w m < s → (w.gate.holder ≡ Some m) × (w.gate.seq ≡ s)

-- m may be given the gate by j under number n, by its announcement a, its call and its bound: it is not done, and if it asks to exit, it is
-- j itself or has not asked too early
pub record MayHold (a : Announcement) (call : Operation) (bound j m n : ℕ) : Type 0 where
  pub alive : a.flag ≢ Done
  pub op : operation_of a ≡ call
  pub right : (m ≡ j) ⊎ (a.flag ≡ Exit → n ≤ bound)

abbrev pub Eligible : World → ℕ → ℕ → ℕ → Type 0
Eligible w j m n = MayHold (announcement_in w m) (call_in w m) (bound_in w m) j m n

-- j has read the gate with nobody under n, and nominates m
pub record Nominated (w : World) (j m n : ℕ) : Type 0 where
  pub below : n ≤ w.gate.seq
  pub fit : w.gate.holder ≡ None → w.gate.seq ≡ n → Eligible w j m n

-- an announcement is a, but for its flag
pub record Alike (r a : Announcement) : Type 0 where
  pub program : r.program ≡ a.program
  pub seq : r.seq ≡ a.seq
  pub number : r.number ≡ a.number
  pub words : r.words ≡ a.words
  pub fault : r.fault ≡ a.fault

-- while the gate is (m, s): m's announcement is a, but for its flag, or done; its flag is not active; its flag is done
pub record Working (w : World) (m s : ℕ) (a : Announcement) : Type 0 where
  pub alike :
      w.gate.holder ≡ Some m → w.gate.seq ≡ s → (announcement_in w m).flag ≢ Done → Alike (announcement_in w m) a

pub record Halfway (w : World) (m s : ℕ) : Type 0 where
  pub isnt : w.gate.holder ≡ Some m → w.gate.seq ≡ s → (announcement_in w m).flag ≢ Active

pub record Over (w : World) (m s : ℕ) : Type 0 where
  pub over : w.gate.holder ≡ Some m → w.gate.seq ≡ s → (announcement_in w m).flag ≡ Done

module _ {F : Frame} {i : ℕ} {w : World} (G : WorldInvariant F w) where
  pub seen_stays : {v : World} {m s : ℕ} → Move F i w v → Seen w m s → Seen v m s
  seen_stays stay o = o
  seen_stays (ask c lt Q) o = record { still = o.still }
  seen_stays (announce a lt Q fa A) o = record { still = o.still }
  seen_stays (leave lt fa) o = record { still = o.still }
  seen_stays {m = m} (take m' lt hn fl op z) o = record { still = λ l. absurd (nobody_process hn (o.still l).0) }
  seen_stays (write m v x vl hm fl below ex) o = record { still = o.still }
  seen_stays (end m lt hm fl all) o = record { still = o.still }
  seen_stays {m = m} {s} (free m' lt hm d) o = record {
    still =
        on_set (λ b. b < s → (◌≡◌ {A = Option ℕ} None (Some m)) × (w.gate.seq + 1 ≡ s)) w.left m' m w.gate.seq 0
        (omega arith)
        (λ e l. let z : w.gate.seq ≡ s = (o.still (omega (arith, G.left_below m))).1 in absurd (omega arith))
        (λ e l. let z : w.gate.holder ≡ Some m = (o.still l).0 in absurd (e (process_same (sym z ∙ hm))));
  }

  -- what others do to the one that j may give the gate to
  module _ {j m n : ℕ} (ne : j ≢ i) (E : Eligible w j m n) where
    eligible_ask : (q : Operation) → i < F.process_count → Quiet w i → n ≡ w.gate.seq → Eligible (asking w i q) j m n
    eligible_ask q lt Q now =
        on_set (λ o. MayHold (announcement_in w m) o (bound_in w m) j m n) w.calls i m q no_operation (omega arith)
        (λ z. absurd (asked z)) (λ _. E)
      where
        asked : m ≡ i → ⊥
        asked z =
            let ex : (announcement_in w m).flag ≡ Exit = else_exit _ E.alive (rw z Q.not_active) in
            let late : (announcement_in w m).flag ≡ Exit → bound_in w m < w.gate.seq = rw z Q.late in
            ⊎_elim (λ mj. ne (sym mj ∙ z)) (λ b. omega (arith, b ex, late ex)) E.right

    eligible_announce :
        (a : Announcement) → i < F.process_count → a.flag ≡ Active → operation_of a ≡ call_in w i →
        Eligible (announcing w i a) j m n
    eligible_announce a lt fa op =
        announcements_set G (λ r. MayHold r (call_in w m) (bound_in w m) j m n) i m a lt
        (λ z. record { alive = active_not_done fa; op = rw z op; right = inr (λ q. absurd (active_not_exit fa q)) }) (λ _. E)

    eligible_leave : i < F.process_count → n ≡ w.gate.seq → Eligible (leaving w i) j m n
    eligible_leave lt now = go (ℕ_discrete m i)
      where
        go : Dec (m ≡ i) → Eligible (leaving w i) j m n
        go (yes z) =
            rw (z, get_or-set_same w.announcements i _ open_announcement (omega arith), get_or-set_same w.bound i w.gate.seq 0 (omega arith))
            (record { alive = exit_not_done refl; op = rw z at E.op; right = inr (λ _. omega arith) })
        go (no z) = rw (get_or-set_other w.announcements i m _ open_announcement z, get_or-set_other w.bound i m _ 0 z) E

  pub nominated_stays : {v : World} {j m n : ℕ} → j ≢ i → Move F i w v → Nominated w j m n → Nominated v j m n
  nominated_stays ne stay o = o
  nominated_stays ne (ask c lt Q) o = record { below = o.below; fit = λ h e. eligible_ask ne (o.fit h e) c lt Q (sym e) }
  nominated_stays ne (announce a lt Q fa A) o =
      record { below = o.below; fit = λ h e. eligible_announce ne (o.fit h e) a lt fa (A.active_operation fa) }
  nominated_stays ne (leave lt fa) o = record { below = o.below; fit = λ h e. eligible_leave ne (o.fit h e) lt (sym e) }
  nominated_stays ne (take m lt hn fl op z) o = record { below = o.below; fit = λ h. absurd (nobody_process h refl) }
  nominated_stays ne (write m v x vl hm fl below ex) o = record { below = o.below; fit = o.fit }
  nominated_stays ne (end m lt hm fl all) o = record { below = o.below; fit = λ h. absurd (nobody_process h hm) }
  nominated_stays ne (free m lt hm d) o =
      record { below = omega (arith, o.below); fit = λ _ e. absurd (omega (arith, o.below)) }

  -- a claim about m's announcement while the gate is (m, s), which an exit request and the end of the operation keep
  module _ (P : Announcement → Type 0) (m s : ℕ) (exits : (r : Announcement) → r.flag ≡ Active → P r → P (flagged r Exit))
      (ends : (r : Announcement) (g : Gate) (o : Yield) → P (finished r g o)) (seen : Seen w m s)
      (f : w.gate.holder ≡ Some m → w.gate.seq ≡ s → P (announcement_in w m)) where
    held_stays : {v : World} → Move F i w v → v.gate.holder ≡ Some m → v.gate.seq ≡ s → P (announcement_in v m)
    held_stays stay h e = f h e
    held_stays (ask c lt Q) h e = f h e
    held_stays (announce a lt Q fa A) h e =
        announcements_set G P i m a lt (λ z. absurd (Q.free_of (h ∙ ap Some z))) (λ _. f h e)
    held_stays (leave lt fa) h e =
        announcements_set G P i m _ lt (λ z. rw (← z) (exits (announcement_in w m) (rw z fa) (f h e))) (λ _. f h e)
    held_stays (take m' lt hn fl op z) h e =
        absurd (nobody_process hn (seen.still (rw e at (G.left_below m))).0)
    held_stays (write m' v x vl hm fl below ex) h e = f h e
    held_stays (end m' lt hm fl all) h e =
        announcements_set G P m' m _ lt (λ _. ends (announcement_in w m') w.gate _) (λ _. f h e)
    held_stays (free m' lt hm d) h e = absurd (nobody_process refl h)

  pub working_stays :
      {v : World} {m s : ℕ} {a : Announcement} → Move F i w v → Seen w m s → Working w m s a → Working v m s a
  working_stays {m = m} {s} {a} M seen o = record {
    alike = held_stays (λ r. r.flag ≢ Done → Alike r a) m s
        (λ r fa q _. let z = q (active_not_done fa) in record { program = z.program; seq = z.seq; number = z.number; words = z.words; fault = z.fault })
        (λ r _ _ q. absurd (q refl)) seen o.alike M;
  }

  pub halfway_stays : {v : World} {m s : ℕ} → Move F i w v → Seen w m s → Halfway w m s → Halfway v m s
  halfway_stays {m = m} {s} M seen o = record {
    isnt = held_stays (λ r. r.flag ≢ Active) m s
        (λ r fa q z. active_not_exit z refl) (λ r _ _ z. active_not_done z refl) seen o.isnt M;
  }

  pub over_stays : {v : World} {m s : ℕ} → Move F i w v → Seen w m s → Over w m s → Over v m s
  over_stays {m = m} {s} M seen o = record {
    over = held_stays (λ r. r.flag ≡ Done) m s
        (λ r fa q. absurd (active_not_done fa q)) (λ r _ _. refl) seen o.over M;
  }

  -- the gate's number does not fall
  pub below_stays : {v : World} {n : ℕ} → Move F i w v → n ≤ w.gate.seq → n ≤ v.gate.seq
  below_stays M h = omega (arith, (seq_move M).0)

  -- a record keeps, or gets the gate's number
  pub record_stays : {v : World} → Move F i w v → (u : ℕ) → (record_in v u ≡ record_in w u) ⊎ ((record_in v u).seq ≡ w.gate.seq)
  unfolding rewritten
  record_stays stay u = inl refl
  record_stays (ask c lt Q) u = inl refl
  record_stays (announce a lt Q fa A) u = inl refl
  record_stays (leave lt fa) u = inl refl
  record_stays (take m lt hn fl op z) u = inl refl
  record_stays (write m v x vl hm fl below ex) u =
      on_set (λ r. (r ≡ record_in w u) ⊎ (r.seq ≡ w.gate.seq)) w.records v u
      (rewritten (record_in w v) x w.gate.seq) (open_record 0) (omega arith) (λ _. inr refl) (λ _. inl refl)
  record_stays (end m lt hm fl all) u = inl refl
  record_stays (free m lt hm d) u = inl refl

  -- a round stays
  pub round_stays :
      {v : World} → Move F i w v → (s : ℕ) → s < length w.rounds → (round_in v s ≡ round_in w s) × (s < length v.rounds)
  round_stays stay s h = (refl, h)
  round_stays (ask c lt Q) s h = (refl, h)
  round_stays (announce a lt Q fa A) s h = (refl, h)
  round_stays (leave lt fa) s h = (refl, h)
  round_stays (take m lt hn fl op z) s h =
      (get_or-append w.rounds _ no_round s h, rw length-append (omega arith))
  round_stays (write m v x vl hm fl below ex) s h = (refl, h)
  round_stays (end m lt hm fl all) s h = (refl, h)
  round_stays (free m lt hm d) s h = (refl, h)
