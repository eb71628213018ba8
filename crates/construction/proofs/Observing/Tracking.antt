-- What the observer's notes have to do with the world: how each move keeps it, and how a call and a return do.
use Prim.Native.Nat.{ℕ, suc, ◌≤◌, ◌<◌}
use mathlib.Core.Path.{◌≡◌, refl, sym, subst, ap, ◌∙◌}
use mathlib.Core.Bool.{Bool, true, false, cond, ◌&&◌, true≢false, false≢true}
use mathlib.Core.Logic.{◌≢◌, ◌⊎◌, inl, inr, ⊎_elim}
use mathlib.Core.List.{List, [], ◌∷◌}
use native.Mathlib.Omega.{arith}
use native.Mathlib.Nat.{zero-add}
use native.Mathlib.Decide.{ℕ_discrete}
use lib.ListN.{length, get_or, set}
use lib.Seq.{get_or-set_same, get_or-set_other}
use Rattle.std.specs.Prelude.{Some}
use Rattle.construction.specs.Types.{Flag, Done, Active, Exit, Announcement, Operation, Card, Program}
use Rattle.construction.specs.Cells.{is_done, open_announcement}
use Rattle.construction.specs.Sequential.{Ending, sequential}
use Rattle.construction.specs.Parts.{no_operation, contents_of}
use Rattle.construction.specs.History.{Invocation, Finish, History, has_called, latest, latest_call, turned, bench_run, with_finish, Return, Event}
use Rattle.construction.specs.History.{with_response, text_at, Replacement}
use Rattle.construction.proofs.Basics.{on_set, true_false, ne-is_done}
use Rattle.construction.proofs.Observing.Histories.{on_equal, chosen, passed, latest_below, latest_apart, agree_longer, caller_latest, latest_asked}
use Rattle.construction.proofs.Observing.Histories.{turns, turned_same, turned_not, turned_one}
use Rattle.construction.proofs.Invariant.World.{World, announcement_in, call_in, Result, no_result, result_in, result_of, ending_in, WorldInvariant, asking}
use Rattle.construction.proofs.Invariant.World.{ending, Move, Frame, changing}
use Rattle.construction.proofs.Invariant.World.Move.{stay, ask, announce, leave, take, write, end, free}
use Rattle.construction.proofs.Invariant.WorldKept.{announcements_set, ends_now}
use Rattle.construction.specs.Linearizability.{times, finish_of, has_returned, Numbered, Agrees, AllAgree, ReturnedOnce, UnderWay}
use Rattle.construction.specs.Numbers.{caller_of, latest_finish}

-- the flag of process j is done
abbrev pub done_in : World → ℕ → Bool
done_in w j = is_done (announcement_in w j).flag

-- what a call asked for
abbrev pub request_of : Invocation → Operation
request_of x = record { program = x.program; inputs = x.inputs }

-- what the order has to say of an operation with a result
abbrev pub finish_as : ℕ → Result → Finish
finish_as k r = record { operation = k; gate = r.number; yields = r.yields }

-- what an operation in the order came to
abbrev pub result_from : Finish → Result
result_from f = record { number = f.gate; yields = f.yields }

-- Process j has an operation under way, its latest taken call. That stands in the order once if it has ended,
-- with its gate number and what the sequential run yields, and else not.
pub record Operating (ended : Bool) (call : Operation) (result : Result) (s : History) (j : ℕ) : Type 0 where
  pub asked : has_called s.operations j ≡ true
  pub request : request_of (latest_call s.operations j) ≡ call
  pub unreturned : has_returned (latest s.operations j) s.returns ≡ false
  pub pending : ended ≡ false → times (latest s.operations j) s.order ≡ 0
  pub over :
      ended ≡ true →
      (times (latest s.operations j) s.order ≡ 1) × (finish_of (latest s.operations j) s.order ≡ finish_as (latest s.operations j) result)

-- it has ended where it is announced and its flag is done
abbrev pub Own : Bool → World → History → ℕ → Type 0
Own announced w s j = Operating (announced && done_in w j) (call_in w j) (result_in w j) s j

-- The notes go with the world of p processes, of which some are busy and some have announced their operations
pub record Tracks (p : ℕ) (busy announced : ℕ → Bool) (w : World) (s : History) : Type 0 where
  pub words : s.words ≡ w.words
  pub count : suc (length s.order) ≡ w.count
  pub numbers : Numbered s.order
  pub agree : AllAgree s.order s.returns
  pub single : ReturnedOnce s.returns
  pub once : (k : ℕ) → times k s.order ≤ 1
  pub known : (k : ℕ) → length s.operations ≤ k → times k s.order ≡ 0
  pub unborn : (k : ℕ) → length s.operations ≤ k → has_returned k s.returns ≡ false
  pub own : (j : ℕ) → j < p → busy j ≡ true → Own (announced j) w s j
  pub last : (j : ℕ) → j < p → done_in w j ≡ true → result_of (announcement_in w j) ≡ result_from (latest_finish s.operations s.order j)

pub under_way_lem : {ended : Bool} {call : Operation} {result : Result} {s : History} {j : ℕ} → Operating ended call result s j → UnderWay s j
under_way_lem O = record { called = O.asked; unreturned = O.unreturned }

-- a move that finishes nothing, and one that finishes the operation of m
pub record NothingFinishes (announced : ℕ → Bool) (w v : World) : Type 0 where
  pub none : turned 0 w.announcements v.announcements ≡ []
  pub words : v.words ≡ w.words
  pub count : v.count ≡ w.count
  pub results : v.results ≡ w.results
  pub done : (j : ℕ) → announced j ≡ true → done_in v j ≡ done_in w j
  pub kept : (j : ℕ) → done_in v j ≡ true → announcement_in v j ≡ announcement_in w j

pub record OneFinishes (F : Frame) (w v : World) : Type 0 where
  pub process : ℕ
  pub inside : process < F.process_count
  pub held : w.gate.holder ≡ Some process
  pub undone : (announcement_in w process).flag ≢ Done
  pub becomes : v ≡ ending F w process

turns_undone : (f g : Flag) → is_done g ≡ false → turns f g ≡ false
turns_undone Done g h = refl
turns_undone Active g h = h
turns_undone Exit g h = h

module _ {F : Frame} {w : World} (announced : ℕ → Bool) (G : WorldInvariant F w) where
  -- a move that changes none of what the observer sees
  calm_same : {v : World} → v.announcements ≡ w.announcements → v.words ≡ w.words → v.count ≡ w.count → v.results ≡ w.results →
      NothingFinishes announced w v
  calm_same a b c d =
      record {
        none = ap (turned 0 w.announcements) a ∙ turned_same 0 w.announcements;
        words = b;
        count = c;
        results = d;
        done = λ j t. ap (λ (l : List Announcement). is_done (get_or l j open_announcement).flag) a;
        kept = λ j t. ap (λ (l : List Announcement). get_or l j open_announcement) a;
      }

  -- a move that sets the announcement of i to one that is not done, where that of an announced operation was not done either
  calm_set :
      {v : World} (i : ℕ) (a : Announcement) → i < F.process_count → v.announcements ≡ set w.announcements i a → v.words ≡ w.words →
      v.count ≡ w.count → v.results ≡ w.results → is_done a.flag ≡ false → (announced i ≡ true → done_in w i ≡ false) →
      NothingFinishes announced w v
  calm_set i a lt z b c d undone before =
      let size : i < length w.announcements = omega (arith, G.lengths.announcements, G.fits.few) in
      record {
        none = rw z (turned_not 0 w.announcements i a (turns_undone (announcement_in w i).flag a.flag undone));
        words = b;
        count = c;
        results = d;
        done = λ j t. rw z (on_set (λ x. is_done x.flag ≡ done_in w j) w.announcements i j a open_announcement size
            (λ e. undone ∙ sym (rw e (before (rw (← e) t)))) (λ _. refl));
        kept = λ j. rw z (on_set (λ x. is_done x.flag ≡ true → x ≡ announcement_in w j) w.announcements i j a open_announcement size
            (λ e t. absurd (true_false _ t undone)) (λ _ _. refl));
      }

  -- every move is one of the two, if a process that has announced its operation does not announce again
  pub kind_of :
      {i : ℕ} {v : World} → Move F i w v → (announced i ≡ true → (announcement_in v i).flag ≡ Active → (announcement_in w i).flag ≡ Active) →
      NothingFinishes announced w v ⊎ OneFinishes F w v
  kind_of stay only = inl (calm_same refl refl refl refl)
  kind_of (ask q lt Q) only = inl (calm_same refl refl refl refl)
  kind_of {i} (announce a lt Q fa A) only =
      inl (calm_set i a lt refl refl refl refl (ap is_done fa) (λ t.
      absurd (Q.not_active (only t (announcements_set G (λ x. x.flag ≡ Active) i i a lt (λ _. fa) (λ ne. absurd (ne refl)))))))
  kind_of {i} (leave lt fa) only = inl (calm_set i _ lt refl refl refl refl refl (λ _. ap is_done fa))
  kind_of (take m lt hn fl op z) only = inl (calm_same refl refl refl refl)
  kind_of (write m u x vl hm fl below ex) only = inl (calm_same refl refl refl refl)
  kind_of (end m lt hm fl all) only = inr (record { process = m; inside = lt; held = hm; undone = fl; becomes = refl })
  kind_of (free m lt hm d) only = inl (calm_same refl refl refl refl)

pub turned_ends : {F : Frame} {w v : World} → WorldInvariant F w → (E : OneFinishes F w v) → turned 0 w.announcements v.announcements ≡ E.process ∷ []
turned_ends {F} {w} G E =
    rw E.becomes
    (turned_one 0 w.announcements E.process _ (omega (arith, G.lengths.announcements, G.fits.few, E.inside))
    (rw (ne-is_done _ E.undone) refl) ∙ rw zero-add)

-- a move that finishes nothing
same_and : (a : Bool) {b c : Bool} → (a ≡ true → b ≡ c) → a && b ≡ a && c
same_and true f = f refl
same_and false f = refl

own_calm :
    (a : Bool) (w v : World) (s : History) (j : ℕ) → (a ≡ true → done_in v j ≡ done_in w j) → v.results ≡ w.results → v.calls ≡ w.calls →
    Own a w s j → Own a v s j
own_calm a w v s j d e f O = rw (same_and a d, e, f) O

pub tracks_calm :
    {p : ℕ} {busy announced : ℕ → Bool} {w v : World} {s : History} → NothingFinishes announced w v → v.calls ≡ w.calls →
    Tracks p busy announced w s → Tracks p busy announced v s
tracks_calm {announced = announced} {w = w} {v} {s} C f T =
    record {
      words = T.words ∙ sym C.words;
      count = T.count ∙ sym C.count;
      numbers = T.numbers;
      agree = T.agree;
      once = T.once;
      known = T.known;
      unborn = T.unborn;
      own = λ j lt b. own_calm (announced j) w v s j (C.done j) C.results f (T.own j lt b);
      single = T.single;
      last = λ j lt t.
          let e = C.kept j t in
          ap result_of e ∙ T.last j lt (sym (ap (λ (a : Announcement). is_done a.flag) e) ∙ t);
    }

-- a move that finishes the operation of m, whose number the sequential run gives it too
module _
    (o : Card) {F : Frame} {p : ℕ} {busy announced : ℕ → Bool} {w : World} {s : History} (G : WorldInvariant F w) (T : Tracks p busy announced w s)
    (m : ℕ) (lt : m < F.process_count) (held : w.gate.holder ≡ Some m) (undone : (announcement_in w m).flag ≢ Done)
    (O : Own true w s m) (vs : o.variable_count ≡ F.variable_count)
    (co : (k number : ℕ) → text_at (contents_of o) s.changes k number ≡ F.program_at k number) where
  number_is : w.gate.seq ≡ suc (length s.order)
  number_is = sym (T.count ∙ (ends_now G m held undone).0)

  same_run : bench_run o s.changes (suc (length s.order)) (latest_call s.operations m) s.words ≡ ending_in F w w.gate.seq
  same_run =
      ap
      (λ (q : Operation). sequential o.variable_count (text_at (contents_of o) s.changes q.program (suc (length s.order))) q.inputs s.words)
      O.request
      ∙ (rw (co, vs, T.words, ← number_is) refl ∙ sym (ends_now G m held undone).1)

  size : m < 8
  size = omega (arith, G.fits.few)

  own_ended : (j : ℕ) → j ≢ m → (a : Bool) → Own a w s j → Own a (ending F w m) (with_finish o w.gate.seq m s) j
  unfolding times finish_of
  own_ended j ne a Q =
      let far : latest s.operations m ≢ latest s.operations j = latest_apart s.operations m j (λ e. ne (sym e)) O.asked Q.asked in
      rw (get_or-set_other w.announcements m j _ open_announcement ne, get_or-set_other w.results m j _ no_result ne)
      (record {
        asked = Q.asked;
        request = Q.request;
        unreturned = Q.unreturned;
        pending = λ z. passed _ _ _ _ far ∙ Q.pending z;
        over = λ z. let q = Q.over z in (passed _ _ _ _ far ∙ q.0, passed _ _ _ _ far ∙ q.1);
      })

  own_finished : Own true (ending F w m) (with_finish o w.gate.seq m s) m
  unfolding times finish_of
  own_finished =
      rw (
        get_or-set_same w.announcements m _ open_announcement (omega (arith, size, G.lengths.announcements)),
        get_or-set_same w.results m _ no_result (omega (arith, size, G.lengths.results)),
      )
      (record {
        asked = O.asked;
        request = O.request;
        unreturned = O.unreturned;
        pending = λ z. absurd (true≢false z);
        over = λ _. (
          chosen (latest s.operations m) _ _ (times (latest s.operations m) s.order) refl ∙ ap suc (O.pending (ne-is_done _ undone)),
          chosen (latest s.operations m) _ _ (finish_of (latest s.operations m) s.order) refl
              ∙ ap (λ (e : Ending). record { operation = latest s.operations m; gate = w.gate.seq; yields = e.yields }) same_run,
        );
      })

  pub tracks_finished : announced m ≡ true → Tracks p busy announced (ending F w m) (with_finish o w.gate.seq m s)
  unfolding times latest_finish
  tracks_finished ann =
      record {
        words = ap (λ (e : Ending). e.words) same_run;
        count = ap suc T.count;
        numbers = (number_is, T.numbers);
        agree = agree_longer _ s.order s.returns O.unreturned T.agree;
        once = λ k.
            on_equal (λ b. cond b (suc (times k s.order)) (times k s.order) ≤ 1) (latest s.operations m) k
            (λ e. let z : times k s.order ≡ 0 = rw (← e) (O.pending (ne-is_done _ undone)) in omega arith) (λ _. T.once k);
        known = λ k h.
            let far : latest s.operations m ≢ k = λ e. omega (arith, latest_below s.operations m O.asked) in
            passed _ _ _ _ far ∙ T.known k h;
        unborn = T.unborn;
        own = λ j l b. one j (ℕ_discrete j m) (T.own j l b);
        single = T.single;
        last = λ j l.
            announcements_set G
            (λ x. is_done x.flag ≡ true → result_of x ≡ result_from (latest_finish s.operations (with_finish o w.gate.seq m s).order j))
            m j _ lt
            (λ e _. rw e
            (ap (λ (x : Ending). record { number = w.gate.seq; yields = x.yields }) (sym same_run)
            ∙ ap result_from (sym (chosen _ m _ (latest_finish s.operations s.order m) caller))))
            (λ ne t. T.last j l t ∙ ap result_from (sym (passed _ j _ (latest_finish s.operations s.order j) (λ q. ne (sym q ∙ caller)))));
      }
    where
      one : (j : ℕ) → Dec (j ≡ m) → Own (announced j) w s j → Own (announced j) (ending F w m) (with_finish o w.gate.seq m s) j
      one j (yes e) Q = rw (e, ann) own_finished
      one j (no ne) Q = own_ended j ne (announced j) Q

      caller : caller_of s.operations (latest s.operations m) ≡ m
      caller = caller_latest s.operations m O.asked

-- process i goes on at another place with its operation under way: unannounced only if it was, and announced only if it was or just then
pub own_next :
    {a b : Bool} (w : World) {s : History} {i : ℕ} → (b ≡ false → a ≡ false) → (b ≡ true → (a ≡ true) ⊎ ((announcement_in w i).flag ≡ Active)) →
    Own a w s i → Own b w s i
own_next {a} {b} w {s} {i} f g O = rw (same a b f g) O
  where
    same :
        (a b : Bool) → (b ≡ false → a ≡ false) → (b ≡ true → (a ≡ true) ⊎ ((announcement_in w i).flag ≡ Active)) → b && done_in w i ≡ a && done_in w i
    same true true f g = refl
    same true false f g = absurd (true≢false (f refl))
    same false true f g = ⊎_elim (λ t. absurd (false≢true t)) (ap is_done) (g refl)
    same false false f g = refl

-- the processes of another card, all but i as they were
module _
    {p : ℕ} {busy announced busy' announced' : ℕ → Bool} {w : World} {s : History} (i : ℕ)
    (others : (j : ℕ) → j ≢ i → (busy' j ≡ busy j) × (announced' j ≡ announced j)) (T : Tracks p busy announced w s) where
  -- by cases on whose operation is meant
  on_process :
      (P : ℕ → Type 0) → (busy' i ≡ true → P i) → ((j : ℕ) → j ≢ i → Own (announced' j) w s j → P j) →
      (j : ℕ) → j < p → busy' j ≡ true → P j
  on_process P mine other j l b = go (ℕ_discrete j i)
    where
      go : Dec (j ≡ i) → P j
      go (yes e) = subst P (sym e) (mine (rw (← e) b))
      go (no ne) = other j ne (rw (others j ne).1 (T.own j l (sym (others j ne).0 ∙ b)))

  -- process i goes on
  pub tracks_place : (busy' i ≡ true → Own (announced' i) w s i) → Tracks p busy' announced' w s
  tracks_place mine =
      record {
        words = T.words;
        count = T.count;
        numbers = T.numbers;
        agree = T.agree;
        once = T.once;
        known = T.known;
        unborn = T.unborn;
        own = on_process (λ j. Own (announced' j) w s j) mine (λ j ne O. O);
        single = T.single;
        last = T.last;
      }

  -- a call of process i is taken
  pub tracks_called :
      {F : Frame} (x : Invocation) → WorldInvariant F w → i < F.process_count → x.process ≡ i → announced' i ≡ false →
      Tracks p busy' announced' (asking w i (request_of x))
      (record { operations = x ∷ s.operations; order = s.order; returns = s.returns; changes = s.changes; words = s.words })
  unfolding has_called latest latest_call
  tracks_called x G lt e quiet =
      record {
        words = T.words;
        count = T.count;
        numbers = T.numbers;
        agree = T.agree;
        once = T.once;
        known = λ k h. T.known k (omega arith);
        unborn = λ k h. T.unborn k (omega arith);
        own = on_process (λ j. Own (announced' j) (asking w i (request_of x)) after j) (λ _. new) old;
        single = T.single;
        last = λ j l t. T.last j l t ∙ ap result_from (sym (latest_asked x s.operations s.order j T.known));
      }
    where
      after : History
      after = record { operations = x ∷ s.operations; order = s.order; returns = s.returns; changes = s.changes; words = s.words }

      new : Own (announced' i) (asking w i (request_of x)) after i
      new =
          let number : latest (x ∷ s.operations) i ≡ length s.operations = chosen x.process i _ (latest s.operations i) e in
          rw (quiet, get_or-set_same w.calls i (request_of x) no_operation (omega (arith, G.lengths.calls, G.fits.few)))
          (record {
            asked = chosen x.process i true (has_called s.operations i) e;
            request = ap request_of (chosen x.process i x (latest_call s.operations i) e);
            unreturned = rw number (T.unborn (length s.operations) (omega arith));
            pending = λ _. rw number (T.known (length s.operations) (omega arith));
            over = λ t. absurd (false≢true t);
          })

      old : (j : ℕ) → j ≢ i → Own (announced' j) w s j → Own (announced' j) (asking w i (request_of x)) after j
      old j ne O =
          let q : x.process ≢ j = λ r. ne (sym r ∙ e) in
          let number : latest (x ∷ s.operations) j ≡ latest s.operations j = passed x.process j (length s.operations) _ q in
          rw (get_or-set_other w.calls i j (request_of x) no_operation ne)
          (record {
            asked = passed x.process j true (has_called s.operations j) q ∙ O.asked;
            request = ap request_of (passed x.process j x (latest_call s.operations j) q) ∙ O.request;
            unreturned = rw number O.unreturned;
            pending = λ t. rw number (O.pending t);
            over = λ t. rw number (O.over t);
          })

  -- process i returns as the order says
  pub tracks_returned :
      {ended : Bool} {call : Operation} {result : Result} (r : Return) → Operating ended call result s i →
      Agrees s.order (latest s.operations i) r → busy' i ≡ false →
      Tracks p busy' announced' w (with_response s i (Event.returned r))
  unfolding has_returned
  tracks_returned r O agrees idle =
      record {
        words = T.words;
        count = T.count;
        numbers = T.numbers;
        agree = (agrees, T.agree);
        once = T.once;
        known = T.known;
        unborn = λ k h.
            let far : latest s.operations i ≢ k = λ e. omega (arith, latest_below s.operations i O.asked) in
            passed _ _ _ _ far ∙ T.unborn k h;
        own = on_process (λ j. Own (announced' j) w (with_response s i (Event.returned r)) j) (λ t. absurd (true_false _ t idle)) (λ j ne Q. record {
          asked = Q.asked;
          request = Q.request;
          unreturned = passed _ _ _ _ (latest_apart s.operations i j (λ e. ne (sym e)) O.asked Q.asked) ∙ Q.unreturned;
          pending = Q.pending;
          over = Q.over;
        });
        single = (O.unreturned, T.single);
        last = T.last;
      }

-- a change is noted: the world and the notes are as they were but for the texts
pub tracks_changed :
    {p : ℕ} {busy announced : ℕ → Bool} {w : World} {s : History} {texts : ℕ → ℕ → Program} {x : Replacement} → Tracks p busy announced w s →
    Tracks p busy announced (changing w texts)
    (record { operations = s.operations; order = s.order; returns = s.returns; changes = x ∷ s.changes; words = s.words })
tracks_changed T =
    record {
      words = T.words;
      count = T.count;
      numbers = T.numbers;
      agree = T.agree;
      single = T.single;
      once = T.once;
      known = T.known;
      unborn = T.unborn;
      own = λ j l b. let O = T.own j l b in
          record { asked = O.asked; request = O.request; unreturned = O.unreturned; pending = O.pending; over = O.over };
      last = T.last;
    }
