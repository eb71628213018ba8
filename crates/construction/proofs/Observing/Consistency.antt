-- Card, world and notes go together, and every entry keeps them so.
use Rattle.std.specs.Prelude.{Ok}
use Prim.Native.Nat.{ℕ, ◌<◌}
use mathlib.Core.Path.{◌≡◌, refl, sym, subst, ap, ◌∙◌}
use mathlib.Core.Bool.{Bool, true, false, not}
use mathlib.Core.Logic.{◌≢◌, ◌⊎◌, inl, inr, ⊎_elim}
use mathlib.Core.List.{List, [], ◌∷◌}
use native.Mathlib.Omega.{arith}
use lib.ListN.{length, get_or}
use lib.Seq.{get_or-set_same, get_or-set_other, set-get_or}
use borrow.Author.Tests.{lt-ltb, not-true, ltb-true}
use Rattle.construction.specs.Types.{Gate, Flag, Done, Active, Exit, Words, Announcement, Label, P1, P3, P5, Control, Card, Refusal, Answer, Answered}
use Rattle.construction.specs.Types.{Contents, Program}
use Rattle.construction.specs.Cells.{is_done, open_announcement}
use Rattle.construction.specs.Parts.{idle_control, contents_of, local_at, with_local, Local, with_revision}
use Rattle.construction.specs.Machine.{advance}
use Rattle.construction.specs.Requests.{is_variable, is_idle, is_busy, refused, answer_of, read, invoked, exiting, is_program}
use Rattle.construction.specs.History.{Entry, act, Steps, Invocation, History, turned, finishing, with_finish, with_finishes, Return, Event, event_of}
use Rattle.construction.specs.History.{with_response, with_entry, Observation, observe, Replacement, text_at}
use Rattle.construction.proofs.Basics.{true_or_false, true_false, cond_false, and_true}
use Rattle.construction.proofs.Observing.Histories.{turned_same, finished_changes, returned_changes}
use Rattle.construction.proofs.Statements.OneAccess.{one_access}
use Rattle.construction.proofs.Observing.Outcomes.{Outcome, outcome}
use Rattle.construction.proofs.Invariant.World.{World, announcement_in, result_in, WorldInvariant, ending, asking, frame_of, changing, with_text}
use Rattle.construction.proofs.Invariant.Stages.{is_announced, stage, announced_busy, busy_stage, announced_next}
use Rattle.construction.proofs.Invariant.Cards.{CardInvariant, Stepped, gate_is, announcements_is, inv_call, inv_exit, inv_step}
use Rattle.construction.proofs.Invariant.Answers.{read_is, answer_is, holder_announced}
use Rattle.construction.proofs.Invariant.NextPlaces.{P1-next, P3-next, P3-active}
use Rattle.construction.proofs.Invariant.ActiveFlags.{active_before}
use Rattle.construction.proofs.Observing.Tracking.{request_of, Own, Tracks, under_way_lem, NothingFinishes, OneFinishes, kind_of, turned_ends, tracks_calm}
use Rattle.construction.proofs.Observing.Tracking.{tracks_finished, own_next, tracks_place, tracks_called, tracks_returned, tracks_changed}
use Rattle.construction.specs.Linearizability.{FinishesOne, FinishesAtMostOne}
use lib.Dec.{ltb}
use Rattle.construction.specs.Changes.{change_read, is_unsettled, unchanged, changed}
use Rattle.construction.proofs.Text.Bounds.{change_bounded}
use Rattle.construction.proofs.Invariant.WorldKept.{texts_move}
use Rattle.construction.proofs.Invariant.Changing.{inv_change}

-- the processes of a card that have announced their operation
abbrev announced_in : Card → ℕ → Bool
announced_in c j = is_announced (local_at c j).control.place

abbrev Follows : Card → Card → World → History → Type 0
Follows o c w s = Tracks o.process_count (is_busy c) (announced_in c) w s

-- a moment in which card, world and notes go together
pub record Consistent (o : Card) (m : Observation) : Type 0 where
  pub world : World
  pub inv : CardInvariant m.card world
  pub tracks : Follows o m.card world m.history
  pub text : contents_of m.card ≡ contents_of o
  pub changes : (k number : ℕ) → text_at (contents_of o) m.history.changes k number ≡ world.texts k number

-- the moment after an entry with a given answer
abbrev after : Card → Observation → Entry → Answered → Observation
after o m e r =
    record {
      card = r.card;
      history = with_entry o (with_finishes o m.card.gate.seq (finishing m.card r.card) m.history) e (event_of r.answer);
    }

module _ (o : Card) (m : Observation) (O : Consistent o m) where
  abbrev c : Card
  c = m.card

  abbrev s : History
  s = m.history

  abbrev w : World
  w = O.world

  -- an entry that turns no flag
  unturned :
      (d : Card) (e : Entry) (a : Answer) → c.announcements ≡ d.announcements →
      Consistent o (record { card = d; history = with_entry o s e (event_of a) }) → Consistent o (after o m e (record { card = d; answer = a }))
  unfolding with_finishes
  unturned d e a z O' = subst (λ (n : History). Consistent o (record { card = d; history = with_entry o n e (event_of a) })) (sym none) O'
    where
      none : with_finishes o c.gate.seq (finishing c d) s ≡ s
      none = rw (← z, turned_same 0 c.announcements)

  good : WorldInvariant (frame_of c w) w
  good = O.inv.good

  has_control : {i : ℕ} → i < c.process_count → i < length c.controls
  has_control lt = omega (arith, O.inv.sizes.controls, good.fits.few)

  processes_is : c.process_count ≡ o.process_count
  processes_is = ap (λ (x : Contents). x.process_count) O.text

  -- an entry that is refused
  refused_kept : (e : Entry) (why : Refusal) → Consistent o (after o m e (refused c why))
  refused_kept e why = unturned c e (Answer.Refused why) refl (rw (noted_refused e) O)
    where
      noted_refused : (e : Entry) → with_entry o s e Event.none ≡ s
      noted_refused (Entry.Call i k inputs) = refl
      noted_refused (Entry.Exit i) = refl
      noted_refused (Entry.Step i) = refl
      noted_refused (Entry.Trace i) = refl
      noted_refused (Entry.Read v) = refl
      noted_refused (Entry.Change k from t) = refl

  -- a read and an exit request
  read_kept : (v x : ℕ) → Consistent o (after o m (Entry.Read v) (record { card = c; answer = Answer.Value x }))
  read_kept v x = unturned c (Entry.Read v) (Answer.Value x) refl O

  exit_kept : (i : ℕ) → i < c.process_count → Consistent o
      (after o m (Entry.Exit i) (record { card = with_local c i (exiting (local_at c i)); answer = Answer.Taken }))
  exit_kept i lt =
      unturned (with_local c i (exiting (local_at c i))) (Entry.Exit i) Answer.Taken refl
      (record { world = w; inv = inv_exit c w i O.inv lt; tracks = simp set-get_or O.tracks; text = O.text; changes = O.changes })

  -- a call
  call_kept :
      (i k : ℕ) (inputs : Words) → i < c.process_count → is_busy c i ≡ false →
      Consistent o (after o m (Entry.Call i k inputs) (record { card = with_local c i (invoked (local_at c i) k inputs); answer = Answer.Taken }))
  call_kept i k inputs lt f =
      let x : Invocation = record { process = i; program = k; inputs = inputs } in
      let d = with_local c i (invoked (local_at c i) k inputs) in
      let others : (j : ℕ) → j ≢ i → (is_busy d j ≡ is_busy c j) × (announced_in d j ≡ announced_in c j) =
      λ j ne. rw (get_or-set_other c.controls i j (record { place = P1; target = 0 }) idle_control ne) (refl, refl) in
      let here : (local_at d i).control ≡ record { place = P1; target = 0 } =
      get_or-set_same c.controls i _ idle_control (has_control lt) in
      unturned d (Entry.Call i k inputs) Answer.Taken refl
      (record {
        world = asking w i (request_of x);
        inv = inv_call c w i k inputs O.inv lt f;
        tracks = tracks_called i others O.tracks x good lt refl (ap (λ (t : Control). is_announced t.place) here);
        text = O.text;
        changes = O.changes;
      })

  -- a change that is refused, and one that is taken
  unaltered_kept : (k from : ℕ) (t : List ℕ) (why : Refusal) (line : ℕ) → Consistent o (after o m (Entry.Change k from t) (unchanged c why line))
  unaltered_kept k from t why line = unturned c (Entry.Change k from t) (Answer.RefusedAt why line) refl O

  altered_kept :
      (k from : ℕ) (t : List ℕ) → is_program c k ≡ true → (change_read (contents_of c) t).verdict ≡ Ok tt → c.gate.seq < from →
      is_unsettled c k ≡ false →
      Consistent o (after o m (Entry.Change k from t)
      (changed c k from (change_read (contents_of c) t).program))
  unfolding text_at
  altered_kept k from t p a ahead settled =
      let y = (change_read (contents_of c) t).program in
      let bounds = change_bounded (contents_of c) t a in
      unturned (with_revision c k from y) (Entry.Change k from t) Answer.Taken refl
      (record {
        world = changing w (with_text w.texts k from y);
        inv =
            inv_change c w k from y O.inv (ltb-true k 8 (and_true (ltb k c.program_count) _ p).1) ahead settled
            (record { ends = bounds.ends; light = bounds.light; some = λ h. O.inv.texts.some (omega (arith, bounds.lighter)) }) bounds.lighter;
        tracks = tracks_changed O.tracks;
        text = O.text;
        changes = λ j number.
            rw (ap (λ (x : Contents). (change_read x t).program) (sym O.text), O.changes j number);
      })

  -- an accepted step of process i
  module _ (i : ℕ) (lt : i < c.process_count) (b : is_busy c i ≡ true) (l : c.steps < c.limit) where
    abbrev d : Card
    d = advance c i

    S : Stepped c w i
    S = inv_step c w i O.inv lt b l

    abbrev noticed : History
    noticed = with_finishes o c.gate.seq (finishing c d) s

    finishing_is : finishing c d ≡ turned 0 w.announcements S.after.announcements
    finishing_is =
        ap (λ (x : List Announcement). turned 0 x d.announcements) (announcements_is O.inv)
        ∙ ap (turned 0 w.announcements) (announcements_is S.inv)

    only : announced_in c i ≡ true → (announcement_in S.after i).flag ≡ Active → (announcement_in w i).flag ≡ Active
    only t h =
        let flag : List Announcement → Flag = λ x. (get_or x i open_announcement).flag in
        ap flag (sym (announcements_is O.inv)) ∙ active_before c i t (ap flag (announcements_is S.inv) ∙ h)

    kind : NothingFinishes (announced_in c) w S.after ⊎ OneFinishes (frame_of c w) w S.after
    kind = kind_of (announced_in c) good S.move only

    -- the operation that an ending move finishes
    module _ (E : OneFinishes (frame_of c w) w S.after) where
      ends_announced : announced_in c E.process ≡ true
      ends_announced = holder_announced O.inv E.process E.inside E.held

      ends_own : Own true w s E.process
      ends_own =
          subst (λ (a : Bool). Own a w s E.process) ends_announced
          (O.tracks.own E.process (rw processes_is at E.inside)
          (announced_busy (stage (local_at c E.process).control.place) ends_announced))

      ends_one : finishing c d ≡ E.process ∷ []
      ends_one = finishing_is ∙ turned_ends good E

    -- the notes after the step and before its answer
    abbrev Moved : World → History → Type 0
    Moved = Tracks o.process_count (is_busy c) (announced_in c)

    moved : Moved S.after noticed
    unfolding with_finishes
    moved = ⊎_elim calm ends kind
      where
        calm : NothingFinishes (announced_in c) w S.after → Moved S.after noticed
        calm C = rw (finishing_is ∙ C.none) (tracks_calm C S.calls_is O.tracks)

        ends : OneFinishes (frame_of c w) w S.after → Moved S.after noticed
        ends E =
            rw (ends_one E, E.becomes)
            (subst (λ (g : Gate). Moved (ending (frame_of c w) w E.process) (with_finish o g.seq E.process s)) (sym (gate_is O.inv))
            (tracks_finished o good O.tracks E.process E.inside E.held E.undone (ends_own E)
            (ap (λ (x : Contents). x.variable_count) (sym O.text))
            O.changes (ends_announced E)))

    others : (j : ℕ) → j ≢ i → (is_busy d j ≡ is_busy c j) × (announced_in d j ≡ announced_in c j)
    others j ne =
        let h : (local_at d j).control.place ≡ (local_at c j).control.place = ap (λ (t : Local). t.control.place) (S.elsewhere j ne) in
        rw h (refl, refl)

    abbrev own_place : Label
    own_place = (local_at c i).control.place

    abbrev next_place : Label
    next_place = (local_at d i).control.place

    -- the operation of i itself
    own_moved : Own (announced_in c i) S.after noticed i
    own_moved = moved.own i (rw processes_is at lt) b

    own_stage : (own_place ≡ P1) ⊎ (own_place ≡ P3) ⊎ (is_announced own_place ≡ true)
    own_stage = busy_stage (stage own_place) b

    has_announcement : i < length c.announcements
    has_announcement =
        omega (arith, good.lengths.announcements, ap length (announcements_is O.inv), good.fits.few)

    at-P1 : own_place ≡ P1 → next_place ≡ P3
    at-P1 h = P1-next c i (has_control lt) h

    at-P3 : own_place ≡ P3 → next_place ≡ P5
    at-P3 h = P3-next c i (has_control lt) h

    -- it was unannounced if it is so still
    unannounced : is_busy d i ≡ true → is_announced next_place ≡ false → is_announced own_place ≡ false
    unannounced busy h =
        ⊎_elim (λ z. ap is_announced z)
        (⊎_elim (λ z. ap is_announced z)
        (λ t. ⊎_elim (λ z. absurd (true_false _ z h)) (λ z. absurd (true_false _ busy (ap (λ (l : Label). not (is_idle l)) z)))
        (announced_next c i (has_control lt) t))) own_stage

    -- it was announced before, or is active now
    newly : is_announced next_place ≡ true → (is_announced own_place ≡ true) ⊎ ((announcement_in S.after i).flag ≡ Active)
    newly h =
        ⊎_elim (λ z. absurd (true_false _ h (ap is_announced (at-P1 z))))
        (⊎_elim
        (λ z. inr
        (ap (λ (x : List Announcement). (get_or x i open_announcement).flag) (sym (announcements_is S.inv))
        ∙ ap (λ (a : Announcement). a.flag) (P3-active c i (has_control lt) has_announcement z)))
        inl) own_stage

    -- one that returns was announced
    returning : is_busy d i ≡ false → is_announced own_place ≡ true
    returning idle =
        ⊎_elim (λ z. absurd (true_false _ (ap (λ (l : Label). not (is_idle l)) (at-P1 z)) idle))
        (⊎_elim (λ z. absurd (true_false _ (ap (λ (l : Label). not (is_idle l)) (at-P3 z)) idle)) (λ z. z)) own_stage

    text_moved : contents_of d ≡ contents_of o
    text_moved = sym (one_access c i).text.0 ∙ O.text

    changes_moved : (v : Event) (k number : ℕ) → text_at (contents_of o) (with_response noticed i v).changes k number ≡ S.after.texts k number
    changes_moved v k number =
        ap (λ (l : List Replacement). text_at (contents_of o) l k number) (returned_changes noticed i v ∙ finished_changes o c.gate.seq (finishing c d) s)
        ∙ (O.changes k number ∙ ap (λ (x : ℕ → ℕ → Program). x k number) (sym (texts_move S.move)))

    running : is_busy d i ≡ true → Follows o d S.after noticed
    running busy = tracks_place i others moved (λ _. own_next S.after (unannounced busy) newly own_moved)

    -- the notes after the step and what it brought
    abbrev Ended : Event → Type 0
    Ended v = Follows o d S.after (with_response noticed i v)

    ended_done : is_busy d i ≡ false → (announcement_in S.after i).flag ≡ Done →
        Ended (Event.returned (Return.done (result_in S.after i).number (result_in S.after i).yields))
    ended_done idle h =
        tracks_returned i others moved (Return.done (result_in S.after i).number (result_in S.after i).yields) own_moved
        (own_moved.over (rw (returning idle) (ap is_done h))) idle

    ended_exited : is_busy d i ≡ false → (announcement_in S.after i).flag ≡ Exit → Ended (Event.returned Return.exited)
    ended_exited idle h = tracks_returned i others moved Return.exited own_moved (own_moved.pending (rw (returning idle) (ap is_done h))) idle

    answered : Ended (event_of (answer_of (local_at d i)))
    answered =
        ⊎_elim (λ busy. by_answer (cond_false (is_idle next_place) _ _ (not-true _ busy)) (running busy))
        (λ idle. ⊎_elim (λ z. by_answer z.1 (ended_done idle z.0)) (λ z. by_answer z.1 (ended_exited idle z.0))
        (answer_is S.inv i (subst (λ (x : Contents). i < x.process_count) (one_access c i).text.0 lt) idle))
        (true_or_false (is_busy d i))
      where
        by_answer : {a : Answer} → answer_of (local_at d i) ≡ a → Ended (event_of a) → Ended (event_of (answer_of (local_at d i)))
        by_answer z f = subst (λ (x : Answer). Ended (event_of x)) (sym z) f

    step_kept : {e : Entry} → Steps e i → Consistent o (after o m e (record { card = d; answer = answer_of (local_at d i) }))
    step_kept Steps.by_step = record
        { world = S.after; inv = S.inv; tracks = answered; text = text_moved; changes = changes_moved (event_of (answer_of (local_at d i))) }
    step_kept Steps.by_trace = record
        { world = S.after; inv = S.inv; tracks = answered; text = text_moved; changes = changes_moved (event_of (answer_of (local_at d i))) }

  -- every entry
  outcome_kept : {e : Entry} {r : Answered} → Outcome c e r → Consistent o (after o m e r)
  outcome_kept (Outcome.turned_back e why) = refused_kept e why
  outcome_kept (Outcome.called i k inputs p b) = call_kept i k inputs p b
  outcome_kept (Outcome.asked i p) = exit_kept i p
  outcome_kept (Outcome.stepped i x p b l) = step_kept i p b l x
  outcome_kept (Outcome.shown v x) = read_kept v x
  outcome_kept (Outcome.unaltered k from t why line) = unaltered_kept k from t why line
  outcome_kept (Outcome.altered k from t p a l u) = altered_kept k from t p a l u

  pub entry_kept : (e : Entry) → Consistent o (observe o m e)
  unfolding observe
  entry_kept e = outcome_kept (outcome c e)

  -- an entry finishes at most one operation
  abbrev AtMostOne : Entry → Answered → Type 0
  AtMostOne e r = (finishing c r.card ≡ []) ⊎ (act c e ≡ r → FinishesOne m e)

  step_finishes : {e : Entry} (i : ℕ) → Steps e i → i < c.process_count → is_busy c i ≡ true → c.steps < c.limit →
      AtMostOne e (record { card = advance c i; answer = answer_of (local_at (advance c i) i) })
  step_finishes i x p b l =
      ⊎_elim (λ C. inl (finishing_is i p b l ∙ C.none))
      (λ E. inr (λ is. record {
        process = E.process;
        only = ap (λ (r : Answered). finishing c r.card) is ∙ ends_one i p b l E;
        under_way = under_way_lem (ends_own i p b l E);
        stepper = i;
        by_step = x;
      })) (kind i p b l)

  outcome_finishes : {e : Entry} {r : Answered} → Outcome c e r → AtMostOne e r
  outcome_finishes (Outcome.turned_back e why) = inl (turned_same 0 c.announcements)
  outcome_finishes (Outcome.called i k inputs p b) = inl (turned_same 0 c.announcements)
  outcome_finishes (Outcome.asked i p) = inl (turned_same 0 c.announcements)
  outcome_finishes (Outcome.stepped i x p b l) = step_finishes i x p b l
  outcome_finishes (Outcome.shown v x) = inl (turned_same 0 c.announcements)
  outcome_finishes (Outcome.unaltered k from t why line) = inl (turned_same 0 c.announcements)
  outcome_finishes (Outcome.altered k from t p a l u) = inl (turned_same 0 c.announcements)

  pub finishes_one : (e : Entry) → FinishesAtMostOne m e
  finishes_one e = ⊎_elim inl (λ f. inr (f refl)) (outcome_finishes (outcome c e))

-- a read shows the word of the bench
pub read_shown : (o : Card) (m : Observation) → Consistent o m → (v : ℕ) → v < o.variable_count →
    read m.card v ≡ record { card = m.card; answer = Answer.Value (get_or m.history.words v 0) }
unfolding read
read_shown o m O v l =
    let inside : v < m.card.variable_count = subst (λ (x : Contents). v < x.variable_count) (sym O.text) l in
    let narrow = (good o m O).fits.narrow in
    let there : is_variable m.card v ≡ true = rw (lt-ltb v m.card.variable_count inside) (lt-ltb v 64 (omega (arith, narrow))) in
    cond_false (not (is_variable m.card v)) _ _ (ap not there)
    ∙ ap (λ (x : ℕ). record { card = m.card; answer = Answer.Value x })
    (read_is m.card O.world O.inv v inside ∙ ap (λ (ws : List ℕ). get_or ws v 0) (sym O.tracks.words))
