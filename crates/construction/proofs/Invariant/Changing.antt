-- A change of a program (document 02, order 11): a world whose texts change only past the gate's number stays good, every process keeps what it knows, and
-- a taken change keeps the invariant of a card.
use Prim.Native.Nat.{ℕ, zero, suc, ◌≤◌, ◌<◌}
use mathlib.Core.Path.{◌≡◌, refl, sym, subst, ap, ◌∙◌}
use mathlib.Core.Bool.{Bool, true, false, cond, ◌&&◌, ◌||◌, true≢false}
use mathlib.Core.Logic.{◌≢◌, ⊎_elim}
use mathlib.Core.List.{List}
use native.Mathlib.Omega.{arith}
use native.Mathlib.Nat.{eq-or-lt_of_le}
use native.Mathlib.Decide.{ℕ_discrete}
use lib.ListN.{length, get_or, length-set}
use lib.Seq.{get_or-set_same, get_or-set_other}
use lib.Dec.{eqb, leb, ltb}
use borrow.Author.Tests.{ltb-true, ltb-false, leb-true, eq-eqb, ne_eqb, lt-ltb, le-ltb, le-leb}
use Rattle.std.specs.Prelude.{Option, None, Some}
use Rattle.construction.specs.Types.{Gate, Yield, Announcement, Program, Item, Dictionary, Simulation, Label, Idle, P1, P3, P5}
use Rattle.construction.specs.Types.{P7, P10, C2, C4, P13, P14, P16, H21, H36, P19, P20, P21, P22, F1, F3, P6, Operation, Card, Control}
use Rattle.construction.specs.Sequential.{Ending}
use Rattle.construction.specs.Weight.{weight, card_weight}
use Rattle.construction.specs.Dictionary.{noted}
use Rattle.construction.specs.Parts.{idle_control, no_gate, Local, local_at, contents_of, texts_of, program_of, with_revision}
use Rattle.construction.specs.Instructions.{no_program}
use Rattle.construction.specs.Changes.{has_read, is_behind, some_behind, is_unsettled}
use Rattle.construction.proofs.Basics.{on_test, and_true}
use Rattle.construction.proofs.Simulating.Sequential.{Short}
use Rattle.construction.proofs.Simulating.Dictionaries.{all_map}
use Rattle.construction.proofs.Invariant.World.{Round, Frame, ending_of, World, round_in, word_at, Phase, WorldInvariant, changing, with_text}
use Rattle.construction.proofs.Invariant.WorldKept.{rounds_few, count_few}
use Rattle.construction.proofs.Invariant.Assertions.{Helper, Plan, ItemNoted, Ready, NeedingAt, FinishedAt, Writing, LocAt, Loc, known}
use Rattle.construction.proofs.Invariant.Cards.{CardInvariant}
use Rattle.construction.specs.Requests.{is_process}

-- other texts, the same up to the gate's number
module _ {F : Frame} {w : World} (x : ℕ → ℕ → Program) (G : WorldInvariant F w)
    (same : (k number : ℕ) → number ≤ w.gate.seq → x k number ≡ F.program_at k number) where
  abbrev K : Frame
  K = record { process_count = F.process_count; variable_count = F.variable_count; program_at = x }

  abbrev v : World
  v = changing w x

  ending_same : (s : ℕ) (r : Round) → s ≤ w.gate.seq → ending_of K s r ≡ ending_of F s r
  unfolding ending_of
  ending_same s r h = rw (same r.call.program s h)

  phase_same : (h : Option ℕ) → Phase h w → Phase h v
  phase_same None ph = ph
  phase_same (Some m) ph = ph

  pub good_change : ((k number : ℕ) → Short F.variable_count (x k number)) → WorldInvariant K v
  good_change short =
      let R = G.recorded in
      let few = rounds_few w.gate.holder w G.phase in
      let done = count_few w.gate.holder w G.phase in
      record {
        fits = record { few = G.fits.few; narrow = G.fits.narrow; short = short };
        lengths = G.lengths;
        size_words = G.size_words;
        left_below = G.left_below;
        bound_below = G.bound_below;
        announced = G.announced;
        inside = G.inside;
        phase = phase_same w.gate.holder G.phase;
        recorded = record {
          sized = R.sized;
          below = R.below;
          old = R.old;
          same = λ u ul h.
              let q = R.same u ul h in
              (q.0, q.1 ∙ ap (λ (e : Ending). word_at e.words u) (sym (ending_same _ _ (omega (arith, R.below u)))));
          settled = λ s u sl ul h. ap (λ (e : Ending). word_at e.words u) (ending_same s _ (omega arith)) ∙ R.settled s u sl ul h;
          words_are = R.words_are;
        };
      }

  helper_same : {j : ℕ} {o : Operation} {g : Gate} → Helper F w j o g → Helper K v j o g
  helper_same q =
      record { mine = q.mine; named = q.named; inside = q.inside; seen = record { still = q.seen.still }; limit = q.limit }

  plan_same : {g : Gate} {a : Announcement} → Plan F w g a → Plan K v g a
  plan_same q =
      record { below = q.below; number = q.number; early = q.early; positive = q.positive; working = record { alike = q.working.alike } }

  module _ (s : ℕ) (below : s ≤ w.gate.seq) where
    noted_same : (e : Item) → ItemNoted F w s e → ItemNoted K v s e
    noted_same e q = record { inside = q.inside; base = q.base; kept = q.kept }

    ready_same : (o : Yield) → Ready F w s o → Ready K v s o
    ready_same o q =
        let e = ending_same s (round_in w s) below in
        record { yields = rw e q.yields; all = rw e q.all }

    needing_same :
        (a : Announcement) (u : ℕ) (l : Simulation) (d : Dictionary) → NeedingAt F w s a u l d → NeedingAt K v s a u l d
    needing_same a u l d q =
        rw (same a.program s below, ending_same s (round_in w s) below)
        (record {
          core = record {
            booked = all_map (ItemNoted F w s) (ItemNoted K v s) (noted d) noted_same q.core.booked;
            keyed = q.core.keyed;
            room = q.core.room;
            mem = q.core.mem;
            size = q.core.size;
            agree = q.core.agree;
            unmarked = q.core.unmarked;
            rest = q.core.rest;
            passed = q.core.passed;
          };
          inside = q.inside;
          next = q.next;
          spare = q.spare;
          fewer = q.fewer;
        })

    finished_same : (a : Announcement) (l : Simulation) (d : Dictionary) → FinishedAt F w s a l d → FinishedAt K v s a l d
    finished_same a l d q =
        rw (same a.program s below, ending_same s (round_in w s) below)
        (record {
          booked = all_map (ItemNoted F w s) (ItemNoted K v s) (noted d) noted_same q.booked;
          keyed = q.keyed;
          room = q.room;
          yields = q.yields;
          agree = q.agree;
        })

    writing_same : (b : List Item) (k : ℕ) → Writing F w s b k → Writing K v s b k
    writing_same b k q = record { inside = q.inside; due = q.due; before = λ j h. record { fine = (q.before j h).fine } }

  loc_at_same : (l : Label) (j : ℕ) (t : Local) → LocAt l F w j t → LocAt l K v j t
  loc_at_same Idle j t q = q
  loc_at_same P1 j t q = q
  loc_at_same P3 j t q = q
  loc_at_same P5 j t q = q
  loc_at_same P7 j t q = q
  loc_at_same P10 j t q = q
  loc_at_same C2 j t q = q
  loc_at_same C4 j t q = q
  loc_at_same P13 j t q = (q.0, q.1, q.2, record { below = q.3.below; fit = q.3.fit }, q.4)
  loc_at_same P14 j t q = q
  loc_at_same P16 j t q = helper_same q
  loc_at_same H21 j t q = (
    helper_same q.0,
    plan_same q.1,
    needing_same t.gate.seq q.1.below t.announcement t.control.target t.simulation t.dictionary
        q.2,
  )
  loc_at_same H36 j t q = (
    helper_same q.0,
    plan_same q.1,
    finished_same t.gate.seq q.1.below t.announcement t.simulation t.dictionary q.2,
    writing_same t.gate.seq q.1.below (noted t.dictionary) t.control.target q.3,
  )
  loc_at_same P19 j t q = (helper_same q.0, plan_same q.1, ready_same t.gate.seq q.1.below t.simulation.yields q.2)
  loc_at_same P20 j t q =
      (helper_same q.0, plan_same q.1, ready_same t.gate.seq q.1.below t.simulation.yields q.2, record { isnt = q.3.isnt })
  loc_at_same P21 j t q = (helper_same q.0, record { over = q.1.over })
  loc_at_same P22 j t q = q
  loc_at_same F1 j t q = q
  loc_at_same F3 j t q = q
  loc_at_same P6 j t q = q

  pub loc_change : (j : ℕ) (t : Local) → Loc F w j t → Loc K v j t
  loc_change j t q = loc_at_same t.control.place j (known t) q

-- no process is behind a number, if none of those below n is
or_none : (a b : Bool) → a || b ≡ false → (a ≡ false) × (b ≡ false)
or_none true b e = absurd (true≢false e)
or_none false b e = (refl, e)

none_behind :
    (controls : List Control) (gates_read : List Gate) (p number n : ℕ) → some_behind controls gates_read p number n ≡ false → (j : ℕ) → j < n →
    ltb j p && is_behind (get_or controls j idle_control).place (get_or gates_read j no_gate) number ≡ false
unfolding some_behind
none_behind controls gates_read p number zero e j h = absurd (omega arith)
none_behind controls gates_read p number (suc n) e j h =
    let z = or_none (ltb n p && is_behind (get_or controls n idle_control).place (get_or gates_read n no_gate) number) (some_behind controls gates_read p number n) e in
    ⊎_elim (λ (q : j ≡ n). rw q z.0) (λ l. none_behind controls gates_read p number n z.1 j l) (eq-or-lt_of_le (omega arith))

-- the last change of a settled program is past: of the gate, and of every process under way
pub settled_gate : (c : Card) (k : ℕ) → is_unsettled c k ≡ false → get_or c.from k 0 ≤ c.gate.seq
settled_gate c k u = ltb-false _ _ (or_none (ltb c.gate.seq (get_or c.from k 0)) _ u).0

settled_read :
    (c : Card) (k : ℕ) → is_unsettled c k ≡ false → (j : ℕ) → is_process c j ≡ true → has_read (local_at c j).control.place ≡ true →
    get_or c.from k 0 ≤ (local_at c j).gate.seq
settled_read c k u j p e =
    let from = get_or c.from k 0 in
    let h = and_true (ltb j c.process_count) _ p in
    ltb-false _ _
    (rw (h.0, e) at (none_behind c.controls c.gates_read c.process_count from _ (or_none (ltb c.gate.seq from) _ u).1 j (ltb-true j 8 h.1)))

-- a text is another one from a number on: before it nothing changes
pub text_before : (texts : ℕ → ℕ → Program) (k from : ℕ) (y : Program) (j number : ℕ) → number < from → with_text texts k from y j number ≡ texts j number
text_before texts k from y j number h =
    on_test (λ z. z ≡ texts j number) (eqb k j && leb from number)
    (λ e. absurd (omega (arith, leb-true from number (and_true (eqb k j) _ e).1))) (λ _. refl)

-- what a card with program k changed runs of it, and of another program
module _ (c : Card) (k from : ℕ) (y : Program) where
  revised_same :
      (length c.from ≡ 8) × (length c.earlier ≡ 8) × (length c.later ≡ 8) → k < 8 → (number : ℕ) →
      program_of (texts_of (with_revision c k from y)) k number ≡ cond (ltb number from) (get_or c.later k no_program) y
  unfolding program_of
  revised_same many few number =
      rw (
        get_or-set_same c.from k from 0 (omega arith),
        get_or-set_same c.earlier k (get_or c.later k no_program) no_program (omega arith),
        get_or-set_same
            c.later k y no_program (omega arith),
      )

  revised_other : (j number : ℕ) → j ≢ k → program_of (texts_of (with_revision c k from y)) j number ≡ program_of (texts_of c) j number
  unfolding program_of
  revised_other j number ne =
      rw (
        get_or-set_other c.from k j from 0 ne,
        get_or-set_other c.earlier k j (get_or c.later k no_program) no_program ne,
        get_or-set_other c.later k j y
            no_program ne,
      )

-- from the number of its last change on a card runs the later text
later_holds : (c : Card) (k number : ℕ) → get_or c.from k 0 ≤ number → program_of (texts_of c) k number ≡ get_or c.later k no_program
unfolding program_of
later_holds c k number h = rw (le-ltb number (get_or c.from k 0) h)

-- a taken change of program k
module _ (c : Card) (w : World) (k from : ℕ) (y : Program) (I : CardInvariant c w) (few : k < 8) (ahead : c.gate.seq < from)
    (settled : is_unsettled c k ≡ false) where
  abbrev d : Card
  d = with_revision c k from y

  abbrev texts : ℕ → ℕ → Program
  texts = with_text w.texts k from y

  past_gate : get_or c.from k 0 ≤ c.gate.seq
  past_gate = settled_gate c k settled

  past_read : (j : ℕ) → j < c.process_count → has_read (local_at c j).control.place ≡ true → get_or c.from k 0 ≤ (local_at c j).gate.seq
  past_read j lt = settled_read c k settled j (rw (lt-ltb j c.process_count lt) (lt-ltb j 8 (omega (arith, I.good.fits.few))))

  -- the later text becomes the earlier one
  chosen_same :
      (j number : ℕ) → get_or c.from k 0 ≤ number → ((m : ℕ) → program_of (texts_of c) m number ≡ w.texts m number) →
      program_of (texts_of d) j number ≡ texts j number
  chosen_same j number h before = go (ℕ_discrete j k)
    where
      here : program_of (texts_of d) k number ≡ texts k number
      here =
          rw (revised_same c k from y I.texts.many few number)
          (on_test (λ z. z ≡ texts k number) (ltb number from)
          (λ e. sym (later_holds c k number h) ∙ (before k ∙ sym (text_before w.texts k from y k number (ltb-true number from e))))
          (λ e. rw (eq-eqb k k refl, le-leb from number (ltb-false number from e))))

      go : Dec (j ≡ k) → program_of (texts_of d) j number ≡ texts j number
      go (yes e) = rw e here
      go (no ne) = revised_other c k from y j number ne ∙ rw (ne_eqb k j (λ q. ne (sym q))) (before j)

  -- the choice of every text stays, for the number that an operation under way past P1 last read, however late it is
  pub chosen_kept :
      (j : ℕ) → j < c.process_count → has_read (local_at c j).control.place ≡ true → (local_at c j).gate.seq < from → (m : ℕ) →
      program_of (texts_of d) m (local_at c j).gate.seq ≡ program_of (texts_of c) m (local_at c j).gate.seq
  chosen_kept j lt e below m =
      let number = (local_at c j).gate.seq in
      chosen_same m number (past_read j lt e) (λ q. I.texts.read j lt e q number (omega arith))
      ∙ text_before w.texts k from y m number below ∙ sym (I.texts.read j lt e m number (omega arith))

  -- every text that the card keeps weighs no more than the card
  held : weight y ≤ card_weight (contents_of c) → (j number : ℕ) → weight (program_of (texts_of d) j number) ≤ card_weight (contents_of c)
  held light j number = go (ℕ_discrete j k)
    where
      Fine : Program → Type 0
      Fine z = weight z ≤ card_weight (contents_of c)

      go : Dec (j ≡ k) → Fine (program_of (texts_of d) j number)
      go (yes e) =
          rw (e, revised_same c k from y I.texts.many few number)
          (on_test Fine (ltb number from) (λ _. subst Fine (later_holds c k c.gate.seq past_gate) (I.texts.held k c.gate.seq)) (λ _. light))
      go (no ne) = subst Fine (sym (revised_other c k from y j number ne)) (I.texts.held j number)

  pub inv_change :
      Short c.variable_count y → weight y ≤ card_weight (contents_of c) → CardInvariant d (changing w texts)
  inv_change short light = record {
    cells = ap (λ (u : World). changing u texts) I.cells;
    good = good_change texts I.good old (λ j number.
        on_test (Short c.variable_count) (eqb k j && leb from number) (λ _. short) (λ _. I.good.fits.short j number));
    texts = record {
      many = (
        length-set c.from k from ∙ I.texts.many.0,
        length-set c.earlier k (get_or c.later k no_program) ∙ I.texts.many.1,
        length-set c.later k y ∙ I.texts.many.2,
      );
      now = λ j number h. chosen_same j number (omega (arith, past_gate)) (λ m. I.texts.now m number h);
      read = λ j lt e m number h. chosen_same m number (omega (arith, past_read j lt e)) (λ q. I.texts.read j lt e q number h);
      light = λ j number.
          on_test (λ z. weight z ≤ card_weight (contents_of c)) (eqb k j && leb from number) (λ _. light) (λ _. I.texts.light j number);
      held = held light;
      some = I.texts.some;
    };
    sizes = I.sizes;
    locs = λ j h. loc_change texts I.good old j (local_at c j) (I.locs j h);
    tidy = I.tidy;
    numbered = I.numbered;
    limited = I.limited;
    capped = I.capped;
    counts = I.counts;
  }
    where
      old : (j number : ℕ) → number ≤ w.gate.seq → texts j number ≡ w.texts j number
      old j number h = text_before w.texts k from y j number (omega (arith, ap (λ (u : World). u.gate.seq) I.cells))
