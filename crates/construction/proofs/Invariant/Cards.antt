-- The invariant of a card beside a world, and that fresh cards have it and every taken call, exit request and step keeps it.
use Prim.Native.Nat.{ℕ, suc, ◌+◌, ◌≤◌, ◌<◌, ◌%◌}
use mathlib.Core.Path.{◌≡◌, refl, sym, subst, ap, ◌∙◌}
use mathlib.Core.Bool.{true, false, false≢true}
use mathlib.Core.Logic.{◌≢◌, ◌⊎◌, inl, inr, ⊎_elim}
use mathlib.Core.List.{[], ◌∷◌, map, List}
use native.Mathlib.Omega.{arith}
use native.Mathlib.Decide.{ℕ_discrete}
use lib.ListN.{length, get_or, take, replicate, length-map, get_or-map}
use lib.Seq.{get_or-set_same, get_or-take, length-take-le}
use borrow.Author.Tests.{not-true, not-false}
use Rattle.construction.specs.Types.{Gate, Done, Words, Announcement, Record, Label, Idle, Control, Operation, Card, Contents, Program}
use Rattle.construction.specs.Cells.{open_announcement, open_record, current}
use Rattle.construction.specs.Instructions.{no_program}
use Rattle.construction.specs.Dictionary.{empty}
use Rattle.construction.specs.Parts.{idle_control, no_operation, local_at, with_local, Local, contents_of, with_cells, with_steps, texts_of, program_of}
use Rattle.construction.specs.Machine.{perform, advance, access_in}
use Rattle.construction.specs.Requests.{is_busy, invoked, exiting}
use Rattle.construction.specs.Opening.{fresh}
use Rattle.construction.proofs.Basics.{get_or_replicate_same, active_not_done, exit_not_done, nobody_process, on_test}
use Rattle.construction.proofs.Simulating.Sequential.{Short}
use Rattle.construction.proofs.Invariant.World.{World, no_result, result_of, WorldInvariant, asking, Move, frame_of, frame_with}
use Rattle.construction.proofs.Invariant.World.Move.{ask, stay}
use Rattle.construction.proofs.Invariant.WorldKept.{good_move, seq_move, texts_move}
use Rattle.construction.proofs.Invariant.Locals.{Sizes, local_same, local_other, sizes_put}
use Rattle.construction.proofs.Invariant.Assertions.{LocAt, Loc, loc_stays, known}
use Rattle.construction.proofs.Invariant.Stages.{stage, is_idle_lem, gate_read_lem}
use Rattle.construction.proofs.Invariant.Acting.{world_of, WellFormed, Acted, Before, KeepsTexts}
use Rattle.construction.proofs.Invariant.Steps.{at_place}
use lib.Dec.{ltb}
use Rattle.construction.specs.Weight.{weight, card_weight}
use Rattle.construction.specs.Changes.{has_read}
use Rattle.construction.proofs.Simulating.Weights.{weight_card, heaviest_some}

-- the cells of the card are those of a good world, every process knows what its place asks for, and the numbers keep their bounds
pub record CardInvariant (c : Card) (w : World) : Type 0 where
  pub cells : world_of c w ≡ w
  pub good : WorldInvariant (frame_of c w) w
  pub texts : KeepsTexts c w
  pub sizes : Sizes c
  pub locs : (j : ℕ) → j < c.process_count → Loc (frame_of c w) w j (local_at c j)
  pub tidy : (j : ℕ) → WellFormed (local_at c j).dictionary
  pub numbered : c.gate.seq ≤ suc c.steps
  pub limited : c.steps ≤ c.limit
  pub capped : c.limit ≤ 1000000000000000000
  pub counts : (j : ℕ) → (local_at c j).steps ≤ c.steps

-- the shared cells of the card are those of the world
module _ {c : Card} {w : World} (I : CardInvariant c w) where
  pub gate_is : c.gate ≡ w.gate
  gate_is = ap (λ (u : World). u.gate) I.cells

  pub good_is : WorldInvariant (frame_of c w) (world_of c w)
  good_is = subst (WorldInvariant (frame_of c w)) (sym I.cells) I.good

  pub announcements_is : c.announcements ≡ w.announcements
  announcements_is = ap (λ (u : World). u.announcements) I.cells

  numbered_is : w.gate.seq ≤ suc c.steps
  numbered_is = rw gate_is at I.numbered

-- a card after a move to the world u: other shared cells, process i with the own state t, and k accepted steps
module _ {c : Card} {w : World} {i : ℕ} (I : CardInvariant c w) (lt : i < c.process_count) {u : World} (M : Move (frame_of c w) i w u) (g : Gate)
    (l : List Announcement)
    (r : List Record) (t : Local) (k : ℕ) where
  abbrev v : Card
  v = with_steps (with_local (with_cells c g l r) i t) k

  at_process : (P : ℕ → Local → Type 0) → P i t → ((j : ℕ) → j ≢ i → P j (local_at c j)) → (j : ℕ) → P j (local_at v j)
  at_process P a b j = go (ℕ_discrete j i)
    where
      go : Dec (j ≡ i) → P j (local_at v j)
      go (yes e) = subst (λ (n : ℕ). P n (local_at v n)) (sym e) (subst (P i) (sym (local_same c i t I.sizes (omega (arith, I.good.fits.few)))) a)
      go (no ne) = subst (P j) (sym (local_other c i j t ne)) (b j ne)

  abbrev Reads : Type 0
  Reads = has_read t.control.place ≡ true → (t.gate ≡ c.gate) ⊎ ((has_read (local_at c i).control.place ≡ true) × (t.gate ≡ (local_at c i).gate))

  moved :
      world_of v u ≡ u → Reads → Loc (frame_of c w) u i t → WellFormed t.dictionary → u.gate.seq ≤ suc k → c.steps ≤ k → k ≤ c.limit →
      t.steps ≤ k → CardInvariant v u
  moved cells reads loc tidy numbered more limited own = record {
    cells = cells;
    good = subst (λ (x : ℕ → ℕ → Program). WorldInvariant (frame_with c x) u) (sym (texts_move M)) (good_move I.good M);
    texts = record {
      many = I.texts.many;
      now = λ k n h. I.texts.now k n (omega (arith, (seq_move M).0, ap (λ (x : World). x.gate.seq) cells, ap (λ (x : Gate). x.seq) (gate_is I))) ∙ same k n;
      read = λ j h. at_process (λ n x. n < c.process_count → Right x) (λ _. here) (λ n ne m e k q l. I.texts.read n m e k q l ∙ same k q) j h;
      light = λ k n. subst (λ (x : Program). weight x ≤ card_weight (contents_of c)) (same k n) (I.texts.light k n);
      held = I.texts.held;
      some = I.texts.some;
    };
    sizes = sizes_put c i t I.sizes;
    locs = λ j h. subst (λ (x : ℕ → ℕ → Program). Loc (frame_with c x) u j (local_at v j)) (sym (texts_move M))
        (at_process (λ n x. n < c.process_count → Loc (frame_of c w) u n x) (λ _. loc)
        (λ n ne m. loc_stays I.good M n ne (local_at c n) (I.locs n m)) j h);
    tidy = at_process (λ n x. WellFormed x.dictionary) tidy (λ n ne. I.tidy n);
    numbered = subst (λ (x : Gate). x.seq ≤ suc k) (sym (ap (λ (x : World). x.gate) cells)) numbered;
    limited = limited;
    capped = I.capped;
    counts = at_process (λ n x. x.steps ≤ k) own (λ n ne. omega (arith, I.counts n));
  }
    where
      same : (k n : ℕ) → w.texts k n ≡ u.texts k n
      same k n = ap (λ (x : ℕ → ℕ → Program). x k n) (sym (texts_move M))

      -- a process with the own state x runs the texts of the world
      Right : Local → Type 0
      Right x =
          has_read x.control.place ≡ true → (k number : ℕ) → x.gate.seq ≤ number → program_of (texts_of c) k number ≡ u.texts k number

      here : Right t
      here e k n h =
          ⊎_elim (λ z. I.texts.now k n (omega (arith, ap (λ (x : Gate). x.seq) z)) ∙ same k n)
          (λ z. I.texts.read i lt z.0 k n (omega (arith, ap (λ (x : Gate). x.seq) z.1)) ∙ same k n) (reads e)

-- what is known before an accepted step of process i
pub before_step :
    {c : Card} {w : World} {i : ℕ} → CardInvariant c w → i < c.process_count → c.steps < c.limit → Before c w i
before_step {i = i} I lt h = record {
  good = good_is I;
  sizes = I.sizes;
  inside = lt;
  small = omega (arith, I.numbered, I.capped);
  tidy = I.tidy i;
  light = I.texts.light;
}

-- what an accepted step of process i comes to
pub record Stepped (c : Card) (w : World) (i : ℕ) : Type 0 where
  pub after : World
  pub move : Move (frame_of c w) i w after
  pub inv : CardInvariant (advance c i) after
  pub calls_is : after.calls ≡ w.calls
  pub elsewhere : (j : ℕ) → j ≢ i → local_at (advance c i) j ≡ local_at c j

-- a step that is accepted
pub inv_step :
    (c : Card) (w : World) (i : ℕ) →
    CardInvariant c w → i < c.process_count → is_busy c i ≡ true → c.steps < c.limit → Stepped c w i
unfolding advance
inv_step c w i I lt b h = record {
  after = A.after;
  move = M;
  inv = subst (λ (x : Card). CardInvariant (with_steps x k) A.after) (sym A.put)
      (moved I lt M v.gate v.announcements v.records A.local k
      A.cells reads A.loc A.tidy (omega (arith, (seq_move M).1, numbered_is I, steps)) (omega (arith, steps))
      (omega (arith, steps)) (omega (arith, A.counted, I.counts i, I.capped, steps)));
  calls_is = A.calls_is;
  elsewhere = λ j ne. ap (λ (x : Card). local_at x j) A.put ∙ local_other c i j A.local ne;
}
  where
    v : Card
    v = (perform (access_in (local_at c i)) c i).card

    k : ℕ
    k = (c.steps + 1) % 18446744073709551616

    A : Acted c (world_of c w) i v
    A =
        at_place (before_step I lt h) (local_at c i).control.place (local_at c i).exit (not-true _ b)
        (λ e k. I.texts.read i lt e k (local_at c i).gate.seq (omega arith))
        (subst (λ (x : World). Loc (frame_of c w) x i (local_at c i)) (sym I.cells) (I.locs i lt))

    M : Move (frame_of c w) i w A.after
    M = subst (λ (x : World). Move (frame_of c w) i x A.after) I.cells A.move

    steps : k ≡ suc c.steps
    steps = omega (arith, I.capped)

    own : (local_at v i).gate ≡ A.local.gate
    own =
        ap (λ (x : Card). (local_at x i).gate) A.put
        ∙ ap (λ (x : Local). x.gate)
        (local_same (with_cells c v.gate v.announcements v.records) i A.local I.sizes (omega (arith, I.good.fits.few)))

    reads :
        has_read A.local.control.place ≡ true →
        (A.local.gate ≡ c.gate) ⊎ ((has_read (local_at c i).control.place ≡ true) × (A.local.gate ≡ (local_at c i).gate))
    reads _ =
        ⊎_elim (λ z. inl (sym own ∙ z)) (λ z. inr (z.0, sym own ∙ z.1))
        (gate_read_lem c i (omega (arith, I.sizes.gates_read, I.good.fits.few)) (local_at c i).control.place (local_at c i).exit (not-true _ b))

-- what is known of a process that has no operation under way
pub at_rest :
    {c : Card} {w : World} (I : CardInvariant c w) (i : ℕ) →
    i < c.process_count → is_busy c i ≡ false → LocAt Idle (frame_of c w) w i (local_at c i)
at_rest {c} {w} I i lt b =
    subst (λ (l : Label). LocAt l (frame_of c w) w i (known (local_at c i))) (is_idle_lem (stage (local_at c i).control.place) (not-false _ b)) (I.locs i lt)

-- a call that is taken
abbrev pub called : ℕ → Words → Operation
called k inputs = record { program = k; inputs = inputs }

pub inv_call :
    (c : Card) (w : World) (i k : ℕ) (inputs : Words) → CardInvariant c w → i < c.process_count → is_busy c i ≡ false →
    CardInvariant (with_local c i (invoked (local_at c i) k inputs)) (asking w i (called k inputs))
inv_call c w i k inputs I lt b =
    moved I lt (ask (called k inputs) lt (at_rest I i lt b).0) c.gate c.announcements c.records (invoked (local_at c i) k inputs) c.steps
    (ap (λ (x : World). asking x i (called k inputs)) I.cells) (λ e. absurd (false≢true e)) (
      (at_rest I i lt b).0,
      sym (get_or-set_same w.calls i (called k inputs) no_operation (omega (arith, I.good.fits.few, I.good.lengths.calls))),
    )
    (I.tidy i) (numbered_is I) (omega arith) I.limited (omega arith)

-- an exit request that is taken: no assertion speaks of it
pub inv_exit : (c : Card) (w : World) (i : ℕ) → CardInvariant c w → i < c.process_count → CardInvariant (with_local c i (exiting (local_at c i))) w
inv_exit c w i I lt =
    moved I lt stay c.gate c.announcements c.records (exiting (local_at c i)) c.steps I.cells (λ e. inr (e, refl))
    (I.locs i lt) (I.tidy i) (numbered_is I) (omega arith) I.limited (I.counts i)

-- a card as opened
abbrev pub first_world : Contents → World
first_world x =
    record {
      texts = λ k number. get_or x.programs k no_program;
      gate = (fresh x).gate;
      announcements = (fresh x).announcements;
      records = (fresh x).records;
      words = take x.variable_count x.starts;
      calls = replicate 8 no_operation;
      results = replicate 8 no_result;
      left = replicate 8 0;
      bound = replicate 8 0;
      rounds = record { words = take x.variable_count x.starts; call = no_operation } ∷ [];
      count = 1;
    }

module _ (x : Contents) (few : x.process_count ≤ 8) (narrow : x.variable_count ≤ 64) (capped : x.limit ≤ 1000000000000000000)
    (many : length x.starts ≡ 64) (eight : length x.programs ≡ 8) (short : (k : ℕ) → Short x.variable_count (get_or x.programs k no_program)) where
  open_flag : (m : ℕ) → (get_or (replicate 8 open_announcement) m open_announcement).flag ≡ Done
  open_flag m = ap (λ (a : Announcement). a.flag) (get_or_replicate_same 8 m open_announcement)

  open_record_lem : (v : ℕ) → get_or (map open_record x.starts) v (open_record 0) ≡ open_record (get_or x.starts v 0)
  open_record_lem v = get_or-map open_record x.starts v 0

  open_words : length (take x.variable_count x.starts) ≡ x.variable_count
  open_words = length-take-le x.variable_count x.starts (omega arith)

  -- an unchanged program is the same under every number
  open_text : (k number : ℕ) → program_of (texts_of (fresh x)) k number ≡ get_or x.programs k no_program
  unfolding program_of fresh
  open_text k number = on_test (λ y. y ≡ get_or x.programs k no_program) (ltb number (get_or (replicate 8 0) k 0)) (λ _. refl) (λ _. refl)

  good_fresh : WorldInvariant (frame_of (fresh x) (first_world x)) (first_world x)
  unfolding fresh current
  good_fresh = record {
    fits = record { few = few; narrow = narrow; short = λ k number. short k };
    lengths = record {
      announcements = refl;
      records = length-map x.starts open_record ∙ many;
      calls = refl;
      results = refl;
      left = refl;
      bound = refl;
    };
    size_words = open_words;
    left_below = λ m. rw (get_or_replicate_same {A = ℕ} 8 m 0) (omega arith);
    bound_below = λ m. rw (get_or_replicate_same {A = ℕ} 8 m 0) (omega arith);
    announced = λ m. rw (get_or_replicate_same 8 m open_announcement) (record {
      below = omega arith;
      fresh = λ e. absurd (e refl);
      number_below = omega arith;
      unnumbered = λ e. absurd (e refl);
      marked = λ t. absurd (false≢true t);
      active_operation = λ e. absurd (active_not_done e refl);
    });
    inside = λ m e. absurd (nobody_process refl e);
    phase = (refl, refl);
    recorded = record {
      sized = λ s l. let z : s ≡ 0 = omega arith in rw z open_words;
      below = λ v. rw (open_record_lem v) (omega arith);
      old = λ s v l vl h. absurd (omega arith);
      same = λ v vl h. absurd (omega (arith, rw (open_record_lem v) at h));
      settled = λ s v l vl h. absurd (omega arith);
      words_are = λ v vl e. rw (open_record_lem v) (sym (get_or-take x.variable_count x.starts v 0 vl));
    };
  }

  pub inv_fresh : CardInvariant (fresh x) (first_world x)
  unfolding fresh
  inv_fresh = record {
    cells = refl;
    good = good_fresh;
    texts = record {
      many = (refl, eight, eight);
      now = λ k n _. open_text k n;
      read = λ j _ _ k n _. open_text k n;
      light = λ k n. weight_card x k;
      held = λ k n. rw (open_text k n) (weight_card x k);
      some = heaviest_some x.programs (λ k. (short k).some);
    };
    sizes = record {
      controls = refl;
      operations = refl;
      exits = refl;
      counts = refl;
      gates_read = refl;
      announcements_read = refl;
      simulations = refl;
      dictionaries = refl;
      masks = refl;
    };
    locs = λ j h. subst (λ (l : Label). LocAt l (frame_of (fresh x) (first_world x)) (first_world x) j (known (local_at (fresh x) j)))
        (sym (ap (λ (t : Control). t.place) (get_or_replicate_same 8 j idle_control))) (
          record {
            not_active = λ a. active_not_done a (open_flag j);
            free_of = nobody_process refl;
            late = λ l. absurd (exit_not_done l (open_flag j));
          },
          record {
            same = refl;
            out = λ _.
                ap result_of (get_or_replicate_same 8 j open_announcement) ∙ sym (get_or_replicate_same 8 j no_result);
          },
        );
    tidy = λ j.
        subst WellFormed (sym (get_or_replicate_same 8 j empty))
        (record { short = omega arith; keyed = tt });
    numbered = omega arith;
    limited = omega arith;
    capped = capped;
    counts = λ j. rw (get_or_replicate_same {A = ℕ} 8 j 0) (omega arith);
  }
