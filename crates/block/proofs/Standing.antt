-- A block in which only one interval of words was changed holds the card in which only the parts of that interval may have changed: one law for
-- all parts. With the interval written out, the tests compute, and each other part is that of the old block.
use Prim.Native.Nat.{ℕ, ◌+◌, ◌*◌, ◌<◌, ◌≤◌, min}
use mathlib.Core.Path.{◌≡◌, refl, ap}
use mathlib.Core.Logic.{◌⊎◌, inl, inr, ⊎_elim}
use mathlib.Core.Bool.{Bool, true, false, cond, ◌&&◌, ◌||◌}
use mathlib.Core.List.{List, [], ◌∷◌}
use native.Mathlib.Omega.{arith}
use lib.Dec.{leb, ltb}
use borrow.Author.Tests.{leb-true}
use lib.ListN.{length, set}
use Rattle.codes.specs.Types.{Card}
use Rattle.codes.specs.Parts.{word_at, part, stores, table, rows}
use Rattle.codes.specs.Codes.{byte, half, odd, gate_of, control_of, announcement_of, record_of, operation_of, simulation_of, program_of}
use Rattle.codes.proofs.Blocks.{kept, part_same, table_same, rows_same}
use Rattle.block.specs.Layout.{is_room, number_at}
use Rattle.block.specs.Cards.{dictionary_at, dictionary_in, numbers, standing}
use Rattle.construction.proofs.Basics.{and_true}

-- only words from `low` to below `high` differ
pub record Only (b c : List ℕ) (low high : ℕ) : Type 0 where
  pub at : (q : ℕ) → (q < low) ⊎ (high ≤ q) → word_at c q ≡ word_at b q

pub only_stores : (b : List ℕ) (at : ℕ) (l : List ℕ) (low high : ℕ) → low ≤ at → at + length l ≤ high → Only b (stores b at l) low high
only_stores b at l low high p r =
    record { at = λ q h. kept b at l q (⊎_elim (λ (z : q < low). inl (omega arith)) (λ (z : high ≤ q). inr (omega arith)) h) }

pub only_set : (b : List ℕ) (at x low high : ℕ) → low ≤ at → at < high → Only b (set b at x) low high
only_set b at x low high p r = only_stores b at (x ∷ []) low high p (omega arith)

-- a part of one word, in two blocks of the same length
pub number_same : (b c : List ℕ) (base n i : ℕ) → length c ≡ length b → word_at c (base + i) ≡ word_at b (base + i) → number_at c base n i ≡ number_at b base n i
unfolding number_at is_room
number_same b c base n i e w = λ j. cond (leb 1456 (e j) && ltb i n) (w j) 0

-- an interval lies apart from another; on numbers that are written out this computes
abbrev pub away : ℕ → ℕ → ℕ → ℕ → Bool
away low high from to = leb high from || leb to low

away_true : (low high from to : ℕ) → away low high from to ≡ true → (high ≤ from) ⊎ (to ≤ low)
away_true low high from to e = go (leb high from) refl e
  where
    go : (t : Bool) → leb high from ≡ t → t || leb to low ≡ true → (high ≤ from) ⊎ (to ≤ low)
    go true z h = inl (leb-true high from z)
    go false z h = inr (leb-true to low h)

picked {ℓ} : {A : Type ℓ} (t : Bool) (old new : A) → (t ≡ true → new ≡ old) → new ≡ cond t old new
picked true old new h = h refl
picked false old new h = refl

module _ (low high : ℕ) (b c l : List ℕ) where
  -- a value that stands from `from` to below `to`
  abbrev one {ℓ} : {A : Type ℓ} → ℕ → ℕ → (List ℕ → A) → A
  one from to view = cond (away low high from to) (view b) (view c)

  abbrev pub mixed : Card
  mixed =
      record {
        process_count = one 0 1 (λ x. byte (word_at x 0));
        variable_count = one 1 2 (λ x. byte (word_at x 1));
        program_count = one 2 3 (λ x. byte (word_at x 2));
        limit = one 3 4 (λ x. word_at x 3);
        starts = one 592 656 (λ x. numbers x 592 64 half);
        programs = one 656 920 (λ x. rows x 656 33 8 program_of);
        from = one 920 928 (λ x. numbers x 920 8 (λ w. w));
        earlier = one 928 1192 (λ x. rows x 928 33 8 program_of);
        later = one 1192 1456 (λ x. rows x 1192 33 8 program_of);
        gate = one 5 7 (λ x. gate_of (part x 5 2));
        announcements = one 8 80 (λ x. rows x 8 9 8 announcement_of);
        records = one 80 336 (λ x. rows x 80 4 64 record_of);
        steps = one 4 5 (λ x. word_at x 4);
        controls = one 336 352 (λ x. rows x 336 2 8 control_of);
        operations = one 352 392 (λ x. rows x 352 5 8 operation_of);
        exits = one 392 400 (λ x. numbers x 392 8 odd);
        counts = one 400 408 (λ x. numbers x 400 8 (λ w. w));
        gates_read = one 408 424 (λ x. rows x 408 2 8 gate_of);
        announcements_read = one 424 496 (λ x. rows x 424 9 8 announcement_of);
        simulations = one 496 576 (λ x. rows x 496 10 8 simulation_of);
        dictionaries = cond (away low high 7 8 && away low high 576 584) (table 8 (λ i. dictionary_in b l i)) (table 8 (λ i. dictionary_in c l i));
        masks = one 584 592 (λ x. numbers x 584 8 (λ w. w));
      }

  module _ (only : Only b c low high) (same : length c ≡ length b) where
    outside : (from to q : ℕ) → away low high from to ≡ true → from ≤ q → q < to → word_at c q ≡ word_at b q
    outside from to q e r s =
        only.at q (⊎_elim (λ (z : high ≤ from). inr (omega arith)) (λ (z : to ≤ low). inl (omega arith)) (away_true low high from to e))

    word {ℓ} : {A : Type ℓ} (q : ℕ) (f : ℕ → A) → f (word_at c q) ≡ cond (away low high q (q + 1)) (f (word_at b q)) (f (word_at c q))
    word q f = picked (away low high q (q + 1)) (f (word_at b q)) (f (word_at c q)) (λ e. ap f (outside q (q + 1) q e (omega arith) (omega arith)))

    many : {A : Type 0} (base size n : ℕ) (decode : List ℕ → A) →
        rows c base size n decode ≡ cond (away low high base (base + size * n)) (rows b base size n decode) (rows c base size n decode)
    many base size n decode =
        picked (away low high base (base + size * n)) (rows b base size n decode) (rows c base size n decode)
        (λ e. rows_same b c base size n decode (λ q r s. outside base (base + size * n) q e r s))

    each : {A : Type 0} (base n : ℕ) (decode : ℕ → A) →
        numbers c base n decode ≡ cond (away low high base (base + n)) (numbers b base n decode) (numbers c base n decode)
    each base n decode =
        picked (away low high base (base + n)) (numbers b base n decode) (numbers c base n decode)
        (λ e. table_same n (λ i. decode (word_at b (base + i))) (λ i. decode (word_at c (base + i)))
        (λ i p. ap decode (outside base (base + n) (base + i) e (omega arith) (omega arith))))

    dictionaries_picked :
        table 8 (λ i. dictionary_in c l i)
        ≡ cond (away low high 7 8 && away low high 576 584) (table 8 (λ i. dictionary_in b l i)) (table 8 (λ i. dictionary_in c l i))
    dictionaries_picked =
        picked (away low high 7 8 && away low high 576 584) (table 8 (λ i. dictionary_in b l i)) (table 8 (λ i. dictionary_in c l i))
        (λ e.
        let h = and_true (away low high 7 8) (away low high 576 584) e in
        let room = number_same b c 7 1 0 same (outside 7 8 7 h.0 (omega arith) (omega arith)) in
        table_same 8 (λ i. dictionary_in b l i) (λ i. dictionary_in c l i)
        (λ i p.
        let count = number_same b c 576 8 i same (outside 576 584 (576 + i) h.1 (omega arith) (omega arith)) in
        λ j. dictionary_at l (min (room j) 32 * i) (min (byte (count j)) (min (room j) 32))))

    pub standing_only : standing c l ≡ mixed
    unfolding standing
    standing_only =
        let process_count = word 0 byte in
        let variable_count = word 1 byte in
        let program_count = word 2 byte in
        let limit = word 3 (λ (w : ℕ). w) in
        let steps = word 4 (λ (w : ℕ). w) in
        let starts = each 592 64 half in
        let programs = many 656 33 8 program_of in
        let from = each 920 8 (λ (w : ℕ). w) in
        let earlier = many 928 33 8 program_of in
        let later = many 1192 33 8 program_of in
        let gate = picked (away low high 5 7) (gate_of (part b 5 2)) (gate_of (part c 5 2)) (λ e. ap gate_of (part_same b c 5 2 (λ q r s. outside 5 7 q e r s))) in
        let announcements = many 8 9 8 announcement_of in
        let records = many 80 4 64 record_of in
        let controls = many 336 2 8 control_of in
        let operations = many 352 5 8 operation_of in
        let exits = each 392 8 odd in
        let counts = each 400 8 (λ (w : ℕ). w) in
        let gates_read = many 408 2 8 gate_of in
        let announcements_read = many 424 9 8 announcement_of in
        let simulations = many 496 10 8 simulation_of in
        let masks = each 584 8 (λ (w : ℕ). w) in
        let dictionaries = dictionaries_picked in
        λ j. record {
          process_count = process_count j;
          variable_count = variable_count j;
          program_count = program_count j;
          limit = limit j;
          starts = starts j;
          programs = programs j;
          from = from j;
          earlier = earlier j;
          later = later j;
          gate = gate j;
          announcements = announcements j;
          records = records j;
          steps = steps j;
          controls = controls j;
          operations = operations j;
          exits = exits j;
          counts = counts j;
          gates_read = gates_read j;
          announcements_read = announcements_read j;
          simulations = simulations j;
          dictionaries = dictionaries j;
          masks = masks j;
        }
