-- What no entry touches, whatever stands in block and loan (specs/Untouched), and over lists of entries
use Prim.Native.Nat.{ℕ, ◌+◌, ◌*◌, ◌<◌, ◌≤◌, min}
use mathlib.Core.Path.{◌≡◌, refl, sym, ◌∙◌, ap, subst}
use mathlib.Core.Logic.{◌≢◌, inl, inr, ⊎_elim}
use mathlib.Core.List.{List, [], ◌∷◌}
use native.Mathlib.Omega.{arith}
use Rattle.construction.specs.History.{Entry, Steps}
use Rattle.codes.specs.Parts.{word_at}
use Rattle.codes.proofs.Blocks.{apart}
use Rattle.block.specs.Layout.{room_in, noted_in}
use Rattle.block.proofs.Fitting.{noted_room}
use Rattle.block.proofs.Standing.{number_same}
use Rattle.lent_machine.proofs.Keeping.{Kept}
use Rattle.lent_steps.specs.Steps.{step_loan}
use Rattle.lent_steps.proofs.Keeping.{step_block_kept, step_loan_only, step_past}
use Rattle.lent_runs.specs.Runs.{Handed, Memory, memory_after, remember}
use Rattle.lent_runs.specs.Untouched.{BlockKept, Untouched}
use Rattle.lent_runs.proofs.Requested.{Within, call_within, exit_within, change_within, call_counts, exit_counts, change_counts}
use Rattle.lent_runs.proofs.Others.{step_others}

kept_all : (b : List ℕ) → BlockKept b b
kept_all b = record { size = refl; counts = λ q p. refl; room = refl; texts = λ q p r. refl; past = λ q p. refl }

kept_then : {b c d : List ℕ} → BlockKept b c → BlockKept c d → BlockKept b d
kept_then x y =
    record {
      size = y.size ∙ x.size;
      counts = λ q p. y.counts q p ∙ x.counts q p;
      room = y.room ∙ x.room;
      texts = λ q p r. y.texts q p r ∙ x.texts q p r;
      past = λ q p. y.past q p ∙ x.past q p;
    }

-- by the words that a request changes
lower : {b c : List ℕ} → Within 336 408 b c → BlockKept b c
lower x =
    record {
      size = x.size;
      counts = λ q p. x.only.at q (inl (omega arith));
      room = x.only.at 7 (inl (omega arith));
      texts = λ q p r. x.only.at q (inr (omega arith));
      past = λ q p. x.only.at q (inr (omega arith));
    }

upper : {b c : List ℕ} → Within 920 1456 b c → BlockKept b c
upper x =
    record {
      size = x.size;
      counts = λ q p. x.only.at q (inl (omega arith));
      room = x.only.at 7 (inl (omega arith));
      texts = λ q p r. x.only.at q (inl (omega arith));
      past = λ q p. x.only.at q (inr (omega arith));
    }

stepped : {b c : List ℕ} → Kept b c → BlockKept b c
stepped x =
    record { size = x.size; counts = x.counts; room = x.room; texts = λ q p r. x.texts q p; past = λ q p. x.texts q (omega arith) }

pub kept_w : {b c : List ℕ} → BlockKept b c → room_in c ≡ room_in b
kept_w {b} {c} x = ap (λ (k : ℕ). min k 32) (number_same b c 7 1 0 x.size x.room)

most_in : {b c : List ℕ} → BlockKept b c → (j : ℕ) → noted_in c j ≤ room_in b
most_in {b} {c} x j = let e = kept_w x in let h = noted_room c j in omega arith

-- the items of another process lie apart
apart_items : (b l : List ℕ) (i j : ℕ) → j ≢ i → (q : ℕ) → room_in b * j * 3 ≤ q → q < (room_in b * j + room_in b) * 3 → word_at (step_loan b l i) q ≡ word_at l q
apart_items b l i j ne q p r =
    let w = room_in b in
    (step_loan_only b l i).at q (⊎_elim (λ (z : w * i + w ≤ w * j). inr (omega arith)) (λ (z : w * j + w ≤ w * i). inl (omega arith)) (apart w i j ne))

-- EVERY ENTRY
pub untouched : (b l : List ℕ) (e : Entry) → Untouched b l e
untouched b l (Entry.Call i k inputs) =
    let kept = lower (call_within b i k inputs) in
    record {
      block = kept;
      size = refl;
      past = λ q p. refl;
      noted = λ j s. (call_counts b i k inputs).noted j;
      items = λ j s q p r. refl;
      most = most_in kept;
    }
untouched b l (Entry.Exit i) =
    let kept = lower (exit_within b i) in
    record { block = kept; size = refl; past = λ q p. refl; noted = λ j s. (exit_counts b i).noted j; items = λ j s q p r. refl; most = most_in kept }
untouched b l (Entry.Step i) =
    let kept = stepped (step_block_kept b l i) in
    let another : (j : ℕ) → (Steps (Entry.Step i) j → ⊥) → j ≢ i = λ j s e. s (subst (Steps (Entry.Step i)) (sym e) Steps.by_step) in
    record {
      block = kept;
      size = (step_loan_only b l i).long;
      past = step_past b l i;
      noted = λ j s. step_others b l i j (another j s);
      items = λ j s. apart_items b l i j (another j s);
      most = most_in kept;
    }
untouched b l (Entry.Trace i) =
    let kept = stepped (step_block_kept b l i) in
    let another : (j : ℕ) → (Steps (Entry.Trace i) j → ⊥) → j ≢ i = λ j s e. s (subst (Steps (Entry.Trace i)) (sym e) Steps.by_trace) in
    record {
      block = kept;
      size = (step_loan_only b l i).long;
      past = step_past b l i;
      noted = λ j s. step_others b l i j (another j s);
      items = λ j s. apart_items b l i j (another j s);
      most = most_in kept;
    }
untouched b l (Entry.Read v) =
    record { block = kept_all b; size = refl; past = λ q p. refl; noted = λ j s. refl; items = λ j s q p r. refl; most = most_in (kept_all b) }
untouched b l (Entry.Change k from t) =
    let kept = upper (change_within b k from t) in
    record { block = kept; size = refl; past = λ q p. refl; noted = λ j s. (change_counts b k from t).noted j; items = λ j s q p r. refl; most = most_in kept }

-- EVERY LIST, with any loan at each entry
pub untouched_all : (m : Memory) (xs : List Handed) → BlockKept m.block (remember m xs).block
unfolding remember
untouched_all m [] = kept_all m.block
untouched_all m (x ∷ xs) = kept_then (untouched m.block x.loan x.entry).block (untouched_all (memory_after m x) xs)

pub most_noted : (m : Memory) (xs : List Handed) (j : ℕ) → noted_in (remember m xs).block j ≤ room_in m.block
most_noted m xs = most_in (untouched_all m xs)
