-- A simulation alters values of noted items and nothing else: what it leaves is the dictionary that it was given, with the values that it left.
use Prim.Native.Nat.{ℕ, zero, suc, ◌<◌, ◌≤◌}
use mathlib.Core.Path.{◌≡◌, refl, sym, ◌∙◌, ap}
use mathlib.Core.Bool.{Bool, true, false}
use mathlib.Core.List.{List, [], ◌∷◌}
use native.Mathlib.Omega.{arith}
use lib.Dec.{ltb}
use lib.ListN.{length, get_or, take, length-set, length-take}
use lib.Seq.{ext_get_or, get_or-take, length-take-le}
use borrow.Author.Tests.{ltb-true, ltb-false}
use Rattle.construction.specs.declared.cells.Words.{Words}
use Rattle.construction.specs.declared.programs.Program.{Program}
use Rattle.construction.specs.declared.simulations.Simulation.{Simulation}
use Rattle.construction.specs.Dictionary.{no_item, noted, find, has, value_at, with_value, assign}
use Rattle.construction.specs.Effects.{Store}
use Rattle.construction.specs.Helping.{with_notes, simulate}
use Rattle.construction.proofs.Basics.{set_keeps}
use Rattle.construction.proofs.Simulating.Effects.{EachStore}
use Rattle.construction.proofs.Simulating.Dictionaries.{has_in, has_position, has_put, noted_assign}
use Rattle.construction.proofs.Simulating.Simulations.{Noted, kept_simulated}
use Rattle.helping.specs.Numbers.{revalued, with_values}
use Rattle.codes.specs.Types.{Item, Dictionary}
use Rattle.loan.specs.Simulated.{values_of}
use Rattle.codes.proofs.Blocks.{length_table, get_or_table}

pub record Revalued (d x : Dictionary) : Type 0 where
  pub count : x.length ≡ d.length
  pub long : length x.items ≡ length d.items
  pub item : (k : ℕ) → get_or x.items k no_item ≡ with_value (get_or d.items k no_item) (get_or x.items k no_item).value
  pub past : (k : ℕ) → d.length ≤ k → get_or x.items k no_item ≡ get_or d.items k no_item

assigned : (d x : Dictionary) (v y : ℕ) → Revalued d x → has x v ≡ true → Revalued d (assign x (find x v) y)
unfolding assign
assigned d x v y R h =
    let j = find x v in
    let inside : j < x.length = omega (arith, ltb-true j (length (noted x)) h, length-take x.length x.items) in
    record {
      count = R.count;
      long = length-set x.items j (with_value (get_or x.items j no_item) y) ∙ R.long;
      item = λ k. set_keeps (λ (e : Item). e ≡ with_value (get_or d.items k no_item) e.value) x.items j k (with_value (get_or x.items j no_item) y) no_item
          (λ z. ap (λ (e : Item). with_value e y) (R.item j) ∙ ap (λ (q : ℕ). with_value (get_or d.items q no_item) y) (sym z)) (R.item k);
      past = λ k p. set_keeps (λ (e : Item). e ≡ get_or d.items k no_item) x.items j k (with_value (get_or x.items j no_item) y) no_item
          (λ z. absurd (omega (arith, R.count))) (R.past k p);
    }

has_after : (x : Dictionary) (v y u : ℕ) → has x v ≡ true → has_in (noted x) u ≡ true → has_in (noted (assign x (find x v) y)) u ≡ true
has_after x v y u h e = ap (λ (b : List Item). has_in b u) (noted_assign x v y h) ∙ (has_put (noted x) v y u ∙ e)

stores_map : (P Q : ℕ → Type 0) (l : List Store) → ((v : ℕ) → P v → Q v) → EachStore P l → EachStore Q l
stores_map P Q [] f q = tt
stores_map P Q (x ∷ l) f q = (f x.variable q.0, stores_map P Q l f q.1)

notes_revalued : (d x : Dictionary) (l : List Store) → EachStore (Noted (noted x)) l → Revalued d x → Revalued d (with_notes x l)
notes_revalued d x [] q R = R
notes_revalued d x (e ∷ l) q R =
    let h : has x e.variable ≡ true = has_position (noted x) e.variable ∙ q.0 in
    let y = assign x (find x e.variable) e.value in
    notes_revalued d y l
    (stores_map (Noted (noted x)) (Noted (noted y)) l (λ v g. has_after x e.variable e.value v h g) q.1)
    (assigned d x e.variable e.value R h)

pub simulate_revalued : (n : ℕ) (program : Program) (inputs : Words) (s : Simulation) (d : Dictionary) → Revalued d (simulate n program inputs s d).dictionary
simulate_revalued n program inputs s d =
    kept_simulated n program inputs (λ _ x. Revalued d x) (λ _ _ h. h) (λ _ x _ l stores _ h. notes_revalued d x l stores h) s d
    (record { count = refl; long = refl; item = λ k. refl; past = λ k p. refl })

-- by the values alone
revalued_get : (es : List Item) (ys : List ℕ) (k : ℕ) → k < length ys → k < length es →
    get_or (revalued es ys) k no_item ≡ with_value (get_or es k no_item) (get_or ys k 0)
unfolding revalued
revalued_get [] ys k p q = absurd (omega arith)
revalued_get (e ∷ es) [] k p q = absurd (omega arith)
revalued_get (e ∷ es) (y ∷ ys) zero p q = refl
revalued_get (e ∷ es) (y ∷ ys) (suc k) p q = revalued_get es ys k (omega arith) (omega arith)

revalued_past : (es : List Item) (ys : List ℕ) (k : ℕ) → length ys ≤ k → get_or (revalued es ys) k no_item ≡ get_or es k no_item
unfolding revalued
revalued_past [] ys k p = refl
revalued_past (e ∷ es) [] k p = refl
revalued_past (e ∷ es) (y ∷ ys) zero p = absurd (omega arith)
revalued_past (e ∷ es) (y ∷ ys) (suc k) p = revalued_past es ys k (omega arith)

revalued_long : (es : List Item) (ys : List ℕ) → length (revalued es ys) ≡ length es
unfolding revalued
revalued_long [] ys = refl
revalued_long (e ∷ es) [] = refl
revalued_long (e ∷ es) (y ∷ ys) = ap suc (revalued_long es ys)

pub by_values : (d x : Dictionary) (n : ℕ) → n ≡ d.length → n ≤ length d.items → Revalued d x → with_values d (take n (values_of x n)) ≡ x
by_values d x n e p R =
    let ys = take n (values_of x n) in
    let all : length (values_of x n) ≡ n = length_table n (λ k. value_at x k) in
    let size : length ys ≡ n = length-take-le n (values_of x n) (omega arith) in
    let long : length (revalued d.items ys) ≡ length x.items = revalued_long d.items ys ∙ sym R.long in
    let items = ext_get_or no_item (revalued d.items ys) x.items long (λ k q. each k q (ltb k n) refl) in
    let count = sym R.count in
    λ j. record { length = count j; items = items j }
  where
    each : (k : ℕ) → k < length (revalued d.items (take n (values_of x n))) → (t : Bool) → ltb k n ≡ t →
        get_or (revalued d.items (take n (values_of x n))) k no_item ≡ get_or x.items k no_item
    each k q true z =
        let b = ltb-true k n z in
        let all : length (values_of x n) ≡ n = length_table n (λ k. value_at x k) in
        let size : length (take n (values_of x n)) ≡ n = length-take-le n (values_of x n) (omega arith) in
        revalued_get d.items (take n (values_of x n)) k (omega arith) (omega arith)
        ∙ ap (λ (y : ℕ). with_value (get_or d.items k no_item) y) (get_or-take n (values_of x n) k 0 b ∙ get_or_table n k (λ k. value_at x k) 0 b)
        ∙ sym (R.item k)
    each k q false z =
        let b = ltb-false k n z in
        let size = length-take n (values_of x n) in
        revalued_past d.items (take n (values_of x n)) k (omega arith) ∙ sym (R.past k (omega arith))
