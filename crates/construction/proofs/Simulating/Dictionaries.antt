-- The dictionary (lines H20 to H32) as a list of items: look-up, an item with another value, one item more, and the items to write.
use Prim.Native.Nat.{ℕ, zero, suc, ◌+◌, ◌-◌, ◌≤◌, ◌<◌}
use mathlib.Core.Path.{◌≡◌, refl, sym, ap, ◌∙◌}
use mathlib.Core.Bool.{Bool, true, false, cond, false≢true}
use mathlib.Core.Logic.{◌≢◌, ⊎_elim}
use mathlib.Core.List.{List, [], ◌∷◌, ◌++◌}
use native.Mathlib.Omega.{arith}
use lib.Dec.{eqb, ltb, leb-suc-suc}
use lib.ListN.{length, get_or, set, drop, length-take, length-drop, length-set}
use lib.Seq.{get_or-take, get_or-drop, take-set-lt, take-suc-set}
use borrow.Author.Tests.{eqb-true, eqb-false, ne_eqb, ltb-true, lt-ltb}
use Rattle.construction.specs.Types.{Item, Dictionary}
use Rattle.construction.specs.Dictionary.{no_item, noted, position, find, has, value_at, with_value, assign, insert, altered, unaltered, next_write}
use Rattle.construction.proofs.Basics.{on_test, true_or_false, true_false, cond_true, cond_false, eqb_refl}

-- whether a list has an item of v, its value or else x, and the list with the value of v replaced
unfoldable pub has_in : List Item → ℕ → Bool
has_in [] v = false
has_in (e ∷ b) v = cond (eqb e.variable v) true (has_in b v)

unfoldable pub value_in : List Item → ℕ → ℕ → ℕ
value_in [] v x = x
value_in (e ∷ b) v x = cond (eqb e.variable v) e.value (value_in b v x)

unfoldable pub put_in : List Item → ℕ → ℕ → List Item
put_in [] v x = []
put_in (e ∷ b) v x = cond (eqb e.variable v) (with_value e x ∷ b) (e ∷ put_in b v x)

-- P holds of every item
abbrev pub AllIn : (Item → Type 0) → List Item → Type 0
AllIn P [] = Unit {0}
AllIn P (e ∷ b) = P e × AllIn P b

-- no variable twice
abbrev pub Keyed : List Item → Type 0
Keyed [] = Unit {0}
Keyed (e ∷ b) = (has_in b e.variable ≡ false) × Keyed b

pub all_map : (P Q : Item → Type 0) (b : List Item) → ((e : Item) → P e → Q e) → AllIn P b → AllIn Q b
all_map P Q [] f q = tt
all_map P Q (e ∷ b) f q = (f e q.0, all_map P Q b f q.1)

pub all_at : (P : Item → Type 0) (b : List Item) (k : ℕ) → AllIn P b → k < length b → P (get_or b k no_item)
all_at P [] k q h = absurd (omega arith)
all_at P (e ∷ b) zero q h = q.0
all_at P (e ∷ b) (suc k) q h = all_at P b k q.1 (omega arith)

pub all_snoc : (P : Item → Type 0) (b : List Item) (e : Item) → AllIn P b → P e → AllIn P (b ++ (e ∷ []))
all_snoc P [] e q h = (h, tt)
all_snoc P (x ∷ b) e q h = (q.0, all_snoc P b e q.1 h)

pub all_put :
    (P : Item → Type 0) (b : List Item) (v x : ℕ) →
    ((e : Item) → P e → P (with_value e x)) → AllIn P b → AllIn P (put_in b v x)
unfolding put_in
all_put P [] v x f q = tt
all_put P (e ∷ b) v x f q =
    on_test (AllIn P) (eqb e.variable v) (λ _. (f e q.0, q.1)) (λ _. (q.0, all_put P b v x f q.1))

pub has_put : (b : List Item) (v x u : ℕ) → has_in (put_in b v x) u ≡ has_in b u
unfolding has_in put_in
has_put [] v x u = refl
has_put (e ∷ b) v x u =
    on_test (λ (l : List Item). has_in l u ≡ has_in (e ∷ b) u) (eqb e.variable v) (λ _. refl) (λ _. rw (has_put b v x u))

pub keyed_put : (b : List Item) (v x : ℕ) → Keyed b → Keyed (put_in b v x)
unfolding put_in
keyed_put [] v x q = tt
keyed_put (e ∷ b) v x q =
    on_test Keyed (eqb e.variable v) (λ _. q) (λ _. (has_put b v x e.variable ∙ q.0, keyed_put b v x q.1))

-- the first item is not that of a variable which the list lacks, and the others lack it
lacks_cons : (x : Item) (b : List Item) (v : ℕ) → has_in (x ∷ b) v ≡ false → (eqb x.variable v ≡ false) × (has_in b v ≡ false)
unfolding has_in
lacks_cons x b v h =
    ⊎_elim (λ t. absurd (true_false _ (cond_true _ true (has_in b v) t) h))
    (λ f. (f, sym (cond_false _ true (has_in b v) f) ∙ h))
    (true_or_false (eqb x.variable v))

pub has_snoc : (b : List Item) (e : Item) (u : ℕ) → has_in b u ≡ false → has_in (b ++ (e ∷ [])) u ≡ eqb e.variable u
unfolding has_in
has_snoc [] e u h = on_test (λ z. z ≡ eqb e.variable u) (eqb e.variable u) (λ t. sym t) (λ f. sym f)
has_snoc (x ∷ b) e u h = let l = lacks_cons x b u h in rw l.0 (has_snoc b e u l.1)

pub has_more : (b : List Item) (e : Item) (u : ℕ) → has_in b u ≡ true → has_in (b ++ (e ∷ [])) u ≡ true
unfolding has_in
has_more [] e u h = absurd (false≢true h)
has_more (x ∷ b) e u h =
    ⊎_elim (λ (t : eqb x.variable u ≡ true). rw t)
    (λ (f : eqb x.variable u ≡ false). rw f (has_more b e u (sym (cond_false _ true (has_in b u) f) ∙ h)))
    (true_or_false (eqb x.variable u))

pub keyed_snoc : (b : List Item) (e : Item) → Keyed b → has_in b e.variable ≡ false → Keyed (b ++ (e ∷ []))
unfolding has_in
keyed_snoc [] e q h = (refl, tt)
keyed_snoc (x ∷ b) e q h =
    let l = lacks_cons x b e.variable h in
    (has_snoc b e x.variable q.0 ∙ ne_eqb _ _ (λ z. eqb-false x.variable e.variable l.0 (sym z)), keyed_snoc b e q.1 l.1)

-- the value of a variable
pub value_none : (b : List Item) (v d : ℕ) → has_in b v ≡ false → value_in b v d ≡ d
unfolding value_in
value_none [] v d h = refl
value_none (x ∷ b) v d h = let l = lacks_cons x b v h in rw l.0 (value_none b v d l.1)

pub value_put_other : (b : List Item) (v x u d : ℕ) → u ≢ v → value_in (put_in b v x) u d ≡ value_in b u d
unfolding value_in put_in
value_put_other [] v x u d ne = refl
value_put_other (e ∷ b) v x u d ne =
    ⊎_elim
    (λ t. let z : eqb e.variable u ≡ false = ne_eqb _ _ (λ y. ne (sym y ∙ eqb-true _ _ t)) in rw (t, z))
    (λ f. rw f (rw (value_put_other b v x u d ne)))
    (true_or_false (eqb e.variable v))

pub value_put_same : (b : List Item) (v x d : ℕ) → has_in b v ≡ true → value_in (put_in b v x) v d ≡ x
unfolding has_in value_in put_in
value_put_same [] v x d h = cc
value_put_same (e ∷ b) v x d h =
    ⊎_elim
    (λ (t : eqb e.variable v ≡ true). rw (t, t))
    (λ (f : eqb e.variable v ≡ false). rw (f, f) (value_put_same b v x d (sym (cond_false _ true (has_in b v) f) ∙ h)))
    (true_or_false (eqb e.variable v))

pub value_snoc_other : (b : List Item) (e : Item) (u d : ℕ) → e.variable ≢ u → value_in (b ++ (e ∷ [])) u d ≡ value_in b u d
unfolding value_in
value_snoc_other [] e u d ne = rw (ne_eqb e.variable u ne)
value_snoc_other (x ∷ b) e u d ne = rw (value_snoc_other b e u d ne)

pub value_snoc_same :
    (b : List Item) (e : Item) (d : ℕ) →
    has_in b e.variable ≡ false → value_in (b ++ (e ∷ [])) e.variable d ≡ e.value
unfolding value_in
value_snoc_same [] e d h = rw (eqb_refl e.variable)
value_snoc_same (x ∷ b) e d h = let l = lacks_cons x b e.variable h in rw l.0 (value_snoc_same b e d l.1)

-- each item is that of its variable
pub has_at : (b : List Item) (k : ℕ) → k < length b → has_in b (get_or b k no_item).variable ≡ true
unfolding has_in
has_at [] k h = absurd (omega arith)
has_at (x ∷ b) zero h = rw (eqb_refl x.variable)
has_at (x ∷ b) (suc k) h =
    on_test (λ z. z ≡ true) (eqb x.variable (get_or b k no_item).variable) (λ _. refl) (λ _. has_at b k (omega arith))

pub value_at_lem :
    (b : List Item) (k d : ℕ) →
    Keyed b → k < length b → value_in b (get_or b k no_item).variable d ≡ (get_or b k no_item).value
unfolding value_in
value_at_lem [] k d q h = absurd (omega arith)
value_at_lem (x ∷ b) zero d q h = rw (eqb_refl x.variable)
value_at_lem (x ∷ b) (suc k) d q h =
    ⊎_elim
    (λ t. absurd (true_false _ (has_at b k (omega arith)) (rw (eqb-true x.variable (get_or b k no_item).variable t) at q.0)))
    (λ f. rw f (value_at_lem b k d q.1 (omega arith)))
    (true_or_false (eqb x.variable (get_or b k no_item).variable))

-- a variable that the list has stands at its position
pub has_position : (b : List Item) (v : ℕ) → ltb (position b v) (length b) ≡ has_in b v
unfolding position has_in
has_position [] v = refl
has_position (x ∷ b) v =
    ⊎_elim (λ t. rw t (lt-ltb 0 (suc (length b)) (omega arith)))
    (λ f. rw f (leb-suc-suc (suc (position b v)) (length b) ∙ has_position b v))
    (true_or_false (eqb x.variable v))

pub at_position :
    (b : List Item) (v d : ℕ) →
    has_in b v ≡ true →
    ((get_or b (position b v) no_item).variable ≡ v) × (value_in b v d ≡ (get_or b (position b v) no_item).value)
unfolding position has_in value_in
at_position [] v d h = absurd (false≢true h)
at_position (x ∷ b) v d h =
    ⊎_elim
    (λ (t : eqb x.variable v ≡ true). rw t (eqb-true _ _ t, refl))
    (λ (f : eqb x.variable v ≡ false). rw f (at_position b v d (sym (cond_false _ true (has_in b v) f) ∙ h)))
    (true_or_false (eqb x.variable v))

put_position :
    (b : List Item) (v x : ℕ) → set b (position b v) (with_value (get_or b (position b v) no_item) x) ≡ put_in b v x
unfolding position put_in
put_position [] v x = refl
put_position (e ∷ b) v x =
    ⊎_elim (λ t. rw t) (λ f. rw f (ap {B = List Item} (λ l. e ∷ l) (put_position b v x)))
    (true_or_false (eqb e.variable v))

find_below : (d : Dictionary) (v : ℕ) → has d v ≡ true → find d v < d.length
find_below d v h = omega (arith, ltb-true (find d v) (length (noted d)) h, length-take d.length d.items)

-- the look-up of a dictionary is that of its list
pub found : (d : Dictionary) (v x : ℕ) → has d v ≡ true → value_at d (find d v) ≡ value_in (noted d) v x
found d v x h =
    ap (λ (e : Item). e.value) (sym (get_or-take d.length d.items (find d v) no_item (find_below d v h)))
    ∙ sym (at_position (noted d) v x (sym (has_position (noted d) v) ∙ h)).1

pub noted_assign : (d : Dictionary) (v x : ℕ) → has d v ≡ true → noted (assign d (find d v) x) ≡ put_in (noted d) v x
unfolding assign
noted_assign d v x h =
    let l = find_below d v h in
    take-set-lt d.length d.items (find d v) _ l
    ∙ rw (← get_or-take d.length d.items (find d v) no_item l) (put_position (noted d) v x)

-- one item more
pub noted_insert :
    (d : Dictionary) (e : Item) →
    d.length < 32 → length d.items ≡ 32 → noted (insert d e) ≡ noted d ++ (e ∷ [])
unfolding insert
noted_insert d e h a = rw (lt-ltb d.length 32 h) (take-suc-set d.items d.length e (omega arith))

pub insert_length : (d : Dictionary) (e : Item) → d.length < 32 → (insert d e).length ≡ suc d.length
unfolding insert
insert_length d e h = rw (lt-ltb d.length 32 h)

pub insert_items : (d : Dictionary) (e : Item) → length (insert d e).items ≡ length d.items
unfolding insert
insert_items d e =
    on_test (λ (x : Dictionary). length x.items ≡ length d.items) (ltb d.length 32)
    (λ _. length-set d.items d.length e) (λ _. refl)

pub assign_items : (d : Dictionary) (k x : ℕ) → length (assign d k x).items ≡ length d.items
unfolding assign
assign_items d k x = length-set d.items k _

-- the items before the first altered one are not altered; that one is
unaltered_before : (seq : ℕ) (b : List Item) (k : ℕ) → k < unaltered seq b → altered seq (get_or b k no_item) ≡ false
unfolding unaltered
unaltered_before seq [] k h = absurd (omega arith)
unaltered_before seq (e ∷ b) zero h =
    ⊎_elim (λ (t : altered seq e ≡ true). absurd (omega (arith, rw t at h))) (λ f. f) (true_or_false (altered seq e))
unaltered_before seq (e ∷ b) (suc k) h =
    ⊎_elim (λ (t : altered seq e ≡ true). absurd (omega (arith, rw t at h)))
    (λ (f : altered seq e ≡ false). unaltered_before seq b k (omega (arith, rw f at h)))
    (true_or_false (altered seq e))

unaltered_at : (seq : ℕ) (b : List Item) → unaltered seq b < length b → altered seq (get_or b (unaltered seq b) no_item) ≡ true
unfolding unaltered
unaltered_at seq [] h = absurd (omega arith)
unaltered_at seq (e ∷ b) h =
    ⊎_elim (λ (t : altered seq e ≡ true). rw t t)
    (λ (f : altered seq e ≡ false). rw f (unaltered_at seq b (omega (arith, rw f at h))))
    (true_or_false (altered seq e))

-- the next write: the items from k up to it are not altered, and it is
pub next_before :
    (seq : ℕ) (d : Dictionary) (k j : ℕ) →
    k ≤ j → j < next_write seq d k → altered seq (get_or (noted d) j no_item) ≡ false
unfolding next_write
next_before seq d k j h l =
    let e : k + (j - k) ≡ j = omega arith in
    let z : altered seq (get_or (noted d) (k + (j - k)) no_item) ≡ false =
    rw (← get_or-drop k (noted d) (j - k) no_item) (unaltered_before seq (drop k (noted d)) (j - k) (omega arith)) in
    rw e at z

pub next_at :
    (seq : ℕ) (d : Dictionary) (k : ℕ) →
    next_write seq d k < length (noted d) → altered seq (get_or (noted d) (next_write seq d k) no_item) ≡ true
unfolding next_write
next_at seq d k h =
    rw (← get_or-drop k (noted d) (unaltered seq (drop k (noted d))) no_item)
    (unaltered_at seq (drop k (noted d)) (rw length-drop (omega arith)))
