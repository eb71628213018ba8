-- The chain of free cells (document 02, order 9): numbers in lists, chains that end, and a store apart from a chain leaves it.
use Prim.Native.Nat.{ℕ, zero, suc, ◌≤◌, ◌<◌}
use mathlib.Core.Path.{◌≡◌, refl, sym, subst, ap, ◌∙◌}
use mathlib.Core.Bool.{true, false, not, false≢true}
use mathlib.Core.Logic.{◌≢◌, ◌⊎◌, inl, inr, ⊎_elim}
use mathlib.Core.List.{List, [], ◌∷◌}
use native.Mathlib.Omega.{arith}
use lib.Dec.{eqb, ltb}
use lib.ListN.{length, get_or, set, length-set}
use lib.Seq.{get_or-set_other}
use borrow.Author.Tests.{eqb-true, eqb-false, ltb-true, not-true, ne_eqb}
use Rattle.construction.specs.Instructions.{is_cell}
use Rattle.construction.specs.Allocation.{among, without, NoRepeats, chain_from, chain}
use Rattle.construction.proofs.Basics.{on_test, and_true, true_or_false, true_false, cond_true, cond_false, eqb_refl}

-- a number in a list of one more
pub among_head : (c : ℕ) (l : List ℕ) → among c (c ∷ l) ≡ true
unfolding among
among_head c l = rw (eqb_refl c)

pub among_tail : (c x : ℕ) (l : List ℕ) → among c l ≡ true → among c (x ∷ l) ≡ true
unfolding among
among_tail c x l h = on_test (λ b. b ≡ true) (eqb x c) (λ _. refl) (λ _. h)

pub among_cons : (c x : ℕ) (l : List ℕ) → among c (x ∷ l) ≡ true → (x ≡ c) ⊎ (among c l ≡ true)
unfolding among
among_cons c x l h =
    ⊎_elim (λ t. inl (eqb-true x c t)) (λ f. inr (sym (cond_false _ true (among c l) f) ∙ h)) (true_or_false (eqb x c))

pub apart_cons : (c x : ℕ) (l : List ℕ) → among c (x ∷ l) ≡ false → (x ≢ c) × (among c l ≡ false)
unfolding among
apart_cons c x l h =
    ⊎_elim (λ t. absurd (true_false _ (cond_true _ true (among c l) t) h))
    (λ f. (eqb-false x c f, sym (cond_false _ true (among c l) f) ∙ h))
    (true_or_false (eqb x c))

-- a number that is not in a list, by what it would mean that it were
pub not_among : (c : ℕ) (l : List ℕ) → (among c l ≡ true → ⊥) → among c l ≡ false
not_among c l h = ⊎_elim (λ t. absurd (h t)) (λ f. f) (true_or_false (among c l))

-- the list without a number
pub without_apart : (c : ℕ) (l : List ℕ) → among c (without c l) ≡ false
unfolding among without
without_apart c [] = refl
without_apart c (x ∷ l) =
    on_test (λ m. among c m ≡ false) (eqb x c) (λ _. without_apart c l) (λ f. rw f (without_apart c l))

pub without_none : (c : ℕ) (l : List ℕ) → among c l ≡ false → without c l ≡ l
unfolding without
without_none c [] h = refl
without_none c (x ∷ l) h =
    let a = apart_cons c x l h in rw (ne_eqb x c a.0) (ap {B = List ℕ} (λ m. x ∷ m) (without_none c l a.1))

pub without_among : (c d : ℕ) (l : List ℕ) → among c (without d l) ≡ true → among c l ≡ true
unfolding without
without_among c d [] h = h
without_among c d (x ∷ l) h =
    ⊎_elim
    (λ (t : eqb x d ≡ true). among_tail c x l (without_among c d l (rw t at h)))
    (λ (f : eqb x d ≡ false). ⊎_elim (λ (e : x ≡ c). rw e (among_head c l)) (λ k. among_tail c x l (without_among c d l k))
    (among_cons c x (without d l) (rw f at h)))
    (true_or_false (eqb x d))

without_repeats : (c : ℕ) (l : List ℕ) → NoRepeats l → NoRepeats (without c l)
unfolding without
without_repeats c [] q = tt
without_repeats c (x ∷ l) q =
    on_test NoRepeats (eqb x c) (λ _. without_repeats c l q.1)
    (λ _. (not_among x (without c l) (λ t. true_false _ (without_among x c l t) q.0), without_repeats c l q.1))

-- without a number a list that has no repeats loses one at most
without_length : (c : ℕ) (l : List ℕ) → NoRepeats l → length l ≤ suc (length (without c l))
unfolding without
without_length c [] q = omega arith
without_length c (x ∷ l) q =
    ⊎_elim
    (λ (t : eqb x c ≡ true). rw (t, without_none c l (subst (λ y. among y l ≡ false) (eqb-true x c t) q.0)) (omega arith))
    (λ (f : eqb x c ≡ false). rw f (omega (arith, without_length c l q.1)))
    (true_or_false (eqb x c))

-- numbers below n without repeats are at most n
pub few : (n : ℕ) (l : List ℕ) → NoRepeats l → ((c : ℕ) → among c l ≡ true → c < n) → length l ≤ n
few zero [] q h = omega arith
few zero (x ∷ l) q h = absurd (omega (arith, h x (among_head x l)))
few (suc n) l q h =
    let m = few n (without n l) (without_repeats n l q) below in
    omega (arith, without_length n l q)
  where
    below : (c : ℕ) → among c (without n l) ≡ true → c < n
    below c k =
        let s = h c (without_among c n l k) in
        let ne : c ≢ n = λ e. true_false _ (subst (λ y. among y (without n l) ≡ true) e k) (without_apart n l) in
        omega arith

-- a number that a cell can have
pub cell_inside : (n c : ℕ) → is_cell n c ≡ true → (c ≢ 0) × (c < n)
cell_inside n c h =
    let a = and_true (not (eqb c 0)) (ltb c n) h in
    (eqb-false c 0 (not-true _ a.0), ltb-true c n a.1)

-- from a number on the free cells are the list, and there the chain ends
abbrev pub Linked : List ℕ → ℕ → List ℕ → Type 0
Linked words c [] = is_cell (length words) c ≡ false
Linked words c (x ∷ l) = (c ≡ x) × (is_cell (length words) c ≡ true) × Linked words (get_or words c 0) l

pub linked_cells : (words : List ℕ) (d : ℕ) (l : List ℕ) → Linked words d l → (c : ℕ) → among c l ≡ true → is_cell (length words) c ≡ true
unfolding among
linked_cells words d [] q c h = absurd (false≢true h)
linked_cells words d (x ∷ l) q c h =
    ⊎_elim (λ (e : x ≡ c). rw (← e, ← q.0) q.1) (λ k. linked_cells words (get_or words d 0) l q.2 c k) (among_cons c x l h)

-- the computed chain is the list, ..
linked_chain : (k : ℕ) (words : List ℕ) (c : ℕ) (l : List ℕ) → Linked words c l → length l ≤ k → chain_from k words c ≡ l
unfolding chain_from
linked_chain zero words c [] q h = refl
linked_chain zero words c (x ∷ l) q h = absurd (omega arith)
linked_chain (suc k) words c [] q h = rw q
linked_chain (suc k) words c (x ∷ l) q h =
    rw q.1 (rw (linked_chain k words (get_or words c 0) l q.2 (omega arith), q.0))

pub linked_whole : (words : List ℕ) (l : List ℕ) → Linked words (get_or words 0 0) l → NoRepeats l → chain words ≡ l
linked_whole words l q r =
    linked_chain (length words) words (get_or words 0 0) l q
    (few (length words) l r (λ c h. (cell_inside (length words) c (linked_cells words (get_or words 0 0) l q c h)).1))

-- .. and a computed chain without repeats ends
chain_cells : (k : ℕ) (words : List ℕ) (d c : ℕ) → among c (chain_from k words d) ≡ true → is_cell (length words) c ≡ true
unfolding chain_from among
chain_cells zero words d c h = absurd (false≢true h)
chain_cells (suc k) words d c h =
    ⊎_elim
    (λ (t : is_cell (length words) d ≡ true).
    ⊎_elim (λ (e : d ≡ c). rw (← e) t) (λ m. chain_cells k words (get_or words d 0) c m)
    (among_cons c d (chain_from k words (get_or words d 0)) (rw t at h)))
    (λ (f : is_cell (length words) d ≡ false). absurd (false≢true (rw f at h)))
    (true_or_false (is_cell (length words) d))

chain_ends : (k : ℕ) (words : List ℕ) (c : ℕ) → length (chain_from k words c) < k → Linked words c (chain_from k words c)
unfolding chain_from
chain_ends zero words c h = absurd (omega arith)
chain_ends (suc k) words c h =
    ⊎_elim
    (λ (t : is_cell (length words) c ≡ true). rw t (refl, t, chain_ends k words (get_or words c 0) (omega (arith, rw t at h))))
    (λ (f : is_cell (length words) c ≡ false). rw f f)
    (true_or_false (is_cell (length words) c))

long_linked : (words : List ℕ) → 0 < length words → NoRepeats (chain words) → Linked words (get_or words 0 0) (chain words)
long_linked words z r = chain_ends (length words) words (get_or words 0 0) (few (length words) (0 ∷ chain words) (apart, r) below)
  where
    inside : (c : ℕ) → among c (chain words) ≡ true → (c ≢ 0) × (c < length words)
    inside c h = cell_inside (length words) c (chain_cells (length words) words (get_or words 0 0) c h)

    apart : among 0 (chain words) ≡ false
    apart = not_among 0 (chain words) (λ t. (inside 0 t).0 refl)

    below : (c : ℕ) → among c (0 ∷ chain words) ≡ true → c < length words
    below c h = ⊎_elim (λ (e : 0 ≡ c). omega arith) (λ k. (inside c k).1) (among_cons c 0 (chain words) h)

pub chain_linked : (words : List ℕ) → NoRepeats (chain words) → Linked words (get_or words 0 0) (chain words)
unfolding chain_from
chain_linked [] r = refl
chain_linked (y ∷ ys) r = long_linked (y ∷ ys) (omega arith) r

-- a store apart from the chain leaves it
pub linked_set :
    (words : List ℕ) (c : ℕ) (l : List ℕ) (v x : ℕ) → among v l ≡ false → Linked words c l → Linked (set words v x) c l
linked_set words c [] v x h q = rw length-set q
linked_set words c (y ∷ l) v x h q =
    let a = apart_cons v y l h in
    let ne : c ≢ v = λ e. a.0 (sym q.0 ∙ e) in
    (q.0, rw length-set q.1, rw (get_or-set_other words v c x 0 ne) (linked_set words (get_or words c 0) l v x a.1 q.2))
