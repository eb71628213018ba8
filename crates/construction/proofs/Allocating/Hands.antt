-- The hands of the processes (document 02, order 9): the free cells are a stack without repeats, apart from every hand, and no two hands share a cell.
use Prim.Native.Nat.{ℕ, zero, suc, ◌<◌}
use mathlib.Core.Path.{◌≡◌, refl, sym, subst, ap, ◌∙◌}
use mathlib.Core.Bool.{Bool, true, false, cond, false≢true}
use mathlib.Core.Logic.{◌≢◌, ◌⊎◌, inl, inr, ⊎_elim}
use mathlib.Core.List.{List, [], ◌∷◌, ◌++◌}
use native.Mathlib.Omega.{arith}
use lib.Dec.{eqb}
use lib.ListN.{length, get_or, set, drop, length-set}
use lib.Seq.{get_or-set_same, get_or-set_other}
use borrow.Author.Tests.{eqb-true, eqb-false}
use Rattle.construction.specs.Instructions.{is_cell}
use Rattle.construction.specs.Allocation.{among, without, NoRepeats, Action, Performed, acted_on, words_after, chain, in_hand, hand, given_back_by, given_back}
use Rattle.construction.specs.Allocation.{Possible, ChainWithoutRepeats, Outside, TouchesOutside, OnlyByCodes, GivesOwn, OnlyFromHands, InHands}
use Rattle.construction.proofs.Basics.{true_or_false, true_false, eqb_refl, clash}
use Rattle.construction.proofs.Allocating.Chains.{not_among, among_cons, apart_cons, without_apart, without_none, without_among, cell_inside, Linked}
use Rattle.construction.proofs.Allocating.Chains.{linked_cells, linked_whole, chain_linked, linked_set}

cond_same {ℓ} : {A : Type ℓ} (b : Bool) (x : A) → cond b x x ≡ x
cond_same true x = refl
cond_same false x = refl

apart_front : (c : ℕ) (l m : List ℕ) → among c (l ++ m) ≡ false → among c l ≡ false
unfolding among
apart_front c [] m h = refl
apart_front c (x ∷ l) m h =
    let a = apart_cons c x (l ++ m) h in
    not_among c (x ∷ l) (λ t. ⊎_elim a.0 (λ k. true_false _ k (apart_front c l m a.1)) (among_cons c x l t))

drop_next : (k : ℕ) (l : List ℕ) (x : ℕ) (r : List ℕ) → drop k l ≡ x ∷ r → drop (suc k) l ≡ r
drop_next zero [] x r e = clash (cc)
drop_next zero (y ∷ l) x r e = cc
drop_next (suc k) [] x r e = clash (cc)
drop_next (suc k) (y ∷ l) x r e = drop_next k l x r e

-- words, hands and the cells given back, from the starting words on
pub record Kept (start words : List ℕ) (hands : ℕ → List ℕ) (back : List ℕ) : Type 0 where
  pub stack : List ℕ
  pub linked : Linked words (get_or words 0 0) stack
  pub repeats : NoRepeats stack
  pub one : (c i j : ℕ) → among c (hands i) ≡ true → among c (hands j) ≡ true → i ≡ j
  pub free : (c i : ℕ) → among c (hands i) ≡ true → among c stack ≡ false
  pub taken : ℕ
  pub shape : stack ≡ back ++ drop taken (chain start)

-- at the start all hands are empty
pub kept_start : (words : List ℕ) → ChainWithoutRepeats words → Kept words words (λ i. []) []
unfolding among
kept_start words r =
    record {
      stack = chain words;
      linked = chain_linked words r;
      repeats = r;
      one = λ c i j a b. absurd (false≢true a);
      free = λ c i a. absurd (false≢true a);
      taken = 0;
      shape = refl;
    }

module _ (start words : List ℕ) (hands : ℕ → List ℕ) (back : List ℕ) (K : Kept start words hands back) (i : ℕ) where
  -- the hands after an action of process i
  abbrev hands_after : Action → ℕ → List ℕ
  hands_after a j = cond (eqb i j) (in_hand a (hands j)) (hands j)

  -- variable 0 is no cell
  zero_free : among 0 K.stack ≡ false
  zero_free =
      not_among 0 K.stack
      (λ t. (cell_inside (length words) 0 (linked_cells words (get_or words 0 0) K.stack K.linked 0 t)).0 refl)

  -- other words, in which the free cells are linked as they were, and the same hands
  unmoved :
      {other : List ℕ} {held : ℕ → List ℕ} → Linked other (get_or other 0 0) K.stack → ((j : ℕ) → held j ≡ hands j) → Kept start other held back
  unmoved links same =
      record {
        stack = K.stack;
        linked = links;
        repeats = K.repeats;
        one = λ c j k p q. K.one c j k (rw same at p) (rw same at q);
        free = λ c j p. K.free c j (rw same at p);
        taken = K.taken;
        shape = K.shape;
      }

  -- a store to a variable that is neither 0 nor free
  stored : (v x : ℕ) → Outside words v → Kept start (set words v x) (hands_after (Action.Stored v x)) back
  stored v x (z, f) =
      let whole = linked_whole words K.stack K.linked K.repeats in
      let head : get_or (set words v x) 0 0 ≡ get_or words 0 0 = get_or-set_other words v 0 x 0 (λ e. eqb-false v 0 z (sym e)) in
      unmoved (rw head (linked_set words (get_or words 0 0) K.stack v x (rw whole at f) K.linked)) (λ j. cond_same (eqb i j) (hands j))

  -- a cell in a hand after one was taken
  took_hands : (v c j : ℕ) → among c (hands_after (Action.Took v) j) ≡ true → ((v ≡ c) × (i ≡ j)) ⊎ (among c (hands j) ≡ true)
  took_hands v c j h =
      ⊎_elim
      (λ (t : eqb i j ≡ true).
      ⊎_elim (λ e. inl (e, eqb-true i j t)) (λ k. inr k) (among_cons c v (hands j) (rw t at h)))
      (λ (f : eqb i j ≡ false). inr (rw f at h))
      (true_or_false (eqb i j))

  -- the first free cell is taken
  took_top :
      (v : ℕ) → is_cell (length words) v ≡ true → get_or words 0 0 ≡ v → (s : List ℕ) → K.stack ≡ s →
      Kept start (acted_on words (Action.Took v)) (hands_after (Action.Took v)) (given_back_by (Action.Took v) back)
  unfolding without
  took_top v t e [] q =
      absurd (true_false _ t (subst (λ c. is_cell (length words) c ≡ false) e (subst (Linked words (get_or words 0 0)) q K.linked)))
  took_top v t e (y ∷ s) q =
      record {
        stack = s;
        linked = rw head (linked_set (set words 0 (get_or words v 0)) (get_or words v 0) s v 0 apart
            (linked_set words (get_or words v 0) s 0 (get_or words v 0) away next));
        repeats = fresh.1;
        one = λ c j k a b. meet c j k (took_hands v c j a) (took_hands v c k b);
        free = λ c j a. gone c j (took_hands v c j a);
        taken = (rest back shape).0;
        shape = (rest back shape).1;
      }
    where
      link : Linked words (get_or words 0 0) (y ∷ s)
      link = subst (Linked words (get_or words 0 0)) q K.linked

      top : y ≡ v
      top = sym link.0 ∙ e

      fresh : NoRepeats (y ∷ s)
      fresh = subst NoRepeats q K.repeats

      next : Linked words (get_or words v 0) s
      next = rw e at link.2

      apart : among v s ≡ false
      apart = rw top at fresh.0

      away : among 0 s ≡ false
      away = (apart_cons 0 y s (rw q at zero_free)).1

      inside : (v ≢ 0) × (v < length words)
      inside = cell_inside (length words) v t

      head : get_or (set (set words 0 (get_or words v 0)) v 0) 0 0 ≡ get_or words v 0
      head = get_or-set_other (set words 0 (get_or words v 0)) v 0 0 0 (λ z. inside.0 (sym z)) ∙ get_or-set_same words 0 (get_or words v 0) 0
          (omega (arith, inside.1))

      shape : y ∷ s ≡ back ++ drop K.taken (chain start)
      shape = sym q ∙ K.shape

      unheld : (c j : ℕ) → among c (hands j) ≡ true → among c (y ∷ s) ≡ false
      unheld c j a = subst (λ l. among c l ≡ false) q (K.free c j a)

      meet :
          (c j k : ℕ) →
          ((v ≡ c) × (i ≡ j)) ⊎ (among c (hands j) ≡ true) → ((v ≡ c) × (i ≡ k)) ⊎ (among c (hands k) ≡ true) → j ≡ k
      meet c j k (inl a) (inl b) = sym a.1 ∙ b.1
      meet c j k (inl a) (inr b) = absurd ((apart_cons c y s (unheld c k b)).0 (top ∙ a.0))
      meet c j k (inr a) (inl b) = absurd ((apart_cons c y s (unheld c j a)).0 (top ∙ b.0))
      meet c j k (inr a) (inr b) = K.one c j k a b

      gone : (c j : ℕ) → ((v ≡ c) × (i ≡ j)) ⊎ (among c (hands j) ≡ true) → among c s ≡ false
      gone c j (inl a) = rw (← a.0) apart
      gone c j (inr a) = (apart_cons c y s (unheld c j a)).1

      rest :
          (b : List ℕ) → y ∷ s ≡ b ++ drop K.taken (chain start) →
          (k : ℕ) × (s ≡ without v b ++ drop k (chain start))
      rest [] h = (suc K.taken, sym (drop_next K.taken (chain start) y s (sym h)))
      rest (x ∷ b) h =
          let tail : s ≡ b ++ drop K.taken (chain start) = cc in
          let first : x ≡ v = cc top in
          let clear : among v b ≡ false = apart_front v b _ (subst (λ l. among v l ≡ false) tail apart) in
          (K.taken, rw (first, eqb_refl v, without_none v b clear) tail)

  -- a cell in a hand after one was given back by its holder
  gave_hands :
      (v : ℕ) → among v (hands i) ≡ true → (c j : ℕ) → among c (hands_after (Action.Gave v) j) ≡ true →
      (among c (hands j) ≡ true) × (v ≢ c)
  gave_hands v own c j h =
      ⊎_elim
      (λ (t : eqb i j ≡ true).
      let k : among c (without v (hands j)) ≡ true = rw t at h in
      (without_among c v (hands j) k, λ e. true_false _ (subst (λ d. among d (without v (hands j)) ≡ true) (sym e) k) (without_apart v (hands j))))
      (λ (f : eqb i j ≡ false).
      let k : among c (hands j) ≡ true = rw f at h in
      (k, λ e. eqb-false i j f (K.one c i j (rw e at own) k)))
      (true_or_false (eqb i j))

  -- a cell is given back: the new top of the stack
  gave :
      (v : ℕ) → is_cell (length words) v ≡ true → among v (hands i) ≡ true →
      Kept start (acted_on words (Action.Gave v)) (hands_after (Action.Gave v)) (v ∷ back)
  gave v t own =
      record {
        stack = v ∷ K.stack;
        linked = rw head (
          refl,
          rw (length-set, length-set) t,
          rw held
              (linked_set (set words v (get_or words 0 0)) (get_or words 0 0) K.stack 0 v zero_free
              (linked_set words (get_or words 0 0) K.stack v (get_or words 0 0) (K.free v i own) K.linked)),
        );
        repeats = (K.free v i own, K.repeats);
        one = λ c j k a b. K.one c j k (gave_hands v own c j a).0 (gave_hands v own c k b).0;
        free = λ c j a. not_among c (v ∷ K.stack)
            (λ m. ⊎_elim (gave_hands v own c j a).1 (λ k. true_false _ k (K.free c j (gave_hands v own c j a).0)) (among_cons c v K.stack m));
        taken = K.taken;
        shape = ap {B = List ℕ} (λ l. v ∷ l) K.shape;
      }
    where
      inside : (v ≢ 0) × (v < length words)
      inside = cell_inside (length words) v t

      head : get_or (set (set words v (get_or words 0 0)) 0 v) 0 0 ≡ v
      head = get_or-set_same (set words v (get_or words 0 0)) 0 v 0 (rw length-set (omega (arith, inside.1)))

      held : get_or (set (set words v (get_or words 0 0)) 0 v) v 0 ≡ get_or words 0 0
      held = get_or-set_other (set words v (get_or words 0 0)) 0 v v 0 inside.0 ∙ get_or-set_same words v (get_or words 0 0) 0 inside.1

  -- every action that the codes can make, under the premises
  pub kept_action :
      (a : Action) → Possible words a → TouchesOutside words a → GivesOwn (hands i) a →
      Kept start (acted_on words a) (hands_after a) (given_back_by a back)
  kept_action (Action.Took c) p t g = took_top c p.1 p.0 K.stack refl
  kept_action Action.TookNone p t g = unmoved K.linked (λ j. cond_same (eqb i j) (hands j))
  kept_action (Action.Gave c) p t g = gave c p g
  kept_action (Action.Loaded v) p t g = unmoved K.linked (λ j. cond_same (eqb i j) (hands j))
  kept_action (Action.Stored v x) p t g = stored v x t

-- actions that the codes can make, one after the other
abbrev pub AllPossible : List ℕ → List Performed → Type 0
AllPossible words [] = Unit {0}
AllPossible words (x ∷ xs) = Possible (words_after words xs) x.action × AllPossible words xs

pub kept_actions :
    (start : List ℕ) (xs : List Performed) → ChainWithoutRepeats start →
    AllPossible start xs → OnlyByCodes start xs → OnlyFromHands xs → Kept start (words_after start xs) (hand xs) (given_back xs)
unfolding words_after hand given_back
kept_actions start [] r p t g = kept_start start r
kept_actions start (x ∷ xs) r p t g =
    kept_action start (words_after start xs) (hand xs) (given_back xs) (kept_actions start xs r p.1 t.1 g.1) x.process x.action
    p.0 t.0 g.0

-- what the theorem says of hands and of the chain
pub kept_hands : (start : List ℕ) (xs : List Performed) → Kept start (words_after start xs) (hand xs) (given_back xs) → InHands start xs
kept_hands start xs K =
    let whole = linked_whole (words_after start xs) K.stack K.linked K.repeats in
    record {
      one = K.one;
      free = λ c i a. rw whole (K.free c i a);
      taken = K.taken;
      stack = whole ∙ K.shape;
      next = λ c l e. top c l K.stack K.linked (K.shape ∙ ap {B = List ℕ} (λ m. m ++ drop K.taken (chain start)) e);
    }
  where
    top :
        (c : ℕ) (l s : List ℕ) → Linked (words_after start xs) (get_or (words_after start xs) 0 0) s →
        s ≡ c ∷ (l ++ drop K.taken (chain start)) → get_or (words_after start xs) 0 0 ≡ c
    top c l [] q e = clash (cc)
    top c l (x ∷ s) q e = q.0 ∙ (cc)
