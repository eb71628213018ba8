-- Trails of changes and rows of values: the changes of a history are a proper trail that shows its rows, and no other proper trail shows them.
use mathlib.Core.Bool.{Bool, true, false, cond}
use mathlib.Core.Path.{◌≡◌, refl, sym, ◌∙◌, ap, subst}
use mathlib.Core.Logic.{◌⊎◌, inl, inr, ⊎_elim}
use mathlib.Core.List.{List, [], ◌∷◌, ◌++◌}
use Prim.Native.Nat.{ℕ, zero, suc, ◌+◌, ◌-◌, ◌<◌, ◌≤◌, min}
use lib.Dec.{eqb, leb}
use lib.ListN.{get_or, set, length, length-set}
use lib.Seq.{get_or-set_same, get_or-set_other}
use native.Mathlib.Omega.{arith}
use native.Mathlib.Decide.{dec_lt, dec_le, ℕ_discrete}
use borrow.Author.Tests.{le-leb, lt-leb, eqb-true, eqb-false}
use Rattle.grammar.proofs.Cases.{on_test}
use Rattle.dump.specs.Binary.{over}
use Rattle.dump.specs.Dump.{Change, change, changes_at, changes_from, told_after}
use Rattle.dump.specs.Reading.{shown_at}
use Rattle.dump.proofs.Trails.{Proper, shown_after}

-- ---- what is shown: changes in order of time, and of variable within a time
abbrev After : ℕ → ℕ → Change → Type 0
After told next c = (told < c.time) ⊎ ((c.time ≡ told) × (next ≤ c.variable))

abbrev Ordered : ℕ → ℕ → List Change → Type 0
Ordered told next [] = Unit {0}
Ordered told next (c ∷ cs) = After told next c × Ordered c.time (suc c.variable) cs

pub proper_ordered : (n told next : ℕ) (values : List ℕ) (cs : List Change) → Proper n told next values cs → Ordered told next cs
proper_ordered n told next values [] p = tt
proper_ordered n told next values (c ∷ cs) p = (p.0.after, proper_ordered n c.time (suc c.variable) (set values c.variable c.value) cs p.1)

shown_now : (step time : ℕ) (shown : List ℕ) (v x : ℕ) → time ≤ step → shown_at step time shown v x ≡ set shown v x
shown_now step time shown v x h = rw (le-leb time step h)

shown_later : (step time : ℕ) (shown : List ℕ) (v x : ℕ) → step < time → shown_at step time shown v x ≡ shown
shown_later step time shown v x h = rw (lt-leb time step h)

-- a variable that no later change of this step can touch
pub shown_kept :
    (step told v next : ℕ) (shown : List ℕ) (cs : List Change) → (step < told) ⊎ ((step ≡ told) × (v < next)) → Ordered told next cs →
    get_or (shown_after step shown cs) v 0 ≡ get_or shown v 0
shown_kept step told v next shown [] h o = refl
shown_kept step told v next shown (c ∷ cs) h o =
    by (dec_lt step c.time) (λ s q. shown_kept step c.time v (suc c.variable) s cs q o.1)
  where
    by :
        Dec (step < c.time) → ((s : List ℕ) → (step < c.time) ⊎ ((step ≡ c.time) × (v < suc c.variable)) → get_or (shown_after step s cs) v 0 ≡ get_or s v 0) →
        get_or (shown_after step (shown_at step c.time shown c.variable c.value) cs) v 0 ≡ get_or shown v 0
    by (yes l) more = rw (shown_later step c.time shown c.variable c.value l) (more shown (inl l))
    by (no l) more =
        let here : (step ≡ c.time) × (v < c.variable) = place h o.0 in
        rw (shown_now step c.time shown c.variable c.value (omega arith))
        (more (set shown c.variable c.value) (inr (here.0, omega (arith, here.1)))
        ∙ get_or-set_other shown c.variable v c.value 0 (λ (e : v ≡ c.variable). omega (arith, here.1)))
      where
        place : (step < told) ⊎ ((step ≡ told) × (v < next)) → After told next c → (step ≡ c.time) × (v < c.variable)
        place (inl a) (inl b) = absurd (omega arith)
        place (inl a) (inr b) = absurd (omega (arith, b.0))
        place (inr a) (inl b) = absurd (omega (arith, a.0))
        place (inr a) (inr b) = (omega (arith, a.0, b.0), omega (arith, a.1, b.1))

-- past the last time all is shown
pub shown_last :
    (step last told next : ℕ) (shown : List ℕ) (cs : List Change) → told_after told cs ≤ last → last ≤ step → Ordered told next cs →
    shown_after step shown cs ≡ shown_after last shown cs
unfolding told_after
shown_last step last told next shown [] h l o = refl
shown_last step last told next shown (c ∷ cs) h l o =
    let r = told_rises c.time (suc c.variable) cs o.1 in
    rw (shown_now step c.time shown c.variable c.value (omega arith), shown_now last c.time shown c.variable c.value (omega arith))
    (shown_last step last c.time (suc c.variable) (set shown c.variable c.value) cs h l o.1)
  where
    told_rises : (told next : ℕ) (cs : List Change) → Ordered told next cs → told ≤ told_after told cs
    told_rises told next [] p = omega arith
    told_rises told next (c ∷ cs) p =
        let r = told_rises c.time (suc c.variable) cs p.1 in
        ⊎_elim (λ (h : told < c.time). omega arith) (λ (h : (c.time ≡ told) × (next ≤ c.variable)). omega (arith, h.0)) p.0

pub shown_length : (step : ℕ) (shown : List ℕ) (cs : List Change) → length (shown_after step shown cs) ≡ length shown
shown_length step shown [] = refl
shown_length step shown (c ∷ cs) =
    shown_length step (shown_at step c.time shown c.variable c.value) cs
    ∙ on_test (λ (l : List ℕ). length l ≡ length shown) (leb c.time step) (λ _. length-set shown c.variable c.value) (λ _. refl)

-- a place where every change satisfies what holds before
pub shown_all :
    (P : ℕ → ℕ → Type 0) (n step told next : ℕ) (values shown : List ℕ) (cs : List Change) → n ≤ length shown →
    ((c : Change) → c.variable < n → c.value < over → P c.variable c.value) → ((v : ℕ) → P v (get_or shown v 0)) → Proper n told next values cs →
    (v : ℕ) → P v (get_or (shown_after step shown cs) v 0)
shown_all P n step told next values shown [] size at h p v = h v
shown_all P n step told next values shown (c ∷ cs) size at h p v =
    shown_all P n step c.time (suc c.variable) (set values c.variable c.value) (shown_at step c.time shown c.variable c.value) cs
    (on_test (λ (l : List ℕ). n ≤ length l) (leb c.time step) (λ _. omega (arith, length-set shown c.variable c.value)) (λ _. size))
    at
    (λ w. on_test (λ (l : List ℕ). P w (get_or l w 0)) (leb c.time step) (λ _. here w (ℕ_discrete w c.variable)) (λ _. h w))
    p.1 v
  where
    here : (w : ℕ) → Dec (w ≡ c.variable) → P w (get_or (set shown c.variable c.value) w 0)
    here w (yes e) = rw (e, get_or-set_same shown c.variable c.value 0 (omega (arith, p.0.within))) (at c p.0.within p.0.small)
    here w (no e) = rw (get_or-set_other shown c.variable w c.value 0 e) (h w)

-- ---- no two proper trails show the same
head_value :
    (c : Change) (cs : List Change) (shown : List ℕ) → c.variable < length shown → Ordered c.time (suc c.variable) cs →
    get_or (shown_after c.time shown (c ∷ cs)) c.variable 0 ≡ c.value
head_value c cs shown l o =
    rw (shown_now c.time c.time shown c.variable c.value (omega arith))
    (shown_kept c.time c.time c.variable (suc c.variable) (set shown c.variable c.value) cs (inr (refl, omega arith)) o
    ∙ get_or-set_same shown c.variable c.value 0 l)

module _ (n told next : ℕ) (values : List ℕ) (size : n ≤ length values) where
  abbrev Same : List Change → List Change → Type 0
  Same cs ds = (step v : ℕ) → told ≤ step → v < n → get_or (shown_after step values cs) v 0 ≡ get_or (shown_after step values ds) v 0

  from_told : (c : Change) → After told next c → told ≤ c.time
  from_told c (inl h) = omega arith
  from_told c (inr h) = omega (arith, h.0)

  -- a change that only one of them has so early
  earlier :
      (c : Change) (cs ds : List Change) → Proper n told next values (c ∷ cs) → Ordered c.time (suc c.variable) ds → Same (c ∷ cs) ds → ⊥
  earlier c cs ds p o same =
      let q = p.0 in
      let l : c.variable < length values = omega (arith, q.within) in
      q.differs
      (sym (head_value c cs values l (proper_ordered n c.time (suc c.variable) (set values c.variable c.value) cs p.1))
      ∙ same c.time c.variable (from_told c q.after) q.within
      ∙ shown_kept c.time c.time c.variable (suc c.variable) values ds (inr (refl, omega arith)) o)

  sames : (cs ds : List Change) → Same cs ds → Same ds cs
  sames cs ds h step v p q = sym (h step v p q)

  -- the first change of both
  first_same :
      (c d : Change) (cs ds : List Change) → Proper n told next values (c ∷ cs) → Proper n told next values (d ∷ ds) → Same (c ∷ cs) (d ∷ ds) → c ≡ d
  first_same c d cs ds p q same = by (dec_lt c.time d.time) (dec_lt d.time c.time) (dec_lt c.variable d.variable)
      (dec_lt d.variable c.variable)
    where
      oc : Ordered c.time (suc c.variable) cs
      oc = proper_ordered n c.time (suc c.variable) (set values c.variable c.value) cs p.1

      od : Ordered d.time (suc d.variable) ds
      od = proper_ordered n d.time (suc d.variable) (set values d.variable d.value) ds q.1

      here : c.time ≡ d.time → c.variable ≡ d.variable → c ≡ d
      here e f =
          let lc : c.variable < length values = omega (arith, p.0.within) in
          let ld : d.variable < length values = omega (arith, q.0.within) in
          let x : c.value ≡ d.value =
          sym (head_value c cs values lc oc)
          ∙ same c.time c.variable (from_told c p.0.after) p.0.within
          ∙ (ap (λ (k : ℕ). get_or (shown_after k values (d ∷ ds)) c.variable 0) e
          ∙ (ap (λ (v : ℕ). get_or (shown_after d.time values (d ∷ ds)) v 0) f ∙ head_value d ds values ld od)) in
          λ i. record { time = e i; variable = f i; value = x i }

      by : Dec (c.time < d.time) → Dec (d.time < c.time) → Dec (c.variable < d.variable) → Dec (d.variable < c.variable) → c ≡ d
      by (yes h) b x y = absurd (earlier c cs (d ∷ ds) p (inl h, od) same)
      by (no a) (yes h) x y = absurd (earlier d ds (c ∷ cs) q (inl h, oc) (sames (c ∷ cs) (d ∷ ds) same))
      by (no a) (no b) (yes h) y = absurd (earlier c cs (d ∷ ds) p (inr (omega arith, omega arith), od) same)
      by (no a) (no b) (no x) (yes h) = absurd (earlier d ds (c ∷ cs) q (inr (omega arith, omega arith), oc) (sames (c ∷ cs) (d ∷ ds) same))
      by (no a) (no b) (no x) (no y) = here (omega arith) (omega arith)

pub unique :
    (n : ℕ) (cs ds : List Change) (told next : ℕ) (values : List ℕ) → n ≤ length values → Proper n told next values cs → Proper n told next values ds →
    ((step v : ℕ) → told ≤ step → v < n → get_or (shown_after step values cs) v 0 ≡ get_or (shown_after step values ds) v 0) → cs ≡ ds
unique n [] [] told next values size p q same = refl
unique n [] (d ∷ ds) told next values size p q same = absurd (earlier n told next values size d ds [] q tt (λ step v a b. sym (same step v a b)))
unique n (c ∷ cs) [] told next values size p q same = absurd (earlier n told next values size c cs [] p tt same)
unique n (c ∷ cs) (d ∷ ds) told next values size p q same =
    let e = first_same n told next values size c d cs ds p q same in
    let q₂ : Proper n c.time (suc c.variable) (set values c.variable c.value) ds =
    subst (λ (x : Change). Proper n x.time (suc x.variable) (set values x.variable x.value) ds) (sym e) q.1 in
    let more = unique n cs ds c.time (suc c.variable) (set values c.variable c.value) (omega (arith, length-set values c.variable c.value))
    p.1 q₂
    (λ step v a b. rest e step v a b) in
    λ i. e i ∷ more i
  where
    rest : c ≡ d → (step v : ℕ) → c.time ≤ step → v < n → get_or (shown_after step (set values c.variable c.value) cs) v 0 ≡ get_or
        (shown_after step (set values c.variable c.value) ds) v 0
    rest e step v a b =
        let now : shown_at step c.time values c.variable c.value ≡ set values c.variable c.value =
        shown_now step c.time values c.variable c.value a in
        let s : get_or (shown_after step values (c ∷ cs)) v 0 ≡ get_or (shown_after step values (c ∷ ds)) v 0 =
        same step v (omega (arith, from_told n told next values size c p.0.after)) b ∙ ap (λ (x : Change). get_or (shown_after step values (x ∷ ds)) v 0)
        (sym e) in
        ap (λ (l : List ℕ). get_or (shown_after step l cs) v 0) (sym now) ∙ s ∙ ap (λ (l : List ℕ). get_or (shown_after step l ds) v 0) now

-- ---- the changes of a history
-- values that agree with a row
abbrev pub Agree : ℕ → List ℕ → List ℕ → Type 0
Agree n values row = (v : ℕ) → v < n → get_or values v 0 ≡ get_or row v 0

abbrev pub SmallRow : ℕ → List ℕ → Type 0
SmallRow n row = (v : ℕ) → v < n → get_or row v 0 < over

-- the changes between two rows at time k: values that agree with the row after them up to v, and with the row before them from v on
module _ (n k : ℕ) (before after : List ℕ) (rest : List Change) (small : SmallRow n after) (bounded : suc k ≤ 1000000000000000000) where
  record Mixed (v : ℕ) (values : List ℕ) : Type 0 where
    done : (w : ℕ) → w < n → w < v → get_or values w 0 ≡ get_or after w 0
    left : (w : ℕ) → w < n → v ≤ w → get_or values w 0 ≡ get_or before w 0
    size : n ≤ length values

  mixed_same : (v : ℕ) (values : List ℕ) → get_or before v 0 ≡ get_or after v 0 → Mixed v values → Mixed (suc v) values
  mixed_same v values e m =
      record {
        done = λ w l h. by w l h (dec_lt w v);
        left = λ w l h. m.left w l (omega arith);
        size = m.size;
      }
    where
      by : (w : ℕ) → w < n → w < suc v → Dec (w < v) → get_or values w 0 ≡ get_or after w 0
      by w l h (yes q) = m.done w l q
      by w l h (no q) = let f : w ≡ v = omega arith in m.left w l (omega arith) ∙ rw f e

  mixed_set : (v : ℕ) (values : List ℕ) → v < n → Mixed v values → Mixed (suc v) (set values v (get_or after v 0))
  mixed_set v values inside m =
      record {
        done = λ w l h. by w l h (dec_lt w v);
        left = λ w l h. get_or-set_other values v w (get_or after v 0) 0 (λ (e : w ≡ v). omega arith) ∙ m.left w l (omega arith);
        size = omega (arith, length-set values v (get_or after v 0), m.size);
      }
    where
      by : (w : ℕ) → w < n → w < suc v → Dec (w < v) → get_or (set values v (get_or after v 0)) w 0 ≡ get_or after w 0
      by w l h (yes q) = get_or-set_other values v w (get_or after v 0) 0 (λ (e : w ≡ v). omega arith) ∙ m.done w l q
      by w l h (no q) = let f : w ≡ v = omega arith in rw f (get_or-set_same values v (get_or after v 0) 0 (omega (arith, m.size)))

  at_proper :
      (m v told next : ℕ) (values : List ℕ) → v + m ≡ n → (told ≤ k) ⊎ ((told ≡ suc k) × (next ≤ v)) → Mixed v values →
      ((told₂ next₂ : ℕ) (values₂ : List ℕ) → told₂ ≤ suc k → n ≤ length values₂ → Agree n values₂ after → Proper n told₂ next₂ values₂ rest) →
      Proper n told next values (changes_at (suc k) m v before after ++ rest)
  unfolding changes_at
  at_proper zero v told next values e o m go =
      go told next values (⊎_elim (λ (h : told ≤ k). omega arith) (λ (h : (told ≡ suc k) × (next ≤ v)). omega (arith, h.0)) o) m.size
      (λ w l. m.done w l (omega arith))
  at_proper (suc m) v told next values e o x go =
      by (eqb (get_or before v 0) (get_or after v 0)) refl
      (λ told₂ next₂ values₂ o₂ x₂. at_proper m (suc v) told₂ next₂ values₂ (omega arith) o₂ x₂ go)
    where
      by :
          (b : Bool) → eqb (get_or before v 0) (get_or after v 0) ≡ b →
          ((told₂ next₂ : ℕ) (values₂ : List ℕ) → (told₂ ≤ k) ⊎ ((told₂ ≡ suc k) × (next₂ ≤ suc v)) → Mixed (suc v) values₂ →
          Proper n told₂ next₂ values₂ (changes_at (suc k) m (suc v) before after ++ rest)) →
          Proper n told next values
          (cond b (changes_at (suc k) m (suc v) before after) (change (suc k) v (get_or after v 0) ∷ changes_at (suc k) m (suc v) before after) ++ rest)
      by true t more =
          more told next values (⊎_elim (λ (h : told ≤ k). inl h) (λ (h : (told ≡ suc k) × (next ≤ v)). inr (h.0, omega (arith, h.1))) o)
          (mixed_same v values (eqb-true _ _ t) x)
      by false t more =
          let inside : v < n = omega arith in (
            record {
              after = ⊎_elim (λ (h : told ≤ k). inl (omega arith)) (λ (h : (told ≡ suc k) × (next ≤ v)). inr (sym h.0, h.1)) o;
              within = inside;
              small = small v inside;
              bounded = bounded;
              differs = λ f. eqb-false (get_or before v 0) (get_or after v 0) t (sym (x.left v inside (omega arith)) ∙ sym f);
            },
            more (suc k) (suc v) (set values v (get_or after v 0)) (inr (refl, omega arith)) (mixed_set v values inside x),
          )

  -- what is shown of them at a step that is not before them
  module _ (step : ℕ) (P : List ℕ → Type 0) (due : suc k ≤ step) where
    at_shown :
        (m v : ℕ) (shown : List ℕ) → v + m ≡ n → Mixed v shown →
        ((shown₂ : List ℕ) → n ≤ length shown₂ → Agree n shown₂ after → P (shown_after step shown₂ rest)) →
        P (shown_after step shown (changes_at (suc k) m v before after ++ rest))
    unfolding changes_at
    at_shown zero v shown e x go = go shown x.size (λ w l. x.done w l (omega arith))
    at_shown (suc m) v shown e x go =
        by (eqb (get_or before v 0) (get_or after v 0)) refl (λ shown₂ x₂. at_shown m (suc v) shown₂ (omega arith) x₂ go)
      where
        by :
            (b : Bool) → eqb (get_or before v 0) (get_or after v 0) ≡ b →
            ((shown₂ : List ℕ) → Mixed (suc v) shown₂ → P (shown_after step shown₂ (changes_at (suc k) m (suc v) before after ++ rest))) →
            P
            (shown_after step shown
            (cond b (changes_at (suc k) m (suc v) before after) (change (suc k) v (get_or after v 0) ∷ changes_at (suc k) m (suc v) before after) ++ rest))
        by true t more = more shown (mixed_same v shown (eqb-true _ _ t) x)
        by false t more =
            subst (λ (y : List ℕ). P (shown_after step y (changes_at (suc k) m (suc v) before after ++ rest)))
            (sym (shown_now step (suc k) shown v (get_or after v 0) due))
            (more (set shown v (get_or after v 0)) (mixed_set v shown (omega arith) x))

  at_told :
      (m v told last : ℕ) → told ≤ suc k → ((told₂ : ℕ) → told₂ ≤ suc k → told_after told₂ rest ≤ last) →
      told_after told (changes_at (suc k) m v before after ++ rest) ≤ last
  unfolding changes_at told_after
  at_told zero v told last h go = go told h
  at_told (suc m) v told last h go = by (eqb (get_or before v 0) (get_or after v 0)) (λ told₂ h₂. at_told m (suc v) told₂ last h₂ go)
    where
      by :
          (b : Bool) → ((told₂ : ℕ) → told₂ ≤ suc k → told_after told₂ (changes_at (suc k) m (suc v) before after ++ rest) ≤ last) →
          told_after told
          (cond b (changes_at (suc k) m (suc v) before after) (change (suc k) v (get_or after v 0) ∷ changes_at (suc k) m (suc v) before after) ++ rest) ≤ last
      by true more = more told h
      by false more = more (suc k) (omega arith)

pub rows_proper :
    (n k told next : ℕ) (row values : List ℕ) (rows : List (List ℕ)) → told ≤ k → n ≤ length values → Agree n values row →
    ((j v : ℕ) → j < length rows → v < n → get_or (get_or rows j []) v 0 < over) → k + length rows ≤ 1000000000000000000 →
    Proper n told next values (changes_from n k row rows)
unfolding changes_from
rows_proper n k told next row values [] h size agree small bounded = tt
rows_proper n k told next row values (r ∷ rs) h size agree small bounded =
    at_proper n k row r (changes_from n (suc k) r rs) (λ v l. small 0 v (omega arith) l) (omega arith) n 0 told next values (omega arith) (inl h)
    (record { done = λ w l q. absurd (omega arith); left = λ w l q. agree w l; size = size })
    (λ told₂ next₂ values₂ h₂ size₂ agree₂. rows_proper n (suc k) told₂ next₂ r values₂ rs h₂ size₂ agree₂ (λ j v l q. small (suc j) v (omega arith) q)
    (omega arith))

pub rows_told :
    (n k told : ℕ) (row : List ℕ) (rows : List (List ℕ)) → told ≤ k → ((j v : ℕ) → j < length rows → v < n → get_or (get_or rows j []) v 0 < over) →
    k + length rows ≤ 1000000000000000000 → told_after told (changes_from n k row rows) ≤ k + length rows
unfolding changes_from told_after
rows_told n k told row [] h small bounded = omega arith
rows_told n k told row (r ∷ rs) h small bounded =
    at_told n k row r (changes_from n (suc k) r rs) (λ v l. small 0 v (omega arith) l) (omega arith) n 0 told (k + suc (length rs)) (omega arith)
    (λ told₂ h₂. let q = rows_told n (suc k) told₂ r rs h₂ (λ j v l q. small (suc j) v (omega arith) q) (omega arith) in omega arith)

pub rows_shown :
    (n step k : ℕ) (row shown : List ℕ) (rows : List (List ℕ)) → k ≤ step → n ≤ length shown → Agree n shown row →
    ((j v : ℕ) → j < length rows → v < n → get_or (get_or rows j []) v 0 < over) → k + length rows ≤ 1000000000000000000 → (v : ℕ) → v < n →
    get_or (shown_after step shown (changes_from n k row rows)) v 0 ≡ get_or (get_or (row ∷ rows) (min (step - k) (length rows)) []) v 0
unfolding changes_from
rows_shown n step k row shown [] h size agree small bounded v l =
    let z : min (step - k) 0 ≡ 0 = omega arith in rw z (agree v l)
rows_shown n step k row shown (r ∷ rs) h size agree small bounded v l =
    by (dec_le (suc k) step)
    (λ shown₂ d s a. rows_shown n step (suc k) r shown₂ rs d s a (λ j w p q. small (suc j) w (omega arith) q) (omega arith) v l)
  where
    by :
        Dec (suc k ≤ step) →
        ((shown₂ : List ℕ) → suc k ≤ step → n ≤ length shown₂ → Agree n shown₂ r →
        get_or (shown_after step shown₂ (changes_from n (suc k) r rs)) v 0 ≡ get_or (get_or (r ∷ rs) (min (step - suc k) (length rs)) []) v 0) →
        get_or (shown_after step shown (changes_at (suc k) n 0 row r ++ changes_from n (suc k) r rs)) v 0
        ≡ get_or (get_or (row ∷ r ∷ rs) (min (step - k) (suc (length rs))) []) v 0
    by (yes d) more =
        let j : min (step - k) (suc (length rs)) ≡ suc (min (step - suc k) (length rs)) = omega arith in
        rw j
        (at_shown n k row r (changes_from n (suc k) r rs) (λ w q. small 0 w (omega arith) q) (omega arith) step
        (λ (x : List ℕ). get_or x v 0 ≡ get_or (get_or (r ∷ rs) (min (step - suc k) (length rs)) []) v 0) d n 0 shown (omega arith)
        (record { done = λ w p q. absurd (omega arith); left = λ w p q. agree w p; size = size })
        (λ shown₂ s a. more shown₂ d s a))
    by (no d) more =
        let z : min (step - k) (suc (length rs)) ≡ 0 = omega arith in
        let e : step ≡ k = omega arith in
        let p = rows_proper n k k n row shown (r ∷ rs) (omega arith) size agree small bounded in
        let cs : List Change = changes_at (suc k) n 0 row r ++ changes_from n (suc k) r rs in
        rw z (shown_kept step k v n shown cs (inr (e, l)) (proper_ordered n k n shown cs p) ∙ agree v l)
