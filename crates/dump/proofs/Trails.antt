-- The times and values of a dump as a trail of changes: what is written of a trail reads back, and lines that were taken are those of a trail.
use Rattle.std.specs.Prelude.{Ok}
use mathlib.Core.Bool.{Bool, true, false, cond, not, ◌&&◌}
use mathlib.Core.Path.{◌≡◌, refl, sym, ◌∙◌, ap, subst}
use mathlib.Core.Logic.{◌⊎◌, inl, inr, ⊎_elim}
use mathlib.Core.List.{List, [], ◌∷◌, ◌++◌, append_assoc, append-nil}
use Prim.Native.Nat.{ℕ, zero, suc, ◌+◌, ◌-◌, ◌<◌, ◌≤◌}
use lib.Dec.{eqb, leb, ltb}
use lib.ListN.{get_or, set, drop, length, length-append, length-drop, drop_of_length-le}
use native.Mathlib.Omega.{arith}
use native.Mathlib.Decide.{dec_lt}
use borrow.Author.Tests.{lt-ltb, le-ltb, ltb-true, ltb-false, le-leb, leb-true, ne_eqb, eqb-false, not-true}
use Rattle.grammar.proofs.Cases.{on_test, and_true, clash}
use Rattle.grammar.proofs.Bytes.{drop_past}
use Rattle.dump.specs.declared.{DumpLine.DumpLine, Progress.Progress}
use Rattle.dump.specs.Binary.{over}
use Rattle.dump.specs.Dump.{time_text, value_text, Change, change, time_above, changes_text, told_after, lines_text}
use Rattle.dump.specs.Reading.{line_at, progress_refused, shown_at, with_value, with_time, takes_time, takes_value, next_line, lines_from}
use Rattle.dump.proofs.DumpLines.{time_reads, value_reads, time_there, value_there}

-- a change may follow: after the time told and the variables below `next`, of a variable that there is, to another value than it has
pub record Next (n told next : ℕ) (values : List ℕ) (c : Change) : Type 0 where
  pub after : (told < c.time) ⊎ ((c.time ≡ told) × (next ≤ c.variable))
  pub within : c.variable < n
  pub small : c.value < over
  pub bounded : c.time ≤ 1000000000000000000
  pub differs : c.value ≡ get_or values c.variable 0 → ⊥

abbrev pub Proper : ℕ → ℕ → ℕ → List ℕ → List Change → Type 0
Proper n told next values [] = Unit {0}
Proper n told next values (c ∷ cs) = Next n told next values c × Proper n c.time (suc c.variable) (set values c.variable c.value) cs

-- what a reader shows after the changes
abbrev pub shown_after : ℕ → List ℕ → List Change → List ℕ
shown_after step shown [] = shown
shown_after step shown (c ∷ cs) = shown_after step (shown_at step c.time shown c.variable c.value) cs

-- a reading that goes on
abbrev pub print_loop : ℕ → ℕ → ℕ → ℕ → List ℕ → List ℕ → Progress
print_loop at line time next values shown =
    record { verdict = Ok tt; at = at; line = line; time = time; next = next; values = values; shown = shown }

-- ---- tests
takes_time_lem : (s : Progress) (k : ℕ) → 0 < s.next → s.time < k → k ≤ 1000000000000000000 → takes_time s k ≡ true
takes_time_lem s k p q r = rw (ne_eqb s.next 0 (λ (e : s.next ≡ 0). omega arith), lt-ltb s.time k q, le-leb k 1000000000000000000 r)

takes_value_lem : (n : ℕ) (s : Progress) (v x : ℕ) → s.next ≤ v → v < n → (x ≡ get_or s.values v 0 → ⊥) → takes_value n s v x ≡ true
takes_value_lem n s v x p q r = rw (le-leb s.next v p, lt-ltb v n q, ne_eqb x (get_or s.values v 0) r)

record TimeTaken (s : Progress) (k : ℕ) : Type 0 where
  open_time : 0 < s.next
  above : s.time < k
  bounded : k ≤ 1000000000000000000

time_taken : (s : Progress) (k : ℕ) → takes_time s k ≡ true → TimeTaken s k
time_taken s k e =
    let h = and_true (not (eqb s.next 0)) (ltb s.time k && leb k 1000000000000000000) e in
    let l = and_true (ltb s.time k) (leb k 1000000000000000000) h.1 in
    let z : s.next ≡ 0 → ⊥ = eqb-false s.next 0 (flip (eqb s.next 0) h.0) in
    record { open_time = positive s.next z; above = ltb-true s.time k l.0; bounded = leb-true k 1000000000000000000 l.1 }
  where
    flip : (b : Bool) → not b ≡ true → b ≡ false
    flip b f = not-true b f

    positive : (x : ℕ) → (x ≡ 0 → ⊥) → 0 < x
    positive x f = omega arith

record ValueTaken (n : ℕ) (s : Progress) (v x : ℕ) : Type 0 where
  order : s.next ≤ v
  within : v < n
  differs : x ≡ get_or s.values v 0 → ⊥

value_taken : (n : ℕ) (s : Progress) (v x : ℕ) → takes_value n s v x ≡ true → ValueTaken n s v x
value_taken n s v x e =
    let h = and_true (leb s.next v) (ltb v n && not (eqb x (get_or s.values v 0))) e in
    let l = and_true (ltb v n) (not (eqb x (get_or s.values v 0))) h.1 in
    record { order = leb-true s.next v h.0; within = ltb-true v n l.0; differs = eqb-false x _ (not-true _ l.1) }

-- ---- texts
time_above_lem : (told k : ℕ) → told < k → time_above told k ≡ time_text k
time_above_lem told k h = rw (lt-ltb told k h)

time_same : (told k : ℕ) → k ≤ told → time_above told k ≡ []
time_same told k h = rw (le-ltb told k h)

-- a value at the time told
pub lines_value :
    (told last v x : ℕ) (cs : List Change) → lines_text told last (change told v x ∷ cs) ≡ value_text v x ++ lines_text told last cs
unfolding changes_text told_after
lines_value told last v x cs =
    rw (time_same told told (omega arith)) (append_assoc (value_text v x) (changes_text told cs) (time_above (told_after told cs) last))

-- a change at a time above
pub lines_time :
    (told last : ℕ) (c : Change) (cs : List Change) → told < c.time → lines_text told last (c ∷ cs) ≡ time_text c.time ++ lines_text c.time last (c ∷ cs)
unfolding changes_text told_after
lines_time told last c cs h =
    rw (time_above_lem told c.time h, time_same c.time c.time (omega arith))
    (append_assoc (time_text c.time) (value_text c.variable c.value ++ changes_text c.time cs) (time_above (told_after c.time cs) last))

pub lines_last : (told last : ℕ) → told < last → lines_text told last [] ≡ time_text last ++ []
unfolding changes_text told_after
lines_last told last h = rw (time_above_lem told last h) (sym (append-nil (time_text last)))

pub lines_none : (told last : ℕ) → last ≤ told → lines_text told last [] ≡ []
unfolding changes_text told_after
lines_none told last h = time_same told last h

told_rises : (n told next : ℕ) (values : List ℕ) (cs : List Change) → Proper n told next values cs → told ≤ told_after told cs
unfolding told_after
told_rises n told next values [] p = omega arith
told_rises n told next values (c ∷ cs) p =
    let r = told_rises n c.time (suc c.variable) (set values c.variable c.value) cs p.1 in
    ⊎_elim (λ (h : told < c.time). omega arith) (λ (h : (c.time ≡ told) × (next ≤ c.variable)). omega (arith, h.0)) p.0.after

-- what is left of a text that begins with a line
text_left : (t : List ℕ) (at : ℕ) (w r : List ℕ) → 0 < length w → drop at t ≡ w ++ r → at < length t
text_left t at w r h e = omega (arith, ap length e, length-drop at t, length-append w r)

no_text : (t : List ℕ) (at : ℕ) → drop at t ≡ [] → length t ≤ at
no_text t at e = omega (arith, ap length e, length-drop at t)

value_long : (v x : ℕ) → 0 < length (value_text v x)
unfolding value_text
value_long v x = omega arith

time_long : (k : ℕ) → 0 < length (time_text k)
unfolding time_text
time_long k = omega arith

-- ---- lines of a trail read back
module _ (step : ℕ) (t : List ℕ) (n : ℕ) where
  value_step :
      (f : ℕ) (s : Progress) (v x : ℕ) (r : List ℕ) → x < over → s.next ≤ v → v < n → (x ≡ get_or s.values v 0 → ⊥) →
      drop s.at t ≡ value_text v x ++ r → lines_from step t n (suc f) s ≡ lines_from step t n f (with_value step s v x (s.at + length (value_text v x)))
  unfolding lines_from
  value_step f s v x r small p q d e =
      rw (lt-ltb s.at (length t) (text_left t s.at (value_text v x) r (value_long v x) e), value_reads t s.at v x r small e, takes_value_lem n s v x p q d)

  time_step :
      (f : ℕ) (s : Progress) (k : ℕ) (r : List ℕ) → 0 < s.next → s.time < k → k ≤ 1000000000000000000 →
      drop s.at t ≡ time_text k ++ r → lines_from step t n (suc f) s ≡ lines_from step t n f (with_time s k (s.at + length (time_text k)))
  unfolding lines_from
  time_step f s k r p q b e =
      rw (lt-ltb s.at (length t) (text_left t s.at (time_text k) r (time_long k) e), time_reads t s.at k r (omega arith) e, takes_time_lem s k p q b)

  lines_end_lem : (f : ℕ) (s : Progress) → length t ≤ s.at → lines_from step t n f s ≡ s
  unfolding lines_from
  lines_end_lem zero s h = refl
  lines_end_lem (suc f) s h = rw (le-ltb s.at (length t) h)

  -- the reading of a trail: accepted, its last time, and what is shown
  pub record TrailRead (last : ℕ) (shown : List ℕ) (s : Progress) : Type 0 where
    pub verdict : s.verdict ≡ Ok tt
    pub time : s.time ≡ last
    pub shows : s.shown ≡ shown

  abbrev Reads : List Change → Type 0
  Reads cs =
      (f last at line told next : ℕ) (values shown : List ℕ) → length t - at ≤ f → drop at t ≡ lines_text told last cs →
      Proper n told next values cs → told_after told cs ≤ last → last ≤ 1000000000000000000 → (0 < next) ⊎ (last ≤ told) →
      TrailRead last (shown_after step shown cs) (lines_from step t n f (print_loop at line told next values shown))

  -- a value at the time told, with the changes after it
  value_read :
      (c : Change) (cs : List Change) → Reads cs → (f last at line next : ℕ) (values shown : List ℕ) → length t - at ≤ f →
      drop at t ≡ lines_text c.time last (c ∷ cs) → next ≤ c.variable → c.variable < n → c.value < over →
      (c.value ≡ get_or values c.variable 0 → ⊥) → Proper n c.time (suc c.variable) (set values c.variable c.value) cs →
      told_after c.time cs ≤ last → last ≤ 1000000000000000000 →
      TrailRead last (shown_after step shown (c ∷ cs)) (lines_from step t n f (print_loop at line c.time next values shown))
  value_read c cs more f last at line next values shown fuel e o w small d p rises bounded = go f fuel
    where
      e₁ : drop at t ≡ value_text c.variable c.value ++ lines_text c.time last cs
      e₁ = e ∙ lines_value c.time last c.variable c.value cs

      go : (f : ℕ) → length t - at ≤ f → TrailRead last (shown_after step shown (c ∷ cs)) (lines_from step t n f (print_loop at line c.time next values shown))
      go zero l = absurd (omega (arith, text_left t at (value_text c.variable c.value) _ (value_long c.variable c.value) e₁))
      go (suc f) l =
          let g : drop (at + length (value_text c.variable c.value)) t ≡ lines_text c.time last cs =
          drop_past t at (value_text c.variable c.value) _ e₁ in
          rw (value_step f (print_loop at line c.time next values shown) c.variable c.value _ small o w d e₁)
          (more f last (at + length (value_text c.variable c.value)) (line + 1) c.time (c.variable + 1) (set values c.variable c.value)
          (shown_at step c.time shown c.variable c.value) (omega (arith, value_long c.variable c.value)) g
          (rw (let k : c.variable + 1 ≡ suc c.variable = omega arith in k) p) rises bounded (inl (omega arith)))

  pub trail_read : (cs : List Change) → Reads cs
  unfolding told_after
  trail_read [] f last at line told next values shown fuel e p rises bounded opened = by (dec_lt told last)
    where
      by : Dec (told < last) → TrailRead last shown (lines_from step t n f (print_loop at line told next values shown))
      by (yes h) = go f fuel
        where
          e₁ : drop at t ≡ time_text last ++ []
          e₁ = e ∙ lines_last told last h

          go : (f : ℕ) → length t - at ≤ f → TrailRead last shown (lines_from step t n f (print_loop at line told next values shown))
          go zero l = absurd (omega (arith, text_left t at (time_text last) [] (time_long last) e₁))
          go (suc f) l =
              let o : 0 < next = ⊎_elim (λ (x : 0 < next). x) (λ (x : last ≤ told). absurd (omega arith)) opened in
              let g : drop (at + length (time_text last)) t ≡ [] = drop_past t at (time_text last) [] e₁ in
              rw (
                time_step f (print_loop at line told next values shown) last [] o h bounded e₁,
                lines_end_lem f
                    (with_time (print_loop at line told next values shown) last (at + length (time_text last))) (no_text t _ g),
              )
              (record { verdict = refl; time = refl; shows = refl })
      by (no h) =
          let l : last ≤ told = omega arith in
          rw (lines_end_lem f (print_loop at line told next values shown) (no_text t at (e ∙ lines_none told last l)))
          (record { verdict = refl; time = (let z : told ≡ last = omega (arith, same) in z); shows = refl })
        where
          same : told ≤ last
          same = rises
  trail_read (c ∷ cs) f last at line told next values shown fuel e p rises bounded opened =
      ⊎_elim (above (trail_read cs)) (within (trail_read cs)) p.0.after
    where
      above : Reads cs → told < c.time → TrailRead last (shown_after step shown (c ∷ cs)) (lines_from step t n f (print_loop at line told next values shown))
      above more h = go f fuel
        where
          e₁ : drop at t ≡ time_text c.time ++ lines_text c.time last (c ∷ cs)
          e₁ = e ∙ lines_time told last c cs h

          go : (f : ℕ) → length t - at ≤ f → TrailRead last (shown_after step shown (c ∷ cs)) (lines_from step t n f (print_loop at line told next values shown))
          go zero l = absurd (omega (arith, text_left t at (time_text c.time) _ (time_long c.time) e₁))
          go (suc f) l =
              let rises₂ = told_rises n c.time (suc c.variable) (set values c.variable c.value) cs p.1 in
              let o : 0 < next = ⊎_elim (λ (x : 0 < next). x) (λ (x : last ≤ told). absurd (omega (arith, rises))) opened in
              let g : drop (at + length (time_text c.time)) t ≡ lines_text c.time last (c ∷ cs) = drop_past t at (time_text c.time) _ e₁ in
              rw (time_step f (print_loop at line told next values shown) c.time _ o h p.0.bounded e₁)
              (value_read c cs more f last (at + length (time_text c.time)) (line + 1) 0 values shown (omega (arith, time_long c.time)) g (omega arith)
              p.0.within p.0.small p.0.differs p.1 rises bounded)

      within : Reads cs → (c.time ≡ told) × (next ≤ c.variable) →
          TrailRead last (shown_after step shown (c ∷ cs)) (lines_from step t n f (print_loop at line told next values shown))
      within more h =
          subst (λ (k : ℕ). TrailRead last (shown_after step shown (c ∷ cs)) (lines_from step t n f (print_loop at line k next values shown))) h.0
          (value_read c cs more f last at line next values shown fuel (e ∙ ap (λ (k : ℕ). lines_text k last (c ∷ cs)) (sym h.0)) h.1 p.0.within
          p.0.small p.0.differs p.1 rises bounded)

-- ---- lines that were taken are those of a trail
-- where a time was just told, what follows it is of that time
abbrev pub Headed : ℕ → ℕ → List Change → Type 0
Headed told last [] = last ≡ told
Headed told last (c ∷ cs) = c.time ≡ told

pub record Trail (t : List ℕ) (n : ℕ) (s r : Progress) : Type 0 where
  pub changes : List Change
  pub text : drop s.at t ≡ lines_text s.time r.time changes
  pub proper : Proper n s.time s.next s.values changes
  pub rises : told_after s.time changes ≤ r.time
  pub headed : s.next ≡ 0 → Headed s.time r.time changes
  pub bounded : s.time ≤ 1000000000000000000 → r.time ≤ 1000000000000000000

trail_none : (t : List ℕ) (n : ℕ) (s : Progress) → length t ≤ s.at → Trail t n s s
unfolding told_after
trail_none t n s h =
    record {
      changes = [];
      text = drop_of_length-le t {i = s.at} h ∙ sym (lines_none s.time s.time (omega arith));
      proper = tt;
      rises = omega arith;
      headed = λ _. refl;
      bounded = λ b. b;
    }

-- a value before a trail
trail_value :
    (t : List ℕ) (n step : ℕ) (s r : Progress) (v x i : ℕ) → line_at t s.at ≡ DumpLine.Value v x i → takes_value n s v x ≡ true →
    s.time ≤ 1000000000000000000 →
    Trail t n (with_value step s v x i) r → Trail t n s r
unfolding told_after
trail_value t n step s r v x i e taken bounded h =
    let there = value_there t s.at v x i e in
    let k = value_taken n s v x taken in
    record {
      changes = change s.time v x ∷ h.changes;
      text = there.text ∙ ap (λ (y : List ℕ). value_text v x ++ y) h.text ∙ sym (lines_value s.time r.time v x h.changes);
      proper = (
        record { after = inr (refl, k.order); within = k.within; small = there.small; bounded = bounded; differs = k.differs },
        rw (let a : suc v ≡ v + 1 = omega arith in a) h.proper,
      );
      rises = h.rises;
      headed = λ _. refl;
      bounded = h.bounded;
    }

-- a time before a trail
trail_time :
    (t : List ℕ) (n : ℕ) (s r : Progress) (k i : ℕ) → line_at t s.at ≡ DumpLine.Time k i → takes_time s k ≡ true →
    Trail t n (with_time s k i) r → Trail t n s r
unfolding told_after
trail_time t n s r k i e taken h =
    let w = time_taken s k taken in
    let there = (time_there t s.at k i e).text (omega (arith, w.bounded)) in
    let f = by h.changes (h.headed refl) h.proper in
    record {
      changes = h.changes;
      text = there ∙ ap (λ (y : List ℕ). time_text k ++ y) h.text ∙ sym f.0;
      proper = f.1;
      rises = below h.changes (h.headed refl) h.rises;
      headed = λ z. absurd (omega (arith, w.open_time));
      bounded = λ _. h.bounded w.bounded;
    }
  where
    w₀ : TimeTaken s k
    w₀ = time_taken s k taken

    by :
        (cs : List Change) → Headed k r.time cs → Proper n k 0 s.values cs →
        (lines_text s.time r.time cs ≡ time_text k ++ lines_text k r.time cs) × Proper n s.time s.next s.values cs
    by [] z p =
        let lt : s.time < r.time = omega (arith, w₀.above) in
        (lines_last s.time r.time lt ∙ rw z (ap (λ (y : List ℕ). time_text k ++ y) (sym (lines_none k k (omega arith)))), tt)
    by (c ∷ cs) z p =
        let lt : s.time < c.time = omega (arith, w₀.above) in
        let q = p.0 in (
          lines_time s.time r.time c cs lt ∙ ap (λ (y : ℕ). time_text y ++ lines_text y r.time (c ∷ cs)) z,
          (record { after = inl lt; within = q.within; small = q.small; bounded = q.bounded; differs = q.differs }, p.1),
        )

    below : (cs : List Change) → Headed k r.time cs → told_after k cs ≤ r.time → told_after s.time cs ≤ r.time
    below [] z l = omega (arith, w₀.above)
    below (c ∷ cs) z l = l

module _ (step : ℕ) (t : List ℕ) (n : ℕ) where
  pub trail_there :
      (f : ℕ) (s : Progress) → length t - s.at ≤ f → s.time ≤ 1000000000000000000 → (lines_from step t n f s).verdict ≡ Ok tt →
      Trail t n s (lines_from step t n f s)
  unfolding lines_from
  trail_there zero s fuel bounded = λ a. trail_none t n s (omega arith)
  trail_there (suc f) s fuel bounded =
      on_test (λ (z : Progress). z.verdict ≡ Ok tt → Trail t n s z) (ltb s.at (length t))
      (λ h. line (line_at t s.at) refl (λ x l b. trail_there f x l b))
      (λ h _. trail_none t n s (ltb-false s.at (length t) h))
    where
      line :
          (z : DumpLine) → line_at t s.at ≡ z →
          ((x : Progress) → length t - x.at ≤ f → x.time ≤ 1000000000000000000 → (lines_from step t n f x).verdict ≡ Ok tt →
          Trail t n x (lines_from step t n f x))
          →
          (next_line step n s z (λ y. lines_from step t n f y)).verdict ≡ Ok tt → Trail t n s (next_line step n s z (λ y. lines_from step t n f y))
      line (DumpLine.Time k i) e more =
          let l = (time_there t s.at k i e).later in
          on_test (λ (z : Progress). z.verdict ≡ Ok tt → Trail t n s z) (takes_time s k)
          (λ w a. trail_time t n s (lines_from step t n f (with_time s k i)) k i e w (more (with_time s k i) (omega arith) (time_taken s k w).bounded a))
          (λ w a. clash (cc))
      line (DumpLine.Value v x i) e more =
          let l = (value_there t s.at v x i e).later in
          on_test (λ (z : Progress). z.verdict ≡ Ok tt → Trail t n s z) (takes_value n s v x)
          (λ w a. trail_value t n step s (lines_from step t n f (with_value step s v x i)) v x i e w bounded
          (more (with_value step s v x i) (omega arith) bounded a))
          (λ w a. clash (cc))
      line DumpLine.Malformed e more = λ a. clash (cc)

-- ---- more than enough fuel changes nothing
module _ (step : ℕ) (t : List ℕ) (n : ℕ) where
  pub fuel : (f g : ℕ) (s : Progress) → length t - s.at ≤ f → length t - s.at ≤ g → lines_from step t n f s ≡ lines_from step t n g s
  unfolding lines_from
  fuel zero zero s p q = refl
  fuel zero (suc g) s p q = rw (le-ltb s.at (length t) (omega arith))
  fuel (suc f) zero s p q = rw (le-ltb s.at (length t) (omega arith))
  fuel (suc f) (suc g) s p q = by (ltb s.at (length t)) refl (λ x a b. fuel f g x a b)
    where
      by :
          (b : Bool) → ltb s.at (length t) ≡ b →
          ((x : Progress) → length t - x.at ≤ f → length t - x.at ≤ g → lines_from step t n f x ≡ lines_from step t n g x) →
          cond b (next_line step n s (line_at t s.at) (λ r. lines_from step t n f r)) s ≡ cond b
          (next_line step n s (line_at t s.at) (λ r. lines_from step t n g r)) s
      by false e more = refl
      by true e more = line (line_at t s.at) refl
        where
          inside : s.at < length t
          inside = ltb-true s.at (length t) e

          line : (z : DumpLine) → line_at t s.at ≡ z → next_line step n s z (λ r. lines_from step t n f r) ≡ next_line step n s z (λ r. lines_from step t n g r)
          line (DumpLine.Time k i) h =
              let l = (time_there t s.at k i h).later in
              ap (λ (x : Progress). cond (takes_time s k) x (progress_refused s.line)) (more (with_time s k i) (omega arith) (omega arith))
          line (DumpLine.Value v x i) h =
              let l = (value_there t s.at v x i h).later in
              ap (λ (y : Progress). cond (takes_value n s v x) y (progress_refused s.line)) (more (with_value step s v x i) (omega arith) (omega arith))
          line DumpLine.Malformed h = refl
