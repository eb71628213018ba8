-- The lines of a dump put into a buffer, part by part.
use mathlib.Core.Bool.{Bool, true, false, cond}
use mathlib.Core.Path.{◌≡◌, refl, sym, ◌∙◌, ap, subst}
use mathlib.Core.List.{List, [], ◌∷◌, ◌++◌, append-nil, append_assoc}
use Prim.Native.Nat.{ℕ, zero, suc, ◌+◌, ◌-◌, ◌*◌, ◌/◌, ◌%◌, ◌<◌, ◌≤◌}
use lib.Dec.{eqb, ltb}
use lib.ListN.{get_or, length, length-append}
use lib.Seq.{sets}
use native.Mathlib.Omega.{arith}
use borrow.Author.Tests.{lt-ltb, le-ltb, eq-eqb, ne_eqb}
use Rattle.grammar.specs.Writing.{decimal, field_text, largest, Put}
use Rattle.grammar.proofs.Puts.{Room, Rest, rest_all, rest_step, rest_last, rest_none, put_both}
use Rattle.construction.specs.Answers.{bytes}
use Rattle.construction.proofs.Text.Writing.{Series}
use Rattle.grammar.proofs.Cases.{on_test}
use Rattle.answers.proofs.Texts.{put_word_number}
use Rattle.dump.specs.Binary.{binary, over}
use Rattle.dump.specs.Dump.{line_of, timescale_line, scope_line, code_of, var_line, upscope_line, definitions_line, vars_text, header_text, time_text, value_text}
use Rattle.dump.specs.Dump.{values_text, Change, change, changes_at, time_above, changes_text, told_after, opening_text}
use Rattle.dump.proofs.Binaries.{binary_one, binary_more, binary_short}
use Rattle.dump_writer.specs.declared.Told.{Told}
use Rattle.dump_writer.specs.Courses.{change_of, Tells}

-- ---- binary numbers
module _ {b : List ℕ} {at v j : ℕ} {z : List ℕ} where
  pub put_bit : v < 2 → Put b at ((48 + v) ∷ []) j z → Put b at (binary v) j z
  put_bit h p = rw (binary_one v h) p

  pub put_bits : {i : ℕ} {y : List ℕ} → 2 ≤ v → Room b at → Put b at (binary (v / 2)) i y → Put y i ((48 + v % 2) ∷ []) j z → Put b at (binary v) j z
  put_bits h l p q = rw (binary_more v h) (put_both l p q)

-- nothing is put
pub put_none : (b : List ℕ) (at : ℕ) → at ≤ largest → Put b at [] at b
put_none b at h = record { place = omega arith; bytes = refl }

-- ---- times and values
module _ {b : List ℕ} {at : ℕ} (room : Room b at) {i : ℕ} {z₁ : List ℕ} where
  pub put_time : {j : ℕ} {z₂ : List ℕ} (k : ℕ) → Put b at (35 ∷ []) i z₁ → Put z₁ i (field_text 10 k) j z₂ → Put b at (time_text k) j z₂
  unfolding time_text
  put_time k p q = put_both room p q

pub put_told : {b : List ℕ} {at i : ℕ} {z : List ℕ} (told k : ℕ) → told < k → Put b at (time_text k) i z → Put b at (time_above told k) i z
put_told told k h p = rw (lt-ltb told k h) p

pub put_untold : (b : List ℕ) (at told k : ℕ) → at ≤ largest → k ≤ told → Put b at (time_above told k) at b
put_untold b at told k l h = rw (le-ltb told k h) (put_none b at l)

module _ {b : List ℕ} {at : ℕ} (room : Room b at) {i j k l m : ℕ} {z₁ z₂ z₃ z₄ z₅ : List ℕ} where
  pub put_value_lem :
      (v x : ℕ) → Put b at (98 ∷ []) i z₁ → Put z₁ i (binary x) j z₂ → Put z₂ j (32 ∷ []) k z₃ → Put z₃ k ((33 + v) ∷ []) l z₄ → Put z₄ l (10 ∷ []) m z₅ →
      Put b at (value_text v x) m z₅
  unfolding value_text
  put_value_lem v x p₁ p₂ p₃ p₄ p₅ =
      rest_last (rest_step (rest_step (rest_step (rest_step (rest_all b at (98 ∷ (binary x ++ (32 ∷ code_of v ∷ 10 ∷ []))) room) p₁) p₂) p₃) p₄) p₅

  pub put_var :
      (v : ℕ) → Put b at (bytes "$var wire 32 ") i z₁ → Put z₁ i ((33 + v) ∷ []) j z₂ → Put z₂ j (bytes " v") k z₃ → Put z₃ k (decimal v) l z₄ →
      Put z₄ l (line_of " $end") m z₅ → Put b at (var_line v) m z₅
  unfolding var_line
  put_var v p₁ p₂ p₃ p₄ p₅ =
      rest_last (rest_step (rest_step (rest_step (rest_step (rest_all b at (bytes "$var wire 32 " ++ (code_of v ∷ (bytes " v" ++ (decimal v ++ line_of " $end")))) room) p₁) p₂) p₃) p₄) p₅

  pub put_header :
      (n : ℕ) → Put b at timescale_line i z₁ → Put z₁ i scope_line j z₂ → Put z₂ j (vars_text n 0) k z₃ → Put z₃ k upscope_line l z₄ →
      Put z₄ l definitions_line m z₅ → Put b at (header_text n) m z₅
  unfolding header_text
  put_header n p₁ p₂ p₃ p₄ p₅ =
      rest_last
      (rest_step
      (rest_step
      (rest_step (rest_step (rest_all b at (timescale_line ++ (scope_line ++ (vars_text n 0 ++ (upscope_line ++ definitions_line)))) room) p₁) p₂) p₃)
      p₄)
      p₅

module _ {b : List ℕ} {i j k : ℕ} {z₁ z₂ z₃ : List ℕ} where
  pub put_opening_lem :
      (n : ℕ) (row : List ℕ) → Room b 0 → Put b 0 (header_text n) i z₁ → Put z₁ i (time_text 0) j z₂ → Put z₂ j (values_text n 0 row) k z₃ →
      Put b 0 (opening_text n row) k z₃
  unfolding opening_text
  put_opening_lem n row room p₁ p₂ p₃ = rest_last (rest_step (rest_step (rest_all b 0 (header_text n ++ (time_text 0 ++ values_text n 0 row)) room) p₁) p₂) p₃

pub vars_series : Series (λ m v. vars_text m v) (λ v. var_line v)
unfolding vars_text
vars_series = record { none = λ k. refl; more = λ m k. refl }

pub values_series : (row : List ℕ) → Series (λ m v. values_text m v row) (λ v. value_text v (get_or row v 0))
unfolding values_text
values_series row = record { none = λ k. refl; more = λ m k. refl }

-- ---- changes
abbrev told_at : ℕ → ℕ → Told
told_at at time = record { at = at; time = time }

pub change_same : (b : List ℕ) (at told k v x y : ℕ) → at ≤ largest → x ≡ y → Tells b at told (change_of k v x y) (told_at at told) b
unfolding changes_text told_after
change_same b at told k v x y l e = rw (eq-eqb x y e) (record { put = put_none b at l; time = refl })

module _ {b : List ℕ} {at : ℕ} (room : Room b at) {i j : ℕ} {z₁ z₂ : List ℕ} where
  pub change_other :
      (told k v x y : ℕ) → (x ≡ y → ⊥) → Put b at (time_above told k) i z₁ → Put z₁ i (value_text v y) j z₂ → Tells b at told (change_of k v x y) (told_at j k) z₂
  unfolding changes_text told_after
  change_other told k v x y n p q =
      rw (ne_eqb x y n) (record { put = rw (append-nil (value_text v y)) (put_both room p q); time = refl })

pub changes_append : (told : ℕ) (a b : List Change) → changes_text told (a ++ b) ≡ changes_text told a ++ changes_text (told_after told a) b
unfolding changes_text told_after
changes_append told [] b = refl
changes_append told (c ∷ a) b =
    ap (λ (x : List ℕ). time_above told c.time ++ (value_text c.variable c.value ++ x)) (changes_append c.time a b)
    ∙ sym (simp append_assoc)

pub told_append : (told : ℕ) (a b : List Change) → told_after told (a ++ b) ≡ told_after (told_after told a) b
unfolding told_after
told_append told [] b = refl
told_append told (c ∷ a) b = told_append c.time a b

changes_cons : (k m v : ℕ) (before after : List ℕ) → changes_at k (suc m) v before after ≡ change_of k v (get_or before v 0) (get_or after v 0) ++ changes_at k m
    (suc v) before after
unfolding changes_at
changes_cons k m v before after = go (eqb (get_or before v 0) (get_or after v 0))
  where
    go : (b : Bool) → cond b (changes_at k m (suc v) before after) (change k v (get_or after v 0) ∷ changes_at k m (suc v) before after) ≡ cond b []
        (change k v (get_or after v 0) ∷ []) ++ changes_at k m (suc v) before after
    go true = refl
    go false = refl

-- ---- how long the changes of one time are
-- a row of 32-bit words
abbrev pub Words : List ℕ → Type 0
Words row = (v : ℕ) → get_or row v 0 < over

-- a number of 64 bits has at most 20 digits: so many does a buffer of no bytes tell
time_short : (k : ℕ) → k ≤ largest → length (time_text k) ≤ 22
unfolding time_text
time_short k h =
    let p = (put_word_number {b = []} {at = 0} {z = sets [] 0 (decimal k)} [] k (omega arith) h (put_none [] 0 (omega arith))
    (record { place = refl; bytes = refl })).1 in
    omega (arith, length-append (decimal k) (10 ∷ []))

value_short : (v x : ℕ) → x < over → length (value_text v x) ≤ 36
unfolding value_text
value_short v x h = omega (arith, binary_short x h, length-append (binary x) (32 ∷ code_of v ∷ 10 ∷ []))

module _ (k : ℕ) (before after : List ℕ) (w : Words after) where
  above_none : (told : ℕ) → k ≤ told → time_above told k ≡ []
  above_none told h = rw (le-ltb told k h)

  values_short : (m v : ℕ) → length (changes_text k (changes_at k m v before after)) ≤ m * 36
  unfolding changes_text changes_at
  values_short zero v = omega arith
  values_short (suc m) v =
      let l = values_short m (suc v) in
      on_test (λ (cs : List Change). length (changes_text k cs) ≤ suc m * 36) (eqb (get_or before v 0) (get_or after v 0))
      (λ _. omega arith)
      (λ _. rw (above_none k (omega arith), length-append (value_text v (get_or after v 0))) (let s = value_short v (get_or after v 0) (w v) in omega arith))

pub changes_short :
    (told k m v : ℕ) (before after : List ℕ) → k ≤ largest → Words after → length (changes_text told (changes_at k m v before after)) ≤ 22 + m * 36
unfolding changes_text changes_at
changes_short told k zero v before after h w = omega arith
changes_short told k (suc m) v before after h w =
    let l = changes_short told k m (suc v) before after h w in
    let n = values_short k before after w m (suc v) in
    let s = value_short v (get_or after v 0) (w v) in
    on_test (λ (cs : List Change). length (changes_text told cs) ≤ 22 + suc m * 36) (eqb (get_or before v 0) (get_or after v 0))
    (λ _. omega arith)
    (λ _. rw (length-append (time_above told k), length-append (value_text v (get_or after v 0)))
    (let q = above_short told in omega arith))
  where
    above_short : (told : ℕ) → length (time_above told k) ≤ 22
    above_short told = on_test (λ (x : List ℕ). length x ≤ 22) (ltb told k) (λ _. time_short k h) (λ _. omega arith)

-- what of the changes is still to be put
pub record Telling (b₀ : List ℕ) (at told : ℕ) (all : List Change) (b : List ℕ) (i last : ℕ) (rest : List Change) : Type 0 where
  pub left : Rest b₀ at (changes_text told all) b i (changes_text last rest)
  pub time : told_after told all ≡ told_after last rest

module _ (b : List ℕ) (at told k n : ℕ) (before after : List ℕ) where
  pub telling_all : Room b at → Telling b at told (changes_at k n 0 before after) b at told (changes_at k (n - 0) 0 before after)
  telling_all h = rw (let z : n - 0 ≡ n = omega arith in z) (record { left = rest_all b at _ h; time = refl })

module _ {b₀ : List ℕ} {at told : ℕ} {all : List Change} {b : List ℕ} {i last : ℕ} (k n v : ℕ) (before after : List ℕ) where
  pub telling_turn :
      {r : Told} {z : List ℕ} → v < n → Telling b₀ at told all b i last (changes_at k (n - v) v before after) →
      Tells b i last (change_of k v (get_or before v 0) (get_or after v 0)) r z →
      Telling b₀ at told all z r.at r.time (changes_at k (n - (v + 1)) (v + 1) before after)
  telling_turn {r} {z} l t p =
      let m : n - v ≡ suc (n - (v + 1)) = omega arith in
      let s : suc v ≡ v + 1 = omega arith in
      let one : List Change = change_of k v (get_or before v 0) (get_or after v 0) in
      let more : List Change = changes_at k (n - (v + 1)) (v + 1) before after in
      let e : changes_at k (n - v) v before after ≡ one ++ more =
      ap (λ (y : ℕ). changes_at k y v before after) m ∙ changes_cons k (n - (v + 1)) v before after ∙ ap
      (λ (y : ℕ). one ++ changes_at k (n - (v + 1)) y before after) s in
      record {
        left =
            subst (λ (y : ℕ). Rest b₀ at (changes_text told all) z r.at (changes_text y more)) (sym p.time)
            (rest_step
            (subst (λ (y : List ℕ). Rest b₀ at (changes_text told all) b i y)
            (ap (λ (y : List Change). changes_text last y) e ∙ changes_append last one more) t.left)
            p.put);
        time = t.time ∙ ap (λ (y : List Change). told_after last y) e ∙ told_append last one more ∙ ap (λ (y : ℕ). told_after y more) (sym p.time);
      }

  pub telling_end :
      n ≤ v → Telling b₀ at told all b i last (changes_at k (n - v) v before after) → Tells b₀ at told all (told_at i last) b
  unfolding changes_at changes_text told_after
  telling_end h t =
      let m : n - v ≡ 0 = omega arith in
      let q = subst (λ (y : ℕ). Telling b₀ at told all b i last (changes_at k y v before after)) m t in
      record { put = rest_none q.left; time = sym q.time }
