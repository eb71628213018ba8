-- The lines of the machines one after the other, and what the text comes to.
use Prim.Native.Nat.{ℕ, suc, ◌+◌, ◌-◌, ◌<◌, ◌≤◌}
use mathlib.Core.Path.{◌≡◌, refl, sym, ap, ◌∙◌}
use mathlib.Core.Bool.{Bool, true}
use mathlib.Core.List.{List, [], ◌∷◌}
use native.Mathlib.Omega.{arith}
use native.Mathlib.Numerals.{add-one}
use lib.ListN.{length, set, replicate}
use borrow.Author.Tests.{lt-ltb, le-ltb}
use Rattle.std.specs.Prelude.{Option, Some, None, Result, Ok, Err}
use Rattle.grammar.specs.declared.Found.{Found}
use Rattle.grammar.specs.Reading.{has_word}
use Rattle.grammar.proofs.Bytes.{word_within}
use Rattle.construction.specs.declared.answers.Refusal.TheVariants as refusals
use Rattle.std.specs.Prelude.{Result}
use Rattle.construction.specs.declared.answers.Refusal.{Refusal}
use Rattle.allowance.specs.declared.{Quota.Quota, Allowance.Allowance}
use Rattle.allowance.specs.Allowing.{quota_of}
use Rattle.allowance.specs.Opening.{opened_as}
use Rattle.machine_terms.specs.declared.{Pair.Pair, Terms.Terms}
use Rattle.machine_terms.specs.Terms.{line, machines_word, machine_word, Quotas, with_pair, quotas_from, quotas_read, refused, judged_as, with_head, terms}

-- a word that stands in a text ends at a place that the code can name, as the text and its place do
pub word_fits :
    (t : List ℕ) (at : ℕ) (w : List ℕ) {b : Bool} → b ≡ has_word t at w → b ≡ true → (n : ℕ) → at ≤ n → length t ≤ n → at + length w ≤ n
word_fits t at [] e taken n h l = omega arith
word_fits t at (x ∷ xs) e taken n h l = omega (arith, word_within t (x ∷ xs) at (omega arith) (sym e ∙ taken))

pub quotas_begin :
    (t : List ℕ) (at count : ℕ) {x : Quota} → x ≡ quota_of 0 0 → quotas_from t (count - 0) 0 at (replicate 4 x) ≡ quotas_read t at count
unfolding quotas_read
quotas_begin t at count e = let z : count - 0 ≡ count = omega arith in rw (z, e)

module _ (t : List ℕ) where
  from_suc :
      (n k at : ℕ) (l : List Quota) →
      quotas_from t (suc n) k at l
      ≡ with_pair (line t at machine_word) (k + 2) (λ x. quotas_from t n (suc k) x.next (set l k (quota_of x.value.a x.value.b)))
  unfolding quotas_from
  from_suc n k at l = refl

  from_step :
      (n k at : ℕ) (l : List Quota) → k < n →
      quotas_from t (n - k) k at l
      ≡ with_pair (line t at machine_word) (k + 2)
      (λ x. quotas_from t (n - (k + 1)) (k + 1) x.next (set l k (quota_of x.value.a x.value.b)))
  from_step n k at l h =
      let e : n - k ≡ suc (n - (k + 1)) = omega arith in
      rw (e, add-one k) (from_suc (n - suc k) k at l)

  module _ (n k at : ℕ) (l : List Quota) {p : Option (Found Pair)} (h : k < n) (e : p ≡ line t at machine_word) where
    pub quotas_turn :
        {x : Found Pair} → p ≡ Some x → {q : Quota} {l' : List Quota} → q ≡ quota_of x.value.a x.value.b → l' ≡ set l k q →
        quotas_from t (n - k) k at l ≡ quotas_from t (n - (k + 1)) (k + 1) x.next l'
    quotas_turn {x} f {q} {l'} i j =
        from_step n k at l h
        ∙ rw (sym e ∙ f)
        (ap (λ (y : Quota). quotas_from t (n - (k + 1)) (k + 1) x.next (set l k y)) (sym i)
        ∙ ap (λ (y : List Quota). quotas_from t (n - (k + 1)) (k + 1) x.next y) (sym j))

    pub quotas_stop : p ≡ None → quotas_from t (n - k) k at l ≡ Err (k + 2)
    quotas_stop f = from_step n k at l h ∙ rw (sym e ∙ f)

  module _ (n k at : ℕ) (l : List Quota) (h : n ≤ k) where
    ended : quotas_from t (n - k) k at l ≡ quotas_from t 0 k at l
    ended = let e : n - k ≡ 0 = omega arith in rw e

    pub quotas_more : k ≤ n → at < length t → quotas_from t (n - k) k at l ≡ Err (n + 2)
    unfolding quotas_from
    quotas_more g i = let q : k ≡ n = omega arith in ended ∙ rw (lt-ltb at (length t) i) (ap (λ (x : ℕ). Err (x + 2)) q)

    pub quotas_done : length t ≤ at → quotas_from t (n - k) k at l ≡ Ok l
    unfolding quotas_from
    quotas_done i = ended ∙ rw (le-ltb at (length t) i)

-- what the text comes to, as it is judged
module _ (t : List ℕ) where
  pub too_long_lem : {r : Terms} → 16384 < length t → r ≡ refused refusals.TooLong 0 → r ≡ terms t
  unfolding terms
  too_long_lem h e = rw (lt-ltb 16384 (length t) h) e

  module _ (h : length t ≤ 16384) {p : Option (Found Pair)} (q : p ≡ line t 0 machines_word) where
    headed : terms t ≡ with_head t p
    unfolding terms
    headed = rw (le-ltb 16384 (length t) h, ← q)

    pub no_head : {r : Terms} → p ≡ None → r ≡ refused refusals.Malformed 1 → r ≡ terms t
    no_head f e = e ∙ sym (headed ∙ rw f)

    module _ {x : Found Pair} (f : p ≡ Some x) where
      pub few : {r : Terms} → x.value.a < 1 → r ≡ refused refusals.BadTerms 0 → r ≡ terms t
      few l e = e ∙ sym (headed ∙ rw (f, lt-ltb x.value.a 1 l))

      pub many : {r : Terms} → 1 ≤ x.value.a → 4 < x.value.a → r ≡ refused refusals.BadTerms 0 → r ≡ terms t
      many k l e = e ∙ sym (headed ∙ rw (f, le-ltb x.value.a 1 k, lt-ltb 4 x.value.a l))

      module _ (k : 1 ≤ x.value.a) (l : x.value.a ≤ 4) {y : Quotas} (g : y ≡ quotas_read t x.next x.value.a) where
        pub wrong_line_lem : {n : ℕ} {r : Terms} → y ≡ Err n → r ≡ refused refusals.Malformed n → r ≡ terms t
        wrong_line_lem i e = e ∙ sym (headed ∙ rw (f, le-ltb x.value.a 1 k, le-ltb 4 x.value.a l, ← g, i))

        pub judged_last :
            {quotas : List Quota} {r : Terms} → y ≡ Ok quotas → {o : Result Allowance Refusal} → o ≡ opened_as x.value.a x.value.b quotas → r ≡ judged_as o → r ≡ terms t
        judged_last i j e = e ∙ sym (headed ∙ rw (f, le-ltb x.value.a 1 k, le-ltb 4 x.value.a l, ← g, i, ← j))
