-- The lines after the header: what is written reads back, and a line that was read stands there as it is written.
use mathlib.Core.Bool.{true, false, ◌&&◌}
use mathlib.Core.Path.{◌≡◌, refl, sym, ◌∙◌, ap}
use mathlib.Core.List.{List, [], ◌∷◌, ◌++◌, append_assoc}
use Prim.Native.Nat.{ℕ, suc, ◌+◌, ◌-◌, ◌<◌, ◌≤◌, min}
use lib.Dec.{eqb, leb, ltb}
use lib.ListN.{get_or, drop, length, length-append}
use lib.Seq.{drop-cons}
use native.Mathlib.Omega.{arith}
use native.Mathlib.Numerals.{add-one}
use borrow.Author.Tests.{lt-ltb, ltb-true, le-leb, leb-true}
use Rattle.std.specs.Prelude.{Option, Some, None}
use Rattle.grammar.specs.declared.Found.{Found}
use Rattle.grammar.specs.Reading.{found, most, has_byte, field}
use Rattle.grammar.proofs.Places.{same_parts}
use Rattle.grammar.specs.Writing.{field_text}
use Rattle.grammar.proofs.Cases.{on_test, and_true, clash}
use Rattle.grammar.proofs.Bytes.{drop_head, drop_past, byte_reads, byte_text, byte_true}
use Rattle.grammar.proofs.Fields.{field_within}
use Rattle.grammar.proofs.RoundTrip.{field_reads, field_text_lem}
use Rattle.dump.specs.declared.DumpLine.{DumpLine}
use Rattle.dump.specs.Binary.{over, binary, bits_at}
use Rattle.dump.specs.Dump.{time_text, value_text, code_of}
use Rattle.dump.specs.Reading.{time_of, has_code, value_of, line_at}
use Rattle.dump.proofs.Binaries.{bits_at-within, bits_at-reads, bits_at-text}

-- a byte that is another
other_byte : (t : List ℕ) (at x y : ℕ) (r : List ℕ) → drop at t ≡ x ∷ r → eqb x y ≡ false → has_byte t at y ≡ false
other_byte t at x y r e d = let h = drop_head t at x r e in rw (lt-ltb at (length t) h.within, h.byte, d)

-- ---- what is written reads back
module _ (t : List ℕ) (at : ℕ) where
  pub time_reads : (k : ℕ) (r : List ℕ) → k < most → drop at t ≡ time_text k ++ r → line_at t at ≡ DumpLine.Time k (at + length (time_text k))
  unfolding line_at time_text
  time_reads k r small e =
      let h = drop_head t at 35 (field_text 10 k ++ r) e in
      let b : has_byte t at 35 ≡ true = byte_reads t at 35 (field_text 10 k ++ r) e in
      let m : min most k ≡ k = omega arith in
      let i : suc at + length (field_text 10 k) ≡ at + suc (length (field_text 10 k)) = omega arith in
      rw (b, add-one at, field_reads t 10 (suc at) k r refl h.rest, m, i)

  pub value_reads :
      (v x : ℕ) (r : List ℕ) → x < over → drop at t ≡ value_text v x ++ r → line_at t at ≡ DumpLine.Value v x (at + length (value_text v x))
  unfolding line_at value_text
  value_reads v x r small e =
      let code : List ℕ = 32 ∷ code_of v ∷ 10 ∷ [] in
      let f : drop at t ≡ 98 ∷ (binary x ++ (32 ∷ code_of v ∷ 10 ∷ r)) = e ∙ ap (λ (l : List ℕ). 98 ∷ l) (append_assoc (binary x) code r) in
      let h = drop_head t at 98 (binary x ++ (32 ∷ code_of v ∷ 10 ∷ r)) f in
      let b : has_byte t at 98 ≡ true = byte_reads t at 98 _ f in
      let no_time : has_byte t at 35 ≡ false = other_byte t at 98 35 _ f refl in
      let i : ℕ = suc at + length (binary x) in
      let p : drop i t ≡ 32 ∷ code_of v ∷ 10 ∷ r = drop_past t (suc at) (binary x) _ h.rest in
      let q : drop (suc i) t ≡ code_of v ∷ 10 ∷ r = (drop_head t i 32 _ p).rest in
      let w : drop (suc (suc i)) t ≡ 10 ∷ r = (drop_head t (suc i) (code_of v) _ q).rest in
      let m : min over x ≡ x = omega arith in
      let a₁ : i + 1 ≡ suc i = omega arith in
      let a₂ : i + 2 ≡ suc (suc i) = omega arith in
      let read : bits_at t (suc at) ≡ Some (found (min over x) i) = bits_at-reads t (suc at) x (32 ∷ code_of v ∷ 10 ∷ r) refl h.rest in
      let c₁ : has_byte t i 32 ≡ true = byte_reads t i 32 _ p in
      let c₂ : get_or t (suc i) 0 ≡ code_of v = (drop_head t (suc i) (code_of v) _ q).byte in
      let c₃ : has_byte t (suc (suc i)) 10 ≡ true = byte_reads t (suc (suc i)) 10 r w in
      let back : code_of v - 33 ≡ v = omega arith in
      let end : i + 3 ≡ at + suc (length (binary x ++ code)) = omega (arith, length-append (binary x) code) in
      rw (no_time, b, add-one at, read, m, a₁, a₂, lt-ltb x over small, c₁, c₂, c₃, le-leb 33 (code_of v) (omega arith), back, end)

-- ---- a line that was read stands there as it is written, and ends within the text
pub record TimeThere (t : List ℕ) (at k i : ℕ) : Type 0 where
  pub text : k < most → drop at t ≡ time_text k ++ drop i t
  pub later : at < i
  pub within : i ≤ length t

pub record ValueThere (t : List ℕ) (at v x i : ℕ) : Type 0 where
  pub small : x < over
  pub text : drop at t ≡ value_text v x ++ drop i t
  pub later : at < i
  pub within : i ≤ length t

-- a line by cases: a time, a value, or neither
module _ (t : List ℕ) (at : ℕ) where
  time_there_of : (k i : ℕ) → has_byte t at 35 ≡ true → time_of (field t 10 (at + 1)) ≡ DumpLine.Time k i → TimeThere t at k i
  unfolding time_text
  time_there_of k i b = by (field t 10 (at + 1)) refl
    where
      by : (n : Option (Found ℕ)) → field t 10 (at + 1) ≡ n → time_of n ≡ DumpLine.Time k i → TimeThere t at k i
      by (Some x) f e =
          let g : field t 10 (suc at) ≡ Some (found k i) = rw (← add-one at) (f ∙ same_parts (cc) (cc)) in
          let l = field_within t 10 (suc at) k i g in
          record {
            text = λ small. byte_text t at 35 b ∙ ap (λ (r : List ℕ). 35 ∷ r) (field_text_lem t 10 (suc at) k i small g);
            later = omega arith;
            within = l.1;
          }
      by None f e = clash (cc)

  -- the parts of a value line
  value_there_of : (v x i : ℕ) → has_byte t at 98 ≡ true → value_of t (bits_at t (at + 1)) ≡ DumpLine.Value v x i → ValueThere t at v x i
  unfolding value_text
  value_there_of v x i b = by (bits_at t (at + 1)) refl
    where
      parts : (w j : ℕ) → bits_at t (at + 1) ≡ Some (found w j) → (ltb w over && has_code t j) ≡ true → ValueThere t at (get_or t (j + 1) 0 - 33) w (j + 3)
      parts w j f c =
          let h = and_true (ltb w over) (has_code t j) c in
          let small : w < over = ltb-true w over h.0 in
          let c₁ = and_true (has_byte t j 32) (leb 33 (get_or t (j + 1) 0) && has_byte t (j + 2) 10) h.1 in
          let c₂ = and_true (leb 33 (get_or t (j + 1) 0)) (has_byte t (j + 2) 10) c₁.1 in
          let g : bits_at t (suc at) ≡ Some (found w j) = rw (← add-one at) f in
          let l = bits_at-within t (suc at) w j g in
          let low : 33 ≤ get_or t (j + 1) 0 = leb-true 33 (get_or t (j + 1) 0) c₂.0 in
          let e₁ : has_byte t (suc (suc j)) 10 ≡ true = rw (let k : suc (suc j) ≡ j + 2 = omega arith in k) c₂.1 in
          let last = byte_true t (suc (suc j)) 10 e₁ in
          let there : suc j < length t = omega (arith, last.within) in
          let code : code_of (get_or t (j + 1) 0 - 33) ≡ get_or t (j + 1) 0 = omega arith in
          let s₁ : suc j ≡ j + 1 = omega arith in
          let s₃ : suc (suc (suc j)) ≡ j + 3 = omega arith in
          record {
            small = small;
            text =
                byte_text t at 98 b
                ∙ ap (λ (r : List ℕ). 98 ∷ r)
                (bits_at-text t (suc at) w j small g
                ∙ ap (λ (r : List ℕ). binary w ++ r)
                (byte_text t j 32 c₁.0
                ∙ ap (λ (r : List ℕ). 32 ∷ r)
                (drop-cons t (suc j) 0 there
                ∙ ap (λ (y : ℕ). get_or t y 0 ∷ drop (suc (suc j)) t) s₁
                ∙ ap (λ (y : ℕ). y ∷ drop (suc (suc j)) t) (sym code)
                ∙ ap (λ (r : List ℕ). code_of (get_or t (j + 1) 0 - 33) ∷ r) (byte_text t (suc (suc j)) 10 e₁ ∙ ap (λ (y : ℕ). 10 ∷ drop y t) s₃)))
                ∙ sym (append_assoc (binary w) (32 ∷ code_of (get_or t (j + 1) 0 - 33) ∷ 10 ∷ []) (drop (j + 3) t)));
            later = omega arith;
            within = omega (arith, last.within);
          }

      by : (n : Option (Found ℕ)) → bits_at t (at + 1) ≡ n → value_of t n ≡ DumpLine.Value v x i → ValueThere t at v x i
      by (Some y) f =
          on_test (λ (z : DumpLine). z ≡ DumpLine.Value v x i → ValueThere t at v x i) (ltb y.value over && has_code t y.next)
          (λ c e. let r = parts y.value y.next f c in
          let ev : get_or t (y.next + 1) 0 - 33 ≡ v = cc in
          let ex : y.value ≡ x = cc in
          let ei : y.next + 3 ≡ i = cc in
          rw (← ev, ← ex, ← ei) r)
          (λ c e. clash (cc))
      by None f = λ e. clash (cc)

  -- no time is a value, no value a time
  no_value : {v x i : ℕ} (n : Option (Found ℕ)) → time_of n ≡ DumpLine.Value v x i → ⊥
  no_value (Some y) e = clash (cc)
  no_value None e = clash (cc)

  no_time : {k i : ℕ} (n : Option (Found ℕ)) → value_of t n ≡ DumpLine.Time k i → ⊥
  no_time {k} {i} (Some y) = on_test (λ (z : DumpLine). z ≡ DumpLine.Time k i → ⊥) (ltb y.value over && has_code t y.next) (λ _ e. clash (cc)) (λ _ e. clash (cc))
  no_time None = λ e. clash (cc)

  pub time_there : (k i : ℕ) → line_at t at ≡ DumpLine.Time k i → TimeThere t at k i
  unfolding line_at
  time_there k i =
      on_test (λ (z : DumpLine). z ≡ DumpLine.Time k i → TimeThere t at k i) (has_byte t at 35)
      (λ b. time_there_of k i b)
      (λ _. on_test (λ (z : DumpLine). z ≡ DumpLine.Time k i → TimeThere t at k i) (has_byte t at 98)
      (λ _ e. absurd (no_time (bits_at t (at + 1)) e)) (λ _ e. clash (cc)))

  pub value_there : (v x i : ℕ) → line_at t at ≡ DumpLine.Value v x i → ValueThere t at v x i
  unfolding line_at
  value_there v x i =
      on_test (λ (z : DumpLine). z ≡ DumpLine.Value v x i → ValueThere t at v x i) (has_byte t at 35)
      (λ _ e. absurd (no_value (field t 10 (at + 1)) e))
      (λ _. on_test (λ (z : DumpLine). z ≡ DumpLine.Value v x i → ValueThere t at v x i) (has_byte t at 98)
      (λ b. value_there_of v x i b) (λ _ e. clash (cc)))
