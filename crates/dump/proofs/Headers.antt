-- The header: what is written reads back, and a header that was taken stands at the front of the text as it is written.
use Rattle.construction.specs.Types.{Verdict}
use Rattle.std.specs.Prelude.{Ok, Err}
use mathlib.Core.Bool.{Bool, true, false, cond}
use mathlib.Core.Path.{◌≡◌, refl, sym, ◌∙◌, ap, subst}
use mathlib.Core.List.{List, [], ◌++◌, append_assoc, append-nil}
use Prim.Native.Nat.{ℕ, zero, suc, ◌+◌, ◌≤◌}
use lib.ListN.{drop, length, length-append}
use native.Mathlib.Omega.{arith}
use native.Mathlib.Numerals.{add-one}
use native.Mathlib.Nat.{add-zero}
use borrow.Author.Tests.{lt-ltb}
use Rattle.grammar.specs.Reading.{has_word}
use Rattle.grammar.proofs.Cases.{on_test, clash}
use Rattle.grammar.proofs.Bytes.{drop_head, drop_past, word_reads, word_text_lem}
use Rattle.dump.specs.declared.Header.{Header}
use Rattle.dump.specs.Dump.{timescale_line, scope_line, var_line, upscope_line, definitions_line, time_text, vars_text, header_text}
use Rattle.dump.specs.Reading.{header_start, header_refused, on_header, past_word, then_word, vars_from, then_vars, read_header}

abbrev Taken : Header → Type 0
Taken h = h.verdict ≡ Ok tt

-- a header read so far
abbrev pub header_at : ℕ → ℕ → ℕ → Header
header_at n at line = record { verdict = Ok tt; count = n; at = at; line = line }

-- the bytes before a place, with what stands there
pub record Front (t text : List ℕ) (at : ℕ) : Type 0 where
  pub whole : t ≡ text ++ drop at t
  pub size : at ≡ length text

front_none : (t : List ℕ) → Front t [] 0
front_none t = record { whole = refl; size = refl }

front_more : {t text : List ℕ} {at : ℕ} (w : List ℕ) → Front t text at → drop at t ≡ w ++ drop (at + length w) t → Front t (text ++ w) (at + length w)
front_more {t} {text} {at} w f e =
    let s = f.size in
    record {
      whole = f.whole ∙ ap (λ (r : List ℕ). text ++ r) e ∙ sym (append_assoc text w (drop (at + length w) t));
      size = omega (arith, length-append text w);
    }

regroup : (a b c d e f : List ℕ) → ((((([] ++ a) ++ b) ++ c) ++ d) ++ e) ++ f ≡ (a ++ (b ++ (c ++ (d ++ e)))) ++ f
regroup a b c d e f = simp append_assoc

module _ (t : List ℕ) where
  -- ---- what is written reads back
  word_taken : (w r : List ℕ) (n at line : ℕ) → drop at t ≡ w ++ r → then_word t w (header_at n at line) ≡ header_at n (at + length w) (line + 1)
  unfolding then_word
  word_taken w r n at line e = rw (word_reads t w r at e)

  -- no variable stands where the scope ends
  pub no_var : (v at : ℕ) (r : List ℕ) → drop at t ≡ upscope_line ++ r → has_word t at (var_line v) ≡ false
  unfolding var_line has_word
  no_var v at r e =
      let h = drop_head t at 36 _ e in
      let k = drop_head t (suc at) 117 _ h.rest in
      rw (lt-ltb at (length t) h.within, h.byte, lt-ltb (suc at) (length t) k.within, k.byte)

  vars_taken :
      (m left v at line : ℕ) (r : List ℕ) → m ≤ left → drop at t ≡ vars_text m v ++ (upscope_line ++ r) →
      vars_from t left (header_at v at line) ≡ header_at (v + m) (at + length (vars_text m v)) (line + m)
  unfolding vars_from vars_text
  vars_taken zero zero v at line r h e = rw (add-zero v, add-zero at, add-zero line)
  vars_taken zero (suc left) v at line r h e = rw (no_var v at r e, add-zero v, add-zero at, add-zero line)
  vars_taken (suc m) zero v at line r h e = absurd (omega arith)
  vars_taken (suc m) (suc left) v at line r h e =
      let f : drop at t ≡ var_line v ++ (vars_text m (suc v) ++ (upscope_line ++ r)) = e ∙ append_assoc (var_line v) (vars_text m (suc v)) (upscope_line ++ r) in
      let g = drop_past t at (var_line v) _ f in
      let a : v + 1 ≡ suc v = omega arith in
      let k₁ : suc v + m ≡ v + suc m = omega arith in
      let k₂ : at + length (var_line v) + length (vars_text m (suc v)) ≡ at + length (var_line v ++ vars_text m (suc v)) =
      omega (arith, length-append (var_line v) (vars_text m (suc v))) in
      let k₃ : line + 1 + m ≡ line + suc m = omega arith in
      rw (word_reads t (var_line v) _ at f, a)
      (vars_taken m left (suc v) (at + length (var_line v)) (line + 1) r (omega arith) g ∙ rw (k₁, k₂, k₃))

  pub header_reads :
      (n : ℕ) (r : List ℕ) → n ≤ 64 → t ≡ header_text n ++ (time_text 0 ++ r) →
      read_header t ≡ header_at n (length (header_text n ++ time_text 0)) (n + 6)
  unfolding read_header then_vars header_text
  header_reads n r few e =
      let d₀ : drop 0 t ≡ timescale_line ++ (scope_line ++ (vars_text n 0 ++ (upscope_line ++ (definitions_line ++ (time_text 0 ++ r))))) =
      e ∙ simp append_assoc in
      let d₁ = drop_past t 0 timescale_line _ d₀ in
      let d₂ = drop_past t (0 + length timescale_line) scope_line _ d₁ in
      let at₂ : ℕ = 0 + length timescale_line + length scope_line in
      let d₃ = drop_past t at₂ (vars_text n 0) _ d₂ in
      let d₄ = drop_past t (at₂ + length (vars_text n 0)) upscope_line _ d₃ in
      let d₅ = drop_past t (at₂ + length (vars_text n 0) + length upscope_line) definitions_line _ d₄ in
      let p : at₂ + length (vars_text n 0) + length upscope_line + length definitions_line + length (time_text 0)
      ≡ length ((timescale_line ++ (scope_line ++ (vars_text n 0 ++ (upscope_line ++ definitions_line)))) ++ time_text 0) =
      omega (
        arith,
        length-append (timescale_line ++ (scope_line ++ (vars_text n 0 ++ (upscope_line ++ definitions_line)))) (time_text 0),
        length-append
            (vars_text n 0) (upscope_line ++ definitions_line),
      ) in
      let l : 1 + 1 + 1 + n + 1 + 1 + 1 ≡ n + 6 = omega arith in
      let z : 0 + n ≡ n = omega arith in
      rw (
        word_taken timescale_line _ 0 0 1 d₀,
        word_taken scope_line _ 0 (0 + length timescale_line) (1 + 1) d₁,
        vars_taken n 64 0 at₂ (1 + 1 + 1) _ few d₂,
        z,
        word_taken upscope_line _ n (at₂ + length (vars_text n 0)) (1 + 1 + 1 + n) d₃,
        word_taken definitions_line _ n (at₂ + length (vars_text n 0) + length upscope_line) (1 + 1 + 1 + n + 1) d₄,
        word_taken (time_text 0) r n (at₂ + length (vars_text n 0) + length upscope_line + length definitions_line) (1 + 1 + 1 + n + 1 + 1) d₅,
        p,
        l,
      )

  -- ---- a header that was taken stands there
  pub record Read (text : List ℕ) (n line : ℕ) (h : Header) : Type 0 where
    pub place : ℕ
    pub is : h ≡ header_at n place line
    pub front : Front t text place

  before_word : (w : List ℕ) (h : Header) → Taken (then_word t w h) → Taken h
  unfolding then_word
  before_word w h = by h.verdict refl
    where
      by : (v : Verdict) → h.verdict ≡ v → (on_header v h (cond (has_word t h.at w) (past_word h w) (header_refused h.line))).verdict ≡ Ok tt →
          h.verdict ≡ Ok tt
      by (Ok _) e f = e
      by (Err said) e f = f

  before_vars : (h : Header) → Taken (then_vars t h) → Taken h
  unfolding then_vars
  before_vars h = by h.verdict refl
    where
      by : (v : Verdict) → h.verdict ≡ v → (on_header v h (vars_from t 64 h)).verdict ≡ Ok tt → h.verdict ≡ Ok tt
      by (Ok _) e f = e
      by (Err said) e f = f

  read_word :
      {text : List ℕ} {n line : ℕ} {h : Header} (w : List ℕ) → Read text n line h → Taken (then_word t w h) → Read (text ++ w) n (line + 1) (then_word t w h)
  unfolding then_word
  read_word {text} {n} {line} {h} w r taken =
      rw r.is
      (by (has_word t r.place w) refl
      (subst (λ (k : Header). Taken (on_header k.verdict k (cond (has_word t k.at w) (past_word k w) (header_refused k.line)))) r.is taken))
    where
      by :
          (b : Bool) → has_word t r.place w ≡ b → Taken (cond b (past_word (header_at n r.place line) w) (header_refused line)) →
          Read (text ++ w) n (line + 1) (cond b (past_word (header_at n r.place line) w) (header_refused line))
      by true e f = record { place = r.place + length w; is = refl; front = front_more w r.front (word_text_lem t w r.place e) }
      by false e f = clash (cc)

  -- the variables: m of them
  record VarsRead (text : List ℕ) (left v line : ℕ) (h : Header) : Type 0 where
    m : ℕ
    few : m ≤ left
    read : Read (text ++ vars_text m v) (v + m) (line + m) h

  vars_read : (left : ℕ) {text : List ℕ} (v at line : ℕ) → Front t text at → VarsRead text left v line (vars_from t left (header_at v at line))
  unfolding vars_from vars_text
  vars_read zero {text} v at line f =
      record { m = 0; few = omega arith; read = rw (append-nil text, add-zero v, add-zero line) (record { place = at; is = refl; front = f }) }
  vars_read (suc left) {text} v at line f =
      on_test (VarsRead text (suc left) v line) (has_word t at (var_line v))
      (λ e. again (vars_read left (v + 1) (at + length (var_line v)) (line + 1) (front_more (var_line v) f (word_text_lem t (var_line v) at e))))
      (λ e. record { m = 0; few = omega arith; read = rw (append-nil text, add-zero v, add-zero line) (record { place = at; is = refl; front = f }) })
    where
      again : {h : Header} → VarsRead (text ++ var_line v) left (v + 1) (line + 1) h → VarsRead text (suc left) v line h
      again {h} r =
          let few = r.few in
          let k₁ : v + 1 + r.m ≡ v + suc r.m = omega arith in
          let k₂ : line + 1 + r.m ≡ line + suc r.m = omega arith in
          record {
            m = suc r.m;
            few = omega arith;
            read = rw (← k₁, ← k₂, ← add-one v) (rw append_assoc at r.read);
          }

  read_vars : {text : List ℕ} {line : ℕ} {h : Header} → Read text 0 line h → VarsRead text 64 0 line (then_vars t h)
  unfolding then_vars
  read_vars {text} {line} {h} r = rw r.is (vars_read 64 0 r.place line r.front)

  pub record HeaderThere (h : Header) : Type 0 where
    pub few : h.count ≤ 64
    pub is : h ≡ header_at h.count h.at (h.count + 6)
    pub front : Front t (header_text h.count ++ time_text 0) h.at

  pub header_there : Taken (read_header t) → HeaderThere (read_header t)
  unfolding read_header header_text
  header_there e₆ =
      let h₁ : Header = then_word t timescale_line header_start in
      let h₂ : Header = then_word t scope_line h₁ in
      let h₃ : Header = then_vars t h₂ in
      let h₄ : Header = then_word t upscope_line h₃ in
      let h₅ : Header = then_word t definitions_line h₄ in
      let e₅ : Taken h₅ = before_word (time_text 0) h₅ e₆ in
      let e₄ : Taken h₄ = before_word definitions_line h₄ e₅ in
      let e₃ : Taken h₃ = before_word upscope_line h₃ e₄ in
      let e₂ : Taken h₂ = before_vars h₂ e₃ in
      let e₁ : Taken h₁ = before_word scope_line h₁ e₂ in
      let r₀ : Read [] 0 1 header_start = record { place = 0; is = refl; front = front_none t } in
      let r₁ = read_word timescale_line r₀ e₁ in
      let r₂ = read_word scope_line r₁ e₂ in
      let vs = read_vars r₂ in
      let r₄ = read_word upscope_line vs.read e₄ in
      let r₅ = read_word definitions_line r₄ e₅ in
      finish vs.m vs.few (read_word (time_text 0) r₅ e₆)
    where
      finish :
          {h : Header} (m : ℕ) → m ≤ 64 →
          Read ((((((([] ++ timescale_line) ++ scope_line) ++ vars_text m 0) ++ upscope_line) ++ definitions_line)) ++ time_text 0) (0 + m)
          (1 + 1 + 1 + m + 1 + 1 + 1) h →
          HeaderThere h
      finish {h} m few r =
          let c : 0 + m ≡ h.count = sym (ap (λ (k : Header). k.count) r.is) in
          let a : r.place ≡ h.at = sym (ap (λ (k : Header). k.at) r.is) in
          let l : 1 + 1 + 1 + m + 1 + 1 + 1 ≡ h.count + 6 = omega arith in
          let z : m ≡ h.count = omega arith in
          record {
            few = omega arith;
            is = r.is ∙ (λ i. header_at (c i) (a i) (l i));
            front = subst (λ (x : List ℕ). Front t x h.at)
                (regroup timescale_line scope_line (vars_text m 0) upscope_line definitions_line (time_text 0) ∙ ap
                (λ (k : ℕ). (timescale_line ++ (scope_line ++ (vars_text k 0 ++ (upscope_line ++ definitions_line)))) ++ time_text 0) z)
                (subst (λ (k : ℕ). Front t _ k) a r.front);
          }
