-- What each test of the reader comes to, by what the code has found.
use Rattle.std.specs.Prelude.{Ok, Err}
use mathlib.Core.Bool.{Bool, true, false, cond, not, ◌&&◌}
use mathlib.Core.Path.{◌≡◌, refl, sym, ◌∙◌, ap}
use mathlib.Core.List.{List, [], ◌∷◌, ◌++◌}
use Prim.Native.Nat.{ℕ, zero, suc, ◌+◌, ◌-◌, ◌/◌, ◌%◌, ◌<◌, ◌≤◌}
use lib.Dec.{eqb, leb}
use lib.ListN.{get_or, length, length-append}
use native.Mathlib.Omega.{arith}
use native.Mathlib.Numerals.{add-one}
use native.Mathlib.Decide.{dec_lt}
use native.Mathlib.Nat.{add-zero}
use borrow.Author.Tests.{lt-ltb, le-ltb, le-leb, lt-leb, leb-true, eq-eqb, ne_eqb, not-true, not-false}
use Rattle.std.specs.Prelude.{Option, Some, None}
use Rattle.grammar.specs.declared.Found.{Found}
use Rattle.grammar.specs.Reading.{has_byte, has_word, field}
use Rattle.grammar.specs.Writing.{decimal}
use Rattle.grammar.proofs.Decimals.{decimal_one, decimal_more}
use Rattle.grammar.proofs.Bytes.{byte_true, word_within}
use Rattle.grammar.proofs.Cases.{on_test, and_true}
use Rattle.construction.specs.Answers.{bytes}
use Rattle.construction.specs.Types.{Verdict}
use Rattle.construction.specs.declared.texts.RefusedAt.{RefusedAt}
use Rattle.dump.specs.declared.{DumpLine.DumpLine, Header.Header}
use Rattle.dump.specs.Binary.{over, is_bit, bits_at}
use Rattle.dump.specs.Dump.{line_of, timescale_line, scope_line, upscope_line, definitions_line, code_of, var_line, time_text}
use Rattle.dump.specs.Reading.{time_of, has_code, value_of, line_at, header_start, header_refused, on_header, past_word, then_word, with_var, vars_from, then_vars}
use Rattle.dump.specs.Reading.{read_header}
use Rattle.dump_reader.specs.Taking.{time_follows, value_follows}

-- ---- the lines
module _ (t : List ℕ) (at : ℕ) {b : Bool} (e : b ≡ has_byte t at 35) where
  pub line_time : {r : DumpLine} → b ≡ true → r ≡ time_of (field t 10 (at + 1)) → r ≡ line_at t at
  unfolding line_at
  line_time h f = rw (← e, h) f

  module _ (h : b ≡ false) {d : Bool} (g : d ≡ has_byte t at 98) where
    pub line_value : {r : DumpLine} → d ≡ true → r ≡ value_of t (bits_at t (at + 1)) → r ≡ line_at t at
    unfolding line_at
    line_value k f = rw (← e, h, ← g, k) f

    pub line_neither : d ≡ false → DumpLine.Malformed ≡ line_at t at
    unfolding line_at
    line_neither k = rw (← e, h, ← g, k)

-- ---- the header
module _ (t w : List ℕ) (h : Header) where
  pub word_refused : {refused : RefusedAt} → h.verdict ≡ Err refused → h ≡ then_word t w h
  unfolding then_word
  word_refused e = rw e

  module _ (a : h.verdict ≡ Ok tt) {b : Bool} (e : b ≡ has_word t h.at w) where
    pub word_other : {r : Header} → not b ≡ true → r ≡ header_refused h.line → r ≡ then_word t w h
    unfolding then_word
    word_other n f = rw (a, ← e, not-true b n) f

    pub word_there : not b ≡ false → record { verdict = Ok tt; count = h.count; at = h.at + length w; line = h.line + 1 } ≡ then_word t w h
    unfolding then_word
    word_there n = rw (a, ← e, not-false b n)

    pub word_fits : not b ≡ false → 0 < length w → h.at + length w ≤ length t
    word_fits n l = word_within t w h.at l (sym e ∙ not-false b n)

-- ---- the number of a variable, byte by byte
number_two : (v : ℕ) → 10 ≤ v → v < 64 → decimal v ≡ (48 + v / 10) ∷ (48 + v % 10) ∷ []
number_two v l h = decimal_more v l ∙ ap (λ (x : List ℕ). x ++ ((48 + v % 10) ∷ [])) (decimal_one (v / 10) (omega arith))

pub digits_one : (v : ℕ) → v < 10 → 1 ≡ length (decimal v)
digits_one v h = rw (decimal_one v h)

pub digits_two : (v : ℕ) → 10 ≤ v → v < 64 → 2 ≡ length (decimal v)
digits_two v l h = rw (number_two v l h)

and_right : (b : Bool) → b ≡ b && true
and_right true = refl
and_right false = refl

module _ (t : List ℕ) (at v : ℕ) where
  pub number_short : {b : Bool} → v < 10 → b ≡ has_byte t at (48 + v) → b ≡ has_word t at (decimal v)
  unfolding has_word
  number_short {b} h e = rw (decimal_one v h, ← e) (and_right b)

  module _ (l : 10 ≤ v) (h : v < 64) {b : Bool} (e : b ≡ has_byte t at (48 + v / 10)) where
    pub number_other : not b ≡ true → false ≡ has_word t at (decimal v)
    unfolding has_word
    number_other n = rw (number_two v l h, ← e, not-true b n)

    pub number_long : {d : Bool} → not b ≡ false → d ≡ has_byte t (at + 1) (48 + v % 10) → d ≡ has_word t at (decimal v)
    unfolding has_word
    number_long {d} n f = rw (number_two v l h, ← e, not-false b n, ← add-one at, ← f) (and_right d)

    pub number_within : not b ≡ false → at < length t
    number_within n = (byte_true t at (48 + v / 10) (sym e ∙ not-false b n)).within

-- ---- words one after the other
pub word_append : (t a b : List ℕ) (at : ℕ) → has_word t at (a ++ b) ≡ has_word t at a && has_word t (at + length a) b
unfolding has_word
word_append t [] b at = rw (add-zero at)
word_append t (x ∷ a) b at =
    let k : suc at + length a ≡ at + suc (length a) = omega arith in
    ap (λ (y : Bool). has_byte t at x && y) (word_append t a b (suc at) ∙ rw k) ∙ group (has_byte t at x) (has_word t (suc at) a)
    (has_word t (at + suc (length a)) b)
  where
    group : (p q r : Bool) → p && (q && r) ≡ (p && q) && r
    group true q r = refl
    group false q r = refl

word_first : (t : List ℕ) (at x : ℕ) (w : List ℕ) → has_word t at (x ∷ w) ≡ has_byte t at x && has_word t (suc at) w
unfolding has_word
word_first t at x w = refl

-- ---- the line of a variable, part by part
module _ (t : List ℕ) (at v : ℕ) where
  abbrev end : ℕ
  end = at + 16 + length (decimal v)

  var_parts :
      has_word t at (var_line v)
      ≡ (has_word t at (bytes "$var wire 32 ")
      && (has_byte t (at + 13) (33 + v) && (has_word t (at + 14) (bytes " v") && (has_word t (at + 16) (decimal v) && has_word t end (line_of " $end")))))
  unfolding var_line
  var_parts =
      let k₁ : suc (at + 13) ≡ at + 14 = omega arith in
      let k₂ : at + 14 + 2 ≡ at + 16 = omega arith in
      word_append t (bytes "$var wire 32 ") _ at
      ∙ ap (λ (y : Bool). has_word t at (bytes "$var wire 32 ") && y)
      (word_first t (at + 13) (code_of v) (bytes " v" ++ (decimal v ++ line_of " $end"))
      ∙ ap (λ (y : Bool). has_byte t (at + 13) (33 + v) && y)
      (ap (λ (y : ℕ). has_word t y (bytes " v" ++ (decimal v ++ line_of " $end"))) k₁
      ∙ word_append t (bytes " v") (decimal v ++ line_of " $end") (at + 14)
      ∙ ap (λ (y : Bool). has_word t (at + 14) (bytes " v") && y) (ap (λ (y : ℕ). has_word t y (decimal v ++ line_of " $end")) k₂ ∙ word_append t (decimal v) (line_of " $end") (at + 16))))

  module _ {a : Bool} (ea : a ≡ has_word t at (bytes "$var wire 32 ")) where
    pub var_none : not a ≡ true → false ≡ has_word t at (var_line v)
    var_none n = sym (var_parts ∙ rw (← ea, not-true a n))

    pub var_far : not a ≡ false → at + 13 ≤ length t
    var_far n = word_within t (bytes "$var wire 32 ") at (omega arith) (sym ea ∙ not-false a n)

    module _ (na : not a ≡ false) {b : Bool} (eb : b ≡ has_byte t (at + 13) (33 + v)) where
      pub var_code : not b ≡ true → false ≡ has_word t at (var_line v)
      var_code n = sym (var_parts ∙ rw (← ea, not-false a na, ← eb, not-true b n))

      module _ (nb : not b ≡ false) {c : Bool} (ec : c ≡ has_word t (at + 14) (bytes " v")) where
        pub var_name : not c ≡ true → false ≡ has_word t at (var_line v)
        var_name n = sym (var_parts ∙ rw (← ea, not-false a na, ← eb, not-false b nb, ← ec, not-true c n))

        pub var_after_name : not c ≡ false → at + 16 ≤ length t
        var_after_name n = let h = word_within t (bytes " v") (at + 14) (omega arith) (sym ec ∙ not-false c n) in omega arith

        module _ (nc : not c ≡ false) {d : Bool} (ed : d ≡ has_word t (at + 16) (decimal v)) where
          pub var_number : not d ≡ true → false ≡ has_word t at (var_line v)
          var_number n = sym (var_parts ∙ rw (← ea, not-false a na, ← eb, not-false b nb, ← ec, not-false c nc, ← ed, not-true d n))

          pub var_whole : {e : Bool} {k : ℕ} → not d ≡ false → k ≡ length (decimal v) → e ≡ has_word t (at + 16 + k) (line_of " $end") → e ≡ has_word t at (var_line v)
          var_whole n ek ee = ee ∙ rw ek (sym (var_parts ∙ rw (← ea, not-false a na, ← eb, not-false b nb, ← ec, not-false c nc, ← ed, not-false d n)))

var_long : (v : ℕ) → length (var_line v) ≡ 22 + length (decimal v)
unfolding var_line
var_long v = omega (arith, length-append (decimal v) (line_of " $end"))

-- ---- the variables
abbrev pub header_at : ℕ → ℕ → ℕ → Header
header_at n at line = record { verdict = Ok tt; count = n; at = at; line = line }

module _ (t : List ℕ) (n at line : ℕ) (few : n < 64) {b : Bool} (e : b ≡ has_word t at (var_line n)) where
  left_more : (m : ℕ) → vars_from t (suc m) (header_at n at line) ≡ cond b (vars_from t m (with_var (header_at n at line))) (header_at n at line)
  unfolding vars_from
  left_more m = rw (← e)

  pub vars_stop : not b ≡ true → vars_from t (64 - n) (header_at n at line) ≡ header_at n at line
  vars_stop h = let k : 64 - n ≡ suc (63 - n) = omega arith in rw k (left_more (63 - n) ∙ rw (not-true b h))

  pub vars_again :
      {k : ℕ} → k ≡ length (decimal n) → not b ≡ false →
      vars_from t (64 - n) (header_at n at line) ≡ vars_from t (64 - (n + 1)) (header_at (n + 1) (at + 22 + k) (line + 1))
  vars_again {k} ek h =
      let q : 64 - n ≡ suc (64 - (n + 1)) = omega arith in
      let l : at + length (var_line n) ≡ at + 22 + k = omega (arith, var_long n) in
      rw q (left_more (64 - (n + 1)) ∙ rw (not-false b h, l))

  pub vars_fit : not b ≡ false → at + 22 + length (decimal n) ≤ length t
  vars_fit h =
      let w = word_within t (var_line n) at (omega (arith, var_long n)) (sym e ∙ not-false b h) in
      omega (arith, var_long n)

pub vars_end : (t : List ℕ) (n : ℕ) (h : Header) → 64 ≤ n → vars_from t (64 - n) h ≡ h
unfolding vars_from
vars_end t n h l = let k : 64 - n ≡ 0 = omega arith in rw k

pub vars_refused : (t : List ℕ) (h : Header) {refused : RefusedAt} → h.verdict ≡ Err refused → h ≡ then_vars t h
unfolding then_vars
vars_refused t h e = rw e

pub vars_done : (t : List ℕ) (h r : Header) → h.verdict ≡ Ok tt → h.count ≡ 0 → vars_from t 64 (header_at 0 h.at h.line) ≡ r → r ≡ then_vars t h
unfolding then_vars
vars_done t h r a z e =
    let same : header_at 0 h.at h.line ≡ h = λ i. record { verdict = sym a i; count = sym z i; at = h.at; line = h.line } in
    sym e ∙ ap (vars_from t 64) same ∙ rw a

-- how far the number of a line has come
word_line : (t w : List ℕ) (h : Header) → (then_word t w h).line ≤ h.line + 1
unfolding then_word
word_line t w h = by h.verdict
  where
    by : (v : Verdict) → (on_header v h (cond (has_word t h.at w) (past_word h w) (header_refused h.line))).line ≤ h.line + 1
    by (Ok _) = on_test (λ (k : Header). k.line ≤ h.line + 1) (has_word t h.at w) (λ _. omega arith) (λ _. omega arith)
    by (Err e) = omega arith

vars_line : (t : List ℕ) (m : ℕ) (h : Header) → (vars_from t m h).line ≤ h.line + m
unfolding vars_from
vars_line t zero h = omega arith
vars_line t (suc m) h =
    on_test (λ (k : Header). k.line ≤ h.line + suc m) (has_word t h.at (var_line h.count))
    (λ _. let r = vars_line t m (with_var h) in omega arith) (λ _. omega arith)

then_vars_line : (t : List ℕ) (h : Header) → (then_vars t h).line ≤ h.line + 64
unfolding then_vars
then_vars_line t h = by h.verdict
  where
    by : (v : Verdict) → (on_header v h (vars_from t 64 h)).line ≤ h.line + 64
    by (Ok _) = vars_line t 64 h
    by (Err e) = omega arith

pub word_lines : (t w : List ℕ) (h : Header) {r : Header} (n : ℕ) → r ≡ then_word t w h → h.line ≤ n → r.line ≤ n + 1
word_lines t w h n e l = rw e (omega (arith, word_line t w h))

pub vars_lines : (t : List ℕ) (h : Header) {r : Header} (n : ℕ) → r ≡ then_vars t h → h.line ≤ n → r.line ≤ n + 64
vars_lines t h n e l = rw e (omega (arith, then_vars_line t h))

word_count : (t w : List ℕ) (h : Header) → h.count ≡ 0 → (then_word t w h).count ≡ 0
unfolding then_word
word_count t w h z = by h.verdict
  where
    by : (v : Verdict) → (on_header v h (cond (has_word t h.at w) (past_word h w) (header_refused h.line))).count ≡ 0
    by (Ok _) = on_test (λ (k : Header). k.count ≡ 0) (has_word t h.at w) (λ _. z) (λ _. refl)
    by (Err e) = z

pub word_counts : (t w : List ℕ) (h : Header) {r : Header} → r ≡ then_word t w h → h.count ≡ 0 → r.count ≡ 0
word_counts t w h e z = rw e (word_count t w h z)

pub digits_small : (v : ℕ) {k : ℕ} → v < 64 → k ≡ length (decimal v) → k ≤ 2
digits_small v {k} h e = by (dec_lt v 10)
  where
    by : Dec (v < 10) → k ≤ 2
    by (yes l) = rw (e, ← digits_one v l) (omega arith)
    by (no l) = rw (e, ← digits_two v (omega arith) h) (omega arith)

-- ---- the whole header
zero_line : time_text 0 ≡ 35 ∷ 48 ∷ 10 ∷ []
unfolding time_text
zero_line = ap (λ (x : List ℕ). 35 ∷ (x ++ (10 ∷ []))) (decimal_one 0 (omega arith))

module _ (t : List ℕ) {h₁ : Header} (e₁ : h₁ ≡ then_word t timescale_line header_start) where
  pub line₁ : h₁.line ≤ 2
  line₁ = word_lines t timescale_line header_start 1 e₁ (omega arith)

  module _ {h₂ : Header} (e₂ : h₂ ≡ then_word t scope_line h₁) where
    pub line₂ : h₂.line ≤ 3
    line₂ = word_lines t scope_line h₁ 2 e₂ line₁

    pub count₂ : h₂.count ≡ 0
    count₂ = word_counts t scope_line h₁ e₂ (word_counts t timescale_line header_start e₁ refl)

    module _ {h₃ : Header} (e₃ : h₃ ≡ then_vars t h₂) where
      pub line₃ : h₃.line ≤ 67
      line₃ = vars_lines t h₂ 3 e₃ line₂

      module _ {h₄ : Header} (e₄ : h₄ ≡ then_word t upscope_line h₃) where
        pub line₄ : h₄.line ≤ 68
        line₄ = word_lines t upscope_line h₃ 67 e₄ line₃

        module _ {h₅ : Header} (e₅ : h₅ ≡ then_word t definitions_line h₄) where
          pub line₅ : h₅.line ≤ 69
          line₅ = word_lines t definitions_line h₄ 68 e₅ line₄

          pub header_whole : {h₆ : Header} → h₆ ≡ then_word t (35 ∷ 48 ∷ 10 ∷ []) h₅ → h₆ ≡ read_header t
          unfolding read_header
          header_whole e₆ = e₆ ∙ rw (e₅, e₄, e₃, e₂, e₁, zero_line)
