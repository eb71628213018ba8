-- A table of calls that is read line by line, and the line that is printed of a wrong one.
use Prim.Native.Nat.{ℕ, suc, ◌+◌, ◌-◌, ◌*◌, ◌<◌, ◌≤◌}
use mathlib.Core.Path.{◌≡◌, refl, sym, ◌∙◌}
use mathlib.Core.List.{List, [], ◌∷◌, ◌++◌}
use native.Mathlib.Numerals.{add-one, unary_clauses}
use native.Mathlib.Omega.{arith}
use lib.ListN.{length, replicate}
use lib.Seq.{set_out}
use borrow.Author.Tests.{lt-ltb, le-ltb}
use Rattle.grammar.specs.Writing.{decimal, Put}
use Rattle.grammar.proofs.Puts.{Room, rest_all, rest_step, rest_last}
use Rattle.construction.specs.Answers.{bytes, refused_with, fields_text}
use Rattle.commands.specs.declared.Parsed.{Parsed}
use Rattle.commands.specs.Commands.{command}
use Rattle.executions.specs.declared.Request.{Request}
use Rattle.std.specs.Prelude.{Option, Some, None, Result, Ok, Err}
use Rattle.calls.specs.Tables.{with_request}
use Rattle.calls.specs.Texts.{wrong_line, requested, if_requested, calls_from, calls_of, line_refusal}

-- a call past the end of a table is left out
pub request_out : (calls : List ℕ) (i : ℕ) (x : Request) → length calls ≤ i * 5 → with_request calls i x ≡ calls
unfolding with_request
request_out calls i x h =
    let f = x.inputs in
    let e0 = set_out calls (i * 5) x.program h in
    let e1 = set_out calls (i * 5 + 1) f.w0 (omega arith) in
    let e2 = set_out calls (i * 5 + 2) f.w1 (omega arith) in
    let e3 = set_out calls (i * 5 + 3) f.w2 (omega arith) in
    rw (e0, e1, e2, e3) (set_out calls (i * 5 + 4) f.w3 (omega arith))

-- the lines of the first i processes are read, the next one starts at `at`
pub record ReadTo (t : List ℕ) (p : ℕ) (words : List ℕ) (at i : ℕ) : Type 0 where
  pub rest : calls_of t p ≡ calls_from (p - i) t i at words
  pub inside : i ≤ p

pub read_none_lem : (t : List ℕ) (p : ℕ) → ReadTo t p (replicate 40 0) 0 0
unfolding calls_of
read_none_lem t p = record { rest = simp unary_clauses refl; inside = omega arith }

module _ {t : List ℕ} {p : ℕ} {words : List ℕ} {at i : ℕ} (read : ReadTo t p words at i) where
  -- one line more, if one is left
  line : i < p → calls_of t p ≡ if_requested (requested (command t at).command i) (wrong_line words i)
      (λ x. calls_from (p - suc i) t (suc i) (command t at).next (with_request words i x))
  unfolding calls_from
  line below = let e : p - i ≡ suc (p - suc i) = omega arith in rw e at read.rest

  pub read_on :
      {y : Parsed} {f : Option Request} {x : Request} {more : List ℕ} → i < p → y ≡ command t at → f ≡ requested y.command i → f ≡ Some x →
      more ≡ with_request words i x →
      ReadTo t p more y.next (i + 1)
  read_on {y} {f} {x} below ey ef ex em =
      let e : requested (command t at).command i ≡ Some x = rw ey at (sym ef) ∙ ex in
      record { rest = rw (add-one, em, ey) (rw e at (line below)); inside = omega arith }

  pub read_wrong :
      {y : Parsed} {f : Option Request} → i < p → y ≡ command t at → f ≡ requested y.command i → f ≡ None →
      Err (record { line = i + 1; words = words }) ≡ calls_of t p
  read_wrong {y} {f} below ey ef eo =
      let e : requested (command t at).command i ≡ None = rw ey at (sym ef) ∙ eo in
      rw add-one (sym (rw e at (line below)))

  at_end_lem : p ≤ i → p - i ≡ 0
  at_end_lem h = omega arith

  pub read_left_over : p ≤ i → at < length t → Err (record { line = p + 1; words = words }) ≡ calls_of t p
  unfolding calls_from
  read_left_over h more =
      let l = read.inside in
      let e : p + 1 ≡ suc i = omega arith in
      rw e (sym (rw (at_end_lem h, lt-ltb at (length t) more) at read.rest))

  pub read_all : p ≤ i → length t ≤ at → Ok words ≡ calls_of t p
  unfolding calls_from
  read_all h done = sym (rw (at_end_lem h, le-ltb at (length t) done) at read.rest)

-- the line that is printed of a wrong one
pub line_put :
    {b : List ℕ} {i j k : ℕ} {z₁ z₂ z₃ : List ℕ} (n : ℕ) → Room b 0 → Put b 0 (bytes "line," ++ decimal n) i z₁ → Put z₁ i (fields_text (refused_with 2)) j z₂ →
    Put z₂ j (10 ∷ []) k z₃ → Put b 0 (line_refusal n) k z₃
unfolding line_refusal
line_put {b} n h p q r = rest_last (rest_step (rest_step (rest_all b 0 ((bytes "line," ++ decimal n) ++ (fields_text (refused_with 2) ++ (10 ∷ []))) h) p) q) r
