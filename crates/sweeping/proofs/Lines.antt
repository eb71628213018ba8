-- The lines of a sweep put into a buffer one after the other.
use Prim.Native.Nat.{ℕ, suc, ◌+◌, ◌-◌, ◌<◌, ◌≤◌}
use mathlib.Core.Path.{◌≡◌}
use mathlib.Core.List.{List, ◌++◌}
use native.Mathlib.Numerals.{add-one, unary_clauses}
use native.Mathlib.Omega.{arith}
use lib.ListN.{length}
use Rattle.grammar.specs.Writing.{Put}
use Rattle.grammar.proofs.Puts.{Room, Rest, rest_all, rest_step, rest_last, rest_none, rest_length}
use Rattle.construction.specs.declared.{answers.Answer.Answer, answers.Report.Report}
use Rattle.construction.specs.Tracing.{no_report}
use Rattle.commands.specs.declared.Command.{Command}
use Rattle.commands.specs.Printing.{line_text}
use Rattle.lent_card.specs.Requests.{read_answer}
use Rattle.sweeping.specs.Printing.{reads_text}

-- two and three texts
module _ {b : List ℕ} {at i j : ℕ} {w x z₁ z₂ : List ℕ} where
  pub put_two : Room b at → Put b at w i z₁ → Put z₁ i x j z₂ → Put b at (w ++ x) j z₂
  put_two h p q = rest_last (rest_step (rest_all b at (w ++ x) h) p) q

  pub put_three : {k : ℕ} {y z₃ : List ℕ} → Room b at → Put b at w i z₁ → Put z₁ i x j z₂ → Put z₂ j y k z₃ → Put b at (w ++ (x ++ y)) k z₃
  put_three {k} {y} h p q r = rest_last (rest_step (rest_step (rest_all b at (w ++ (x ++ y)) h) p) q) r

-- the lines of the first v variables are put
pub record ReadTo (b buffer₀ : List ℕ) (at n : ℕ) (buffer : List ℕ) (i v : ℕ) : Type 0 where
  pub rest : Rest buffer₀ at (reads_text b n 0) buffer i (reads_text b (n - v) v)
  pub inside : v ≤ n

pub read_none_lem : (b buffer : List ℕ) (at n : ℕ) → Room buffer at → ReadTo b buffer at n buffer at 0
read_none_lem b buffer at n h = record { rest = simp unary_clauses (rest_all buffer at (reads_text b n 0) h); inside = omega arith }

module _ {b buffer₀ : List ℕ} {at n : ℕ} {buffer : List ℕ} {i v : ℕ} (h : ReadTo b buffer₀ at n buffer i v) where
  pub read_on :
      {a : Answer} {t : Report} {j : ℕ} {z : List ℕ} → v < n → a ≡ read_answer b v → t ≡ no_report → Put buffer i (line_text 0 (Command.Read v) t a) j z →
      ReadTo b buffer₀ at n z j (v + 1)
  unfolding reads_text
  read_on {a} {t} {j} {z} below ea et p =
      let e : n - v ≡ suc (n - suc v) = omega arith in
      let q : Put buffer i (line_text 0 (Command.Read v) no_report (read_answer b v)) j z = rw (ea, et) at p in
      let r : Rest buffer₀ at (reads_text b n 0) buffer i (line_text 0 (Command.Read v) no_report (read_answer b v) ++ reads_text b (n - suc v) (suc v)) =
      rw e at h.rest in
      record { rest = rw add-one (rest_step r q); inside = omega arith }

  pub read_all : n ≤ v → Put buffer₀ at (reads_text b n 0) i buffer
  unfolding reads_text
  read_all done = let e : n - v ≡ 0 = omega arith in rest_none (rw e at h.rest)

  pub read_length : length buffer ≡ length buffer₀
  read_length = rest_length h.rest
