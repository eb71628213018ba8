-- Every process called, one after the other.
use Prim.Native.Nat.{ℕ, suc, ◌+◌, ◌-◌, ◌<◌, ◌≤◌}
use mathlib.Core.Path.{◌≡◌, refl, sym, ◌∙◌, ap}
use mathlib.Core.Bool.{true, false}
use mathlib.Core.List.{List}
use native.Mathlib.Numerals.{add-one, unary_clauses}
use native.Mathlib.Omega.{arith}
use Rattle.grammar.specs.Writing.{Put}
use Rattle.construction.specs.declared.{answers.Answer.Answer, answers.Report.Report}
use Rattle.construction.specs.Answers.{is_refused}
use Rattle.construction.specs.Tracing.{no_report}
use Rattle.executions.specs.declared.Request.{Request}
use Rattle.calls.specs.Tables.{request_in}
use Rattle.commands.specs.declared.Command.{Command}
use Rattle.commands.specs.Printing.{line_text, longest}
use Rattle.block.specs.Layout.{process_count_in}
use Rattle.lent_card.specs.Requests.{call_answer, call_block}
use Rattle.sweeping.specs.Starting.{Begun, called_from, called, Calls}

-- the first i processes are called
pub record CalledTo (calls : List ℕ) (b₀ : List ℕ) (n : ℕ) (b : List ℕ) (i : ℕ) : Type 0 where
  pub rest : called calls b₀ ≡ called_from calls (n - i) i b
  pub inside : i ≤ n

pub called_none : (calls : List ℕ) (b : List ℕ) {n : ℕ} → n ≡ process_count_in b → CalledTo calls b n b 0
called_none calls b e = record { rest = rw e (simp unary_clauses refl); inside = omega arith }

module _ {calls : List ℕ} {b₀ : List ℕ} {n : ℕ} {b : List ℕ} {i : ℕ} (h : CalledTo calls b₀ n b i) {x : Request} (ex : x ≡ request_in calls i) where
  pub called_on :
      {a : Answer} {b' : List ℕ} {t : _} → i < n → a ≡ call_answer b i x.program → b' ≡ call_block b i x.program x.inputs → t ≡ is_refused a → t ≡ false →
      CalledTo calls b₀ n b' (i + 1)
  unfolding called_from
  called_on {a} {b'} {t} below ea eb et e =
      let m : n - i ≡ suc (n - suc i) = omega arith in
      let r : is_refused (call_answer b i (request_in calls i).program) ≡ false = ap is_refused (sym (rw ex at ea)) ∙ (sym et ∙ e) in
      record { rest = rw (add-one, eb, ex) (rw (m, r) at h.rest); inside = omega arith }

  pub called_refused :
      {a : Answer} {b' buffer z : List ℕ} {t : _} {report : Report} {r : ℕ} → i < n → a ≡ call_answer b i x.program →
      b' ≡ call_block b i x.program x.inputs →
      t ≡ is_refused a → t ≡ true → report ≡ no_report → Put buffer 0 (line_text 0 (Command.Call i x.program x.inputs) report a) r z → r ≤ longest →
      Calls calls b₀ buffer r b' z
  unfolding called_from
  called_refused {a} {b'} {buffer} {z} {t} {report} {r} below ea eb et e er p short =
      let m : n - i ≡ suc (n - suc i) = omega arith in
      let q : is_refused (call_answer b i (request_in calls i).program) ≡ true = ap is_refused (sym (rw ex at ea)) ∙ (sym et ∙ e) in
      let s = rw (m, q) at h.rest in
      record {
        put = rw (ap (λ (y : Begun). y.text) s) (rw (er, ea, ex) at p);
        short = short;
        block = rw (ap (λ (y : Begun). y.block) s) (rw ex at eb);
      }

pub called_all :
    {calls : List ℕ} {b₀ : List ℕ} {n : ℕ} {b : List ℕ} {i : ℕ} (buffer : List ℕ) → CalledTo calls b₀ n b i → n ≤ i → Calls calls b₀ buffer 0 b buffer
unfolding called_from
called_all {calls} {b₀} {n} {b} {i} buffer h done =
    let m : n - i ≡ 0 = omega arith in
    let s = rw m at h.rest in
    record {
      put = rw (ap (λ (y : Begun). y.text) s) (record { place = refl; bytes = refl });
      short = omega arith;
      block = sym (ap (λ (y : Begun). y.block) s);
    }
