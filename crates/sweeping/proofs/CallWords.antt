-- The table that a text of calls gives has five words for each of eight processes, and each of them has 32 bits.
use Prim.Native.Nat.{ℕ, zero, suc, ◌+◌, ◌*◌, ◌<◌}
use mathlib.Core.Path.{◌≡◌, refl}
use mathlib.Core.Bool.{Bool, true, false}
use mathlib.Core.List.{List}
use native.Mathlib.Omega.{arith}
use lib.Dec.{eqb, ltb}
use lib.ListN.{length, get_or, set, replicate, length-set}
use Rattle.grammar.proofs.Cases.{on_test}
use Rattle.construction.proofs.Basics.{set_keeps, get_or_replicate_same}
use Rattle.construction.specs.Cells.{FitsWords}
use Rattle.executions.specs.declared.Request.{Request}
use Rattle.commands.specs.declared.Command.{Command}
use Rattle.commands.specs.Commands.{command}
use Rattle.commands.proofs.Fitting.{FitsCall, FitsCommand, command_fits}
use Rattle.std.specs.Prelude.{Ok, Err}
use Rattle.calls.specs.Tables.{request_in, with_request}
use Rattle.calls.specs.Texts.{Calls, wrong_line, own_call, requested, if_requested, calls_from, calls_of}

-- a table of calls
pub record Table (words : List ℕ) : Type 0 where
  pub size : length words ≡ 40
  pub small : (k : ℕ) → get_or words k 0 < 4294967296

-- the table that was read, up to a wrong line where there is one
abbrev pub words_of : Calls → List ℕ
words_of (Ok words) = words
words_of (Err wrong) = wrong.words

set_table : (words : List ℕ) (k x : ℕ) → x < 4294967296 → Table words → Table (set words k x)
set_table words k x f h =
    record { size = simp length-set h.size; small = λ j. set_keeps (λ (n : ℕ). n < 4294967296) words k j x 0 (λ _. f) (h.small j) }

request_table : (words : List ℕ) (i : ℕ) (x : Request) → FitsCall x.program x.inputs → Table words → Table (with_request words i x)
unfolding with_request
request_table words i x f h =
    let w = f.inputs in
    set_table _ _ _ w.w3 (set_table _ _ _ w.w2 (set_table _ _ _ w.w1 (set_table _ _ _ w.w0 (set_table words _ _ f.program h))))

-- a line that makes the call of process i puts it there
module _ (words : List ℕ) (i : ℕ) (h : Table words) (go : Request → Calls) (put : (x : Request) → Table (with_request words i x) → Table (words_of (go x))) where
  line : (m : Command) → FitsCommand m → Table (words_of (if_requested (requested m i) (wrong_line words i) go))
  line (Command.Call j k x) f = by (eqb j i) refl
    where
      y : Request
      y = record { program = k; inputs = x }

      by : (z : Bool) → eqb j i ≡ z → Table (words_of (if_requested (own_call j y i) (wrong_line words i) go))
      by true e = rw e (put y (request_table words i y f h))
      by false e = rw e h
  line (Command.Exit j) f = h
  line (Command.Step j) f = h
  line (Command.Trace j) f = h
  line (Command.Read v) f = h
  line (Command.Change k from count start end) f = h
  line Command.Malformed f = h

calls_table : (m : ℕ) (t : List ℕ) (i at : ℕ) (words : List ℕ) → Table words → Table (words_of (calls_from m t i at words))
unfolding calls_from
calls_table zero t i at words h = on_test (λ (x : Calls). Table (words_of x)) (ltb at (length t)) (λ _. h) (λ _. h)
calls_table (suc m) t i at words h =
    line words i h _ (λ x q. calls_table m t (suc i) (command t at).next (with_request words i x) q) (command t at).command
    (command_fits t at)

pub table_read : (t : List ℕ) (p : ℕ) → Table (words_of (calls_of t p))
unfolding calls_of
table_read t p = calls_table p t 0 0 (replicate 40 0) (record { size = refl; small = λ k. rw (get_or_replicate_same {A = ℕ} 40 k 0) (omega arith) })

pub inputs_fit : {words : List ℕ} → Table words → (i : ℕ) → FitsWords (request_in words i).inputs
unfolding request_in
inputs_fit h i = record { w0 = h.small (i * 5 + 1); w1 = h.small (i * 5 + 2); w2 = h.small (i * 5 + 3); w3 = h.small (i * 5 + 4) }
