-- A rule for a walk: a guard, `if c { .. return ..; }`, and the code after it. It holds for any walk.
--     guards   the arm runs with what is to hold where it returns; where the test fails the code after the guard runs, over the same context
-- Assumes `Logic`.
use mathlib.Core.Bool.{Bool, not}
use mathlib.Core.List.{List}
use seplogic.Ra.Ura.{Ura}
use lib.Dec.{T}
use mir.Syntax.{Opd as Operand, Body, skip, seq, cond}
use mir.Val.{vbool}
use prog.Wp.{Env, after_seq, Calls, Wp, Loops}
use types.Logic.{Logic}
use types.Kit.{Item, Post, any_q, post, runs, Seq, ◌$◌}
use types.Run.{Opd, first, branches, skips}

module _ {M : Type 1} {𝓤 : Ura M} {𝓛 : Logic 𝓤} {K : Type 0} {Γ : List (Item 𝓤)} {E : Env 𝓤 𝓛.H} {C : Calls 𝓤 𝓛.H} {Λ : Loops 𝓤 𝓛.H}
    {q : Post 𝓤 𝓛.H} where
  open 𝓛 use {H}

  pub guards : K → {c : Operand} {a b : Body} {y : Bool} → Opd K 𝓛 Γ E c (vbool y)
      → (T y → Seq K 𝓛 Γ (runs C Λ E a (any_q (after_seq 𝓤 H (Wp 𝓤 H C Λ E b (post 𝓤 H q)) (post 𝓤 H q)))))
      → (T (not y) → Seq K 𝓛 Γ (runs C Λ E b q)) → Seq K 𝓛 Γ (runs C Λ E (seq (cond c a skip) b) q)
  guards t o held failed = first t $ branches t o held (λ z. skips t $ record { prf = (failed z).prf })
