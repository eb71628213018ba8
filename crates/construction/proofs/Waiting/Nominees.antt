-- Only line P13 gives a free gate to a process, and to its nominee.
use Prim.Native.Nat.{ℕ}
use mathlib.Core.Path.{◌≡◌, refl, sym}
use mathlib.Core.Bool.{Bool, true, false}
use Rattle.std.specs.Prelude.{None, Some}
use Rattle.construction.specs.Types.{Gate, Label, P5, P13, GateAccess, Access, Card}
use Rattle.construction.specs.Cells.{same_gate, swap_gate, released}
use Rattle.construction.specs.Parts.{local_at}
use Rattle.construction.specs.Machine.{access_of, access_gate, perform}
use Rattle.construction.proofs.Basics.{on_test, same_gate-true, nobody_process, process_same}

-- the access that gives the gate, which P13 alone makes
data Gives : Access → Type 0 where
  gives : Gives (Access.Gate GateAccess.Nominate)

exit_gives_none : (exit : Bool) → Gives (access_of P5 exit) → ⊥
unfolding access_of
exit_gives_none true = elim [ ]
exit_gives_none false = elim [ ]

at-P13 : (l : Label) (exit : Bool) → Gives (access_of l exit) → l ≡ P13
unfolding access_of
at-P13 P5 exit g = absurd (exit_gives_none exit g)
at-P13 P13 exit Gives.gives = refl
at-P13 Label.Idle exit g = elim g [ ]
at-P13 Label.P1 exit g = elim g [ ]
at-P13 Label.P3 exit g = elim g [ ]
at-P13 Label.P7 exit g = elim g [ ]
at-P13 Label.P10 exit g = elim g [ ]
at-P13 Label.C2 exit g = elim g [ ]
at-P13 Label.C4 exit g = elim g [ ]
at-P13 Label.P14 exit g = elim g [ ]
at-P13 Label.P16 exit g = elim g [ ]
at-P13 Label.H21 exit g = elim g [ ]
at-P13 Label.H36 exit g = elim g [ ]
at-P13 Label.P19 exit g = elim g [ ]
at-P13 Label.P20 exit g = elim g [ ]
at-P13 Label.P21 exit g = elim g [ ]
at-P13 Label.P22 exit g = elim g [ ]
at-P13 Label.F1 exit g = elim g [ ]
at-P13 Label.F3 exit g = elim g [ ]
at-P13 Label.P6 exit g = elim g [ ]

-- a step of process i, after which m holds the gate that nobody held
module _ (c : Card) (i m : ℕ) (hn : c.gate.holder ≡ None) where
  pub record Nominee (l : Label) : Type 0 where
    pub place : l ≡ P13
    pub gate : (local_at c i).gate ≡ c.gate
    pub target : (local_at c i).control.target ≡ m

  abbrev Won : Access → Type 0
  Won a = Gives a × ((local_at c i).gate ≡ c.gate) × ((local_at c i).control.target ≡ m)

  abbrev Giving : Access → Gate → Type 0
  Giving a g = g.holder ≡ Some m → Won a

  never : (a : Access) → Giving a c.gate
  never a h = absurd (nobody_process hn h)

  giving : (a : Access) → Giving a (perform a c i).card.gate
  unfolding perform access_gate swap_gate released
  giving Access.None = never _
  giving (Access.Gate (GateAccess.Read held free)) = never _
  giving (Access.Gate GateAccess.ReadLast) = never _
  giving (Access.Gate GateAccess.Nominate) =
      on_test (Giving _) (same_gate c.gate (local_at c i).gate) (λ e h. (Gives.gives, sym (same_gate-true _ _ e), process_same h)) (λ _. never _)
  giving (Access.Gate (GateAccess.Release next)) =
      on_test (Giving _) (same_gate c.gate (local_at c i).gate) (λ e h. absurd (nobody_process refl h)) (λ _. never _)
  giving (Access.Announcement a) = never _
  giving Access.Help = never _
  giving Access.Note = never _
  giving Access.Write = never _

  pub nominee : (l : Label) (exit : Bool) → (perform (access_of l exit) c i).card.gate.holder ≡ Some m → Nominee l
  nominee l exit h = let x = giving (access_of l exit) h in record { place = at-P13 l exit x.0; gate = x.1; target = x.2 }
