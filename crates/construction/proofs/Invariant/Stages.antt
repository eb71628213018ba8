-- The places of a process by what it has done there (lines P1 to P3, and all that follow P3), so that they are told apart once.
use Prim.Native.Nat.{ℕ, ◌<◌}
use mathlib.Core.Path.{◌≡◌, refl, ap}
use mathlib.Core.Bool.{Bool, true, false, not, false≢true}
use mathlib.Core.Logic.{◌⊎◌, inl, inr}
use Rattle.construction.specs.Types.{Gate, Label, Idle, P1, P3, P5, P7, P10, C2, C4, P13, P14, P16, H21, H36, P19, P20, P21, P22, F1, F3}
use Rattle.construction.specs.Types.{P6, AnnouncementAccess, Access, Card}
use lib.ListN.{length, get_or, set}
use Rattle.construction.specs.Parts.{local_at, no_gate}
use Rattle.construction.specs.Machine.{access_of, advance, perform, access_gate}
use Rattle.construction.specs.Requests.{is_idle}
use Rattle.construction.proofs.Basics.{true_false}
use Rattle.construction.proofs.Invariant.NextPlaces.{Leads, leads}
use lib.Seq.{get_or-set_same}
use Rattle.construction.specs.Changes.{has_read}

-- the places of an announced operation: after P3 until it returns
abbrev pub is_announced : Label → Bool
is_announced Idle = false
is_announced P1 = false
is_announced P3 = false
is_announced P5 = true
is_announced P7 = true
is_announced P10 = true
is_announced C2 = true
is_announced C4 = true
is_announced P13 = true
is_announced P14 = true
is_announced P16 = true
is_announced H21 = true
is_announced H36 = true
is_announced P19 = true
is_announced P20 = true
is_announced P21 = true
is_announced P22 = true
is_announced F1 = true
is_announced F3 = true
is_announced P6 = true

-- the access of line P3
abbrev pub announces : AnnouncementAccess → Bool
announces AnnouncementAccess.Announce = true
announces AnnouncementAccess.Withdraw = false
announces (AnnouncementAccess.ReadOwn done active exit) = false
announces AnnouncementAccess.ReadFirst = false
announces (AnnouncementAccess.Finish flag next) = false

abbrev pub is_announcing : Access → Bool
is_announcing Access.None = false
is_announcing (Access.Gate a) = false
is_announcing (Access.Announcement a) = announces a
is_announcing Access.Help = false
is_announcing Access.Note = false
is_announcing Access.Write = false

-- an announced operation stays announced until it returns
abbrev pub Onward : Label → Type 0
Onward l = (is_announced l ≡ true) ⊎ (l ≡ Idle)

-- its access is not that of P3, and leads onward
abbrev Proceeds : Access → Type 0
Proceeds a = (is_announcing a ≡ false) × Leads Onward a

-- no operation under way; one that is called; one that has a number; one that is announced
pub data Stage : Label → Type 0 where
  idle : Stage Idle
  called : Stage P1
  numbered : Stage P3
  announced : (l : Label) → is_announced l ≡ true → is_idle l ≡ false → ((exit : Bool) → Proceeds (access_of l exit)) → Stage l

pub stage : (l : Label) → Stage l
unfolding access_of
stage Idle = Stage.idle
stage P1 = Stage.called
stage P3 = Stage.numbered
stage P5 = Stage.announced P5 refl refl (elim [ true ↦ (refl, inl refl) | false ↦ (refl, (inl refl, inl refl)) ])
stage P7 = Stage.announced P7 refl refl (λ _. (refl, (inl refl, inl refl, inl refl)))
stage P10 = Stage.announced P10 refl refl (λ _. (refl, (inl refl, inl refl)))
stage C2 = Stage.announced C2 refl refl (λ _. (refl, (inl refl, inl refl)))
stage C4 = Stage.announced C4 refl refl (λ _. (refl, (inl refl, inl refl, inl refl)))
stage P13 = Stage.announced P13 refl refl (λ _. (refl, inl refl))
stage P14 = Stage.announced P14 refl refl (λ _. (refl, (inl refl, inl refl)))
stage P16 = Stage.announced P16 refl refl (λ _. (refl, (inl refl, inl refl, inl refl, inl refl)))
stage H21 = Stage.announced H21 refl refl (λ _. (refl, (inl refl, inl refl, inl refl)))
stage H36 = Stage.announced H36 refl refl (λ _. (refl, (inl refl, inl refl)))
stage P19 = Stage.announced P19 refl refl (λ _. (refl, inl refl))
stage P20 = Stage.announced P20 refl refl (λ _. (refl, inl refl))
stage P21 = Stage.announced P21 refl refl (λ _. (refl, inl refl))
stage P22 = Stage.announced P22 refl refl (λ _. (refl, (inl refl, inl refl, inr refl)))
stage F1 = Stage.announced F1 refl refl (λ _. (refl, (inl refl, inr refl)))
stage F3 = Stage.announced F3 refl refl (λ _. (refl, inr refl))
stage P6 = Stage.announced P6 refl refl (λ _. (refl, inl refl))

-- an announced operation does not announce again, and goes onward
pub proceeds : {l : Label} → Stage l → is_announced l ≡ true → (exit : Bool) → Proceeds (access_of l exit)
proceeds Stage.idle t exit = absurd (false≢true t)
proceeds Stage.called t exit = absurd (false≢true t)
proceeds Stage.numbered t exit = absurd (false≢true t)
proceeds (Stage.announced l a b f) t exit = f exit

pub announced_next :
    (c : Card) (i : ℕ) → i < length c.controls → is_announced (local_at c i).control.place ≡ true → Onward (local_at (advance c i) i).control.place
unfolding advance
announced_next c i lt e = leads Onward c i lt _ (proceeds (stage (local_at c i).control.place) e (local_at c i).exit).1

pub is_idle_lem : {l : Label} → Stage l → is_idle l ≡ true → l ≡ Idle
is_idle_lem Stage.idle e = refl
is_idle_lem Stage.called e = absurd (false≢true e)
is_idle_lem Stage.numbered e = absurd (false≢true e)
is_idle_lem (Stage.announced l a b f) e = absurd (true_false _ e b)

pub announced_busy : {l : Label} → Stage l → is_announced l ≡ true → not (is_idle l) ≡ true
announced_busy Stage.idle t = t
announced_busy Stage.called t = refl
announced_busy Stage.numbered t = refl
announced_busy (Stage.announced l a b f) t = ap not b

pub busy_stage : {l : Label} → Stage l → not (is_idle l) ≡ true → (l ≡ P1) ⊎ (l ≡ P3) ⊎ (is_announced l ≡ true)
busy_stage Stage.idle t = absurd (false≢true t)
busy_stage Stage.called t = inl refl
busy_stage Stage.numbered t = inr (inl refl)
busy_stage (Stage.announced l a b f) t = inr (inr a)

-- a step reads the gate, or its process is past P1 and keeps the gate that it last read
pub gate_read_lem :
    (c : Card) (i : ℕ) → i < length c.gates_read → (l : Label) (exit : Bool) → is_idle l ≡ false →
    ((local_at (perform (access_of l exit) c i).card i).gate ≡ c.gate)
    ⊎ ((has_read l ≡ true) × ((local_at (perform (access_of l exit) c i).card i).gate ≡ (local_at c i).gate))
unfolding access_of perform access_gate
gate_read_lem c i lt = go
  where
    put : (x : Gate) → get_or (set c.gates_read i x) i no_gate ≡ x
    put x = get_or-set_same c.gates_read i x no_gate lt

    go : (l : Label) (exit : Bool) → is_idle l ≡ false →
        ((local_at (perform (access_of l exit) c i).card i).gate ≡ c.gate)
        ⊎ ((has_read l ≡ true) × ((local_at (perform (access_of l exit) c i).card i).gate ≡ (local_at c i).gate))
    go Idle exit n = absurd (true_false _ refl n)
    go P1 exit n = inl (put _)
    go P3 exit n = inr (refl, put _)
    go P5 true n = inr (refl, put _)
    go P5 false n = inl (put _)
    go P7 exit n = inr (refl, put _)
    go P10 exit n = inl (put _)
    go C2 exit n = inr (refl, put _)
    go C4 exit n = inr (refl, put _)
    go P13 exit n = inr (refl, put _)
    go P14 exit n = inl (put _)
    go P16 exit n = inr (refl, put _)
    go H21 exit n = inr (refl, put _)
    go H36 exit n = inr (refl, put _)
    go P19 exit n = inr (refl, put _)
    go P20 exit n = inr (refl, put _)
    go P21 exit n = inr (refl, put _)
    go P22 exit n = inr (refl, put _)
    go F1 exit n = inl (put _)
    go F3 exit n = inr (refl, put _)
    go P6 exit n = inr (refl, put _)
