-- The turn of an operation: the gate does not pass its number before it is chosen, as every chooser of that number chooses it (lines C1, C2).
use Prim.Native.Nat.{ℕ, ◌≤◌, ◌<◌}
use mathlib.Core.Path.{◌≡◌, refl, sym, subst, ap, ◌∙◌}
use mathlib.Core.Bool.{Bool, true, false, true≢false}
use mathlib.Core.Logic.{◌≢◌, ◌⊎◌}
use native.Mathlib.Omega.{arith}
use Rattle.std.specs.Prelude.{None, Some}
use Rattle.construction.specs.Types.{Gate, Flag, Done, Active, Exit, Label, Idle, P1, P3, P5, P7, P10, C2, C4, P13, P14, P16, H21, H36}
use Rattle.construction.specs.Types.{P19, P20, P21, P22, F1, F3, P6, AnnouncementAccess, Access, Card}
use Rattle.construction.specs.Parts.{Local, local_at, announcement_at, with_announcement, with_local}
use Rattle.construction.specs.Machine.{by_flag, first_choice, whose, access_of, access_announcement, perform}
use Rattle.construction.specs.Requests.{is_idle}
use Rattle.construction.proofs.Basics.{active_not_done, active_not_exit}
use Rattle.construction.proofs.Invariant.World.{World, Frame}
use Rattle.construction.proofs.Invariant.Locals.{Sizes, local_same}
use Rattle.construction.proofs.Invariant.Acting.{at_announcement}
use Rattle.construction.proofs.Invariant.Assertions.{LocAt, known}
use Rattle.construction.proofs.Invariant.NextPlaces.{Leads, leads}

-- the places of a chooser that has yet to look at its own announcement, or to nominate
pub data Chooser : Label → Type 0 where
  unsure : Chooser C4
  nominating : Chooser P13

-- a chooser that has read the gate h and nominates m chooses j, where the gate is g
abbrev pub Picks : {l : Label} → Chooser l → ℕ → Gate → Gate → ℕ → Type 0
Picks Chooser.unsure j g h m = h ≢ g
Picks Chooser.nominating j g h m = h ≡ g → m ≡ j

abbrev pub Chooses : Label → ℕ → Gate → Gate → ℕ → Type 0
Chooses l j g h m = (c : Chooser l) → Picks c j g h m

abbrev pub ChoosesIn : ℕ → Gate → Local → Type 0
ChoosesIn j g t = Chooses t.control.place j g t.gate t.control.target

-- the active operation of process j has its turn at a number: the gate is not past it, and at it the gate is free or held by j, and every
-- chooser chooses j. T gives the own state of each of the p processes.
pub record Due (p : ℕ) (g : Gate) (T : ℕ → Local) (j turn : ℕ) : Type 0 where
  pub own : first_choice turn p ≡ j
  pub high : g.seq ≤ turn
  pub held : g.seq ≡ turn → (g.holder ≡ None) ⊎ (g.holder ≡ Some j)
  pub chosen : g.seq ≡ turn → (q : ℕ) → q < p → ChoosesIn j g (T q)

-- a chooser read a free gate, with a number not above that of now
module _ (F : Frame) (w : World) (q j : ℕ) (g : Gate) (t : Local)
    (other : t.gate.holder ≡ None → t.gate.seq ≤ w.gate.seq → t.gate ≢ g) where
  pub apart : (l : Label) → LocAt l F w q (known t) → Chooses l j g t.gate t.control.target
  apart C4 k Chooser.unsure = other k.1 k.2
  apart P13 k Chooser.nominating = λ e. absurd (other k.1 k.3.below e)
  apart Idle k c = elim c [ ]
  apart P1 k c = elim c [ ]
  apart P3 k c = elim c [ ]
  apart P5 k c = elim c [ ]
  apart P7 k c = elim c [ ]
  apart P10 k c = elim c [ ]
  apart C2 k c = elim c [ ]
  apart P14 k c = elim c [ ]
  apart P16 k c = elim c [ ]
  apart H21 k c = elim c [ ]
  apart H36 k c = elim c [ ]
  apart P19 k c = elim c [ ]
  apart P20 k c = elim c [ ]
  apart P21 k c = elim c [ ]
  apart P22 k c = elim c [ ]
  apart F1 k c = elim c [ ]
  apart F3 k c = elim c [ ]
  apart P6 k c = elim k [ ]

-- a step of process i, where j has its turn
module _ (c : Card) (i j turn : ℕ) (sizes : Sizes c) (few : i < 8) (lt : i < c.process_count)
    (D : Due c.process_count c.gate (local_at c) j turn) (active : (announcement_at c j).flag ≡ Active) where
  -- at the turn of j, process i chooses j after its step
  abbrev Choosing : Card → Type 0
  Choosing d = d.gate.seq ≡ turn → ChoosesIn j d.gate (local_at d i)

  -- the places that no chooser stands at
  abbrev Aside : Label → Type 0
  Aside l = Chooser l → ⊥

  aside : (a : Access) → Leads Aside a → Choosing (perform a c i).card
  aside a q _ s = absurd (leads Aside c i (omega (arith, sizes.controls)) a q s)

  -- process i with the announcement of m read, and at a place
  abbrev read : ℕ → Label → Local
  read m l = at_announcement (local_at c i) (announcement_at c m) (record { place = l; target = m })

  reads :
      (m : ℕ) (l : Label) → Chooses l j c.gate (local_at c i).gate m →
      ChoosesIn j c.gate (local_at (with_local (with_announcement c m (announcement_at c m)) i (read m l)) i)
  reads m l q =
      subst (ChoosesIn j c.gate)
      (sym (local_same (with_announcement c m (announcement_at c m)) i (read m l) sizes few)) q

  -- line C2: the announcement of j is read, and it is active
  choose-C2 : Choosing (perform (Access.Announcement AnnouncementAccess.ReadFirst) c i).card
  unfolding perform access_announcement
  choose-C2 e = reads first _ (go (announcement_at c first).flag refl)
    where
      first : ℕ
      first = whose AnnouncementAccess.ReadFirst c.process_count i (local_at c i).gate

      first_is : (local_at c i).gate ≡ c.gate → first ≡ j
      first_is z = ap (λ (g : Gate). first_choice g.seq c.process_count) z ∙ (ap (λ (n : ℕ). first_choice n c.process_count) e ∙ D.own)

      is_active : (local_at c i).gate ≡ c.gate → (announcement_at c first).flag ≡ Active
      is_active z = subst (λ (m : ℕ). (announcement_at c m).flag ≡ Active) (sym (first_is z)) active

      go : (f : Flag) → (announcement_at c first).flag ≡ f → Chooses (by_flag f C4 P13 C4) j c.gate (local_at c i).gate first
      go Done f Chooser.unsure = λ z. active_not_done (is_active z) f
      go Active f Chooser.nominating = first_is
      go Exit f Chooser.unsure = λ z. active_not_exit (is_active z) f

  -- line C4: whoever stands there has read another gate
  choose-C4 : (local_at c i).control.place ≡ C4 → Choosing (perform (Access.Announcement (AnnouncementAccess.ReadOwn F1 P13 P13)) c i).card
  unfolding perform access_announcement
  choose-C4 at e = reads i _ (go (announcement_at c i).flag)
    where
      late : (local_at c i).gate ≢ c.gate
      late = subst (λ (l : Label). Chooses l j c.gate (local_at c i).gate (local_at c i).control.target) at (D.chosen e i lt) Chooser.unsure

      go : (f : Flag) → Chooses (by_flag f F1 P13 P13) j c.gate (local_at c i).gate i
      go Active Chooser.nominating = λ z. absurd (late z)
      go Exit Chooser.nominating = λ z. absurd (late z)
      go Done c' = elim c' [ ]

  -- every place
  pub chooses : (l : Label) (exit : Bool) → (local_at c i).control.place ≡ l → is_idle l ≡ false → Choosing (perform (access_of l exit) c i).card
  unfolding access_of
  chooses Idle exit at n = absurd (true≢false n)
  chooses P1 exit at n = aside _ (elim [ ], elim [ ])
  chooses P3 exit at n = aside _ (elim [ ])
  chooses P5 true at n = aside _ (elim [ ])
  chooses P5 false at n = aside _ (elim [ ], elim [ ])
  chooses P7 exit at n = aside _ (elim [ ], elim [ ], elim [ ])
  chooses P10 exit at n = aside _ (elim [ ], elim [ ])
  chooses C2 exit at n = choose-C2
  chooses C4 exit at n = choose-C4 at
  chooses P13 exit at n = aside _ (elim [ ])
  chooses P14 exit at n = aside _ (elim [ ], elim [ ])
  chooses P16 exit at n = aside _ (elim [ ], elim [ ], elim [ ], elim [ ])
  chooses H21 exit at n = aside _ (elim [ ], elim [ ], elim [ ])
  chooses H36 exit at n = aside _ (elim [ ], elim [ ])
  chooses P19 exit at n = aside _ (elim [ ])
  chooses P20 exit at n = aside _ (elim [ ])
  chooses P21 exit at n = aside _ (elim [ ])
  chooses P22 exit at n = aside _ (elim [ ], elim [ ], elim [ ])
  chooses F1 exit at n = aside _ (elim [ ], elim [ ])
  chooses F3 exit at n = aside _ (elim [ ])
  chooses P6 exit at n = aside _ (elim [ ])
