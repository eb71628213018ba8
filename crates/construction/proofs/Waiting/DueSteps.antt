-- A step keeps the turn of every operation that stays active.
use Prim.Native.Nat.{ℕ, ◌+◌, ◌<◌}
use mathlib.Core.Path.{◌≡◌, refl, sym, subst, ap, ◌∙◌}
use mathlib.Core.Bool.{true}
use mathlib.Core.List.{List}
use lib.ListN.{get_or}
use mathlib.Core.Logic.{inl, inr, ⊎_elim}
use native.Mathlib.Omega.{arith}
use native.Mathlib.Decide.{ℕ_discrete}
use native.Mathlib.Nat.{eq-or-lt_of_le}
use borrow.Author.Tests.{not-true}
use Rattle.std.specs.Prelude.{None, Some}
use Rattle.construction.specs.Types.{Gate, Done, Active, Announcement, Label, Card}
use Rattle.construction.specs.Cells.{open_announcement}
use Rattle.construction.specs.Parts.{local_at, announcement_at}
use Rattle.construction.specs.Machine.{advance}
use Rattle.construction.specs.Requests.{is_busy}
use Rattle.construction.proofs.Basics.{nobody_process, process_same, active_not_done}
use Rattle.construction.proofs.Invariant.World.{World, announcement_in, Move, frame_of}
use Rattle.construction.proofs.Invariant.World.Move.{stay, ask, announce, leave, take, write, end, free}
use Rattle.construction.proofs.Invariant.Cards.{CardInvariant, Stepped, gate_is, announcements_is}
use Rattle.construction.proofs.Waiting.Choices.{Chooser, Chooses, ChoosesIn, Due, apart, chooses}
use Rattle.construction.proofs.Waiting.Nominees.{Nominee, nominee}

module _ {c : Card} {w : World} {i : ℕ} (I : CardInvariant c w) (lt : i < c.process_count) (busy : is_busy c i ≡ true) (S : Stepped c w i) (j turn : ℕ)
    (D : Due c.process_count c.gate (local_at c) j turn) (active : (announcement_at c j).flag ≡ Active) where
  abbrev next : Card
  next = advance c i

  few : i < 8
  few = omega (arith, I.good.fits.few)

  -- the process that acts
  acts : next.gate.seq ≡ turn → ChoosesIn j next.gate (local_at next i)
  unfolding advance
  acts =
      chooses c i j turn I.sizes few lt D active (local_at c i).control.place (local_at c i).exit refl (not-true _ busy)

  -- and the others, if they go on as they chose
  choose :
      (next.gate.seq ≡ turn → (q : ℕ) → q < c.process_count → ChoosesIn j next.gate (local_at c q)) →
      next.gate.seq ≡ turn → (q : ℕ) → q < c.process_count → ChoosesIn j next.gate (local_at next q)
  choose rest e q lq = go (ℕ_discrete q i)
    where
      go : Dec (q ≡ i) → ChoosesIn j next.gate (local_at next q)
      go (yes z) = subst (λ (k : ℕ). ChoosesIn j next.gate (local_at next k)) (sym z) (acts e)
      go (no n) = subst (ChoosesIn j next.gate) (sym (S.elsewhere q n)) (rest e q lq)

  -- the gate stays
  due_kept : next.gate ≡ w.gate → Due c.process_count next.gate (local_at next) j turn
  due_kept z =
      let E : Due c.process_count next.gate (local_at c) j turn =
      subst (λ (g : Gate). Due c.process_count g (local_at c) j turn) (gate_is I ∙ sym z) D in
      record { own = D.own; high = E.high; held = E.held; chosen = choose E.chosen }

  same_seq : c.gate.seq ≡ w.gate.seq
  same_seq = ap (λ (g : Gate). g.seq) (gate_is I)

  same_holder_lem : c.gate.holder ≡ w.gate.holder
  same_holder_lem = ap (λ (g : Gate). g.holder) (gate_is I)

  given :
      (m : ℕ) (hn : w.gate.holder ≡ None) → next.gate.holder ≡ Some m →
      Nominee c i m (same_holder_lem ∙ hn) (local_at c i).control.place
  unfolding advance
  given m hn = nominee c i m (same_holder_lem ∙ hn) (local_at c i).control.place (local_at c i).exit

  -- the gate is given to m, and so to j if it is the turn of j
  due_taken :
      (m : ℕ) → w.gate.holder ≡ None → next.gate ≡ record { holder = Some m; seq = w.gate.seq } →
      Due c.process_count next.gate (local_at next) j turn
  due_taken m hn z = record {
    own = D.own;
    high = omega (arith, zs, same_seq, D.high);
    held = λ e. inr (zh ∙ ap Some (mine (same_seq ∙ (sym zs ∙ e))));
    chosen = choose (λ e q lq. apart (frame_of c w) w q j next.gate (local_at c q)
        (λ h _ y. nobody_process h (ap (λ (g : Gate). g.holder) y ∙ zh)) (local_at c q).control.place (I.locs q lq));
  }
    where
      zs : next.gate.seq ≡ w.gate.seq
      zs = ap (λ (g : Gate). g.seq) z

      zh : next.gate.holder ≡ Some m
      zh = ap (λ (g : Gate). g.holder) z

      N : Nominee c i m (same_holder_lem ∙ hn) (local_at c i).control.place
      N = given m hn zh

      mine : c.gate.seq ≡ turn → m ≡ j
      mine e =
          sym N.target
          ∙ subst (λ (l : Label). Chooses l j c.gate (local_at c i).gate (local_at c i).control.target) N.place (D.chosen e i lt) Chooser.nominating
          N.gate

  -- the gate is given back for m, which is done, and so not at the turn of j
  due_freed :
      (m : ℕ) → w.gate.holder ≡ Some m → (announcement_in w m).flag ≡ Done →
      next.gate ≡ record { holder = None; seq = w.gate.seq + 1 } → Due c.process_count next.gate (local_at next) j turn
  due_freed m hm done z = record {
    own = D.own;
    high = ⊎_elim (λ e. absurd (⊎_elim (λ h. nobody_process h (same_holder_lem ∙ hm)) mine (D.held e)))
        (λ l. omega (arith, zs, same_seq)) (eq-or-lt_of_le D.high);
    held = λ _. inl (ap (λ (g : Gate). g.holder) z);
    chosen = choose (λ e q lq. apart (frame_of c w) w q j next.gate (local_at c q)
        (λ _ le y. let s : (local_at c q).gate.seq ≡ next.gate.seq = ap (λ (g : Gate). g.seq) y in omega (arith, zs))
        (local_at c q).control.place (I.locs q lq));
  }
    where
      zs : next.gate.seq ≡ w.gate.seq + 1
      zs = ap (λ (g : Gate). g.seq) z

      mine : c.gate.holder ≡ Some j → ⊥
      mine h =
          let e : m ≡ j = process_same (sym hm ∙ (sym same_holder_lem ∙ h)) in
          active_not_done active
          (subst (λ (k : ℕ). (announcement_at c k).flag ≡ Done) e
          (subst (λ (l : List Announcement). (get_or l m open_announcement).flag ≡ Done) (sym (announcements_is I)) done))

  by_move : {v : World} → Move (frame_of c w) i w v → next.gate ≡ v.gate → Due c.process_count next.gate (local_at next) j turn
  by_move stay z = due_kept z
  by_move (ask q l Q) z = due_kept z
  by_move (announce a l Q fa A) z = due_kept z
  by_move (leave l fa) z = due_kept z
  by_move (take m l hn fl op x) z = due_taken m hn z
  by_move (write m v x vl hm fl below ex) z = due_kept z
  by_move (end m l hm fl all) z = due_kept z
  by_move (free m l hm d) z = due_freed m hm d z

  pub due_step : Due c.process_count next.gate (local_at next) j turn
  due_step = by_move S.move (gate_is S.inv)
