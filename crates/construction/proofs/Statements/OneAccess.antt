-- 'A step of process i makes one shared access' (document 01, 'One step'): what it does depends on its process and one cell, and changes no more.
use Prim.Native.Nat.{ℕ, ◌<◌}
use mathlib.Core.Path.{◌≡◌, refl, sym, ap, ◌∙◌}
use mathlib.Core.Logic.{◌≢◌}
use mathlib.Core.List.{List}
use native.Mathlib.Omega.{arith}
use native.Mathlib.Decide.{dec_lt}
use lib.ListN.{length, get_or, set, length-set}
use lib.Seq.{set_out, get_or-set_same, get_or-set_other}
use Rattle.construction.specs.Types.{Gate, Announcement, Record, Access, Cell, Card}
use Rattle.construction.specs.Parts.{Local, local_at, contents_of, announcement_at, record_at, with_gate, with_announcement, with_record, with_local, with_steps}
use Rattle.construction.specs.Parts.{texts_of}
use Rattle.construction.specs.Machine.{whose, holder_of, written_variable, access_in, cell_of, step_gate, step_announcement, step_help, step_note, step_write}
use Rattle.construction.specs.Machine.{AccessedCard, Accessed, after, perform, advance, swap_of}
use Rattle.construction.specs.Requests.{answer_of}
use Rattle.construction.specs.OneAccess.{touched_cell, Same, SameIn, SameLocal, SameText, OneAccess}

-- the same stored at one place of two arrays
stored :
    {A : Type 0} {l m : List A} {i : ℕ} {a b none : A} → a ≡ b → Same l m i none → Same (set l i a) (set m i b) i none
stored {A} {l} {m} {i} {a} {b} {none} e s =
    record {
      lengths = rw (length-set l i a, length-set m i b) s.lengths;
      elements = rw (← e) (go (dec_lt i (length l)));
    }
  where
    go : Dec (i < length l) → get_or (set l i a) i none ≡ get_or (set m i a) i none
    go (yes h) = get_or-set_same l i a none h ∙ sym (get_or-set_same m i a none (omega (arith, s.lengths)))
    go (no h) = rw (set_out l i a (omega arith), set_out m i a (omega (arith, s.lengths))) s.elements

-- an array as it was, and with something stored at another place
same : {A : Type 0} {l : List A} {j : ℕ} {none : A} → Same l l j none
same = record { lengths = refl; elements = refl }

elsewhere :
    {A : Type 0} {l m : List A} {i j : ℕ} {none : A} (a : A) → j ≢ i → Same l m j none → Same l (set m i a) j none
elsewhere {A} {l} {m} {i} {j} {none} a n s = record {
  lengths = s.lengths ∙ sym (length-set m i a);
  elements = s.elements ∙ sym (get_or-set_other m i j a none n);
}

stored_at :
    {A : Type 0} {l k : List A} {m n : ℕ} {a b none : A} → m ≡ n → a ≡ b → Same l k m none → Same (set l m a) (set k n b) m none
stored_at e f s = rw (← e) (stored f s)

-- what an access does to two cards with the same text and the same own state of its process
module _ (c d : Card) (i : ℕ) (T : SameText c d) (S : SameLocal i c d) where
  -- two cards have alike what an access of process i to the cell x leaves, and whether its swap won
  abbrev Alike : Cell → AccessedCard → AccessedCard → Type 0
  Alike x p q = SameLocal i p.card q.card × SameIn x p.card q.card × (p.swap ≡ q.swap)

  local_is : local_at c i ≡ local_at d i
  local_is = λ k. record {
    control = S.0.elements k;
    operation = S.1.elements k;
    exit = S.2.elements k;
    steps = S.3.elements k;
    gate = S.4.elements k;
    announcement = S.5.elements k;
    simulation = S.6.elements k;
    dictionary = S.7.elements k;
    mask = S.8.elements k;
  }

  -- the same own state put back
  put : {l m : Local} → l ≡ m → SameLocal i (with_local c i l) (with_local d i m)
  put e = (
    stored (ap (λ (x : Local). x.control) e) S.0,
    stored (ap (λ (x : Local). x.operation) e) S.1,
    stored (ap (λ (x : Local). x.exit) e) S.2,
    stored (ap (λ (x : Local). x.steps) e) S.3,
    stored (ap (λ (x : Local). x.gate) e) S.4,
    stored (ap (λ (x : Local). x.announcement) e) S.5,
    stored (ap (λ (x : Local). x.simulation) e) S.6,
    stored (ap (λ (x : Local). x.dictionary) e) S.7,
    stored (ap (λ (x : Local). x.mask) e) S.8,
  )

  access_alike :
      (a : Access) → SameIn (cell_of a (contents_of c) i (local_at c i)) c d →
      Alike (cell_of a (contents_of c) i (local_at c i)) (perform a c i) (perform a d i)
  unfolding perform
  access_alike Access.None n = (
    put (ap (λ (l : Local). after l l.control l.gate l.announcement l.simulation l.dictionary l.mask) local_is),
    n,
    refl,
  )
  access_alike (Access.Gate a) n =
      let x : step_gate a i c.gate (local_at c i) ≡ step_gate a i d.gate (local_at d i) = λ k. step_gate a i (n k) (local_is k) in
      (put (ap (λ (y : Accessed Gate). y.local) x), ap (λ (y : Accessed Gate). y.cell) x, ap (λ (y : Accessed Gate). y.swap) x)
  access_alike (Access.Announcement a) n =
      let m : whose a c.process_count i (local_at c i).gate ≡ whose a d.process_count i (local_at d i).gate =
      λ k. whose a (T.0 k).process_count i (local_is k).gate in
      let e = n.elements ∙ ap (announcement_at d) m in
      let x :
      step_announcement a (whose a c.process_count i (local_at c i).gate) (announcement_at c (whose a c.process_count i (local_at c i).gate)) (local_at c i)
      ≡ step_announcement a (whose a d.process_count i (local_at d i).gate) (announcement_at d (whose a d.process_count i (local_at d i).gate)) (local_at d i)
      =
      λ k. step_announcement a (m k) (e k) (local_is k) in (
        put (ap (λ (y : Accessed Announcement). y.local) x),
        stored_at m (ap (λ (y : Accessed Announcement). y.cell) x) n,
        ap
            (λ (y : Accessed Announcement). y.swap) x,
      )
  access_alike Access.Help n =
      let m : holder_of (local_at c i).gate.holder ≡ holder_of (local_at d i).gate.holder = ap (λ (l : Local). holder_of l.gate.holder) local_is in
      let e = n.elements ∙ ap (announcement_at d) m in
      let x :
      step_help c.variable_count (texts_of c) (announcement_at c (holder_of (local_at c i).gate.holder)) (local_at c i)
      ≡ step_help d.variable_count (texts_of d) (announcement_at d (holder_of (local_at d i).gate.holder)) (local_at d i) =
      λ k. step_help (T.0 k).variable_count (T.1 k) (e k) (local_is k) in
      (put (ap (λ (y : Accessed Announcement). y.local) x), stored_at m (ap (λ (y : Accessed Announcement). y.cell) x) n, refl)
  access_alike Access.Note n =
      let m : (local_at c i).control.target ≡ (local_at d i).control.target = ap (λ (l : Local). l.control.target) local_is in
      let e = n.elements ∙ ap (record_at d) m in
      let x :
      step_note c.variable_count (texts_of c) (record_at c (local_at c i).control.target) (local_at c i)
      ≡ step_note d.variable_count (texts_of d) (record_at d (local_at d i).control.target) (local_at d i) =
      λ k. step_note (T.0 k).variable_count (T.1 k) (e k) (local_is k) in
      (put (ap (λ (y : Accessed Record). y.local) x), stored_at m (ap (λ (y : Accessed Record). y.cell) x) n, refl)
  access_alike Access.Write n =
      let m : written_variable (local_at c i) ≡ written_variable (local_at d i) = ap written_variable local_is in
      let e = n.elements ∙ ap (record_at d) m in
      let x :
      step_write (record_at c (written_variable (local_at c i))) (local_at c i) ≡ step_write (record_at d (written_variable (local_at d i))) (local_at d i) =
      λ k. step_write (e k) (local_is k) in
      (put (ap (λ (y : Accessed Record). y.local) x), stored_at m (ap (λ (y : Accessed Record). y.cell) x) n, ap (λ (y : Accessed Record). y.swap) x)

-- the cells of a card with one replaced, and with whatever own state put back
module _ (c : Card) (i : ℕ) (l : Local) where
  none_kept : (x : Cell) → SameIn x c (with_local c i l)
  none_kept Cell.None = tt
  none_kept Cell.Gate = refl
  none_kept (Cell.Announcement m) = same
  none_kept (Cell.Record v) = same

  gate_kept : (x : Cell) (g : Gate) → x ≢ Cell.Gate → SameIn x c (with_local (with_gate c g) i l)
  gate_kept Cell.None g n = tt
  gate_kept Cell.Gate g n = absurd (n refl)
  gate_kept (Cell.Announcement m) g n = same
  gate_kept (Cell.Record v) g n = same

  announcement_kept :
      (x : Cell) (k : ℕ) (a : Announcement) → x ≢ Cell.Announcement k → SameIn x c (with_local (with_announcement c k a) i l)
  announcement_kept Cell.None k a n = tt
  announcement_kept Cell.Gate k a n = refl
  announcement_kept (Cell.Announcement m) k a n = elsewhere a (λ e. n (ap Cell.Announcement e)) same
  announcement_kept (Cell.Record v) k a n = same

  record_kept : (x : Cell) (k : ℕ) (r : Record) → x ≢ Cell.Record k → SameIn x c (with_local (with_record c k r) i l)
  record_kept Cell.None k r n = tt
  record_kept Cell.Gate k r n = refl
  record_kept (Cell.Announcement m) k r n = same
  record_kept (Cell.Record v) k r n = elsewhere r (λ e. n (ap Cell.Record e)) same

-- another process, of whatever own state was put back
other_kept : (c : Card) (i j : ℕ) (l : Local) → j ≢ i → SameLocal j c (with_local c i l)
other_kept c i j l n = (
  elsewhere _ n same,
  elsewhere _ n same,
  elsewhere _ n same,
  elsewhere _ n same,
  elsewhere _ n same,
  elsewhere _ n same,
  elsewhere _ n same,
  elsewhere _ n same,
  elsewhere _ n same,
)

-- what an access of process i to the cell x leaves alone
abbrev Kept : Card → ℕ → Cell → Card → Type 0
Kept c i x e = ((y : Cell) → y ≢ x → SameIn y c e) × ((j : ℕ) → j ≢ i → SameLocal j c e) × SameText c e

access_keeps : (c : Card) (i : ℕ) (a : Access) → Kept c i (cell_of a (contents_of c) i (local_at c i)) (perform a c i).card
unfolding perform
access_keeps c i Access.None = (λ y _. none_kept c i _ y, λ j n. other_kept c i j _ n, (refl, refl))
access_keeps c i (Access.Gate a) = (λ y n. gate_kept c i _ y _ n, λ j n. other_kept c i j _ n, (refl, refl))
access_keeps c i (Access.Announcement a) = (λ y n. announcement_kept c i _ y _ _ n, λ j n. other_kept c i j _ n, (refl, refl))
access_keeps c i Access.Help = (λ y n. announcement_kept c i _ y _ _ n, λ j n. other_kept c i j _ n, (refl, refl))
access_keeps c i Access.Note = (λ y n. record_kept c i _ y _ _ n, λ j n. other_kept c i j _ n, (refl, refl))
access_keeps c i Access.Write = (λ y n. record_kept c i _ y _ _ n, λ j n. other_kept c i j _ n, (refl, refl))

-- the count of accepted steps is no cell
steps_alike : (x : Cell) (c d : Card) (k n : ℕ) → SameIn x c d → SameIn x (with_steps c k) (with_steps d n)
steps_alike Cell.None c d k n s = s
steps_alike Cell.Gate c d k n s = s
steps_alike (Cell.Announcement m) c d k n s = s
steps_alike (Cell.Record v) c d k n s = s

pub one_access : (c : Card) (i : ℕ) → OneAccess c i
unfolding advance swap_of
one_access c i = record {
  chosen = λ d T S. let l = local_is c d i T S in λ k. cell_of (access_in (l k)) (T.0 k) i (l k);
  depends = λ d T S n.
      let s = alike d T S n in
      (s.0, steps_alike (touched_cell c i) _ _ _ _ s.1, s.2, ap answer_of (local_is (advance c i) (advance d i) i (text d T) s.0));
  kept = λ x n. steps_alike x c _ c.steps _ ((access_keeps c i (access_in (local_at c i))).0 x n);
  others = (access_keeps c i (access_in (local_at c i))).1;
  text = (access_keeps c i (access_in (local_at c i))).2;
  steps = refl;
}
  where
    text : (d : Card) → SameText c d → SameText (advance c i) (advance d i)
    text d T =
        let x = (access_keeps c i (access_in (local_at c i))).2 in
        let y = (access_keeps d i (access_in (local_at d i))).2 in
        (sym x.0 ∙ T.0 ∙ y.0, sym x.1 ∙ T.1 ∙ y.1)

    alike :
        (d : Card) (T : SameText c d) (S : SameLocal i c d) → SameIn (touched_cell c i) c d →
        Alike c d i T S (touched_cell c i) (perform (access_in (local_at c i)) c i) (perform (access_in (local_at d i)) d i)
    alike d T S n =
        rw (ap access_in (sym (local_is c d i T S))) (access_alike c d i T S (access_in (local_at c i)) n)
