-- A piece of a sweep: its schedule drawn and run, and what is left after it.
use Prim.Native.Nat.{ℕ, zero, suc, ◌+◌, ◌-◌, ◌^◌, ◌<◌, ◌≤◌, min}
use mathlib.Core.Path.{◌≡◌, refl, sym, ◌∙◌, ap}
use mathlib.Core.Bool.{Bool, true, false, cond}
use mathlib.Core.List.{List}
use native.Mathlib.Omega.{arith}
use lib.Dec.{eqb}
use lib.ListN.{length}
use borrow.Author.Tests.{eq-eqb, ne_eqb}
use Rattle.grammar.specs.Writing.{place_after}
use Rattle.construction.proofs.Basics.{cond_true, cond_false}
use Rattle.block.specs.Layout.{process_count_in}
use Rattle.xorshift.specs.Xorshift.{Draws}
use Rattle.lent_sweep.specs.declared.Counts.{Counts}
use Rattle.lent_sweep.specs.Sweeps.{Sweeps}
use Rattle.sweeping.specs.declared.{Progress.Progress, pieces.Piece.Piece}
use Rattle.sweeping.specs.Pieces.{added, left_after, run_drawn, Runs, Advances, Stage, stage, next_stage, in_pieces, Finishes}

-- a sum that stops at the largest number of 64 bits
pub saturated : (a b : ℕ) {r : ℕ} → r ≡ min (a + b) (2 ^ 64 - 1) → r ≡ place_after a b
saturated a b e = omega arith

pub runs_drawn :
    {calls : List ℕ} {b l s : List ℕ} {x p y : ℕ} {z : List ℕ} {c : Counts} {b' l' : List ℕ} → p ≡ process_count_in b → Draws s x p y z →
    Sweeps calls b l z c b' l' → Runs calls b l (length s) x (record { x = y; counts = c }) b' l' z
unfolding run_drawn
runs_drawn {b = b} ep d r =
    let bytes = d.bytes in
    record {
      number = d.number;
      counts = rw (← ep, ← bytes) r.counts;
      block = rw (← ep, ← bytes) r.block;
      loan = rw (← ep, ← bytes) r.loan;
      schedule = rw (← ep) bytes;
    }

pub advanced_by :
    {calls : List ℕ} {b l : List ℕ} (q : Progress) {m n left : ℕ} {y : Piece} {c : Counts} {b' l' z : List ℕ} → n ≡ min q.left 4096 →
    Runs calls b l m q.x y b' l' z → m ≡ n → left ≡ left_after q.left n y.counts.accepted → c ≡ added q.counts y.counts →
    Advances calls b l q (record { x = y.x; left = left; counts = c }) b' l'
advanced_by {calls} {b} {l} q {m} {n} {left} {y} {c} {b'} {l'} {z} en r es el ec =
    let r' : Runs calls b l (min q.left 4096) q.x y b' l' z = rw (es, en) at r in
    let number = r'.number in
    let counts = r'.counts in
    let rest : left ≡ left_after q.left (min q.left 4096) (run_drawn calls b l (min q.left 4096) q.x).counts.accepted = rw (en, counts) at el in
    let sum : c ≡ added q.counts (run_drawn calls b l (min q.left 4096) q.x).counts = rw counts at ec in
    record { progress = λ j. record { x = number j; left = rest j; counts = sum j }; block = r'.block; loan = r'.loan }

-- a sweep ends: fewer steps are left after each piece
left_less : (left n accepted : ℕ) → 0 < left → n ≡ min left 4096 → left_after left n accepted < left
left_less left n accepted h e = go (eqb accepted n)
  where
    go : (t : Bool) → cond t (left - n) 0 < left
    go true = omega arith
    go false = h

pub piece_less : {calls : List ℕ} {b l : List ℕ} {q r : Progress} {b' l' : List ℕ} → Advances calls b l q r b' l' → 0 < q.left → r.left < q.left
piece_less {q = q} a h =
    let e = ap (λ (z : Progress). z.left) a.progress in
    rw e (left_less q.left (min q.left 4096) _ h refl)

-- a sweep with no steps left has no pieces left
pub ended : (n : ℕ) (calls : List ℕ) (s : Stage) → s.progress.left ≤ 0 → in_pieces n calls s ≡ s
unfolding in_pieces
ended zero calls s h = refl
ended (suc n) calls s h = cond_true (eqb s.progress.left 0) s _ (eq-eqb s.progress.left 0 (omega arith))

-- the pieces up to a stage s of a sweep that began as s₀: what is left of it takes n pieces at most
pub record PiecesTo (calls : List ℕ) (s₀ s : Stage) : Type 0 where
  pub n : ℕ
  pub rest : in_pieces s₀.progress.left calls s₀ ≡ in_pieces n calls s
  pub enough : s.progress.left ≤ n

pub pieces_none : (calls : List ℕ) (s : Stage) → PiecesTo calls s s
pieces_none calls s = record { n = s.progress.left; rest = refl; enough = omega arith }

module _ {calls : List ℕ} {s₀ : Stage} {b l : List ℕ} {q : Progress} (h : PiecesTo calls s₀ (stage b l q)) where
  pub pieces_on : {r : Progress} {b' l' : List ℕ} → 0 < q.left → Advances calls b l q r b' l' → PiecesTo calls s₀ (stage b' l' r)
  unfolding in_pieces
  pieces_on {r} {b'} {l'} some a =
      let progress = a.progress in
      let block = a.block in
      let loan = a.loan in
      let e : next_stage calls (stage b l q) ≡ stage b' l' r = sym (λ j. record { progress = progress j; block = block j; loan = loan j }) in
      go h.n h.rest h.enough e
    where
      go : (n : ℕ) → in_pieces s₀.progress.left calls s₀ ≡ in_pieces n calls (stage b l q) → q.left ≤ n → next_stage calls (stage b l q) ≡ stage b' l' r →
          PiecesTo calls s₀ (stage b' l' r)
      go zero g k e = absurd (omega arith)
      go (suc n) g k e =
          record {
            n = n;
            rest = g ∙ (cond_false (eqb q.left 0) _ _ (ne_eqb q.left 0 (λ z. omega arith)) ∙ ap (λ (z : Stage). in_pieces n calls z) e);
            enough = omega (arith, piece_less a some);
          }

  pub pieces_all : q.left ≤ 0 → Finishes calls s₀.block s₀.loan s₀.progress q b l
  pieces_all done = record { same = sym (h.rest ∙ ended h.n calls (stage b l q) done) }
