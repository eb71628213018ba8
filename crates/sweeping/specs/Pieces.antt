-- A sweep in pieces (document 02, order 12): the processes of the steps are drawn by xorshift, 4,096 at most at a time and no more than are left, 'process x mod p
-- steps; one that returns is called again at once'. A piece in which a step is refused is the last one, as the card's limit is reached then.
use Rattle.std.specs.Prelude.{ℕ, zero, suc, ◌-◌, min, max, ◌≡◌, cond, List, eqb}
use Rattle.grammar.specs.Writing.{place_after}
use Rattle.block.specs.Layout.{process_count_in}
use Rattle.xorshift.specs.Xorshift.{after, drawn}
use Rattle.lent_sweep.specs.declared.Counts.{Counts}
use Rattle.lent_sweep.specs.Sweeps.{none, Sweep, start, swept}
use Rattle.sweeping.specs.declared.{Progress.Progress, pieces.Piece.Piece}

abbrev pub begun : ℕ → ℕ → Progress
begun steps seed = record { x = seed; left = steps; counts = none }

-- what two runs come to; a count stops at the largest number of 64 bits
abbrev pub added : Counts → Counts → Counts
added c d =
    record {
      accepted = place_after c.accepted d.accepted;
      done = place_after c.done d.done;
      faulted = place_after c.faulted d.faulted;
      exited = place_after c.exited d.exited;
      longest = max c.longest d.longest;
    }

-- the steps that are left after a piece of n steps
abbrev pub left_after : ℕ → ℕ → ℕ → ℕ
left_after left n accepted = cond (eqb accepted n) (left - n) 0

-- n steps drawn after x, and their run: the number drawn last, what is counted, block, loan and the buffer of the schedule
unfoldable pub run_drawn : List ℕ → List ℕ → List ℕ → ℕ → ℕ → Sweep
run_drawn calls b l n x = swept calls (start b l) (drawn n x (process_count_in b))

pub record Runs (calls b l : List ℕ) (n x : ℕ) (r : Piece) (b' l' z : List ℕ) : Type 0 where
  pub number : r.x ≡ after n x
  pub counts : r.counts ≡ (run_drawn calls b l n x).counts
  pub block : b' ≡ (run_drawn calls b l n x).block
  pub loan : l' ≡ (run_drawn calls b l n x).loan
  pub schedule : z ≡ drawn n x (process_count_in b)

-- the next piece: how many steps, their run, and how far the sweep is then
abbrev pub piece_size : Progress → ℕ
piece_size q = min q.left 4096

abbrev pub piece : List ℕ → List ℕ → List ℕ → Progress → Sweep
piece calls b l q = run_drawn calls b l (piece_size q) q.x

abbrev pub progress_after : List ℕ → List ℕ → List ℕ → Progress → Progress
progress_after calls b l q =
    let c = (piece calls b l q).counts in
    record { x = after (piece_size q) q.x; left = left_after q.left (piece_size q) c.accepted; counts = added q.counts c }

pub record Advances (calls b l : List ℕ) (q r : Progress) (b' l' : List ℕ) : Type 0 where
  pub progress : r ≡ progress_after calls b l q
  pub block : b' ≡ (piece calls b l q).block
  pub loan : l' ≡ (piece calls b l q).loan

-- a sweep on its way, with block and loan
pub record Stage : Type 0 where
  pub progress : Progress
  pub block : List ℕ
  pub loan : List ℕ

abbrev pub stage : List ℕ → List ℕ → Progress → Stage
stage b l q = record { progress = q; block = b; loan = l }

abbrev pub next_stage : List ℕ → Stage → Stage
next_stage calls s =
    let r = piece calls s.block s.loan s.progress in
    record { progress = progress_after calls s.block s.loan s.progress; block = r.block; loan = r.loan }

-- its pieces up to the end, n at most
unfoldable pub in_pieces : ℕ → List ℕ → Stage → Stage
in_pieces zero calls s = s
in_pieces (suc n) calls s = cond (eqb s.progress.left 0) s (in_pieces n calls (next_stage calls s))

-- all of them: each has a step at least
pub record Finishes (calls b l : List ℕ) (q r : Progress) (b' l' : List ℕ) : Type 0 where
  pub same : stage b' l' r ≡ in_pieces q.left calls (stage b l q)
