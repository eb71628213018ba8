-- What the definitions of the row swap mean, and what the code's two ways come to in them
use mathlib.Core.Bool.{Bool, true, false, cond}
use mathlib.Core.Path.{◌≡◌, refl, ◌∙◌, ap}
use mathlib.Core.List.{List, []}
use mathlib.Core.Logic.{◌≢◌}
use Prim.Native.Nat.{ℕ, ◌≤◌, ◌<◌}
use lib.Dec.{leb}
use lib.ListN.{length, get_or, set, length-set}
use lib.Seq.{get_or-set_same, get_or-set_other, set-get_or}
use borrow.Author.Tests.{le-leb, lt-leb, leb-false}
use Rattle.construction.specs.declared.{cells.Record.Record, cells.SwappedCell.SwappedCell}
use Rattle.std.specs.Prelude.{Ok, Err}
use Rattle.construction.specs.declared.answers.Refusal.TheVariants.{NoPlace}
use Rattle.construction.specs.Cells.{open_record, same_record, swap_record}
use Rattle.construction.specs.Answers.{fields, row_fields}
use Rattle.construction.specs.Types.{RowSwap}
use Rattle.lent.specs.Row.{tells, swap_at, row_answer, row_after, swap_fields}

module _ (row : List Record) (place : ℕ) (expected new : Record) where
  abbrev past : Bool
  past = leb (length row) place

  abbrev same : Bool
  same = same_record (get_or row place (open_record 0)) expected

  -- the row after a swap, by the two tests that decide it
  abbrev after : Bool → Bool → List Record
  after t s = cond t row (set row place (cond s new (get_or row place (open_record 0))))

  abbrev answer : Bool → Bool → RowSwap
  answer t s = cond t (Err NoPlace) (tells s)

  -- every other record is kept
  others_at : (j : ℕ) (d : Record) → j ≢ place → (t s : Bool) → get_or (after t s) j d ≡ get_or row j d
  others_at j d f true s = refl
  others_at j d f false s = get_or-set_other row place j _ d f

  pub others_kept : (j : ℕ) (d : Record) → j ≢ place → get_or (row_after row place expected new) j d ≡ get_or row j d
  unfolding row_after swap_record
  others_kept j d f = others_at j d f past same

  -- the row keeps its length
  length_at : (t s : Bool) → length (after t s) ≡ length row
  length_at true s = refl
  length_at false s = length-set row place _

  pub length_kept : length (row_after row place expected new) ≡ length row
  unfolding row_after swap_record
  length_kept = length_at past same

  -- a lost or refused swap keeps all
  kept_at : (t s : Bool) → answer t s ≢ Ok true → after t s ≡ row
  kept_at true s f = refl
  kept_at false true f = absurd (f refl)
  kept_at false false f = set-get_or row place (open_record 0)

  pub all_kept : row_answer row place expected new ≢ Ok true → row_after row place expected new ≡ row
  unfolding row_answer row_after swap_record
  all_kept = kept_at past same

  -- a won swap puts the new record there
  new_at : (d : Record) (t s : Bool) → past ≡ t → answer t s ≡ Ok true → get_or (after t s) place d ≡ new
  new_at d true s p q = cc
  new_at d false false p q = cc
  new_at d false true p q = get_or-set_same row place new d (leb-false _ _ p)

  pub new_there : (d : Record) → row_answer row place expected new ≡ Ok true → get_or (row_after row place expected new) place d ≡ new
  unfolding row_answer row_after swap_record
  new_there d = new_at d past same refl

  -- what the contract says of an answer and a row at exit
  abbrev pub Said : RowSwap → List Record → Type 0
  Said r exit = (r ≡ row_answer row place expected new) × (exit ≡ row_after row place expected new) × (row_fields r ≡ swap_fields row place expected new)

  -- the guard's arm: no such place
  pub refused : length row ≤ place → Said (Err NoPlace) row
  unfolding row_answer row_after row_fields swap_fields
  refused h = (rw (le-leb _ _ h), rw (le-leb _ _ h), rw (le-leb _ _ h))

  which : (t : Bool) → row_fields (tells t) ≡ cond t (fields "won" []) (fields "lost" [])
  unfolding row_fields
  which true = refl
  which false = refl

  -- the code after it: the record at the place was swapped by value, and its outcome told
  pub swapped : (s : SwappedCell Record) → place < length row → s ≡ swap_at row place expected new → Said (Ok s.won) (set row place s.cell)
  unfolding row_answer row_after swap_fields
  swapped s h p = (
    rw (lt-leb _ _ h) (ap (λ (x : SwappedCell Record). tells x.won) p),
    rw (lt-leb _ _ h) (ap (λ (x : SwappedCell Record). set row place x.cell) p),
    rw (lt-leb _ _ h) (which s.won ∙ ap (λ (x : SwappedCell Record). cond x.won (fields "won" []) (fields "lost" [])) p),
  )
