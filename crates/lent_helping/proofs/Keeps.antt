-- What an access of a helper keeps: of the block all that no access changes (`Kept` of lent_machine), of the loan every word outside the items of its process
use Prim.Native.Nat.{ℕ, ◌+◌, ◌*◌, ◌<◌, ◌≤◌}
use mathlib.Core.Path.{◌≡◌, refl, sym, ◌∙◌, subst}
use mathlib.Core.Logic.{◌⊎◌}
use mathlib.Core.Bool.{Bool, true, false, cond, ◌&&◌}
use mathlib.Core.List.{List}
use native.Mathlib.Omega.{arith}
use native.Mathlib.Nat.{mul_comm, mul-le-mul_left}
use lib.Dec.{leb, ltb}
use lib.ListN.{length}
use borrow.Author.Tests.{leb-true, le-leb}
use Rattle.construction.specs.Marks.{with_bit}
use Rattle.construction.specs.Machine.{outcome, go_to, helps, after_pause}
use Rattle.codes.specs.Types.{Item, P19, P21}
use Rattle.codes.specs.Parts.{word_at}
use Rattle.codes.specs.Codes.{byte}
use Rattle.block.specs.Layout.{is_room, number_at, process_count_in, room_in, noted_in, put_noted, mask_in, control_in, put_last, put_simulation, put_mask}
use Rattle.loan.specs.Loans.{has_items, is_inserted, insert_block, insert_loan}
use Rattle.loan.specs.Simulated.{begun_in, simulated_in}
use Rattle.loan.proofs.Kept.{Only, insert_only, simulated_only}
use Rattle.lent_machine.proofs.Keeping.{Kept, kept_self, kept_twice, kept_if, kept_room, record_kept, control_kept, last_kept, simulation_kept, noted_kept}
use Rattle.lent_machine.proofs.Keeping.{mask_kept}
use Rattle.lent_helping.specs.Helps.{number_in, helped_in, help_step, lacked_in, put_marked, gone_on, noted_block, noted_loan, lacked_item}
use Rattle.lent_helping.specs.Helps.{note_block, note_loan, writing_in, written_in, record_swapped, write_step}

kept_either : {b c d : List ℕ} (t : Bool) → Kept b c → Kept b d → Kept b (cond t c d)
kept_either true x y = x
kept_either false x y = y

-- the room of the dictionaries tells which words of the loan are whose
pub only_self : (b l : List ℕ) (i : ℕ) → Only b l l i
only_self b l i = record { long = refl; at = λ q h. refl }

only_twice : {b l m n : List ℕ} {i : ℕ} → Only b l m i → Only b m n i → Only b l n i
only_twice x y = record { long = y.long ∙ x.long; at = λ q h. y.at q h ∙ x.at q h }

only_room : {b c l m : List ℕ} {i : ℕ} → Kept b c → Only c l m i → Only b l m i
only_room {b} {c} {l} {m} {i} k x =
    let e = sym (kept_room k) in
    record { long = x.long; at = λ q h. x.at q (subst (λ (w : ℕ). (q < w * i * 3) ⊎ ((w * i + w) * 3 ≤ q)) e h) }

only_either : {b l m n : List ℕ} {i : ℕ} (t : Bool) → Only b l m i → Only b l n i → Only b l (cond t m n) i
only_either true x y = x
only_either false x y = y

-- a process of the card stands in a block that is long enough
pub below_long : (b : List ℕ) (i : ℕ) → i < process_count_in b → 1456 ≤ length b
unfolding number_at is_room
below_long b i = go (leb 1456 (length b)) refl
  where
    go : (t : Bool) → leb 1456 (length b) ≡ t → i < byte (cond (t && ltb 0 1) (word_at b 0) 0) → 1456 ≤ length b
    go true e p = leb-true 1456 (length b) e
    go false e p = absurd (omega arith)

-- a loan of p w items has those of every process
pub has_items_lem : (b l : List ℕ) (i : ℕ) → i < process_count_in b → 3 * process_count_in b * room_in b ≤ length l → has_items b l i ≡ true
unfolding has_items
has_items_lem b l i p h = le-leb ((room_in b * i + room_in b) * 3) (length l) (inside (room_in b) i (process_count_in b) (length l) p h)
  where
    inside : (w i p n : ℕ) → i < p → 3 * p * w ≤ n → (w * i + w) * 3 ≤ n
    inside w i p n below lent =
        let q : 3 * i + 3 ≤ 3 * p = omega arith in
        omega (arith, mul-le-mul_left w q, mul_comm (3 * p) w)

-- the items of a process stand in a block and a loan that were changed by one access
pub has_kept : (b c l m : List ℕ) (i : ℕ) → Kept b c → length m ≡ length l → has_items b l i ≡ true → has_items c m i ≡ true
unfolding has_items
has_kept b c l m i k e h = rw (kept_room k, e) h

-- P16 to P18
pub help_step_kept : (b : List ℕ) (i : ℕ) → Kept b (help_step b i)
unfolding help_step
help_step_kept b i =
    let number = number_in b i in
    let cell = helped_in b i in
    let x = begun_in b number cell in
    let c = put_simulation b i x.simulation in
    let d = put_noted c i 0 in
    let e = put_mask d i 0 in
    kept_either (helps cell number)
    (kept_twice (simulation_kept b i x.simulation) (kept_twice (noted_kept c i 0) (kept_twice (mask_kept d i 0)
    (kept_twice (last_kept e i cell) (control_kept (put_last e i cell) i (after_pause number x.dictionary x.pause))))))
    (kept_twice (last_kept b i cell) (control_kept (put_last b i cell) i (go_to (control_in b i) P21)))

-- one item more, and the simulation gone on
pub insert_kept : (b l : List ℕ) (i : ℕ) → Kept b (insert_block b l i)
unfolding insert_block
insert_kept b l i = kept_either (is_inserted b l i) (noted_kept b i (noted_in b i + 1)) (kept_self b)

pub marked_kept : (b : List ℕ) (i v : ℕ) → Kept b (put_marked b i v)
marked_kept b i v = mask_kept b i (with_bit (mask_in b i) v)

pub gone_on_kept : (b l : List ℕ) (i number : ℕ) → Kept b (gone_on b l i number)
gone_on_kept b l i number =
    let x = simulated_in b l i number in
    kept_twice (simulation_kept b i x.simulation) (control_kept (put_simulation b i x.simulation) i (after_pause number x.dictionary x.pause))

module _ (b l : List ℕ) (i number : ℕ) (e : Item) where
  inserted_kept : Kept b (insert_block (put_marked b i e.variable) l i)
  inserted_kept = kept_twice (marked_kept b i e.variable) (insert_kept (put_marked b i e.variable) l i)

  pub noted_block_kept : Kept b (noted_block b l i number e)
  noted_block_kept =
      let c = put_marked b i e.variable in
      kept_twice inserted_kept (gone_on_kept (insert_block c l i) (insert_loan c l i e) i number)

  pub noted_loan_only : Only b l (noted_loan b l i number e) i
  noted_loan_only =
      let c = put_marked b i e.variable in
      only_twice (only_room (marked_kept b i e.variable) (insert_only c l i e))
      (only_room inserted_kept (simulated_only (insert_block c l i) (insert_loan c l i e) i number))

-- H21
pub note_step_kept : (b l : List ℕ) (i : ℕ) → Kept b (note_block b l i)
unfolding note_block
note_step_kept b l i =
    kept_either (ltb (number_in b i) (lacked_in b i).seq) (control_kept b i (go_to (control_in b i) P19)) (noted_block_kept b l i (number_in b i) (lacked_item b i))

pub note_step_only : (b l : List ℕ) (i : ℕ) → Only b l (note_loan b l i) i
unfolding note_loan
note_step_only b l i =
    only_either (ltb (number_in b i) (lacked_in b i).seq) (only_self b l i) (noted_loan_only b l i (number_in b i) (lacked_item b i))

-- H36
pub write_step_kept : (b l : List ℕ) (i : ℕ) → Kept b (write_step b l i)
unfolding write_step
write_step_kept b l i =
    let v = (writing_in b l i).item.variable in
    let x = written_in b l i in
    kept_twice (kept_if (outcome x.won) (record_kept b v x.cell)) (control_kept (record_swapped b v x) i (writing_in b l i).control)
