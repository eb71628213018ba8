-- What the table says, by the numbers of its answers; and that it has the longest wait of every card that opens.
use Prim.Native.Nat.{ℕ, suc, ◌≤◌, ◌<◌}
use mathlib.Core.Path.{◌≡◌, refl, sym, ap}
use mathlib.Core.Logic.{◌⊎◌, inl, inr}
use mathlib.Core.List.{List, [], ◌∷◌}
use native.Mathlib.Omega.{arith}
use native.Mathlib.Decide.{dec_lt}
use native.Mathlib.Nat.{max-le}
use lib.ListN.{length, get_or}
use Rattle.std.specs.Prelude.{Option, Some, None}
use Rattle.construction.specs.declared.programs.Program.{Program}
use Rattle.construction.specs.Answers.{Fields, fields}
use Rattle.construction.specs.Parts.{contents_of}
use Rattle.construction.specs.Opening.{fresh, read_card, opened}
use Rattle.construction.specs.Instructions.{no_program}
use Rattle.construction.specs.Weight.{weight, heaviest, card_weight}
use Rattle.construction.specs.Waits.{longest_wait, wait_of}
use Rattle.construction.proofs.Text.Bounds.{opened_bounded}
use Rattle.wait_table.specs.Table.{wait_for, wait_fields}
use Rattle.wait_table.proofs.Texts.{no_process, many_processes, too_heavy_lem, there}

-- '24 comes first, 670 last'
pub first_number_lem : longest_wait 1 0 ≡ 24
first_number_lem = refl

pub last_number_lem : longest_wait 8 32 ≡ 670
last_number_lem = refl

-- 'for p from 1 to 8 and w from 0 to 32'
pub wait_there : (p w : ℕ) → 0 < p → p ≤ 8 → w ≤ 32 → wait_for p w ≡ Some (longest_wait p w)
wait_there p w some few light = sym (there p w some few light)

pub wait_fields_lem : (p w : ℕ) → 0 < p → p ≤ 8 → w ≤ 32 → wait_fields (wait_for p w) ≡ fields "" (longest_wait p w ∷ [])
unfolding wait_fields
wait_fields_lem p w some few light = ap wait_fields (wait_there p w some few light)

outside : (p w : ℕ) → (p ≡ 0) ⊎ (8 < p) ⊎ (32 < w) → wait_for p w ≡ None
outside p w h = go (dec_lt 0 p) (dec_lt 8 p) h
  where
    go : Dec (0 < p) → Dec (8 < p) → (p ≡ 0) ⊎ (8 < p) ⊎ (32 < w) → wait_for p w ≡ None
    go (no n) q h = sym (no_process p w (omega arith))
    go (yes some) (yes many) h = sym (many_processes p w some many)
    go (yes some) (no n) (inl e) = absurd (omega arith)
    go (yes some) (no n) (inr (inl e)) = absurd (n e)
    go (yes some) (no n) (inr (inr heavy)) = sym (too_heavy_lem p w some (omega arith) heavy)

pub outside_fields : (p w : ℕ) → (p ≡ 0) ⊎ (8 < p) ⊎ (32 < w) → wait_fields (wait_for p w) ≡ fields "" []
unfolding wait_fields
outside_fields p w h = ap wait_fields (outside p w h)

-- an answer is known by its fields
pub wait_known : (a b : Option ℕ) → wait_fields a ≡ wait_fields b → a ≡ b
unfolding wait_fields
wait_known (Some m) (Some n) e = ap (λ (f : Fields). Some (get_or f.numbers 0 0)) e
wait_known (Some m) None e = absurd (omega (arith, ap (λ (f : Fields). length f.numbers) e))
wait_known None (Some n) e = absurd (omega (arith, ap (λ (f : Fields). length f.numbers) e))
wait_known None None e = refl

-- where no program weighs more than 32 (document 02, order 9: refusal 14), no card does
heaviest_most : (l : List Program) → ((k : ℕ) → weight (get_or l k no_program) ≤ 32) → heaviest l ≤ 32
unfolding heaviest
heaviest_most [] h = omega arith
heaviest_most (x ∷ l) h = max-le (h 0) (heaviest_most l (λ k. h (suc k)))

-- every card that opens has its longest wait in the table
pub wait_of_opened :
    (t : List ℕ) → 0 < (opened t).card.process_count →
    wait_for (opened t).card.process_count (card_weight (contents_of (opened t).card)) ≡ Some (wait_of (contents_of (opened t).card))
unfolding opened fresh
wait_of_opened t some =
    wait_there (read_card t).contents.process_count (card_weight (read_card t).contents) some (opened_bounded t).process_count
    (heaviest_most (read_card t).contents.programs (opened_bounded t).weights)
