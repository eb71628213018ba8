-- Writer and reader are inverse (specs/Inverse): the reader takes the dump of every history that fits and shows its values, and a text that it takes is
-- the dump of the history that it shows.
use Rattle.std.specs.Prelude.{Ok}
use mathlib.Core.Path.{◌≡◌, refl, sym, ◌∙◌, ap}
use mathlib.Core.Logic.{inr}
use mathlib.Core.List.{List, [], ◌∷◌, ◌++◌}
use Prim.Native.Nat.{ℕ, zero, suc, ◌+◌, ◌-◌, ◌<◌, ◌≤◌, min}
use lib.ListN.{get_or, length}
use native.Mathlib.Omega.{arith}
use native.Mathlib.Nat.{sub-zero}
use native.Mathlib.Decide.{dec_le}
use Rattle.dump.specs.declared.Readings.{Readings}
use Rattle.dump.specs.Binary.{over}
use Rattle.dump.specs.Dump.{Change, values_text, changes_from, lines_text, opening_text, dump}
use Rattle.dump.specs.Reading.{readings}
use Rattle.dump.specs.Inverse.{Fits, Shows, rows_read, OneSpelling}
use Rattle.dump.proofs.Trails.{Proper, shown_after}
use Rattle.dump.proofs.Starts.{start_row, start_there, start_past, start_length}
use Rattle.dump.proofs.Shapes.{Shape, shape_reads, shape_there}
use Rattle.dump.proofs.Rows.{shown_kept, shown_last, shown_all, proper_ordered, unique, Agree, rows_proper, rows_told, rows_shown}

-- ---- the reader takes the dump of a history
module _ {n : ℕ} {row : List ℕ} {rows : List (List ℕ)} (f : Fits n row rows) where
  agree : Agree n (start_row n row) row
  agree v l = start_there n v row f.few l

  proper : Proper n 0 n (start_row n row) (changes_from n 0 row rows)
  proper = rows_proper n 0 0 n row (start_row n row) rows (omega arith) (omega (arith, start_length n row, f.few)) agree f.later (omega (arith, f.bounded))

  shape : Shape n (length rows) row (changes_from n 0 row rows) (dump n row rows)
  unfolding dump
  shape =
      record {
        text = refl;
        few = f.few;
        small = f.first;
        proper = proper;
        rises = omega (arith, rows_told n 0 0 row rows (omega arith) f.later (omega (arith, f.bounded)));
        bounded = f.bounded;
        some = f.some;
      }

  pub dump_read : (step : ℕ) → Shows n row rows step (readings (dump n row rows) step)
  dump_read step =
      rw (shape_reads shape step)
      (record {
        verdict = refl;
        count = refl;
        last = refl;
        values = λ v l. rows_shown n step 0 row (start_row n row) rows (omega arith) (omega (arith, start_length n row, f.few)) agree f.later
            (omega (arith, f.bounded)) v l
            ∙ ap (λ (k : ℕ). get_or (get_or (row ∷ rows) (min k (length rows)) []) v 0) (sub-zero step);
        past = λ v l. shown_all (λ w x. n ≤ w → x ≡ 0) n step 0 n (start_row n row) (start_row n row) (changes_from n 0 row rows)
            (omega (arith, start_length n row, f.few))
            (λ c p q h. absurd (omega arith)) (λ w h. start_past n w row h) proper v l;
      })

-- ---- a text that is taken is the dump of what is shown of it
values_agree : (m v : ℕ) (a b : List ℕ) → ((w : ℕ) → v ≤ w → w < v + m → get_or a w 0 ≡ get_or b w 0) → values_text m v a ≡ values_text m v b
unfolding values_text
values_agree zero v a b h = refl
values_agree (suc m) v a b h = rw (h v (omega arith) (omega arith), values_agree m (suc v) a b (λ w p q. h w (omega arith) (omega arith)))

read_length : (t : List ℕ) (m k : ℕ) → length (rows_read t m k) ≡ m
unfolding rows_read
read_length t zero k = refl
read_length t (suc m) k = ap suc (read_length t m (suc k))

read_at : (t : List ℕ) (m k j : ℕ) → j ≤ m → get_or ((readings t k).values ∷ rows_read t m k) j [] ≡ (readings t (k + j)).values
unfolding rows_read
read_at t m k zero h = let z : k ≡ k + 0 = omega arith in ap (λ (y : ℕ). (readings t y).values) z
read_at t zero k (suc j) h = absurd (omega arith)
read_at t (suc m) k (suc j) h =
    let z : suc k + j ≡ k + suc j = omega arith in
    read_at t m (suc k) j (omega arith) ∙ ap (λ (y : ℕ). (readings t y).values) z

module _ {n last : ℕ} {row : List ℕ} {cs : List Change} {t : List ℕ} (h : Shape n last row cs t) where
  abbrev base : List ℕ
  base = start_row n row

  abbrev first : List ℕ
  first = (readings t 0).values

  abbrev later : List (List ℕ)
  later = rows_read t last 0

  base_size : n ≤ length base
  base_size = omega (arith, start_length n row, h.few)

  shown_is : (step : ℕ) → (readings t step).values ≡ shown_after step base cs
  shown_is step = ap (λ (r : Readings). r.values) (shape_reads h step)

  -- at time 0 no change is shown yet
  first_base : (v : ℕ) → v < n → get_or first v 0 ≡ get_or base v 0
  first_base v l =
      ap (λ (x : List ℕ). get_or x v 0) (shown_is 0) ∙ shown_kept 0 0 v n base cs (inr (refl, l)) (proper_ordered n 0 n base cs h.proper)

  first_row_lem : (v : ℕ) → v < n → get_or first v 0 ≡ get_or row v 0
  first_row_lem v l = first_base v l ∙ start_there n v row h.few l

  -- every value shown has 32 bits
  small : (step v : ℕ) → v < n → get_or (readings t step).values v 0 < over
  small step v l =
      rw (shown_is step)
      (shown_all (λ w x. w < n → x < over) n step 0 n base base cs base_size (λ c p q _. q) (λ w p. rw (start_there n w row h.few p) (h.small w p))
      h.proper v l)

  -- the history that is shown
  history_fits : Fits n first later
  history_fits =
      record {
        few = h.few;
        first = small 0;
        later = λ k v l q. rw (let m = read_length t last 0 in read_at t last 0 (suc k) (omega arith)) (small (0 + suc k) v q);
        bounded = omega (arith, read_length t last 0, h.bounded);
        some = λ e. read_length t last 0 ∙ h.some e;
      }

  -- its changes are those of the text
  same_shown :
      (step v : ℕ) → 0 ≤ step → v < n → get_or (shown_after step base cs) v 0 ≡ get_or (shown_after step base (changes_from n 0 first later)) v 0
  same_shown step v _ l =
      sym
      (rows_shown n step 0 first base later (omega arith) base_size (λ w q. sym (first_base w q)) history_fits.later (omega (arith, history_fits.bounded))
      v l
      ∙ ap (λ (k : ℕ). get_or (get_or (first ∷ later) k []) v 0) index
      ∙ ap (λ (x : List ℕ). get_or x v 0) (read_at t last 0 (min step last) (omega arith))
      ∙ ap (λ (k : ℕ). get_or (readings t k).values v 0) (let z : 0 + min step last ≡ min step last = omega arith in z)
      ∙ ap (λ (x : List ℕ). get_or x v 0) (shown_is (min step last))
      ∙ ap (λ (x : List ℕ). get_or x v 0) (at_last (dec_le step last)))
    where
      index : min (step - 0) (length later) ≡ min step last
      index = let m = read_length t last 0 in let s = sub-zero step in omega arith

      at_last : Dec (step ≤ last) → shown_after (min step last) base cs ≡ shown_after step base cs
      at_last (yes q) = let e : min step last ≡ step = omega arith in rw e
      at_last (no q) =
          let e : min step last ≡ last = omega arith in
          rw e (sym (shown_last step last 0 n base cs h.rises (omega arith) (proper_ordered n 0 n base cs h.proper)))

  changes_same : cs ≡ changes_from n 0 first later
  changes_same =
      unique n cs (changes_from n 0 first later) 0 n base base_size h.proper
      (rows_proper n 0 0 n first base later (omega arith) base_size (λ w q. sym (first_base w q)) history_fits.later (omega (arith, history_fits.bounded)))
      same_shown

  one_dump : t ≡ dump n first later
  unfolding dump opening_text
  one_dump =
      h.text
      ∙ rw (values_agree n 0 row first (λ w p q. sym (first_row_lem w (omega arith))))
      (rw (read_length t last 0) (ap (λ (x : List Change). opening_text n first ++ lines_text 0 last x) changes_same))

pub one_spelling : (t : List ℕ) (step : ℕ) → (readings t step).verdict ≡ Ok tt → OneSpelling t (readings t step)
one_spelling t step a =
    let s = shape_there t step a in
    record { text = one_dump s.shape; fits = history_fits s.shape }
