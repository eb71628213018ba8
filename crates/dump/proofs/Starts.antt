-- The values at time 0: what is written reads back, and values that were taken stand there as they are written.
use Rattle.std.specs.Prelude.{Ok}
use mathlib.Core.Bool.{Bool, true, false}
use mathlib.Core.Path.{◌≡◌, refl, sym, ◌∙◌, ap}
use mathlib.Core.List.{List, ◌++◌, append_assoc}
use Prim.Native.Nat.{ℕ, zero, suc, ◌+◌, ◌<◌, ◌≤◌}
use lib.Dec.{eqb}
use lib.ListN.{get_or, set, drop, length, length-append, length-set}
use lib.Seq.{get_or-set_same, get_or-set_other}
use native.Mathlib.Omega.{arith}
use native.Mathlib.Nat.{add-zero}
use borrow.Author.Tests.{le-leb, eq-eqb, eqb-true}
use Rattle.grammar.proofs.Cases.{on_test, clash}
use Rattle.grammar.proofs.Bytes.{drop_past}
use Rattle.construction.proofs.Basics.{get_or_replicate_same}
use Rattle.dump.specs.declared.{DumpLine.DumpLine, Progress.Progress}
use Rattle.dump.specs.Binary.{over}
use Rattle.dump.specs.Dump.{value_text, values_text}
use Rattle.dump.specs.Reading.{line_at, no_values, with_value, next_start, starts_from}
use Rattle.dump.proofs.DumpLines.{value_reads, value_there}
use Rattle.dump.proofs.Trails.{print_loop}

-- m values of a row, from variable v on, put into other values
abbrev pub row_into : ℕ → ℕ → List ℕ → List ℕ → List ℕ
row_into zero v row values = values
row_into (suc m) v row values = row_into m (suc v) row (set values v (get_or row v 0))

-- the values that a reader has after time 0
abbrev pub start_row : ℕ → List ℕ → List ℕ
start_row n row = row_into n 0 row no_values

pub into_length : (m v : ℕ) (row values : List ℕ) → length (row_into m v row values) ≡ length values
into_length zero v row values = refl
into_length (suc m) v row values = into_length m (suc v) row (set values v (get_or row v 0)) ∙ length-set values v (get_or row v 0)

-- below v and past the last the values stay
pub into_below : (m v w : ℕ) (row values : List ℕ) → w < v → get_or (row_into m v row values) w 0 ≡ get_or values w 0
into_below zero v w row values h = refl
into_below (suc m) v w row values h =
    into_below m (suc v) w row (set values v (get_or row v 0)) (omega arith)
    ∙ get_or-set_other values v w (get_or row v 0) 0 (λ (e : w ≡ v). omega arith)

pub into_past : (m v w : ℕ) (row values : List ℕ) → v + m ≤ w → get_or (row_into m v row values) w 0 ≡ get_or values w 0
into_past zero v w row values h = refl
into_past (suc m) v w row values h =
    into_past m (suc v) w row (set values v (get_or row v 0)) (omega arith)
    ∙ get_or-set_other values v w (get_or row v 0) 0 (λ (e : w ≡ v). omega arith)

pub into_there : (m v w : ℕ) (row values : List ℕ) → v ≤ w → w < v + m → v + m ≤ length values → get_or (row_into m v row values) w 0 ≡ get_or row w 0
into_there zero v w row values p q l = absurd (omega arith)
into_there (suc m) v w row values p q l = go (eqb w v) refl
    (λ h. into_there m (suc v) w row (set values v (get_or row v 0)) h (omega arith) (omega (arith, length-set values v (get_or row v 0))))
  where
    go :
        (b : Bool) → eqb w v ≡ b → (suc v ≤ w → get_or (row_into m (suc v) row (set values v (get_or row v 0))) w 0 ≡ get_or row w 0) →
        get_or (row_into m (suc v) row (set values v (get_or row v 0))) w 0 ≡ get_or row w 0
    go true e more =
        let f : w ≡ v = eqb-true w v e in
        rw f (into_below m (suc v) v row (set values v (get_or row v 0)) (omega arith) ∙ get_or-set_same values v (get_or row v 0) 0 (omega arith))
    go false e more = more (above (λ (f : w ≡ v). clash (let z : true ≡ false = sym (eq-eqb w v f) ∙ e in cc)))
      where
        above : (w ≡ v → ⊥) → suc v ≤ w
        above f = omega arith

-- the row that a reader has after time 0
pub start_there : (n v : ℕ) (row : List ℕ) → n ≤ 64 → v < n → get_or (start_row n row) v 0 ≡ get_or row v 0
start_there n v row h l = into_there n 0 v row no_values (omega arith) (omega arith) (omega arith)

pub start_past : (n v : ℕ) (row : List ℕ) → n ≤ v → get_or (start_row n row) v 0 ≡ 0
start_past n v row h = into_past n 0 v row no_values (omega arith) ∙ get_or_replicate_same 64 v 0

pub start_length : (n : ℕ) (row : List ℕ) → length (start_row n row) ≡ 64
start_length n row = into_length n 0 row no_values

module _ (step : ℕ) (t : List ℕ) where
  -- ---- what is written reads back
  pub starts_read :
      (m v at line : ℕ) (row values r : List ℕ) → ((w : ℕ) → v ≤ w → w < v + m → get_or row w 0 < over) → drop at t ≡ values_text m v row ++ r →
      starts_from step t m (print_loop at line 0 v values values)
      ≡ print_loop (at + length (values_text m v row)) (line + m) 0 (v + m) (row_into m v row values) (row_into m v row values)
  unfolding starts_from values_text
  starts_read zero v at line row values r small e = rw (add-zero at, add-zero line, add-zero v)
  starts_read (suc m) v at line row values r small e =
      let x : ℕ = get_or row v 0 in
      let f : drop at t ≡ value_text v x ++ (values_text m (suc v) row ++ r) = e ∙ append_assoc (value_text v x) (values_text m (suc v) row) r in
      let g = drop_past t at (value_text v x) _ f in
      let a : v + 1 ≡ suc v = omega arith in
      let k₁ : suc v + m ≡ v + suc m = omega arith in
      let k₂ : at + length (value_text v x) + length (values_text m (suc v) row) ≡ at + length (value_text v x ++ values_text m (suc v) row) =
      omega (arith, length-append (value_text v x) (values_text m (suc v) row)) in
      let k₃ : line + 1 + m ≡ line + suc m = omega arith in
      rw (value_reads t at v x _ (small v (omega arith) (omega arith)) f, eq-eqb v v refl, le-leb 0 step (omega arith), a)
      (starts_read m (suc v) (at + length (value_text v x)) (line + 1) row (set values v x) r (λ w p q. small w (omega arith) (omega arith)) g ∙ rw (k₁, k₂, k₃))

  -- ---- values that were taken stand there
  pub record StartsThere (m v at line : ℕ) (values : List ℕ) (s : Progress) : Type 0 where
    pub row : List ℕ
    pub text : drop at t ≡ values_text m v row ++ drop s.at t
    pub small : (w : ℕ) → v ≤ w → w < v + m → get_or row w 0 < over
    pub below : (w : ℕ) → w < v → get_or row w 0 ≡ get_or values w 0
    pub past : (w : ℕ) → v + m ≤ w → get_or row w 0 ≡ get_or values w 0
    pub is : s ≡ print_loop s.at (line + m) 0 (v + m) row row
    pub size : length row ≡ length values

  abbrev Accepts : ℕ → ℕ → ℕ → ℕ → List ℕ → Progress → Type 0
  Accepts m v at line values s = s.verdict ≡ Ok tt → StartsThere m v at line values s

  pub starts_there :
      (m v at line : ℕ) (values : List ℕ) → v + m ≤ length values → (starts_from step t m (print_loop at line 0 v values values)).verdict ≡ Ok tt →
      StartsThere m v at line values (starts_from step t m (print_loop at line 0 v values values))
  unfolding starts_from values_text
  starts_there zero v at line values fits = λ a.
      record {
        row = values;
        text = refl;
        small = λ w p q. absurd (omega arith);
        below = λ w h. refl;
        past = λ w h. refl;
        is = rw (add-zero line, add-zero v);
        size = refl;
      }
  starts_there (suc m) v at line values fits = by (line_at t at) refl (λ x i. starts_there m (v + 1) i (line + 1) (set values v x))
    where
      one :
          (x i : ℕ) → line_at t at ≡ DumpLine.Value v x i → {s : Progress} → StartsThere m (v + 1) i (line + 1) (set values v x) s →
          StartsThere (suc m) v at line values s
      one x i e {s} h =
          let there = value_there t at v x i e in
          let z = h.size in
          let l = length-set values v x in
          let y : get_or h.row v 0 ≡ x = h.below v (omega arith) ∙ get_or-set_same values v x 0 (omega arith) in
          let k₁ : v + 1 + m ≡ v + suc m = omega arith in
          let k₂ : line + 1 + m ≡ line + suc m = omega arith in
          let a : v + 1 ≡ suc v = omega arith in
          record {
            row = h.row;
            text =
                there.text
                ∙ ap (λ (q : ℕ). value_text v q ++ drop i t) (sym y)
                ∙ ap (λ (q : List ℕ). value_text v (get_or h.row v 0) ++ q) (h.text ∙ ap (λ (q : ℕ). values_text m q h.row ++ drop s.at t) a)
                ∙ sym (append_assoc (value_text v (get_or h.row v 0)) (values_text m (suc v) h.row) (drop s.at t));
            small = λ w p q. choose h.row w p q (eqb w v) refl y there.small h.small;
            below = λ w q. h.below w (omega arith) ∙ get_or-set_other values v w x 0 (λ (f : w ≡ v). omega arith);
            past = λ w q. h.past w (omega arith) ∙ get_or-set_other values v w x 0 (λ (f : w ≡ v). omega arith);
            is = h.is ∙ rw (k₁, k₂);
            size = omega arith;
          }
        where
          choose :
              (row : List ℕ) (w : ℕ) → v ≤ w → w < v + suc m → (b : Bool) → eqb w v ≡ b → get_or row v 0 ≡ x → x < over →
              ((u : ℕ) → v + 1 ≤ u → u < v + 1 + m → get_or row u 0 < over) → get_or row w 0 < over
          choose row w p q true e y small more = let f : w ≡ v = eqb-true w v e in rw (f, y) small
          choose row w p q false e y small more =
              more w (above (λ (f : w ≡ v). clash (let z : true ≡ false = sym (eq-eqb w v f) ∙ e in cc))) (omega arith)
            where
              above : (w ≡ v → ⊥) → v + 1 ≤ w
              above f = omega arith

      by :
          (z : DumpLine) → line_at t at ≡ z →
          ((x i : ℕ) → v + 1 + m ≤ length (set values v x) → (starts_from step t m (print_loop i (line + 1) 0 (v + 1) (set values v x) (set values v x))).verdict ≡
          (Ok tt) →
          StartsThere m (v + 1) i (line + 1) (set values v x) (starts_from step t m (print_loop i (line + 1) 0 (v + 1) (set values v x) (set values v x)))) →
          Accepts (suc m) v at line values (next_start step (print_loop at line 0 v values values) z (λ r. starts_from step t m r))
      by (DumpLine.Value u x i) e more =
          on_test (Accepts (suc m) v at line values) (eqb u v)
          (λ q. taken u x i e (eqb-true u v q) more)
          (λ q a. clash (cc))
        where
          taken :
              (u x i : ℕ) → line_at t at ≡ DumpLine.Value u x i → u ≡ v →
              ((x i : ℕ) → v + 1 + m ≤ length (set values v x) → (starts_from step t m (print_loop i (line + 1) 0 (v + 1) (set values v x) (set values v x))).verdict
              ≡ Ok tt →
              StartsThere m (v + 1) i (line + 1) (set values v x) (starts_from step t m (print_loop i (line + 1) 0 (v + 1) (set values v x) (set values v x)))) →
              Accepts (suc m) v at line values (starts_from step t m (with_value step (print_loop at line 0 v values values) u x i))
          taken u x i e q more =
              rw (q, le-leb 0 step (omega arith))
              (λ a. one x i (e ∙ rw q) (more x i (omega (arith, length-set values v x)) a))
      by (DumpLine.Time k i) e more = λ a. clash (cc)
      by DumpLine.Malformed e more = λ a. clash (cc)
