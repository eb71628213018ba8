-- A whole dump: the reader takes every dump of a proper trail and shows its values, and a text that it takes is the dump of one.
use Rattle.construction.specs.Types.{Verdict}
use Rattle.std.specs.Prelude.{Ok, Err}
use mathlib.Core.Path.{◌≡◌, refl, sym, ◌∙◌, ap, subst}
use mathlib.Core.Logic.{◌⊎◌, inl, inr}
use mathlib.Core.List.{List, [], ◌∷◌, ◌++◌, append_assoc}
use Prim.Native.Nat.{ℕ, ◌+◌, ◌<◌, ◌≤◌}
use lib.ListN.{get_or, drop, length}
use lib.Seq.{drop-append_seam, ext_get_or}
use native.Mathlib.Omega.{arith}
use native.Mathlib.Decide.{ℕ_discrete, dec_lt}
use Rattle.grammar.proofs.Cases.{clash}
use Rattle.grammar.proofs.Bytes.{drop_past}
use Rattle.construction.proofs.Basics.{get_or_replicate_same}
use Rattle.dump.specs.declared.{Header.Header, Progress.Progress, Readings.Readings}
use Rattle.dump.specs.Binary.{over}
use Rattle.dump.specs.Dump.{time_text, header_text, values_text, Change, told_after, lines_text, opening_text}
use Rattle.dump.specs.Reading.{read_header, no_values, begun, starts_from, lines_from, on_progress, then_starts, progress, readings_of, readings}
use Rattle.dump.proofs.Headers.{header_at, header_reads, header_there}
use Rattle.dump.proofs.Trails.{Proper, Headed, shown_after, print_loop, TrailRead, trail_read, Trail, trail_there}
use Rattle.dump.proofs.Starts.{start_row, starts_read, StartsThere, starts_there, start_there, start_past, start_length}

-- the dump of n variables with a row of values at time 0, a trail of changes and a last time
pub record Shape (n last : ℕ) (row : List ℕ) (cs : List Change) (t : List ℕ) : Type 0 where
  pub text : t ≡ opening_text n row ++ lines_text 0 last cs
  pub few : n ≤ 64
  pub small : (v : ℕ) → v < n → get_or row v 0 < over
  pub proper : Proper n 0 n (start_row n row) cs
  pub rises : told_after 0 cs ≤ last
  pub bounded : last ≤ 1000000000000000000
  -- without variables no time follows `#0`
  pub some : n ≡ 0 → last ≡ 0

abbrev pub shown_readings : ℕ → ℕ → List ℕ → Readings
shown_readings n last values = record { verdict = Ok tt; count = n; last = last; values = values }

-- what was read is given
given : (n last : ℕ) (values : List ℕ) (s : Progress) → s.verdict ≡ Ok tt → s.time ≡ last → s.shown ≡ values →
    readings_of s.verdict n s ≡ shown_readings n last values
given n last values s a b c = rw (a, b, c)

pub shape_reads :
    {n last : ℕ} {row : List ℕ} {cs : List Change} {t : List ℕ} → Shape n last row cs t → (step : ℕ) →
    readings t step ≡ shown_readings n last (shown_after step (start_row n row) cs)
unfolding readings progress opening_text
shape_reads {n} {last} {row} {cs} {t} h step =
    let rest : List ℕ = lines_text 0 last cs in
    let front : List ℕ = header_text n ++ time_text 0 in
    let e₀ : t ≡ header_text n ++ (time_text 0 ++ (values_text n 0 row ++ rest)) =
    h.text ∙ append_assoc (header_text n) (time_text 0 ++ values_text n 0 row) rest ∙ ap (λ (x : List ℕ). header_text n ++ x)
    (append_assoc (time_text 0) (values_text n 0 row) rest) in
    let e₁ : t ≡ front ++ (values_text n 0 row ++ rest) = e₀ ∙ sym (append_assoc (header_text n) (time_text 0) (values_text n 0 row ++ rest)) in
    let d₁ : drop (length front) t ≡ values_text n 0 row ++ rest =
    ap (λ (x : List ℕ). drop (length front) x) e₁ ∙ drop-append_seam front (values_text n 0 row ++ rest) in
    let hd : read_header t ≡ header_at n (length front) (n + 6) = header_reads t n _ h.few e₀ in
    let st = starts_read step t n 0 (length front) (n + 6) row no_values rest (λ w p q. h.small w (omega arith)) d₁ in
    let at₂ : ℕ = length front + length (values_text n 0 row) in
    let d₂ : drop at₂ t ≡ rest = drop_past t (length front) (values_text n 0 row) rest d₁ in
    let z : 0 + n ≡ n = omega arith in
    let tr : TrailRead step t n last (shown_after step (start_row n row) cs)
    (lines_from step t n (length t) (print_loop at₂ (n + 6 + n) 0 (0 + n) (start_row n row) (start_row n row))) =
    trail_read step t n cs (length t) last at₂ (n + 6 + n) 0 (0 + n) (start_row n row) (start_row n row) (omega arith) d₂ (rw z h.proper) h.rises
    h.bounded (opens (ℕ_discrete n 0)) in
    rw (hd, st)
    (given n last (shown_after step (start_row n row) cs)
    (lines_from step t n (length t) (print_loop at₂ (n + 6 + n) 0 (0 + n) (start_row n row) (start_row n row))) tr.verdict tr.time tr.shows)
  where
    opens : Dec (n ≡ 0) → (0 < 0 + n) ⊎ (last ≤ 0)
    opens (yes e) = inr (omega (arith, h.some e))
    opens (no e) = inl (omega arith)

-- ---- a text that is taken
record Both (s next : Progress) : Type 0 where
  first : s.verdict ≡ Ok tt
  second : next.verdict ≡ Ok tt
  is : on_progress s.verdict s next ≡ next

both : (s next : Progress) → (on_progress s.verdict s next).verdict ≡ Ok tt → Both s next
both s next = by s.verdict refl
  where
    by : (v : Verdict) → s.verdict ≡ v → (on_progress v s next).verdict ≡ Ok tt → Both s next
    by (Ok _) e a = record { first = e; second = a; is = rw e }
    by (Err said) e a = clash (let z : Err said ≡ Ok tt = sym e ∙ a in cc)

pub record Shaped (t : List ℕ) (r : Readings) : Type 0 where
  pub row : List ℕ
  pub changes : List Change
  pub shape : Shape r.count r.last row changes t

read_accepted : (n : ℕ) (s : Progress) → (readings_of s.verdict n s).verdict ≡ Ok tt → s.verdict ≡ Ok tt
read_accepted n s = by s.verdict refl
  where
    by : (v : Verdict) → s.verdict ≡ v → (readings_of v n s).verdict ≡ Ok tt → s.verdict ≡ Ok tt
    by (Ok _) e a = e
    by (Err said) e a = clash (cc)

-- the values read at time 0 are what a reader has after them
row_same : (n : ℕ) (row : List ℕ) → n ≤ 64 → length row ≡ 64 → ((w : ℕ) → 0 + n ≤ w → get_or row w 0 ≡ get_or no_values w 0) → start_row n row ≡ row
row_same n row few size past = ext_get_or 0 (start_row n row) row (start_length n row ∙ sym size) (λ i l. at i (dec_lt i n))
  where
    at : (i : ℕ) → Dec (i < n) → get_or (start_row n row) i 0 ≡ get_or row i 0
    at i (yes h) = start_there n i row few h
    at i (no h) = start_past n i row (omega arith) ∙ sym (past i (omega arith) ∙ get_or_replicate_same 64 i 0)

module _ (t : List ℕ) (step : ℕ) where
  abbrev hd : Header
  hd = read_header t

  abbrev n : ℕ
  n = hd.count

  -- the shape from what stands there
  shaped :
      n ≤ 64 → t ≡ (header_text n ++ time_text 0) ++ drop hd.at t → {s : Progress} → StartsThere step t n 0 hd.at (n + 6) no_values s →
      (r : Progress) → Trail t n s r → Shaped t (shown_readings n r.time r.shown)
  unfolding opening_text
  shaped few front {s} h r tr =
      let row : List ℕ = h.row in
      let time : s.time ≡ 0 = ap (λ (p : Progress). p.time) h.is in
      let next : s.next ≡ 0 + n = ap (λ (p : Progress). p.next) h.is in
      let values : s.values ≡ row = ap (λ (p : Progress). p.values) h.is in
      let same : start_row n row ≡ row = row_same n row few h.size h.past in
      let z : 0 + n ≡ n = omega arith in
      let lines : drop s.at t ≡ lines_text 0 r.time tr.changes = tr.text ∙ ap (λ (k : ℕ). lines_text k r.time tr.changes) time in
      record {
        row = row;
        changes = tr.changes;
        shape =
            record {
              text =
                  front
                  ∙ ap (λ (x : List ℕ). (header_text n ++ time_text 0) ++ x) (h.text ∙ ap (λ (x : List ℕ). values_text n 0 row ++ x) lines)
                  ∙ regroup (header_text n) (time_text 0) (values_text n 0 row) (lines_text 0 r.time tr.changes);
              few = few;
              small = λ v l. h.small v (omega arith) (omega arith);
              proper = subst (λ (x : List ℕ). Proper n 0 n x tr.changes) (values ∙ sym same)
                  (subst (λ (k : ℕ). Proper n 0 k s.values tr.changes) (next ∙ z)
                  (subst (λ (k : ℕ). Proper n k s.next s.values tr.changes) time tr.proper));
              rises = subst (λ (k : ℕ). told_after k tr.changes ≤ r.time) time tr.rises;
              bounded = tr.bounded (omega arith);
              some = λ e. last_none tr.changes (subst (λ (k : ℕ). Headed k r.time tr.changes) time (tr.headed (omega arith))) e tr.proper;
            };
      }
    where
      regroup : (a b c d : List ℕ) → (a ++ b) ++ (c ++ d) ≡ (a ++ (b ++ c)) ++ d
      regroup a b c d = simp append_assoc

      last_none : (cs : List Change) → Headed 0 r.time cs → n ≡ 0 → Proper n s.time s.next s.values cs → r.time ≡ 0
      last_none [] e z p = e
      last_none (c ∷ cs) e z p = absurd (omega (arith, p.0.within))

  pub shape_there : (readings t step).verdict ≡ Ok tt → Shaped t (readings t step)
  unfolding readings progress
  shape_there a =
      let s₁ : Progress = begun hd in
      let s₂ : Progress = starts_from step t n s₁ in
      let s₃ : Progress = then_starts step t n s₁ in
      let s₄ : Progress = lines_from step t n (length t) s₃ in
      let a₄ = read_accepted n (progress step t) a in
      let b₂ = both s₃ s₄ a₄ in
      let b₁ = both s₁ s₂ b₂.first in
      let there = header_there t b₁.first in
      let start : s₁ ≡ print_loop hd.at (n + 6) 0 0 no_values no_values = ap begun there.is in
      let st = starts_there step t n 0 hd.at (n + 6) no_values (omega (arith, there.few))
      (subst (λ (s : Progress). (starts_from step t n s).verdict ≡ Ok tt) start b₁.second) in
      let s₅ : Progress = starts_from step t n (print_loop hd.at (n + 6) 0 0 no_values no_values) in
      let e₅ : s₃ ≡ s₅ = b₁.is ∙ ap (λ (s : Progress). starts_from step t n s) start in
      let time : s₅.time ≡ 0 = ap (λ (p : Progress). p.time) st.is in
      let tr = trail_there step t n (length t) s₅ (omega arith) (omega arith)
      (subst (λ (s : Progress). (lines_from step t n (length t) s).verdict ≡ Ok tt) e₅ b₂.second) in
      let r : Progress = lines_from step t n (length t) s₅ in
      let er : progress step t ≡ r = b₂.is ∙ ap (λ (s : Progress). lines_from step t n (length t) s) e₅ in
      let v : r.verdict ≡ Ok tt = subst (λ (s : Progress). s.verdict ≡ Ok tt) er a₄ in
      subst (λ (x : Readings). Shaped t x) (sym (given n r.time r.shown r v refl refl) ∙ ap (λ (s : Progress). readings_of s.verdict n s) (sym er))
      (shaped there.few there.front.whole st r tr)
