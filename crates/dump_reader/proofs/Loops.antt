-- The loops of the reader: a turn takes a line or refuses it.
use Rattle.std.specs.Prelude.{Ok}
use mathlib.Core.Bool.{Bool, true, false, cond, not, ◌&&◌}
use mathlib.Core.Path.{◌≡◌, refl, sym, ◌∙◌, ap}
use mathlib.Core.List.{List}
use Prim.Native.Nat.{ℕ, suc, ◌+◌, ◌-◌, ◌<◌, ◌≤◌, min}
use lib.Dec.{eqb, leb, ltb}
use lib.ListN.{get_or, length}
use native.Mathlib.Omega.{arith}
use borrow.Author.Tests.{lt-ltb, eqb-true, ltb-true, not-true, not-false}
use Rattle.grammar.proofs.Cases.{and_true, clash}
use Rattle.dump.specs.declared.{DumpLine.DumpLine, Progress.Progress}
use Rattle.dump.specs.Reading.{line_at, progress_refused, next_start, starts_from, next_line, lines_from}
use Rattle.dump.proofs.DumpLines.{time_there, value_there}
pub use Rattle.dump.proofs.Trails.{fuel}
use Rattle.dump.proofs.Trails.{print_loop}
use Rattle.dump_reader.specs.Taking.{Inside, starts_with, takes_line, values_with, shown_with, past_line, time_with, next_with}

cond_same : {A : Type 0} (b : Bool) (x : A) → cond b x x ≡ x
cond_same true x = refl
cond_same false x = refl

-- ---- a line that is taken, and one that is not
module _ (step n at number time next : ℕ) (values shown : List ℕ) where
  abbrev from : Progress
  from = print_loop at number time next values shown

  abbrev to : DumpLine → Progress
  to line = print_loop (past_line line) (number + 1) (time_with time line) (next_with line) (values_with values line) (shown_with step time shown line)

  line_taken :
      (line : DumpLine) (go : Progress → Progress) → n ≤ 64 → takes_line n time next values line ≡ true → next_line step n from line go ≡ go (to line)
  line_taken (DumpLine.Time k i) go few e = rw (e, cond_same (leb time step) shown)
  line_taken (DumpLine.Value v x i) go few e =
      let h = and_true (leb next v) (ltb v n && not (eqb x (get_or values v 0))) e in
      let l = ltb-true v n (and_true (ltb v n) (not (eqb x (get_or values v 0))) h.1).0 in
      let k : min 255 (v + 1) ≡ v + 1 = omega arith in
      rw (e, k)
  line_taken DumpLine.Malformed go few e = clash (cc)

  line_refused : (line : DumpLine) (go : Progress → Progress) → takes_line n time next values line ≡ false →
      next_line step n from line go ≡ progress_refused number
  line_refused (DumpLine.Time k i) go e = rw e
  line_refused (DumpLine.Value v x i) go e = rw e
  line_refused DumpLine.Malformed go e = refl

  start_taken :
      (line : DumpLine) (go : Progress → Progress) → starts_with next line ≡ true →
      next_start step from line go ≡ go (print_loop (past_line line) (number + 1) time (next + 1) (values_with values line) (shown_with step time shown line))
  start_taken (DumpLine.Time k i) go e = clash (cc)
  start_taken (DumpLine.Value v x i) go e = let k : v ≡ next = eqb-true v next e in rw (e, ← k)
  start_taken DumpLine.Malformed go e = clash (cc)

  start_refused : (line : DumpLine) (go : Progress → Progress) → starts_with next line ≡ false → next_start step from line go ≡ progress_refused number
  start_refused (DumpLine.Time k i) go e = refl
  start_refused (DumpLine.Value v x i) go e = rw e
  start_refused DumpLine.Malformed go e = refl

-- a line that is taken ends after its place
pub taken_later : (t : List ℕ) (n at time next : ℕ) (values : List ℕ) (line : DumpLine) → line_at t at ≡ line → takes_line n time next values line ≡ true →
    (at < past_line line) × (past_line line ≤ length t)
taken_later t n at time next values (DumpLine.Time k i) e h = let r = time_there t at k i e in (r.later, r.within)
taken_later t n at time next values (DumpLine.Value v x i) e h = let r = value_there t at v x i e in (r.later, r.within)
taken_later t n at time next values DumpLine.Malformed e h = clash (cc)

-- ---- the values at time 0
module _ (step : ℕ) (t : List ℕ) (m at number time next : ℕ) (values shown : List ℕ) (l : next < m) {line : DumpLine} (e : line ≡ line_at t at) {b : Bool}
    (f : b ≡ starts_with next line) where
  starts_more : starts_from step t (m - next) (print_loop at number time next values shown) ≡ next_start step (print_loop at number time next values shown) line
      (λ r. starts_from step t (m - (next + 1)) r)
  unfolding starts_from
  starts_more = let k : m - next ≡ suc (m - (next + 1)) = omega arith in rw (k, ← e)

  pub starts_refused : {r : Progress} → not b ≡ true → r ≡ progress_refused number → r ≡ starts_from step t (m - next) (print_loop at number time next values shown)
  starts_refused h q = q ∙ sym (starts_more ∙ start_refused step 0 at number time next values shown line _ (sym f ∙ not-true b h))

  pub starts_again :
      {values₂ shown₂ : List ℕ} {at₂ : ℕ} → not b ≡ false → values₂ ≡ values_with values line → shown₂ ≡ shown_with step time shown line → at₂ ≡ past_line line →
      starts_from step t (m - next) (print_loop at number time next values shown) ≡ starts_from step t (m - (next + 1))
      (print_loop at₂ (number + 1) time (next + 1) values₂ shown₂)
  starts_again h ev es ea = starts_more ∙ start_taken step 0 at number time next values shown line _ (sym f ∙ not-false b h) ∙ rw (← ev, ← es, ← ea)

pub starts_end : (step : ℕ) (t : List ℕ) (m next : ℕ) (s : Progress) → m ≤ next → starts_from step t (m - next) s ≡ s
unfolding starts_from
starts_end step t m next s h = let k : m - next ≡ 0 = omega arith in rw k

-- ---- the lines after them
module _ (step : ℕ) (t : List ℕ) (n : ℕ) where
  module _ (at number time next : ℕ) (values shown : List ℕ) (l : at < length t) {line : DumpLine} (e : line ≡ line_at t at) {b : Bool}
      (f : b ≡ takes_line n time next values line) where
    lines_more :
        lines_from step t n (length t - at) (print_loop at number time next values shown)
        ≡ next_line step n (print_loop at number time next values shown) line (λ r. lines_from step t n (length t - suc at) r)
    unfolding lines_from
    lines_more = let k : length t - at ≡ suc (length t - suc at) = omega arith in rw (k, lt-ltb at (length t) l, ← e)

    pub lines_refused : {r : Progress} → not b ≡ true → r ≡ progress_refused number →
        r ≡ lines_from step t n (length t - at) (print_loop at number time next values shown)
    lines_refused h q = q ∙ sym (lines_more ∙ line_refused step n at number time next values shown line _ (sym f ∙ not-true b h))

    pub lines_later : {at₂ : ℕ} → not b ≡ false → at₂ ≡ past_line line → (at < at₂) × (at₂ ≤ length t)
    lines_later h ea = let r = taken_later t n at time next values line (sym e) (sym f ∙ not-false b h) in omega arith

    pub lines_again :
        {values₂ shown₂ : List ℕ} {at₂ time₂ next₂ : ℕ} → n ≤ 64 → not b ≡ false → values₂ ≡ values_with values line → shown₂ ≡ shown_with step time shown line →
        at₂ ≡ past_line line → time₂ ≡ time_with time line → next₂ ≡ next_with line →
        lines_from step t n (length t - at) (print_loop at number time next values shown)
        ≡ lines_from step t n (length t - at₂) (print_loop at₂ (number + 1) time₂ next₂ values₂ shown₂)
    lines_again {values₂} {shown₂} {at₂} {time₂} {next₂} few h ev es ea et en =
        let r = lines_later h ea in
        lines_more
        ∙ line_taken step n at number time next values shown line (λ r. lines_from step t n (length t - suc at) r) few (sym f ∙ not-false b h)
        ∙ rw (← ev, ← es, ← ea, ← et, ← en)
        (fuel step t n (length t - suc at) (length t - at₂) (print_loop at₂ (number + 1) time₂ next₂ values₂ shown₂) (omega arith) (omega arith))

  pub lines_end_lem : (at : ℕ) (s : Progress) → length t ≤ at → lines_from step t n (length t - at) s ≡ s
  unfolding lines_from
  lines_end_lem at s h = let k : length t - at ≡ 0 = omega arith in rw k

-- a reading that goes on, by its parts
pub print_loop_on : (s : Progress) → s.verdict ≡ Ok tt → s ≡ print_loop s.at s.line s.time s.next s.values s.shown
print_loop_on s a = λ i. record { verdict = a i; at = s.at; line = s.line; time = s.time; next = s.next; values = s.values; shown = s.shown }

-- where the loops begin, and what they come to
pub starts_begun :
    (step : ℕ) (t : List ℕ) (n : ℕ) (s : Progress) {x : Progress} → s.verdict ≡ Ok tt → s.next ≡ 0 →
    starts_from step t n (print_loop s.at s.line s.time 0 s.values s.shown) ≡ x → starts_from step t n s ≡ x
starts_begun step t n s {x} a z e =
    let same : s ≡ print_loop s.at s.line s.time 0 s.values s.shown =
    λ i. record { verdict = a i; at = s.at; line = s.line; time = s.time; next = z i; values = s.values; shown = s.shown } in
    ap (λ (y : Progress). starts_from step t n y) same ∙ e

pub lines_begun :
    (step : ℕ) (t : List ℕ) (n : ℕ) (s : Progress) {x : Progress} → s.verdict ≡ Ok tt →
    lines_from step t n (length t) (print_loop s.at s.line s.time s.next s.values s.shown) ≡ x → lines_from step t n (length t) s ≡ x
lines_begun step t n s a e = ap (λ (y : Progress). lines_from step t n (length t) y) (print_loop_on s a) ∙ e
