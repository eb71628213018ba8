-- A dump is judged line by line (specs/Judging): the verdict on a text gives the line of the first one that breaks the forms, and accepts a dump; and a text
-- has no other verdict.
use Rattle.std.specs.Prelude.{Ok, Err}
use mathlib.Core.Bool.{Bool, true, false}
use mathlib.Core.Path.{◌≡◌, refl, sym, ◌∙◌, ap, subst}
use mathlib.Core.List.{List, []}
use Prim.Native.Nat.{ℕ, zero, suc, ◌+◌, ◌-◌, ◌<◌, ◌≤◌}
use lib.Dec.{eqb, ltb}
use lib.ListN.{length, drop}
use native.Mathlib.Omega.{arith}
use native.Mathlib.Decide.{dec_lt}
use borrow.Author.Tests.{lt-ltb, ltb-true, ltb-false, eq-eqb, ne_eqb, eqb-true, eqb-false}
use Rattle.grammar.specs.Reading.{has_word}
use Rattle.grammar.proofs.Bytes.{word_text_lem}
use Rattle.construction.specs.declared.answers.Refusal.TheVariants.{Malformed}
use Rattle.construction.specs.Answers.{Fields, fields, verdict_fields}
use Rattle.construction.specs.TextJudging.{refused_in}
use Rattle.construction.specs.Types.{Verdict, told_at}
use Rattle.construction.proofs.Basics.{cond_true}
use Rattle.dump.specs.declared.{DumpLine.DumpLine, Header.Header, Progress.Progress}
use Rattle.dump.specs.Dump.{timescale_line, scope_line, var_line, upscope_line, definitions_line, time_text}
use Rattle.dump.specs.Reading.{line_at, header_start, header_refused, then_word, vars_from, then_vars, read_header, progress_refused, begun, with_value, with_time}
use Rattle.dump.specs.Reading.{next_start, starts_from, takes_time, takes_value, next_line, lines_from, on_progress, then_starts, then_lines, progress, readings_of}
use Rattle.dump.specs.Reading.{readings}
use Rattle.dump.specs.Judging.{NextLine, GoodUntil, StartBreaks, LineBreaks, Judged}
use Rattle.dump.proofs.Headers.{header_at, no_var}
use Rattle.dump.proofs.DumpLines.{time_there, value_there}
use Rattle.dump.proofs.Trails.{fuel}

module _ (step : ℕ) (t : List ℕ) where
  -- ---- what is read from a line on
  abbrev from_header : Header → Progress
  from_header h = then_lines step t h.count (then_starts step t h.count (begun h))

  abbrev word : List ℕ → Header → Header
  word w h = then_word t w h

  abbrev from_zero : Header → Progress
  from_zero h = from_header (word (time_text 0) h)

  abbrev from_definitions : Header → Progress
  from_definitions h = from_zero (word definitions_line h)

  abbrev from_upscope : Header → Progress
  from_upscope h = from_definitions (word upscope_line h)

  abbrev from_line : NextLine → Progress
  from_line NextLine.timescale = from_upscope (then_vars t (word scope_line (word timescale_line header_start)))
  from_line (NextLine.scope at) = from_upscope (then_vars t (word scope_line (header_at 0 at 2)))
  from_line (NextLine.var n at) = from_upscope (vars_from t (64 - n) (header_at n at (n + 3)))
  from_line (NextLine.definitions n at) = from_definitions (header_at n at (n + 4))
  from_line (NextLine.zero n at) = from_zero (header_at n at (n + 5))
  from_line (NextLine.start n m s) = then_lines step t n (starts_from step t m s)
  from_line (NextLine.line n s) = lines_from step t n (length t - s.at) s

  -- nothing is refused yet
  abbrev Open : NextLine → Type 0
  Open NextLine.timescale = Unit {0}
  Open (NextLine.scope at) = Unit {0}
  Open (NextLine.var n at) = n ≤ 64
  Open (NextLine.definitions n at) = Unit {0}
  Open (NextLine.zero n at) = Unit {0}
  Open (NextLine.start n m s) = s.verdict ≡ Ok tt
  Open (NextLine.line n s) = s.verdict ≡ Ok tt

  word_good : (w : List ℕ) (n at line : ℕ) → has_word t at w ≡ true → word w (header_at n at line) ≡ header_at n (at + length w) (line + 1)
  unfolding then_word
  word_good w n at line e = rw e

  word_bad : (w : List ℕ) (n at line : ℕ) → has_word t at w ≡ false → word w (header_at n at line) ≡ header_refused line
  unfolding then_word
  word_bad w n at line e = rw e

  word_after : (w : List ℕ) (line : ℕ) → word w (header_refused line) ≡ header_refused line
  unfolding then_word
  word_after w line = refl

  vars_after : (line : ℕ) → then_vars t (header_refused line) ≡ header_refused line
  unfolding then_vars
  vars_after line = refl

  vars_good : (at line : ℕ) → then_vars t (header_at 0 at line) ≡ vars_from t 64 (header_at 0 at line)
  unfolding then_vars
  vars_good at line = refl

  var_more : (n at line : ℕ) → n < 64 → has_word t at (var_line n) ≡ true →
      vars_from t (64 - n) (header_at n at line) ≡ vars_from t (64 - (n + 1)) (header_at (n + 1) (at + length (var_line n)) (line + 1))
  unfolding vars_from
  var_more n at line l e = let k : 64 - n ≡ suc (64 - (n + 1)) = omega arith in rw (k, e)

  var_none : (n at line : ℕ) → (n < 64 → has_word t at (var_line n) ≡ false) → vars_from t (64 - n) (header_at n at line) ≡ header_at n at line
  unfolding vars_from
  var_none n at line f = by (dec_lt n 64)
    where
      by : Dec (n < 64) → vars_from t (64 - n) (header_at n at line) ≡ header_at n at line
      by (yes l) = let k : 64 - n ≡ suc (63 - n) = omega arith in rw (k, f l)
      by (no l) = let k : 64 - n ≡ 0 = omega arith in rw k

  goes : (s next : Progress) → s.verdict ≡ Ok tt → on_progress s.verdict s next ≡ next
  goes s next e = rw e

  line_good :
      (n : ℕ) (s : Progress) → s.at < length t → (z : DumpLine) → line_at t s.at ≡ z →
      lines_from step t n (length t - s.at) s ≡ next_line step n s z (λ r. lines_from step t n (length t - suc s.at) r)
  unfolding lines_from
  line_good n s l z e = let k : length t - s.at ≡ suc (length t - suc s.at) = omega arith in rw (k, lt-ltb s.at (length t) l, e)

  lines_done : (n : ℕ) (s : Progress) → length t ≤ s.at → lines_from step t n (length t - s.at) s ≡ s
  unfolding lines_from
  lines_done n s l = let k : length t - s.at ≡ 0 = omega arith in rw k

  -- ---- the reading comes to a line before which all are good
  good_read : {d : NextLine} → GoodUntil step t d → (progress step t ≡ from_line d) × Open d
  unfolding progress read_header starts_from
  good_read GoodUntil.first = (refl, tt)
  good_read (GoodUntil.scope e) = (ap (λ (h : Header). from_upscope (then_vars t (word scope_line h))) (word_good timescale_line 0 0 1 e), tt)
  good_read (GoodUntil.first_var {at} d e) = (
    (good_read d).0 ∙ ap (λ (h : Header). from_upscope (then_vars t h)) (word_good scope_line 0 at 2 e) ∙ ap from_upscope (vars_good (at + length scope_line) 3),
    omega arith,
  )
  good_read (GoodUntil.next_var {n} {at} d l e) =
      let k : n + 3 + 1 ≡ n + 1 + 3 = omega arith in (
        (good_read d).0
            ∙ ap from_upscope (var_more n at (n + 3) l e ∙ ap (λ (y : ℕ). vars_from t (64 - (n + 1)) (header_at (n + 1) (at + length (var_line n)) y)) k),
        omega arith,
      )
  good_read (GoodUntil.definitions {n} {at} d e) =
      let k : n + 3 + 1 ≡ n + 4 = omega arith in (
        (good_read d).0
            ∙ ap from_upscope (var_none n at (n + 3) (λ _. no_var t n at (drop (at + length upscope_line) t) (word_text_lem t upscope_line at e)))
            ∙ ap from_definitions (word_good upscope_line n at (n + 3) e ∙ ap (λ (y : ℕ). header_at n (at + length upscope_line) y) k),
        tt,
      )
  good_read (GoodUntil.zero {n} {at} d e) =
      let k : n + 4 + 1 ≡ n + 5 = omega arith in
      ((good_read d).0 ∙ ap from_zero (word_good definitions_line n at (n + 4) e ∙ ap (λ (y : ℕ). header_at n (at + length definitions_line) y) k), tt)
  good_read (GoodUntil.first_start {n} {at} d e) =
      let k : n + 5 + 1 ≡ n + 6 = omega arith in
      ((good_read d).0 ∙ ap from_header (word_good (time_text 0) n at (n + 5) e ∙ ap (λ (y : ℕ). header_at n (at + length (time_text 0)) y) k), refl)
  good_read (GoodUntil.next_start {n} {m} {x} {i} {s} d e) = (
    (good_read d).0
        ∙ ap (λ (z : DumpLine). then_lines step t n (next_start step s z (λ r. starts_from step t m r))) e
        ∙ rw (eq-eqb s.next s.next refl),
    refl,
  )
  good_read (GoodUntil.first_line {n} {s} d) =
      let h = good_read d in
      (h.0 ∙ goes s (lines_from step t n (length t) s) h.1 ∙ fuel step t n (length t) (length t - s.at) s (omega arith) (omega arith), h.1)
  good_read (GoodUntil.next_time {n} {k} {i} {s} d l e a) =
      let w = (time_there t s.at k i e).later in (
        (good_read d).0 ∙ line_good n s l (DumpLine.Time k i) e ∙ cond_true (takes_time s k) (lines_from step t n (length t - suc s.at) (with_time s k i)) _ a
            ∙ fuel step t n (length t - suc s.at) (length t - i) (with_time s k i) (omega arith) (omega arith),
        refl,
      )
  good_read (GoodUntil.next_value {n} {v} {x} {i} {s} d l e a) =
      let w = (value_there t s.at v x i e).later in (
        (good_read d).0 ∙ line_good n s l (DumpLine.Value v x i) e ∙ cond_true (takes_value n s v x)
            (lines_from step t n (length t - suc s.at) (with_value step s v x i)) _ a
            ∙ fuel step t n (length t - suc s.at) (length t - i) (with_value step s v x i) (omega arith) (omega arith),
        refl,
      )

  -- ---- what the verdict says
  refused_at_lem : {p : Progress} (line : ℕ) → progress step t ≡ p → p.verdict ≡ Err (told_at Malformed line) →
      verdict_fields (readings t step).verdict ≡ refused_in line 2
  unfolding readings verdict_fields
  refused_at_lem {p} line e f =
      ap (λ (q : Progress). verdict_fields (readings_of q.verdict (read_header t).count q).verdict) e
      ∙ ap (λ (v : Verdict). verdict_fields (readings_of v (read_header t).count p).verdict) f

  accepted_at : {p : Progress} → progress step t ≡ p → p.verdict ≡ Ok tt → verdict_fields (readings t step).verdict ≡ fields "accepted" []
  unfolding readings verdict_fields
  accepted_at {p} e f =
      ap (λ (q : Progress). verdict_fields (readings_of q.verdict (read_header t).count q).verdict) e
      ∙ ap (λ (v : Verdict). verdict_fields (readings_of v (read_header t).count p).verdict) f

  start_bad : (n m : ℕ) (s : Progress) (z : DumpLine) → StartBreaks s z → next_start step s z (λ r. starts_from step t m r) ≡ progress_refused s.line
  start_bad n m s (DumpLine.Time k i) b = refl
  start_bad n m s (DumpLine.Value v x i) (StartBreaks.other h) = rw (ne_eqb v s.next h)
  start_bad n m s DumpLine.Malformed b = refl

  line_bad : (n : ℕ) (s : Progress) (z : DumpLine) (go : Progress → Progress) → LineBreaks n s z → next_line step n s z go ≡ progress_refused s.line
  line_bad n s (DumpLine.Time k i) go (LineBreaks.time h) = rw h
  line_bad n s (DumpLine.Value v x i) go (LineBreaks.value h) = rw h
  line_bad n s DumpLine.Malformed go b = refl

  -- every text that is so judged has this verdict
  pub judged_only : {f : Fields} → Judged step t f → verdict_fields (readings t step).verdict ≡ f
  unfolding then_word then_vars starts_from
  judged_only (Judged.timescale e) =
      refused_at_lem 1 ((good_read GoodUntil.first).0 ∙ ap (λ (h : Header). from_upscope (then_vars t (word scope_line h))) (word_bad timescale_line 0 0 1 e)) refl
  judged_only (Judged.scope {at} d e) = refused_at_lem 2 ((good_read d).0 ∙ ap (λ (h : Header). from_upscope (then_vars t h)) (word_bad scope_line 0 at 2 e)) refl
  judged_only (Judged.var {n} {at} d f e) =
      refused_at_lem (n + 3) ((good_read d).0 ∙ ap from_upscope (var_none n at (n + 3) f) ∙ ap from_definitions (word_bad upscope_line n at (n + 3) e)) refl
  judged_only (Judged.definitions {n} {at} d e) = refused_at_lem (n + 4) ((good_read d).0 ∙ ap from_zero (word_bad definitions_line n at (n + 4) e)) refl
  judged_only (Judged.zero {n} {at} d e) = refused_at_lem (n + 5) ((good_read d).0 ∙ ap from_header (word_bad (time_text 0) n at (n + 5) e)) refl
  judged_only (Judged.start {n} {m} {s} d b) =
      refused_at_lem s.line ((good_read d).0 ∙ ap (λ (x : Progress). then_lines step t n x) (start_bad n m s (line_at t s.at) b)) refl
  judged_only (Judged.line {n} {s} d l b) =
      refused_at_lem s.line ((good_read d).0 ∙ line_good n s l (line_at t s.at) refl ∙ line_bad n s (line_at t s.at) _ b) refl
  judged_only (Judged.accepted {n} {s} d l) = let h = good_read d in accepted_at (h.0 ∙ lines_done n s l) h.1

  -- ---- every text is judged
  record Some : Type 0 where
    verdict : Fields
    judged : Judged step t verdict

  some : {f : Fields} → Judged step t f → Some
  some {f} j = record { verdict = f; judged = j }

  from_line_lem : (fuel n : ℕ) (s : Progress) → length t - s.at ≤ fuel → GoodUntil step t (NextLine.line n s) → Some
  from_line_lem zero n s h g = some (Judged.accepted g (omega arith))
  from_line_lem (suc f) n s h g = by (ltb s.at (length t)) refl (λ x l d. from_line_lem f n x l d)
    where
      by : (b : Bool) → ltb s.at (length t) ≡ b → ((x : Progress) → length t - x.at ≤ f → GoodUntil step t (NextLine.line n x) → Some) → Some
      by false e more = some (Judged.accepted g (ltb-false s.at (length t) e))
      by true e more = line (line_at t s.at) refl
        where
          inside : s.at < length t
          inside = ltb-true s.at (length t) e

          line : (z : DumpLine) → line_at t s.at ≡ z → Some
          line (DumpLine.Time k i) q = test (takes_time s k) refl
            where
              test : (b : Bool) → takes_time s k ≡ b → Some
              test true a = let w = (time_there t s.at k i q).later in more (with_time s k i) (omega arith) (GoodUntil.next_time g inside q a)
              test false a = some (Judged.line g inside (subst (LineBreaks n s) (sym q) (LineBreaks.time a)))
          line (DumpLine.Value v x i) q = test (takes_value n s v x) refl
            where
              test : (b : Bool) → takes_value n s v x ≡ b → Some
              test true a = let w = (value_there t s.at v x i q).later in more (with_value step s v x i) (omega arith) (GoodUntil.next_value g inside q a)
              test false a = some (Judged.line g inside (subst (LineBreaks n s) (sym q) (LineBreaks.value a)))
          line DumpLine.Malformed q = some (Judged.line g inside (subst (LineBreaks n s) (sym q) LineBreaks.neither))

  from_start : (n m : ℕ) (s : Progress) → GoodUntil step t (NextLine.start n m s) → Some
  from_start n zero s g = from_line_lem (length t) n s (omega arith) (GoodUntil.first_line g)
  from_start n (suc m) s g = by (line_at t s.at) refl (λ x d. from_start n m x d)
    where
      by : (z : DumpLine) → line_at t s.at ≡ z → ((x : Progress) → GoodUntil step t (NextLine.start n m x) → Some) → Some
      by (DumpLine.Time k i) q more = some (Judged.start g (subst (StartBreaks s) (sym q) StartBreaks.time))
      by (DumpLine.Value v x i) q more = test (eqb v s.next) refl
        where
          test : (b : Bool) → eqb v s.next ≡ b → Some
          test true a = more (with_value step s s.next x i) (GoodUntil.next_start g (q ∙ ap (λ (y : ℕ). DumpLine.Value y x i) (eqb-true v s.next a)))
          test false a = some (Judged.start g (subst (StartBreaks s) (sym q) (StartBreaks.other (eqb-false v s.next a))))
      by DumpLine.Malformed q more = some (Judged.start g (subst (StartBreaks s) (sym q) StartBreaks.neither))

  -- a line of the header
  either : {P : Type 0} (b : Bool) → (b ≡ true → P) → (b ≡ false → P) → P
  either true f g = f refl
  either false f g = g refl

  from_definitions_lem : (n at : ℕ) → GoodUntil step t (NextLine.definitions n at) → Some
  from_definitions_lem n at g =
      either (has_word t at definitions_line)
      (λ e. let z = GoodUntil.zero g e in
      either (has_word t (at + length definitions_line) (time_text 0)) (λ f. from_start n n _ (GoodUntil.first_start z f)) (λ f. some (Judged.zero z f)))
      (λ e. some (Judged.definitions g e))

  from_var : (m n at : ℕ) → m + n ≡ 64 → GoodUntil step t (NextLine.var n at) → Some
  from_var zero n at h g =
      either (has_word t at upscope_line) (λ e. from_definitions_lem n _ (GoodUntil.definitions g e)) (λ e. some (Judged.var g (λ l. absurd (omega arith)) e))
  from_var (suc m) n at h g =
      either (has_word t at (var_line n)) (λ v. from_var m (n + 1) (at + length (var_line n)) (omega arith) (GoodUntil.next_var g (omega arith) v))
      (λ v. either (has_word t at upscope_line) (λ e. from_definitions_lem n _ (GoodUntil.definitions g e)) (λ e. some (Judged.var g (λ _. v) e)))

  all_judged : Some
  all_judged =
      either (has_word t 0 timescale_line)
      (λ e. let g = GoodUntil.scope e in
      either (has_word t (length timescale_line) scope_line) (λ f. from_var 64 0 _ (omega arith) (GoodUntil.first_var g f)) (λ f. some (Judged.scope g f)))
      (λ e. some (Judged.timescale e))

  pub text_judged : Judged step t (verdict_fields (readings t step).verdict)
  text_judged = let j = all_judged in subst (Judged step t) (sym (judged_only j.judged)) j.judged
