-- The reader as a whole: header, values at time 0, lines.
use Rattle.std.specs.Prelude.{Ok, Err}
use mathlib.Core.Path.{◌≡◌, refl, sym, ◌∙◌, ap, subst}
use mathlib.Core.List.{List, ◌++◌}
use Prim.Native.Nat.{ℕ, zero, suc, ◌+◌, ◌≤◌}
use lib.Dec.{eqb}
use lib.ListN.{length, length-append}
use native.Mathlib.Omega.{arith}
use Rattle.grammar.proofs.Cases.{on_test, clash}
use Rattle.construction.specs.declared.texts.RefusedAt.{RefusedAt}
use Rattle.dump.specs.declared.{DumpLine.DumpLine, Header.Header, Progress.Progress, Readings.Readings}
use Rattle.dump.specs.Dump.{timescale_line, scope_line, upscope_line, definitions_line, var_line, vars_text, header_text, time_text}
use Rattle.dump.specs.Reading.{line_at, no_values, begun, with_value, next_start, starts_from, lines_from, on_progress, then_starts, then_lines, progress, read_header}
use Rattle.dump.specs.Reading.{readings_of, readings}
use Rattle.dump.proofs.DumpLines.{value_there}
use Rattle.dump.proofs.Headers.{header_there}

vars_size : (m v : ℕ) → m ≤ length (vars_text m v)
unfolding vars_text var_line
vars_size zero v = omega arith
vars_size (suc m) v = let h = vars_size m (suc v) in omega (arith, length-append (var_line v) (vars_text m (suc v)))

header_size : (n : ℕ) → n + 6 ≤ length (header_text n ++ time_text 0)
unfolding header_text
header_size n =
    omega (
      arith,
      vars_size n 0,
      length-append (vars_text n 0) (upscope_line ++ definitions_line),
      length-append
          (timescale_line ++ (scope_line ++ (vars_text n 0 ++ (upscope_line ++ definitions_line)))) (time_text 0),
    )

starts_order :
    (step : ℕ) (t : List ℕ) (m : ℕ) (s : Progress) → s.line ≤ s.at → (starts_from step t m s).verdict ≡ Ok tt →
    (starts_from step t m s).line ≤ (starts_from step t m s).at
unfolding starts_from
starts_order step t zero s h = λ a. h
starts_order step t (suc m) s h = by (line_at t s.at) refl (λ x l. starts_order step t m x l)
  where
    by :
        (z : DumpLine) → line_at t s.at ≡ z →
        ((x : Progress) → x.line ≤ x.at → (starts_from step t m x).verdict ≡ Ok tt → (starts_from step t m x).line ≤ (starts_from step t m x).at) →
        (next_start step s z (λ r. starts_from step t m r)).verdict ≡ Ok tt →
        (next_start step s z (λ r. starts_from step t m r)).line ≤ (next_start step s z (λ r. starts_from step t m r)).at
    by (DumpLine.Value v x i) e more =
        let l = (value_there t s.at v x i e).later in
        on_test (λ (r : Progress). r.verdict ≡ Ok tt → r.line ≤ r.at) (eqb v s.next) (λ _. more (with_value step s v x i) (omega arith))
        (λ _ a. clash (cc))
    by (DumpLine.Time k i) e more = λ a. clash (cc)
    by DumpLine.Malformed e more = λ a. clash (cc)

abbrev pub refused_readings : RefusedAt → Readings
refused_readings refused = record { verdict = Err refused; count = 0; last = 0; values = no_values }

goes : (s next : Progress) → s.verdict ≡ Ok tt → on_progress s.verdict s next ≡ next
goes s next e = rw e

stops : (s next : Progress) {refused : RefusedAt} → s.verdict ≡ Err refused → on_progress s.verdict s next ≡ s
stops s next e = rw e

refused_given : (n : ℕ) (s : Progress) {refused : RefusedAt} → s.verdict ≡ Err refused →
    readings_of s.verdict n s ≡ refused_readings refused
refused_given n s e = rw e

accepted_given : (n : ℕ) (s : Progress) → s.verdict ≡ Ok tt →
    readings_of s.verdict n s ≡ record { verdict = s.verdict; count = n; last = s.time; values = s.shown }
accepted_given n s e = rw e

module _ (t : List ℕ) (step : ℕ) {h : Header} (eh : h ≡ read_header t) where
  is : progress step t ≡ then_lines step t h.count (then_starts step t h.count (begun h))
  unfolding progress
  is = ap (λ (x : Header). then_lines step t x.count (then_starts step t x.count (begun x))) (sym eh)

  gives : {s : Progress} → progress step t ≡ s → readings t step ≡ readings_of s.verdict h.count s
  unfolding readings
  gives {s} e = ap (λ (x : Progress). readings_of x.verdict (read_header t).count x) e ∙ ap (λ (x : Header). readings_of s.verdict x.count s) (sym eh)

  pub no_header : {refused : RefusedAt} {r : Readings} → h.verdict ≡ Err refused → r ≡ refused_readings refused → r ≡ readings t step
  no_header e q =
      let s₁ = stops (begun h) (starts_from step t h.count (begun h)) e in
      let all : progress step t ≡ begun h = is ∙ ap (λ (x : Progress). then_lines step t h.count x) s₁ ∙ stops (begun h) _ e in
      q ∙ sym (gives all ∙ refused_given h.count (begun h) e)

  module _ (a : h.verdict ≡ Ok tt) where
    pub few : h.count ≤ 64
    few = rw eh (header_there t (subst (λ (x : Header). x.verdict ≡ Ok tt) eh a)).few

    pub short : (h.line ≤ 70) × (h.line ≤ h.at)
    short =
        let b : (read_header t).verdict ≡ Ok tt = subst (λ (x : Header). x.verdict ≡ Ok tt) eh a in
        let there = header_there t b in
        let l : (read_header t).line ≡ (read_header t).count + 6 = ap (λ (x : Header). x.line) there.is in
        let n = there.few in
        let z = there.front.size in
        rw eh (omega arith, omega (arith, header_size (read_header t).count))

    module _ {first : Progress} (ef : first ≡ begun h) where
      pub starts_need : (h.count ≤ 64) × (first.line ≤ 200) × (first.next ≡ 0) × (first.verdict ≡ Ok tt)
      starts_need = let s = short in (few, rw ef (omega arith), rw ef refl, rw ef a)

      module _ {s : Progress} (es : s ≡ starts_from step t h.count first) where
        started : progress step t ≡ then_lines step t h.count s
        started =
            is
            ∙ ap (λ (x : Progress). then_lines step t h.count x)
            (ap (λ (x : Progress). then_starts step t h.count x) (sym ef) ∙ goes first (starts_from step t h.count first) starts_need.3 ∙ sym es)

        pub no_starts : {refused : RefusedAt} {r : Readings} → s.verdict ≡ Err refused → r ≡ refused_readings refused → r ≡ readings t step
        no_starts e q = q ∙ sym (gives (started ∙ stops s _ e) ∙ refused_given h.count s e)

        module _ (b : s.verdict ≡ Ok tt) where
          pub lines_need : (h.count ≤ 64) × (s.line ≤ s.at) × (s.verdict ≡ Ok tt)
          lines_need =
              let o : first.line ≤ first.at = rw ef short.1 in
              (few, rw es (starts_order step t h.count first o (subst (λ (x : Progress). x.verdict ≡ Ok tt) es b)), b)

          module _ {w : Progress} (ew : w ≡ lines_from step t h.count (length t) s) where
            whole : progress step t ≡ w
            whole = started ∙ goes s (lines_from step t h.count (length t) s) b ∙ sym ew

            pub no_lines : {refused : RefusedAt} {r : Readings} → w.verdict ≡ Err refused → r ≡ refused_readings refused →
                r ≡ readings t step
            no_lines e q = q ∙ sym (gives whole ∙ refused_given h.count w e)

            pub all_read : w.verdict ≡ Ok tt → record { verdict = w.verdict; count = h.count; last = w.time; values = w.shown } ≡ readings t
                step
            all_read e = sym (gives whole ∙ accepted_given h.count w e)
