-- The rows of a dump put into a buffer: a row part by part, and the loop that puts them in pieces.
use mathlib.Core.Bool.{Bool, true, false, cond}
use mathlib.Core.Path.{◌≡◌, refl, sym, ◌∙◌, ap, subst}
use mathlib.Core.List.{List, [], ◌∷◌, ◌++◌, append_assoc}
use Prim.Native.Nat.{ℕ, zero, suc, ◌+◌, ◌-◌, ◌<◌, ◌≤◌, min}
use lib.ListN.{length, get_or}
use native.Mathlib.Omega.{arith}
use Rattle.grammar.specs.Writing.{decimal, largest, Put}
use Rattle.grammar.proofs.Puts.{Room, Rest, rest_all, rest_step, rest_last, put_both}
use Rattle.grammar.proofs.Cases.{clash}
use Rattle.dump.specs.declared.DumpLine.{DumpLine}
use Rattle.dump.specs.Reading.{line_at}
use Rattle.dump.proofs.DumpLines.{time_there, value_there}
use Rattle.grammar.proofs.Pieces as pieces
use Rattle.dump_reader.specs.declared.{Scan.Scan}
use Rattle.dump_reader.specs.Taking.{past_line, time_with}
use Rattle.dump_reader.specs.Rows.{is_line, lines_in, lines_at, numbers_text, row_text, ended_text, ended, kept_with, scan_after, rows_of, rows_text, lines_left}
use Rattle.dump_reader.specs.Rows.{shown_of, PutsRows}

-- nothing is put
pub put_none : (b : List ℕ) (at : ℕ) → at ≤ largest → Put b at [] at b
put_none b at h = record { place = omega arith; bytes = refl }

-- ---- a row
pub row_begin : (b : List ℕ) (at m : ℕ) (row : List ℕ) → Room b at → Rest b at (numbers_text m 0 row ++ (10 ∷ [])) b at (numbers_text (m - 0) 0 row ++ (10 ∷ []))
row_begin b at m row h = let k : m - 0 ≡ m = omega arith in rw k (rest_all b at (numbers_text m 0 row ++ (10 ∷ [])) h)

pub row_all :
    {b : List ℕ} {at i j m : ℕ} {y z : List ℕ} (n step : ℕ) (row : List ℕ) → Room b at → m ≡ min 64 n → Put b at (decimal step) i y →
    Put y i (numbers_text m 0 row ++ (10 ∷ [])) j z → Put b at (row_text n step row) j z
unfolding row_text
row_all n step row h e p q = rw (← e) (put_both h p q)

module _ {b₀ : List ℕ} {at : ℕ} {whole b : List ℕ} {i : ℕ} (m v : ℕ) (row : List ℕ) (r : Rest b₀ at whole b i (numbers_text (m - v) v row ++ (10 ∷ []))) where
  pub row_turn :
      {j k x : ℕ} {y z : List ℕ} → v < m → x ≡ get_or row v 0 → Put b i (44 ∷ []) j y → Put y j (decimal x) k z →
      Rest b₀ at whole z k (numbers_text (m - (v + 1)) (v + 1) row ++ (10 ∷ []))
  unfolding numbers_text
  row_turn {x = x} l e p q =
      let n : m - v ≡ suc (m - (v + 1)) = omega arith in
      let s : suc v ≡ v + 1 = omega arith in
      let more : List ℕ = numbers_text (m - (v + 1)) (v + 1) row ++ (10 ∷ []) in
      let w : numbers_text (m - v) v row ++ (10 ∷ []) ≡ (44 ∷ []) ++ (decimal x ++ more) =
      rw (n, s, e) (ap (λ (y : List ℕ). 44 ∷ y) (append_assoc (decimal (get_or row v 0)) (numbers_text (m - (v + 1)) (v + 1) row) (10 ∷ []))) in
      rest_step (rest_step (subst (λ (y : List ℕ). Rest b₀ at whole b i y) w r) p) q

  pub row_end : {j : ℕ} {z : List ℕ} → m ≤ v → Put b i (10 ∷ []) j z → Put b₀ at whole j z
  unfolding numbers_text
  row_end h p = let n : m - v ≡ 0 = omega arith in rest_last (rw n at r) p

-- ---- the lines from a place on
module _ (t : List ℕ) where
  pub line_later : (at : ℕ) (line : DumpLine) → line_at t at ≡ line → is_line line ≡ true → (at < past_line line) × (past_line line ≤ length t)
  line_later at (DumpLine.Time k i) e h = let r = time_there t at k i e in (r.later, r.within)
  line_later at (DumpLine.Value v x i) e h = let r = value_there t at v x i e in (r.later, r.within)
  line_later at DumpLine.Malformed e h = clash (cc)

  -- more than enough fuel changes nothing
  fuel : (f g at : ℕ) → length t - at < f → length t - at < g → lines_in f t at ≡ lines_in g t at
  unfolding lines_in
  fuel zero g at p q = absurd (omega arith)
  fuel (suc f) zero at p q = absurd (omega arith)
  fuel (suc f) (suc g) at p q = go (λ i u w. fuel f g i u w) (line_at t at) refl
    where
      go :
          ((i : ℕ) → length t - i < f → length t - i < g → lines_in f t i ≡ lines_in g t i) → (line : DumpLine) → line_at t at ≡ line →
          cond (is_line line) (line ∷ lines_in f t (past_line line)) [] ≡ cond (is_line line) (line ∷ lines_in g t (past_line line)) []
      go h (DumpLine.Time k i) e = let r = time_there t at k i e in
          ap (λ (ls : List DumpLine). DumpLine.Time k i ∷ ls) (h i (omega (arith, r.later, r.within)) (omega (arith, r.later, r.within)))
      go h (DumpLine.Value v x i) e = let r = value_there t at v x i e in
          ap (λ (ls : List DumpLine). DumpLine.Value v x i ∷ ls) (h i (omega (arith, r.later, r.within)) (omega (arith, r.later, r.within)))
      go h DumpLine.Malformed e = refl

  opened : (at : ℕ) {line : DumpLine} → line ≡ line_at t at → is_line line ≡ true → lines_in (suc (length t)) t at ≡ line ∷ lines_in (length t) t (past_line line)
  unfolding lines_in
  opened at e h = rw (← e, h)

  lines_more : (at : ℕ) {line : DumpLine} → line ≡ line_at t at → is_line line ≡ true → lines_at t at ≡ line ∷ lines_at t (past_line line)
  unfolding lines_at
  lines_more at {line} e h =
      let r = line_later at line (sym e) h in
      opened at e h ∙ ap (λ (ls : List DumpLine). line ∷ ls) (fuel (length t) (suc (length t)) (past_line line) (omega arith) (omega arith))

  lines_none : (at : ℕ) {line : DumpLine} → line ≡ line_at t at → is_line line ≡ false → lines_at t at ≡ []
  unfolding lines_at lines_in
  lines_none at e h = rw (← e, h)

-- ---- the loop: s₀ as it began, s as it stands
pub record Rowing (t : List ℕ) (n : ℕ) (s₀ : Scan) (b₀ : List ℕ) (s : Scan) (m : ℕ) (b : List ℕ) : Type 0 where
  pub lines : List ℕ
  pub put : pieces.PrintLoop (ended n) scan_after (lines_left t) s₀ b₀ lines s m b
  pub text : rows_text t n s₀ ≡ lines ++ rows_text t n s

pub rowing : (t : List ℕ) (n : ℕ) (s : Scan) (b : List ℕ) → length b < largest → Rowing t n s b s 0 b
rowing t n s b h = record { lines = []; put = pieces.print_loop (ended n) scan_after (lines_left t) s b h; text = refl }

module _ {t : List ℕ} {n : ℕ} {s₀ : Scan} {b₀ : List ℕ} {s : Scan} {m : ℕ} {b : List ℕ} (g : Rowing t n s₀ b₀ s m b) {line : DumpLine}
    (el : line ≡ line_at t s.at) {c : Bool} (ec : c ≡ is_line line) where
  pub rowing_length : length b ≡ length b₀
  rowing_length = pieces.print_loop_length (ended n) scan_after (lines_left t) g.put

  puts : {z : List ℕ} → pieces.Stopped (ended n) scan_after (lines_left t) s₀ b₀ g.lines s m z → PutsRows t n s₀ b₀ (record { scan = s; length = m }) z
  unfolding shown_of
  puts p = record { answer = rw (← p.state, ← p.count); bytes = p.bytes; text = rw p.front g.text; within = p.within }

  -- no line is left
  pub rowing_end : c ≡ false → PutsRows t n s₀ b₀ (record { scan = s; length = m }) b
  rowing_end h = puts (pieces.print_loop_end (ended n) scan_after (lines_left t) g.put (lines_none t s.at el (sym ec ∙ h)))

  module _ (h : c ≡ true) where
    pub rowing_later : (s.at < past_line line) × (past_line line ≤ length t)
    rowing_later = line_later t s.at line (sym el) (sym ec ∙ h)

    more : lines_at t s.at ≡ line ∷ lines_at t (past_line line)
    more = lines_more t s.at el (sym ec ∙ h)

    module _ {j : ℕ} {z : List ℕ} (p : Put b m (ended_text n s.time s.values line) j z) where
      pub rowing_same : length z ≡ length b₀
      rowing_same = pieces.print_loop_same (ended n) scan_after (lines_left t) g.put {l = line} refl p

      pub rowing_again :
          {values : List ℕ} {time at : ℕ} → j ≤ length z → values ≡ kept_with s.values line → time ≡ time_with s.time line → at ≡ past_line line →
          Rowing t n s₀ b₀ (record { at = at; time = time; values = values }) j z
      unfolding rows_of
      rowing_again {values} {time} {at} fits ev et ea =
          let es : record { at = at; time = time; values = values } ≡ scan_after s line = λ i. record { at = ea i; time = et i; values = ev i } in
          record {
            lines = g.lines ++ ended n s line;
            put = pieces.print_loop_again (ended n) scan_after (lines_left t) g.put {l = line} refl p es more fits;
            text =
                subst (λ (y : Scan). rows_text t n s₀ ≡ (g.lines ++ ended n s line) ++ rows_text t n y) (sym es)
                (g.text ∙ rw more (sym (append_assoc g.lines (ended n s line) (rows_of n (scan_after s line) (lines_at t (past_line line))))));
          }

      pub rowing_stopped : length z < j → PutsRows t n s₀ b₀ (record { scan = s; length = m }) z
      rowing_stopped over = puts (pieces.print_loop_stopped (ended n) scan_after (lines_left t) g.put {l = line} refl p more over)
