-- The course of a session: what is left of it, command by command, and what is put of it into a buffer.
use Rattle.std.specs.Prelude.{Ok, Err}
use mathlib.Core.Bool.{Bool, true, false, cond, not}
use mathlib.Core.Path.{◌≡◌, refl, sym, ◌∙◌, ap, subst}
use mathlib.Core.List.{List, [], ◌∷◌, ◌++◌, append_assoc}
use Prim.Native.Nat.{ℕ, suc, ◌+◌, ◌-◌, ◌<◌, ◌≤◌, min}
use lib.ListN.{length}
use native.Mathlib.Omega.{arith}
use native.Mathlib.Nat.{add-zero}
use borrow.Author.Tests.{le-leb, lt-leb, not-true, not-false}
use Rattle.grammar.specs.Writing.{place_after, largest, Put}
use Rattle.grammar.proofs.Puts.{Room, Rest, rest_all, rest_step, rest_last, put_both, put_front, put_fits}
use Rattle.construction.specs.declared.{card.Card.Card, answers.Answer.Answer, texts.Opened.Opened}
use Rattle.construction.specs.declared.answers.Refusal.TheVariants.{ShortBuffer}
use Rattle.construction.specs.Answers.{is_refused}
use Rattle.construction.specs.Opening.{fresh, opened}
use Rattle.construction.specs.History.{Entry}
use Rattle.construction.proofs.Text.Bounds.{opened_bounded}
use Rattle.grammar.proofs.Cases.{on_test}
use Rattle.commands.specs.declared.{Command.Command}
use Rattle.commands.specs.Commands.{command, commands}
use Rattle.commands.proofs.CommandsLaws.{command_past, commands_end, commands_more}
use Rattle.session.specs.declared.{State.State, Advanced.Advanced}
use Rattle.session.specs.Session.{entries_of, execute, after_line, advanced, entries, first_state}
use Rattle.dump.specs.Dump.{Change, changes_at, changes_from, changes_text, told_after, time_above, lines_text, opening_text, dump, written, written_into}
use Rattle.dump.specs.Histories.{row_of, rows_of, dump_of}
use Rattle.grammar.proofs.Pieces as pieces
use Rattle.dump_writer.specs.declared.{Told.Told, Course.Course, Piece.Piece}
use Rattle.dump_writer.specs.Courses.{Tells, steps_in, counts_in, next_changes, next_text, next_course, PutsCommand, longest, count_of, left_rows, left_text}
use Rattle.dump_writer.specs.Courses.{start_course, Opens, dump_text, part_of, course_after, commands_left, piece_of, PutsPiece}
use Rattle.dump_writer.proofs.LineLaws.{put_none, changes_append, told_append, Words, changes_short}

-- ---- an accepted step
pub counts_step : (m : Command) (a : Answer) {b d : Bool} → b ≡ steps_in m → b ≡ true → d ≡ is_refused a → not d ≡ counts_in m a
counts_step m a e h f = rw (← e, h, ← f)

pub counts_other : (m : Command) (a : Answer) {b : Bool} → b ≡ steps_in m → b ≡ false → false ≡ counts_in m a
counts_other m a e h = rw (← e, h)

-- ---- a command
module _ (t : List ℕ) (x : Course) {a : Advanced} (ea : a ≡ advanced t x.session) {c : Bool} (ec : c ≡ counts_in a.command a.answer) where
  pub command_none :
      (b : List ℕ) (at : ℕ) → not c ≡ true → at ≤ largest →
      PutsCommand t x b at (record { course = record { session = a.state; count = x.count; row = x.row; steps = x.steps; told = x.told }; at = at }) b
  unfolding next_text next_course
  command_none b at n l =
      record { put = rw (← ea, ← ec, not-true c n) (put_none b at l); course = rw (← ea, ← ec, not-true c n); short = omega arith }

  pub command_step :
      (b : List ℕ) (at : ℕ) {row : List ℕ} {steps : ℕ} {now : Told} {z : List ℕ} → not c ≡ false → row ≡ row_of a.state.card →
      steps ≡ place_after x.steps 1 →
      Tells b at x.told (changes_at steps (count_of x) 0 x.row row) now z → steps ≤ largest → Words row →
      PutsCommand t x b at (record { course = record { session = a.state; count = x.count; row = row; steps = steps; told = now.time }; at = now.at }) z
  unfolding next_text next_course
  command_step b at {row} {steps} n er es p l w =
      let place = p.put.place in
      let few = changes_short x.told steps (count_of x) 0 x.row row l w in
      record {
        put = rw (← ea, ← ec, not-false c n, ← er, ← es) p.put;
        course = rw (← ea, ← ec, not-false c n, ← er, ← es, p.time);
        short = omega arith;
      }

-- ---- what is left, command by command
lines_append : (told last : ℕ) (a b : List Change) → lines_text told last (a ++ b) ≡ changes_text told a ++ lines_text (told_after told a) last b
lines_append told last a b =
    rw (changes_append told a b, told_append told a b)
    (append_assoc (changes_text told a) (changes_text (told_after told a) b) (time_above (told_after (told_after told a) b) last))

text_step :
    (told steps n : ℕ) (row r : List ℕ) (rs : List (List ℕ)) →
    lines_text told (steps + length (r ∷ rs)) (changes_from n steps row (r ∷ rs))
    ≡ changes_text told (changes_at (suc steps) n 0 row r)
    ++ lines_text (told_after told (changes_at (suc steps) n 0 row r)) (suc steps + length rs) (changes_from n (suc steps) r rs)
unfolding changes_from
text_step told steps n row r rs =
    let k : steps + suc (length rs) ≡ suc steps + length rs = omega arith in
    rw k (lines_append told (suc steps + length rs) (changes_at (suc steps) n 0 row r) (changes_from n (suc steps) r rs))

rows_next :
    (t : List ℕ) (c : Card) (k : Command) (es : List Entry) →
    rows_of c (entries_of t k ++ es)
    ≡ cond (counts_in k (execute t c k).answer) (row_of (execute t c k).card ∷ rows_of (execute t c k).card es) (rows_of (execute t c k).card es)
unfolding rows_of execute
rows_next t c (Command.Call i k x) es = refl
rows_next t c (Command.Exit i) es = refl
rows_next t c (Command.Step i) es = refl
rows_next t c (Command.Trace i) es = refl
rows_next t c (Command.Read v) es = refl
rows_next t c (Command.Change k from count start end) es = refl
rows_next t c Command.Malformed es = refl

module _ (t : List ℕ) (x : Course) where
  abbrev a : Advanced
  a = advanced t x.session

  -- the rows after the next command
  abbrev after : List (List ℕ)
  after = rows_of a.state.card (entries t (commands t a.state.at))

  rows_are : x.session.at < length t → left_rows t x ≡ cond (counts_in a.command a.answer) (row_of a.state.card ∷ after) after
  unfolding entries advanced after_line
  rows_are h = rw (commands_more t x.session.at h)
      (rows_next t x.session.card (command t x.session.at).command (entries t (commands t (command t x.session.at).next)))

  -- the course after it: an accepted step counts
  abbrev counted : Course
  counted =
      record
      { session = a.state; count = x.count; row = row_of a.state.card; steps = place_after x.steps 1; told = told_after x.told (next_changes t x) }

  abbrev uncounted : Course
  uncounted = record { session = a.state; count = x.count; row = x.row; steps = x.steps; told = x.told }

  next_is : next_course t x ≡ cond (counts_in a.command a.answer) counted uncounted
  unfolding next_course
  next_is = refl

  further : x.session.at < length t → x.session.at < a.state.at
  unfolding advanced after_line
  further h = command_past t x.session.at h

  next_place : (next_course t x).session.at ≡ (command t x.session.at).next
  unfolding advanced after_line
  next_place = rw next_is
      (on_test (λ (y : Course). y.session.at ≡ (command t x.session.at).next) (counts_in a.command a.answer) (λ _. refl) (λ _. refl))

  pub next_at : x.session.at < length t → x.session.at < (next_course t x).session.at
  next_at h = rw next_is (on_test (λ (y : Course). x.session.at < y.session.at) (counts_in a.command a.answer) (λ _. further h) (λ _. further h))

  pub next_steps : (next_course t x).steps ≤ x.steps + 1
  next_steps = rw next_is (on_test (λ (y : Course). y.steps ≤ x.steps + 1) (counts_in a.command a.answer) (λ _. omega arith) (λ _. omega arith))

  pub left_more : x.session.at < length t → x.steps < largest → left_text t x ≡ next_text t x ++ left_text t (next_course t x)
  unfolding left_text next_text next_course
  left_more h small =
      ap (λ (rs : List (List ℕ)). lines_text x.told (x.steps + length rs) (changes_from (count_of x) x.steps x.row rs)) (rows_are h)
      ∙ go (counts_in a.command a.answer)
    where
      one : suc x.steps ≡ place_after x.steps 1
      one = omega arith

      go :
          (b : Bool) →
          lines_text x.told (x.steps + length (cond b (row_of a.state.card ∷ after) after))
          (changes_from (count_of x) x.steps x.row (cond b (row_of a.state.card ∷ after) after))
          ≡ cond b (changes_text x.told (next_changes t x)) [] ++ left_text t (cond b counted uncounted)
      go true =
          text_step x.told x.steps (count_of x) x.row (row_of a.state.card) after
          ∙ ap
          (λ (k : ℕ). changes_text x.told (changes_at k (count_of x) 0 x.row (row_of a.state.card)) ++ lines_text
          (told_after x.told (changes_at k (count_of x) 0 x.row (row_of a.state.card))) (k + length after)
          (changes_from (count_of x) k (row_of a.state.card) after))
          one
      go false = refl

  pub left_end : length t ≤ x.session.at → left_text t x ≡ time_above x.told x.steps
  unfolding left_text entries rows_of changes_from changes_text told_after
  left_end h = rw (commands_end t x.session.at h, add-zero x.steps)

-- ---- the dump of a session
few : (card : List ℕ) → (min 64 (opened card).card.variable_count ≡ (opened card).card.variable_count) ×
    (min 64 (min 64 (opened card).card.variable_count) ≡ (opened card).card.variable_count)
unfolding opened fresh
few card = let h = (opened_bounded card).variable_count in (omega arith, omega arith)

pub dump_is :
    (card calls : List ℕ) →
    dump_text card calls
    ≡ opening_text (min 64 (opened card).card.variable_count) (row_of (opened card).card) ++ left_text calls (start_course (first_state (opened card).card))
unfolding dump_text dump_of dump left_text
dump_is card calls =
    let rows : List (List ℕ) = rows_of (opened card).card (entries calls (commands calls 0)) in
    let z : 0 + length rows ≡ length rows = omega arith in
    rw ((few card).1, (few card).0, z)

-- ---- the loop that puts what is left
pub record Left (t : List ℕ) (x₀ : Course) (b₀ : List ℕ) (at : ℕ) (x : Course) (b : List ℕ) (i place : ℕ) : Type 0 where
  pub rest : Rest b₀ at (left_text t x₀) b i (left_text t x)
  pub steps : x.steps ≤ x.session.at
  pub here : place ≡ x.session.at

pub left_all : (t : List ℕ) (x : Course) (b : List ℕ) (at : ℕ) → Room b at → x.steps ≤ x.session.at → Left t x b at x b at x.session.at
left_all t x b at h s = record { rest = rest_all b at (left_text t x) h; steps = s; here = refl }

module _ {t : List ℕ} {x₀ : Course} {b₀ : List ℕ} {at : ℕ} {x : Course} {b : List ℕ} {i place : ℕ} (g : Left t x₀ b₀ at x b i place)
    (small : length t ≤ largest) where
  pub left_turn : {r : Piece} {z : List ℕ} → place < length t → PutsCommand t x b i r z → Left t x₀ b₀ at r.course z r.at r.course.session.at
  left_turn {r} {z} l p =
      let s = g.steps in
      let h : x.session.at < length t = omega (arith, g.here) in
      let e = left_more t x h (omega arith) in
      let n = next_at t x h in
      let m = next_steps t x in
      record {
        rest = subst (λ (y : Course). Rest b₀ at (left_text t x₀) z r.at (left_text t y)) (sym p.course)
            (rest_step (subst (λ (y : List ℕ). Rest b₀ at (left_text t x₀) b i y) e g.rest) p.put);
        steps = rw p.course (omega arith);
        here = refl;
      }

  pub left_less : {r : Piece} {z : List ℕ} → place < length t → PutsCommand t x b i r z → length t - r.course.session.at < length t - place
  left_less l p =
      let h : x.session.at < length t = omega (arith, g.here) in
      let n = next_at t x h in
      let q = g.here in
      rw p.course (omega arith)

  pub left_last : {j : ℕ} {z : List ℕ} → length t ≤ place → Put b i (time_above x.told x.steps) j z → Put b₀ at (left_text t x₀) j z
  left_last l p = rest_last (subst (λ (y : List ℕ). Rest b₀ at (left_text t x₀) b i y) (left_end t x (omega (arith, g.here))) g.rest) p

-- the whole dump
pub put_dump :
    (card calls b : List ℕ) {o : Opened} {p : Piece} {y : List ℕ} {n : ℕ} {z : List ℕ} → o ≡ opened card → Room b 0 →
    Opens (record { card = o.card; at = 0; line = 1 }) b p y → Put y p.at (left_text calls p.course) n z → Put b 0 (dump_text card calls) n z
put_dump card calls b {o} {p} {y} {n} {z} eo room h q =
    subst (λ (text : List ℕ). Put b 0 text n z) (sym (dump_is card calls))
    (put_both room
    (subst (λ (c : Card). Put b 0 (opening_text (min 64 c.variable_count) (row_of c)) p.at y) (ap (λ (w : Opened). w.card) eo) h.put)
    (subst (λ (c : Course). Put y p.at (left_text calls c) n z) (h.course ∙ ap (λ (w : Opened). start_course (first_state w.card)) eo) q))

pub start_steps : {s : State} {b : List ℕ} {p : Piece} {z : List ℕ} → Opens s b p z → p.course.steps ≤ p.course.session.at
start_steps h = rw h.course (omega arith)

-- ---- pieces: x₀ as the loop began, x as it stands
pub record PrintLoop (t : List ℕ) (x₀ : Course) (b₀ : List ℕ) (x : Course) (n : ℕ) (b : List ℕ) (place : ℕ) : Type 0 where
  pub lines : List ℕ
  pub put : pieces.PrintLoop (part_of t) (course_after t) (commands_left t) x₀ b₀ lines x n b
  pub given : x₀.steps ≤ x₀.session.at → (left_text t x₀ ≡ lines ++ left_text t x) × (x.steps ≤ x.session.at)
  pub here : place ≡ x.session.at
  pub later : x₀.session.at ≤ x.session.at
  pub onward : 0 < n → x₀.session.at < x.session.at

pub print_loop : (t : List ℕ) (x : Course) (b : List ℕ) → length b < largest → PrintLoop t x b x 0 b x.session.at
print_loop t x b h =
    record {
      lines = [];
      put = pieces.print_loop (part_of t) (course_after t) (commands_left t) x b h;
      given = λ l. (refl, l);
      here = refl;
      later = omega arith;
      onward = λ l. omega arith;
    }

module _ {t : List ℕ} {x₀ : Course} {b₀ : List ℕ} {x : Course} {n : ℕ} {b : List ℕ} {place : ℕ} (g : PrintLoop t x₀ b₀ x n b place) (short : length t ≤ largest)
  where
    pub print_loop_length : length b ≡ length b₀
    print_loop_length = pieces.print_loop_length (part_of t) (course_after t) (commands_left t) g.put

    -- what it comes to; a piece that put nothing stops only at the end, or where a command does not fit
    puts :
        {z : List ℕ} → pieces.Stopped (part_of t) (course_after t) (commands_left t) x₀ b₀ g.lines x n z →
        (longest ≤ length b₀ → x₀.session.at < length t → x₀.session.at < x.session.at) → PutsPiece t x₀ b₀ (record { course = x; at = n }) z
    unfolding piece_of
    puts p on =
        record {
          answer = rw (← p.state, ← p.count);
          bytes = p.bytes;
          text = λ l. rw p.front (g.given l).0;
          within = p.within;
          kept = λ l. (g.given l).1;
          onward = on;
        }

    -- no command is left
    pub print_loop_end : length t ≤ place → PutsPiece t x₀ b₀ (record { course = x; at = n }) b
    print_loop_end l =
        puts (pieces.print_loop_end (part_of t) (course_after t) (commands_left t) g.put (commands_end t x.session.at (omega (arith, g.here))))
        (λ _ h. omega (arith, g.here, g.later))

    module _ {r : Piece} {z : List ℕ} (l : place < length t) (p : PutsCommand t x b n r z) where
      inside : x.session.at < length t
      inside = omega (arith, g.here)

      more : commands t x.session.at ≡ command t x.session.at ∷ commands t (next_course t x).session.at
      more = commands_more t x.session.at inside ∙ ap (λ (i : ℕ). command t x.session.at ∷ commands t i) (sym (next_place t x))

      pub print_loop_same : length z ≡ length b₀
      print_loop_same = pieces.print_loop_same (part_of t) (course_after t) (commands_left t) g.put {l = command t x.session.at} refl p.put

      pub print_loop_less : length t - r.course.session.at < length t - place
      print_loop_less =
          let n = next_at t x inside in
          let q = g.here in
          rw p.course (omega arith)

      -- a command that fits
      pub print_loop_again : r.at ≤ length z → PrintLoop t x₀ b₀ r.course r.at z r.course.session.at
      print_loop_again fits =
          let h = inside in
          let k = next_at t x h in
          let m = next_steps t x in
          let j = g.later in
          let past : x₀.session.at < r.course.session.at = rw p.course (omega arith) in
          record {
            lines = g.lines ++ next_text t x;
            put = pieces.print_loop_again (part_of t) (course_after t) (commands_left t) g.put {l = command t x.session.at} refl p.put p.course more fits;
            given = λ q.
                let r₁ = g.given q in
                let s = r₁.1 in (
                  r₁.0 ∙ ap (λ (y : List ℕ). g.lines ++ y) (left_more t x h (omega arith)) ∙ sym
                      (append_assoc g.lines (next_text t x) (left_text t (next_course t x))) ∙ ap (λ (y : Course). (g.lines ++ next_text t x) ++ left_text t y)
                      (sym p.course),
                  rw p.course (omega arith),
                );
            here = refl;
            later = omega arith;
            onward = λ _. past;
          }

      -- a command that does not fit leaves what was put before it
      pub print_loop_stopped : length z < r.at → PutsPiece t x₀ b₀ (record { course = x; at = n }) z
      print_loop_stopped over =
          let near = p.short in
          let same = print_loop_same in
          puts (pieces.print_loop_stopped (part_of t) (course_after t) (commands_left t) g.put {l = command t x.session.at} refl p.put more over)
          (λ k _. g.onward (omega arith))

-- ---- the writer, by the length that a buffer of no bytes tells; d is the buffer after that
module _ (text b : List ℕ) {d : List ℕ} (same : d ≡ b) {e y : List ℕ} {n : ℕ} (p : Put e 0 text n y) (room : length b < largest) where
  module _ (h : n ≤ length d) where
    fits : (length text ≤ length b) × (n ≡ length text)
    fits = (put_fits (length b) room p).0 (rw same at h)

    pub written_bytes : Ok n ≡ written text b
    unfolding written
    written_bytes = rw (le-leb _ _ fits.0) (ap (λ (m : ℕ). Ok m) fits.1)

    pub text_there : {m : ℕ} {z : List ℕ} → Put d 0 text m z → z ≡ written_into text b
    unfolding written_into
    text_there {m} {z} q = put_front fits.0 (subst (λ (x : List ℕ). Put x 0 text m z) same q) ∙ rw (le-leb _ _ fits.0)

  module _ (h : length d < n) where
    long : length b < length text
    long = (put_fits (length b) room p).1 (rw same at h)

    pub written_short : Err ShortBuffer ≡ written text b
    unfolding written
    written_short = rw (lt-leb _ _ long)

    pub bytes_kept : d ≡ written_into text b
    unfolding written_into
    bytes_kept = same ∙ rw (lt-leb _ _ long)

-- the opening of a course
pub opens :
    (s : State) (b : List ℕ) {row : List ℕ} {count at : ℕ} {z : List ℕ} → row ≡ row_of s.card → count ≡ min 64 s.card.variable_count →
    Put b 0 (opening_text count row) at z → Opens s b (record { course = record { session = s; count = count; row = row; steps = 0; told = 0 }; at = at }) z
opens s b er ec p = record { course = rw (er, ec); put = rw (← er, ← ec) p }
