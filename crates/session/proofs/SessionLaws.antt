-- The lines of a session one after the other, and the pieces that a buffer takes of them.
use Rattle.std.specs.Prelude.{Ok, Err}
use mathlib.Core.Path.{◌≡◌, refl, sym, ◌∙◌, ap}
use mathlib.Core.List.{List, [], ◌∷◌, ◌++◌, append_assoc, append-nil}
use Prim.Native.Nat.{ℕ, ◌+◌, ◌-◌, ◌<◌, ◌≤◌}
use lib.ListN.{length, take}
use lib.Seq.{length-take-le, length-sets}
use native.Mathlib.Omega.{arith}
use borrow.Author.Tests.{lt-ltb}
use Rattle.grammar.specs.Writing.{place_after, largest, Put}
use Rattle.grammar.proofs.Puts.{front_text}
use Rattle.grammar.proofs.Pieces as pieces
use Rattle.construction.specs.declared.{card.Card.Card, answers.Refusal.Refusal, answers.Traced.Traced, texts.Opened.Opened}
use Rattle.construction.specs.Opening.{opened}
use Rattle.construction.specs.Answers.{answer_fields}
use Rattle.construction.specs.Types.{told_at}
use Rattle.commands.specs.declared.{Command.Command, Parsed.Parsed}
use Rattle.commands.specs.Commands.{Inside, command, commands}
use Rattle.commands.specs.CommandFields.{command_fields}
use Rattle.commands.specs.Printing.{line_text, longest, card_refusal, calls_refusal}
use Rattle.commands.proofs.CommandsLaws.{command_past, commands_end, commands_more}
use Rattle.session.specs.declared.{State.State, Printed.Printed}
use Rattle.session.specs.Session.{execute, line_of, after_line, advanced, lines_of, lines_text, commands_left, printed, Prints}
use Rattle.session.specs.Session.{over_state, verdict_beginning, beginning, session, Starts}

-- a malformed command is answered as its fields say
pub malformed_refused : (t : List ℕ) (c : Card) → answer_fields (execute t c Command.Malformed).answer ≡ command_fields Command.Malformed
unfolding execute answer_fields command_fields
malformed_refused t c = refl

-- a command carried out; m, a and l are what the code computes
pub advances :
    (t : List ℕ) (s : State) {m : Parsed} {a : Traced} {l : ℕ} → m ≡ command t s.at → a ≡ execute t s.card m.command →
    l ≡ place_after s.line m.lines →
    record { state = record { card = a.card; at = m.next; line = l }; command = m.command; answer = a.answer } ≡ advanced t s
unfolding advanced after_line
advances t s em ea el = rw (← em, ← ea, ← el)

-- the text of a change lies in the calls text
pub inside :
    (t : List ℕ) {m : Command} {k from count start end : ℕ} → m ≡ Command.Change k from count start end → Inside t m →
    (start ≤ end) × (end ≤ length t)
inside t e h = rw e at h

-- ---- the loop that prints: s₀ and b₀ as it began, s and b as they stand, n bytes printed
pub record PrintLoop (t : List ℕ) (s₀ : State) (b₀ : List ℕ) (s : State) (n : ℕ) (b : List ℕ) : Type 0 where
  pub lines : List ℕ
  pub put : pieces.PrintLoop (line_of t) (after_line t) (commands_left t) s₀ b₀ lines s n b
  pub text : lines_text t s₀ ≡ lines ++ lines_text t s
  pub later : s₀.at ≤ s.at
  pub onward : 0 < n → s₀.at < s.at

pub print_loop : (t : List ℕ) (s : State) (b : List ℕ) → length b < largest → PrintLoop t s b s 0 b
print_loop t s b small =
    record {
      lines = [];
      put = pieces.print_loop (line_of t) (after_line t) (commands_left t) s b small;
      text = refl;
      later = omega arith;
      onward = λ l. omega arith;
    }

module _ {t : List ℕ} {s₀ : State} {b₀ : List ℕ} {s : State} {n : ℕ} {b : List ℕ} (g : PrintLoop t s₀ b₀ s n b) where
  pub same : length b ≡ length b₀
  same = pieces.print_loop_length (line_of t) (after_line t) (commands_left t) g.put

  -- what it comes to
  prints :
      {z : List ℕ} → pieces.Stopped (line_of t) (after_line t) (commands_left t) s₀ b₀ g.lines s n z →
      (longest ≤ length b₀ → s₀.at < length t → s₀.at < s.at) → Prints t s₀ b₀ (record { state = s; length = n }) z
  unfolding printed
  prints p on =
      record {
        answer = rw (← p.state, ← p.count);
        bytes = p.bytes;
        text = rw p.front g.text;
        within = g.put.within;
        onward = on;
      }

  -- the loop ends at the end of the calls
  pub ended : length t ≤ s.at → Prints t s₀ b₀ (record { state = s; length = n }) b
  ended h = prints (pieces.print_loop_end (line_of t) (after_line t) (commands_left t) g.put (commands_end t s.at h)) (λ k l. omega (arith, g.later))

  -- a turn; m, a and z are what the code computes
  module _
      (h : s.at < length t) {m : Parsed} {a : Traced} {e : ℕ} {z : List ℕ} (em : m ≡ command t s.at) (ea : a ≡ execute t s.card m.command)
      (p : Put b n (line_text s.line m.command a.report a.answer) e z × (e ≤ n + longest)) where
    more : commands t s.at ≡ m ∷ commands t m.next
    more = rw em (commands_more t s.at h)

    past : s.at < m.next
    past = rw em (command_past t s.at h)

    the_line : line_text s.line m.command a.report a.answer ≡ line_of t s m
    unfolding line_of
    the_line = rw (← ea)

    pub stopped_length : length z ≡ length b₀
    stopped_length = pieces.print_loop_same (line_of t) (after_line t) (commands_left t) g.put the_line p.0

    pub less : length t - m.next < length t - s.at
    less = let l = past in omega arith

    -- the line fits
    pub again :
        {l : ℕ} → l ≡ place_after s.line m.lines → e ≤ length z → PrintLoop t s₀ b₀ (record { card = a.card; at = m.next; line = l }) e z
    unfolding lines_text lines_of after_line
    again {l} el fits =
        let lp = past in
        let k = g.later in
        record {
          lines = g.lines ++ line_of t s m;
          put = pieces.print_loop_again (line_of t) (after_line t) (commands_left t) g.put the_line p.0 (rw (← ea, ← el)) more fits;
          text = g.text ∙ rw (append_assoc, more, ← ea, ← el);
          later = omega arith;
          onward = λ _. omega arith;
        }

    -- the line does not fit
    pub stopped : length z < e → Prints t s₀ b₀ (record { state = s; length = n }) z
    stopped over =
        let near = p.1 in
        let lz = stopped_length in
        prints (pieces.print_loop_stopped (line_of t) (after_line t) (commands_left t) g.put the_line p.0 more over) (λ k _. g.onward (omega arith))

-- ---- the start of a session
pub starts :
    {card calls b : List ℕ} {o : Opened} {r : Printed} {z x : List ℕ} {s : State} {n : ℕ} → o ≡ opened card → Put b 0 x n z × (n ≤ longest) →
    r ≡ record { state = s; length = n } → verdict_beginning calls o.card o.verdict ≡ record { text = x; state = s } → Starts card calls b r z
unfolding beginning session
starts {card} {calls} {b} {o} {r} {z} {x} {s} e p q f =
    let g : beginning card calls ≡ record { text = x; state = s } = rw (← e) f in
    let short = p.1 in
    record {
      begins = rw (q, g) (record { state = refl; put = p.0; short = short });
      text = λ l. rw (q, g, front_text p.0 (omega arith) (omega arith));
    }

-- a refused card prints its line only, and so do calls over the limit
module _ (card calls : List ℕ) where
  over : (c : Card) → lines_text calls (over_state calls c) ≡ []
  unfolding lines_text lines_of
  over c = rw (commands_end calls (length calls) (omega arith))

  pub only_card_refusal :
      {why : Refusal} {line : ℕ} → (opened card).verdict ≡ Err (told_at why line) → session card calls ≡ card_refusal (Err (told_at why line))
  unfolding session beginning
  only_card_refusal {why} {line} e = rw (e, over) (append-nil (card_refusal (Err (told_at why line))))

  pub only_calls_refusal : (opened card).verdict ≡ Ok tt → 65536 < length calls → session card calls ≡ calls_refusal
  unfolding session beginning
  only_calls_refusal e h = rw (e, lt-ltb 65536 (length calls) h, over) (append-nil calls_refusal)

-- ---- what a caller needs of a buffer that was printed into: the printed bytes stand in it
module _ {t : List ℕ} {s : State} {b : List ℕ} {r : Printed} {z : List ℕ} (p : Prints t s b r z) where
  pub prints_count : r.length ≡ length (take r.length z)
  prints_count =
      let e : length z ≡ length b = ap length p.bytes ∙ pieces.piece_length (line_of t) (after_line t) (commands_left t) s b in
      let h = p.within in
      sym (length-take-le r.length z (omega arith))

pub starts_count : {card calls b : List ℕ} {r : Printed} {z : List ℕ} → Starts card calls b r z → longest ≤ length b → r.length ≡ length (take r.length z)
starts_count {card} {calls} {b} {r} {z} p h =
    let e : length z ≡ length b = ap length p.begins.put.bytes ∙ length-sets b 0 (beginning card calls).text in
    let l = p.begins.short in
    sym (length-take-le r.length z (omega arith))
