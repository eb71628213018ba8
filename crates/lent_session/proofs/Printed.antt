-- The lines of a session, by what is put into a buffer.
use Rattle.std.specs.Prelude.{Ok, Err}
use Prim.Native.Nat.{ℕ, ◌<◌, ◌≤◌}
use mathlib.Core.List.{List, []}
use mathlib.Core.Path.{◌≡◌, refl, sym, ◌∙◌, ap}
use native.Mathlib.Omega.{arith}
use borrow.Author.Tests.{lt-ltb, le-ltb}
use lib.ListN.{length, take}
use lib.Seq.{length-take-le, length-sets}
use Rattle.grammar.specs.Writing.{Put}
use Rattle.grammar.specs.Pieces.{Gathered}
use Rattle.construction.specs.declared.{card.Card.Card, answers.Refusal.Refusal}
use Rattle.construction.specs.Types.{Verdict}
use Rattle.construction.specs.declared.texts.RefusedAt.{RefusedAt}
use Rattle.commands.specs.declared.Command.{Command}
use Rattle.commands.specs.Printing.{line_text, longest, card_refusal, calls_refusal}
use Rattle.session.specs.declared.State.{State}
use Rattle.session.specs.Session.{first_state, over_state, verdict_beginning}
use Rattle.block.specs.Cards.{card_of}
use Rattle.lent_text.specs.Opened.{opened_block, Opens}
use Rattle.lent_steps.specs.declared.tracing.Told.{Told}
use Rattle.lent_session.specs.Answering.{lent_executed, Executes}
use Rattle.lent_session.specs.Printing.{lent_beginning, Starts, Prints}

-- what is printed before any command
module _ (calls : List ℕ) (x : Card) {w : Verdict} where
  after_refusal :
      {refused : RefusedAt} → w ≡ Err refused →
      verdict_beginning calls x w ≡ record { text = card_refusal (Err refused); state = over_state calls x }
  after_refusal e = rw e

  after_long : w ≡ Ok tt → 65536 < length calls → verdict_beginning calls x w ≡ record { text = calls_refusal; state = over_state calls x }
  after_long e h = rw (e, lt-ltb 65536 (length calls) h)

  after_opening : w ≡ Ok tt → length calls ≤ 65536 → verdict_beginning calls x w ≡ record { text = []; state = first_state x }
  after_opening e h = rw (e, le-ltb 65536 (length calls) h)

module _ (card calls b u : List ℕ) {v : Verdict} {c : List ℕ} (o : Opens card b v c) where
  starts_with :
      {g : Gathered State} {n at : ℕ} {z : List ℕ} → lent_beginning card calls b ≡ g → Put u 0 g.text n z → n ≤ longest → at ≡ g.state.at →
      Starts card calls b u (record { length = n; at = at }) c z
  starts_with e p s a =
      record {
        block = o.words;
        text = rw (ap (λ (h : Gathered State). h.text) e) p;
        place = a ∙ ap (λ (h : Gathered State). h.state.at) (sym e);
        short = s;
      }

  pub starts_refused :
      {refused : RefusedAt} {n : ℕ} {z : List ℕ} → v ≡ Err refused → Put u 0 (card_refusal (Err refused)) n z × (n ≤ longest) →
      Starts card calls b u (record { length = n; at = length calls }) c z
  starts_refused e p = starts_with (after_refusal calls (card_of (opened_block card b) []) (sym o.answer ∙ e)) p.0 p.1 refl

  pub starts_long :
      {n : ℕ} {z : List ℕ} → v ≡ Ok tt → 65536 < length calls → Put u 0 calls_refusal n z × (n ≤ longest) →
      Starts card calls b u (record { length = n; at = length calls }) c z
  starts_long e h p = starts_with (after_long calls (card_of (opened_block card b) []) (sym o.answer ∙ e) h) p.0 p.1 refl

  pub starts : v ≡ Ok tt → length calls ≤ 65536 → Starts card calls b u (record { length = 0; at = 0 }) c u
  starts e h =
      starts_with (after_opening calls (card_of (opened_block card b) []) (sym o.answer ∙ e) h) (record { place = refl; bytes = refl }) (omega arith) refl

-- the line of a command
pub prints :
    (t b l u : List ℕ) (m : Command) (line : ℕ) {r : Told} {c k z : List ℕ} {n : ℕ} → Executes (lent_executed t b l m) r c k →
    Put u 0 (line_text line m r.report r.answer) n z × (n ≤ longest) → Prints t m line b l u n c k z
prints t b l u m line e p = record { block = e.block; loan = e.loan; text = rw e.told at p.0; short = p.1 }

-- what was put stands in the buffer
pub put_count_lem : {u x : List ℕ} {n : ℕ} {z : List ℕ} → Put u 0 x n z → n ≤ length u → n ≡ length (take n z)
put_count_lem {u} {x} {n} {z} p h =
    let e : length z ≡ length u = ap length p.bytes ∙ length-sets u 0 x in
    sym (length-take-le n z (omega arith))
