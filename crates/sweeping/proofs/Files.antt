-- The files of a sweep judged one after the other.
use Rattle.std.specs.Prelude.{Ok, Err}
use Prim.Native.Nat.{ℕ, ◌<◌, ◌≤◌}
use mathlib.Core.Path.{◌≡◌, refl}
use mathlib.Core.List.{List}
use lib.ListN.{length}
use borrow.Author.Tests.{lt-ltb, le-ltb}
use Rattle.grammar.specs.Writing.{Put}
use Rattle.construction.specs.Types.{Verdict}
use Rattle.construction.specs.declared.texts.RefusedAt.{RefusedAt}
use Rattle.calls.specs.declared.WrongLine.{WrongLine}
use Rattle.calls.specs.Texts.{Calls as CallsOf, calls_of, line_refusal}
use Rattle.commands.specs.Printing.{longest, card_refusal, calls_refusal}
use Rattle.block.specs.Layout.{process_count_in}
use Rattle.lent_text.specs.Opened.{Opens}
use Rattle.sweeping.specs.declared.Started.{Started}
use Rattle.sweeping.specs.Starting.{Calls, over, stopped, calls_starting, starting, Starts}

-- a text put into the buffer, and how long it is at most
abbrev Line : List ℕ → List ℕ → ℕ → List ℕ → Type 0
Line buffer text n z = Put buffer 0 text n z × (n ≤ longest)

stops :
    {card calls b buffer b₁ z : List ℕ} {n : ℕ} {r : Started} (text : List ℕ) → starting card calls b ≡ stopped text b₁ → Line buffer text n z → r ≡ over n →
    Starts card calls b buffer r b₁ z
stops text e p er = rw er (record { put = rw e p.0; short = p.1; block = rw e refl; table = rw e refl })

module _ {card b buffer b₁ z : List ℕ} (calls : List ℕ) {v : Verdict} {n : ℕ} (o : Opens card b v b₁) where
  pub card_refused : {refused : RefusedAt} {r : Started} → v ≡ Err refused → Line buffer (card_refusal (Err refused)) n z →
      r ≡ over n → Starts card calls b buffer r b₁ z
  unfolding starting
  card_refused {refused} e p er = stops (card_refusal (Err refused)) (rw (← o.answer, e, ← o.words) refl) p er

  pub calls_long : {r : Started} → v ≡ Ok tt → 65536 < length calls → Line buffer calls_refusal n z → r ≡ over n → Starts card calls b buffer r b₁ z
  unfolding starting
  calls_long e h p er = stops calls_refusal (rw (← o.answer, e, ← o.words, lt-ltb 65536 (length calls) h) refl) p er

-- the lines of the calls
read :
    {card b b₁ : List ℕ} (calls : List ℕ) {v : Verdict} {k : ℕ} {x : CallsOf} → Opens card b v b₁ → v ≡ Ok tt → length calls ≤ 65536 →
    k ≡ process_count_in b₁ →
    x ≡ calls_of calls k → starting card calls b ≡ calls_starting b₁ x
unfolding starting
read calls o e h ek ex = rw (← o.answer, e, ← o.words, le-ltb 65536 (length calls) h, ← ek, ← ex) refl

module _
    {card b buffer b₁ z : List ℕ} (calls : List ℕ) {v : Verdict} {n k : ℕ} {x : CallsOf} (o : Opens card b v b₁) (e : v ≡ Ok tt)
    (h : length calls ≤ 65536)
    (ek : k ≡ process_count_in b₁) (ex : x ≡ calls_of calls k)
  where
    pub line_refused :
        {wrong : WrongLine} {r : Started} → x ≡ Err wrong → Line buffer (line_refusal wrong.line) n z → r ≡ over n →
        Starts card calls b buffer r b₁ z
    line_refused {wrong} l p er = stops (line_refusal wrong.line) (rw l at (read calls o e h ek ex)) p er

    pub starts :
        {words b' : List ℕ} → x ≡ Ok words → Calls words b₁ buffer n b' z → Starts card calls b buffer (record { length = n; table = words }) b' z
    starts l m =
        let s = rw l at (read calls o e h ek ex) in
        record { put = rw s m.put; short = m.short; block = rw s m.block; table = rw s refl }
