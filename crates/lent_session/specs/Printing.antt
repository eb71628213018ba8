-- What a session on a card in lent words prints: that of the bench program, by the definitions of the crates session and commands.
use Rattle.std.specs.Prelude.{ℕ, ◌≤◌, List, [], ◌≡◌}
use Rattle.grammar.specs.Writing.{Put}
use Rattle.grammar.specs.Pieces.{Gathered}
use Rattle.construction.specs.Opening.{read_card}
use Rattle.commands.specs.declared.Command.{Command}
use Rattle.commands.specs.Printing.{line_text, longest}
use Rattle.session.specs.declared.State.{State}
use Rattle.session.specs.Session.{verdict_beginning}
use Rattle.block.specs.Cards.{card_of}
use Rattle.lent_text.specs.Opened.{opened_block, judged}
use Rattle.lent_session.specs.declared.Begun.{Begun}
use Rattle.lent_session.specs.Answering.{lent_executed}

-- what is printed before any command, by the verdict on the card text and the block
abbrev pub lent_beginning : List ℕ → List ℕ → List ℕ → Gathered State
lent_beginning card calls b = verdict_beginning calls (card_of (opened_block card b) []) (judged (read_card card).verdict b)

-- the answer r, and the block c and the buffer z that are left of the block b and the buffer u
pub record Starts (card calls b u : List ℕ) (r : Begun) (c z : List ℕ) : Type 0 where
  pub block : c ≡ opened_block card b
  pub text : Put u 0 (lent_beginning card calls b).text r.length z
  pub place : r.at ≡ (lent_beginning card calls b).state.at
  pub short : r.length ≤ longest

-- the line of the command m, with the number `line`
pub record Prints (t : List ℕ) (m : Command) (line : ℕ) (b l u : List ℕ) (r : ℕ) (c k z : List ℕ) : Type 0 where
  pub block : c ≡ (lent_executed t b l m).block
  pub loan : k ≡ (lent_executed t b l m).loan
  pub text : Put u 0 (line_text line m (lent_executed t b l m).told.report (lent_executed t b l m).told.answer) r z
  pub short : r ≤ longest
