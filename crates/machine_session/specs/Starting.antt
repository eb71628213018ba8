-- Where a session of the program `machines` starts (document 02, order 14; docs/FORMATS.md): the terms, then the cards of the machines from 0 on, then the length
-- of the calls. What is refused prints only its line, past which no request is left.
use Rattle.construction.specs.Types.{Verdict}
use Rattle.std.specs.Prelude.{ℕ, suc, ◌≤◌, cond, ◌≡◌, List, [], ◌∷◌, ◌++◌, length, replicate, ltb, Ok, Err}
use Rattle.grammar.specs.Writing.{Put}
use Rattle.allowance.specs.declared.Allowance.{Allowance}
use Rattle.commands.specs.Printing.{calls_refusal}
use Rattle.shared_processor.specs.Opening.{card_verdict, with_card}
use Rattle.machine_commands.specs.Printing.{longest, terms_refusal, card_refusal}
use Rattle.machine_terms.specs.Terms.{terms}
use Rattle.machine_session.specs.declared.{State.State, Printed.Printed, CardsOpened.CardsOpened}
use Rattle.machine_session.specs.Session.{stage, lines_text}

-- the card of machine m, if it is there
abbrev pub one_verdict : ℕ → ℕ → List ℕ → List ℕ → Verdict
one_verdict count m text bs = cond (ltb m count) (card_verdict text bs m) (Ok tt)

abbrev pub one_blocks : ℕ → ℕ → List ℕ → List ℕ → List ℕ
one_blocks count m text bs = cond (ltb m count) (with_card text bs m) bs

-- the verdict on the cards, and the blocks
pub record Cards : Type 0 where
  pub opened : CardsOpened
  pub blocks : List ℕ

abbrev pub with_verdict : ℕ → Verdict → List ℕ → Cards → Cards
with_verdict m (Ok _) bs rest = rest
with_verdict m (Err e) bs rest = record { opened = record { machine = m; verdict = Err e }; blocks = bs }

-- the cards of machines m, m + 1 and so on; 'the first refused one' ends it
unfoldable pub opened_cards : ℕ → ℕ → List (List ℕ) → List ℕ → Cards
opened_cards count m [] bs = record { opened = record { machine = m; verdict = Ok tt }; blocks = bs }
opened_cards count m (text ∷ texts) bs =
    with_verdict m (one_verdict count m text bs) (one_blocks count m text bs) (opened_cards count (suc m) texts (one_blocks count m text bs))

-- what is printed before any request, and the session then
pub record Beginning : Type 0 where
  pub text : List ℕ
  pub state : State
  pub blocks : List ℕ

abbrev pub over : List ℕ → Allowance → List ℕ → List ℕ → Beginning
over calls a bs text = record { text = text; state = record { allowance = a; at = length calls; line = 1 }; blocks = bs }

abbrev pub calls_beginning : List ℕ → Allowance → List ℕ → Beginning
calls_beginning calls a bs =
    cond (ltb 65536 (length calls)) (over calls a bs calls_refusal)
    (record { text = []; state = record { allowance = a; at = 0; line = 1 }; blocks = bs })

abbrev pub cards_beginning : List ℕ → Allowance → ℕ → Verdict → List ℕ → Beginning
cards_beginning calls a m (Ok _) bs = calls_beginning calls a bs
cards_beginning calls a m (Err e) bs = over calls a bs (card_refusal m (Err e))

abbrev pub opened_beginning : List ℕ → Allowance → Cards → Beginning
opened_beginning calls a x = cards_beginning calls a x.opened.machine x.opened.verdict x.blocks

abbrev pub terms_beginning : List (List ℕ) → List ℕ → Allowance → Verdict → List ℕ → Beginning
terms_beginning cards calls a (Ok _) bs = opened_beginning calls a (opened_cards a.count 0 cards bs)
terms_beginning cards calls a (Err e) bs = over calls a bs (terms_refusal (Err e))

unfoldable pub beginning : List ℕ → List (List ℕ) → List ℕ → List ℕ → Beginning
beginning text cards calls bs = terms_beginning cards calls (terms text).allowance (terms text).verdict bs

-- the whole session: what the program `machines` prints, with every word 0 at first
unfoldable pub session : List ℕ → List (List ℕ) → List ℕ → List ℕ
session text cards calls =
    let x = beginning text cards calls (replicate 5824 0) in
    x.text ++ lines_text calls (stage x.state x.blocks (replicate 3072 0))

-- Starting a session with a buffer: what is printed, the session and the blocks after it, and the buffer.
pub record Starts (text : List ℕ) (cards : List (List ℕ)) (calls bs b : List ℕ) (r : Printed) (bs' z : List ℕ) : Type 0 where
  pub state : r.state ≡ (beginning text cards calls bs).state
  pub blocks : bs' ≡ (beginning text cards calls bs).blocks
  pub put : Put b 0 (beginning text cards calls bs).text r.length z
  pub short : r.length ≤ longest
