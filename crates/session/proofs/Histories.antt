-- Demand 3 speaks of the session: the card after its lines is the card after the list of entries that its commands name, act by act.
use mathlib.Core.Path.{◌≡◌, refl}
use mathlib.Core.List.{List, [], ◌∷◌, ◌++◌}
use Prim.Native.Nat.{ℕ}
use Rattle.grammar.specs.Writing.{place_after}
use Rattle.construction.specs.declared.card.Card.{Card}
use Rattle.construction.specs.Opening.{opened}
use Rattle.construction.specs.History.{Entry, Observation, observe, observe_all, opening, run}
use Rattle.commands.specs.declared.{Command.Command, Parsed.Parsed}
use Rattle.commands.specs.Commands.{part, commands}
use Rattle.session.specs.Session.{entries_of, execute, after_line, last_state, entries, first_state}

pub card_after_lem :
    (t : List ℕ) (o : Card) (ms : List Parsed) (m : Observation) (at line : ℕ) →
    (last_state t (record { card = m.card; at = at; line = line }) ms).card ≡ (observe_all o m (entries t ms)).card
unfolding last_state entries after_line execute observe observe_all
card_after_lem t o [] m at line = refl
card_after_lem t o (p ∷ ms) m at line = go (λ n. card_after_lem t o ms n p.next (place_after line p.lines)) p.command
  where
    go :
        ((n : Observation) →
        (last_state t (record { card = n.card; at = p.next; line = place_after line p.lines }) ms).card ≡ (observe_all o n (entries t ms)).card) →
        (k : Command) →
        (last_state t (record { card = (execute t m.card k).card; at = p.next; line = place_after line p.lines }) ms).card
        ≡ (observe_all o m (entries_of t k ++ entries t ms)).card
    go h (Command.Call i k x) = h (observe o m (Entry.Call i k x))
    go h (Command.Exit i) = h (observe o m (Entry.Exit i))
    go h (Command.Step i) = h (observe o m (Entry.Step i))
    go h (Command.Trace i) = h (observe o m (Entry.Trace i))
    go h (Command.Read v) = h (observe o m (Entry.Read v))
    go h (Command.Change k from count start end) = h (observe o m (Entry.Change k from (part t start end)))
    go h Command.Malformed = h m

-- a session of a card text and a calls text
pub session_run :
    (card calls : List ℕ) →
    (last_state calls (first_state (opened card).card) (commands calls 0)).card
    ≡ (run (opened card).card (entries calls (commands calls 0))).card
session_run card calls = card_after_lem calls (opened card).card (commands calls 0) (opening (opened card).card) 0 1
