-- What the program prints instead of a listing, in the sequence in which the files are judged, and the card of one that is made.
use Rattle.std.specs.Prelude.{ℕ, ◌≤◌, ◌≡◌, Bool, true, false, cond, not, List, [], ◌∷◌, ◌++◌, length, ltb, Ok, Err}
use Rattle.grammar.specs.Writing.{Put}
use Rattle.construction.specs.declared.{card.Card.Card}
use Rattle.construction.specs.Answers.{bytes, refused_with, fields_text}
use Rattle.construction.specs.Opening.{opened}
use Rattle.construction.specs.History.{run}
use Rattle.construction.specs.Types.{Verdict}
use Rattle.commands.specs.Printing.{card_refusal, calls_refusal}
use Rattle.executions.specs.Schedules.{calls_of}
use Rattle.executions.specs.Listings.{is_callable, is_listable}
use Rattle.calls.specs.Tables.{requests_in}
use Rattle.calls.specs.Texts.{Calls, calls_of as calls_in, line_refusal}
use Rattle.schedule_files.specs.declared.Prepared.{Prepared}

-- `schedules,refused,NUMBER`
unfoldable pub refusal_line : ℕ → List ℕ
refusal_line n = bytes "schedules" ++ (fields_text (refused_with n) ++ (10 ∷ []))

-- the printed text, whether there is a listing, and the card
pub record Preparation : Type 0 where
  pub text : List ℕ
  pub ready : Bool
  pub card : Card

abbrev pub refused_by : List ℕ → Card → Preparation
refused_by t c = record { text = t; ready = false; card = c }

abbrev pub judged_calls : Card → Calls → ℕ → Preparation
judged_calls c (Ok words) L =
    cond (not (is_callable c (requests_in words))) (refused_by (refusal_line 6) c)
    (cond (not (is_listable c L)) (refused_by (refusal_line 17) c)
    (record { text = []; ready = true; card = (run c (calls_of c (requests_in words))).card }))
judged_calls c (Err wrong) L = refused_by (line_refusal wrong.line) c

abbrev pub judged_card : Verdict → Card → List ℕ → ℕ → Preparation
judged_card (Ok _) c calls L =
    cond (ltb 65536 (length calls)) (refused_by calls_refusal c) (judged_calls c (calls_in calls c.process_count) L)
judged_card (Err e) c calls L = refused_by (card_refusal (Err e)) c

unfoldable pub preparation : List ℕ → List ℕ → ℕ → Preparation
preparation card calls L = judged_card (opened card).verdict (opened card).card calls L

-- what is told of it, with the buffer; no such line is longer than the longest of the bench program
pub record PreparedAs (p : Preparation) (b : List ℕ) (r : Prepared) (z : List ℕ) : Type 0 where
  pub put : Put b 0 p.text r.length z
  pub short : r.length ≤ 269
  pub ready : r.ready ≡ p.ready
  pub card : r.card ≡ p.card

abbrev pub Prepares : List ℕ → List ℕ → ℕ → List ℕ → Prepared → List ℕ → Type 0
Prepares card calls L b r z = PreparedAs (preparation card calls L) b r z
