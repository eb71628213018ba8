-- Listings by computation (document 02, order 13): card K alone, which finishes early; two processes; the refusals in their sequence; the empty card.
use Rattle.std.specs.Prelude.{Ok, Err}
use mathlib.Core.Path.{◌≡◌, refl}
use mathlib.Core.List.{List, [], ◌∷◌, ◌++◌}
use Prim.Native.Nat.{ℕ}
use Rattle.executions.specs.declared.Request.{Request}
use Rattle.construction.specs.declared.answers.Refusal.TheVariants.{NoProgram, TooLarge, ShortBuffer}
use Rattle.construction.specs.Answers.{bytes, answer_fields, fields_text, numbers_text}
use Rattle.construction.specs.Opening.{opened}
use Rattle.executions.specs.Schedules.{is_quiet, branches, listing, calls_from, schedules}
use Rattle.executions.specs.Listings.{numbers_together, answers_text, lines_after, listing_text, are_callable, listed, listed_into}
use Rattle.construction.specs.Examples.Terms.{one}
use Rattle.construction.specs.Examples.Pieces.{body_k, card_k, card_k2, body_fault}
use Rattle.construction.proofs.Statements.Computing.{observing}

-- calls of program k with input x
abbrev calling : ℕ → ℕ → Request
calling k x = record { program = k; inputs = one x }

-- card K with 4 processes, and with a step limit of 3
abbrev card_k4 : List ℕ
card_k4 = bytes "card,4,1,1,100\n" ++ body_k

abbrev card_short : List ℕ
card_short = bytes "card,1,1,1,3\n" ++ body_k

pub record Computed : Type 0 where
  -- one schedule of 14 steps, whether 14 or 16 are allowed
  pub alone :
      listing_text (opened card_k).card (calling 0 9 ∷ []) 16
      ≡ bytes "00000000000000,run,run,run,run,run,run,run,run,run,run,run,run,run,done,1,7,0,0,0,14\n"
  -- a fault ends a schedule early too
  pub faulty :
      listing_text (opened (bytes "card,1,1,1,100\n" ++ body_fault)).card (calling 0 9 ∷ []) 16
      ≡ bytes "0000000000000,run,run,run,run,run,run,run,run,run,run,run,run,fault,1,0,0,0,0,13\n"
  pub two :
      listing_text (opened card_k2).card (calling 0 9 ∷ calling 0 5 ∷ []) 2
      ≡ bytes "00,run,run\n01,run,run\n10,run,run\n11,run,run\n"
  -- a sheet that is not there goes before too many processes
  pub six : listed (opened card_k4).card (calling 0 9 ∷ calling 0 9 ∷ calling 0 9 ∷ calling 1 9 ∷ []) 17 [] ≡ Err NoProgram
  pub seventeen : listed (opened card_k4).card (calling 0 9 ∷ calling 0 9 ∷ calling 0 9 ∷ calling 0 9 ∷ []) 2 [] ≡ Err TooLarge
  pub long : listed (opened card_k).card (calling 0 9 ∷ []) 17 [] ≡ Err TooLarge
  pub limited : listed (opened card_short).card (calling 0 9 ∷ []) 4 [] ≡ Err TooLarge
  -- a step limit equal to L lists; a buffer one byte short keeps its bytes, one byte too long keeps the last
  pub whole : listed (opened card_short).card (calling 0 9 ∷ []) 3 (bytes "0123456789abcdef\n.") ≡ Ok 16
  pub put : listed_into (opened card_short).card (calling 0 9 ∷ []) 3 (bytes "0123456789abcdef.") ≡ bytes "000,run,run,run\n."
  pub short : listed (opened card_short).card (calling 0 9 ∷ []) 3 (bytes "0123456789abcde") ≡ Err ShortBuffer
  pub kept : listed_into (opened card_short).card (calling 0 9 ∷ []) 3 (bytes "0123456789abcde") ≡ bytes "0123456789abcde"
  -- the empty card of a refused text
  pub empty : listed_into (opened []).card [] 0 (bytes "..") ≡ bytes "\n."
  pub none : listed (opened []).card [] 1 (bytes "..") ≡ Err TooLarge

pub computed : Computed
unfolding observing listed listed_into listing_text schedules listing branches is_quiet calls_from numbers_together answers_text lines_after are_callable answer_fields
    fields_text numbers_text
computed =
    record {
      alone = refl;
      faulty = refl;
      two = refl;
      six = refl;
      seventeen = refl;
      long = refl;
      limited = refl;
      whole = refl;
      put = refl;
      short = refl;
      kept = refl;
      empty = refl;
      none = refl;
    }
