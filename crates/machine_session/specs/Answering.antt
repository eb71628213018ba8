-- The answer to a request of a calls text (document 02, order 14), the allowance and the words after it. A malformed command is refusal 2 and leaves all as it
-- was. Every loan has 768 words, as many as a card takes at most.
use Rattle.std.specs.Prelude.{ℕ, List, [], ◌∷◌, ◌≡◌}
use Rattle.construction.specs.declared.answers.Answer.{Answer}
use Rattle.construction.specs.declared.answers.Refusal.TheVariants.{Malformed}
use Rattle.construction.specs.Tracing.{no_report}
use Rattle.construction.specs.History.{Entry}
use Rattle.commands.specs.declared.Command.{Command}
use Rattle.session.specs.Session.{entries_of}
use Rattle.allowance.specs.declared.Allowance.{Allowance}
use Rattle.allowance.specs.Allowing.{turn}
use Rattle.lent_runs.specs.Runs.{Reply}
use Rattle.shared_processor.specs.declared.stepping.Traced.{Traced}
use Rattle.shared_processor.specs.Requests.{reply_to, allowance_after, blocks_after, loans_after}
use Rattle.machine_commands.specs.declared.Request.{Request}

-- what is told, and the words
pub record Executed : Type 0 where
  pub told : Traced
  pub blocks : List ℕ
  pub loans : List ℕ

abbrev pub untold : Allowance → Answer → Traced
untold a x = record { allowance = a; answer = x; report = no_report }

abbrev pub told_of : Allowance → Reply → Traced
told_of a r = record { allowance = a; answer = r.answer; report = r.report }

-- the entry that a command names, to machine m
abbrev pub perform_entries : Allowance → List ℕ → List ℕ → ℕ → List Entry → Executed
perform_entries a bs ls m [] = record { told = untold a (Answer.Refused Malformed); blocks = bs; loans = ls }
perform_entries a bs ls m (e ∷ es) =
    record {
      told = told_of (allowance_after a 768 bs ls m e) (reply_to a 768 bs ls m e);
      blocks = blocks_after a 768 bs ls m e;
      loans = loans_after a 768 bs ls m e;
    }

unfoldable pub performed : List ℕ → Allowance → List ℕ → List ℕ → ℕ → Command → Executed
performed t a bs ls m c = perform_entries a bs ls m (entries_of t c)

unfoldable pub executed : List ℕ → Allowance → List ℕ → List ℕ → Request → Executed
executed t a bs ls (Request.To m c) = performed t a bs ls m c
executed t a bs ls Request.Turn = record { told = untold (turn a) Answer.Taken; blocks = bs; loans = ls }

-- the answer r, and the words that are left
pub record Executes (x : Executed) (r : Traced) (bs ls : List ℕ) : Type 0 where
  pub told : r ≡ x.told
  pub blocks : bs ≡ x.blocks
  pub loans : ls ≡ x.loans
