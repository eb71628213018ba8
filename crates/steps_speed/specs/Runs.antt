-- The calls and steps that steps_speed makes, as one run of the requests of document 01.
use Rattle.std.specs.Prelude.{ℕ, zero, suc, ◌+◌, ◌%◌, cond}
use Rattle.construction.specs.declared.{cells.Words.Words, card.Card.Card, answers.Answer.Answer, answers.Answered.Answered}
use Rattle.construction.specs.Answers.{is_run}
use Rattle.construction.specs.Requests.{call, step}
use Rattle.xorshift.specs.Xorshift.{next}

abbrev pub seed : ℕ
seed = 88172645463325252

abbrev pub inputs_of : ℕ → Words
inputs_of input = record { w0 = input; w1 = 0; w2 = 0; w3 = 0 }

-- the card before its first request
abbrev pub opened : Card → Answered
opened c = record { card = c; answer = Answer.Taken }

-- a call of the one program
abbrev pub called : Answered → ℕ → ℕ → Answered
called a process input = call a.card process 0 (inputs_of input)

-- the next processes are refused a step, and called
unfoldable pub called_from : ℕ → ℕ → Answered → Answered
called_from zero process a = a
called_from (suc left) process a = called_from left (process + 1) (called (step a.card process) process process)

-- a call where the operation returned
abbrev pub again : Answered → ℕ → ℕ → Answered
again a process input = cond (is_run a.answer) a (called a process input)

-- so many steps more: number k is one of the process that the next random number gives
unfoldable pub run_from : ℕ → ℕ → ℕ → Answered → Answered
run_from zero k random a = a
run_from (suc left) k random a =
    let x = next random in run_from left (k + 1) x (again (step a.card (x % 8)) (x % 8) (k % 4294967296))
