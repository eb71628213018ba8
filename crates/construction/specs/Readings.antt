-- What has been read of a text so far (document 01, 'The card text' and 'Turned back'): the verdict, what was read, the place of the next line and its number.
-- A refused text has read the empty card, or no program.
use Rattle.std.specs.Prelude.{ℕ, Result, Ok, Err}
use Rattle.construction.specs.Types.{Program, Contents, Verdict, RefusedAt}

-- one program
pub record ProgramReading : Type 0 where
  pub verdict : Verdict
  pub program : Program
  pub at : ℕ
  pub line : ℕ

-- a card text
pub record Reading : Type 0 where
  pub verdict : Verdict
  pub contents : Contents
  pub at : ℕ
  pub line : ℕ

-- what code gives of a reading: what was read, or why and at which line the text is refused; and the verdict of that
abbrev pub given : {T : Type 0} → Verdict → T → Result T RefusedAt
given (Ok _) x = Ok x
given (Err e) x = Err e

abbrev pub verdict_of : {T : Type 0} → Result T RefusedAt → Verdict
verdict_of (Ok _) = Ok tt
verdict_of (Err e) = Err e
