-- What code gives of a reading: what was read, the place of the next line and its number, or why and at which line the text is refused
use Rattle.std.specs.Prelude.{Result, Ok, Err}
use Rattle.construction.specs.declared.answers.Refusal.{Refusal}
use Rattle.construction.specs.declared.answers.Refusal.TheVariants.{Malformed}
use Rattle.construction.specs.declared.{programs.Program.Program, texts.Contents.Contents, texts.RefusedAt.RefusedAt}
use Rattle.construction.specs.Readings.{ProgramReading, Reading, given}
use Rattle.reader.specs.declared.Read.{Read}

abbrev pub contents_told : Reading → Result (Read Contents) RefusedAt
contents_told r = given r.verdict (record { value = r.contents; at = r.at; line = r.line })

abbrev pub program_told : ProgramReading → Result (Read Program) RefusedAt
program_told r = given r.verdict (record { value = r.program; at = r.at; line = r.line })

-- the refusal of a line that was read; Malformed where there is none
abbrev pub refusal_of : {A : Type 0} → Result A Refusal → Refusal
refusal_of (Ok x) = Malformed
refusal_of (Err why) = why
