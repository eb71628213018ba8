-- The numbers of a command are 32-bit words: what a field cannot hold is malformed.
use Prim.Native.Nat.{ℕ, ◌<◌}
use mathlib.Core.List.{List}
use Rattle.construction.specs.declared.cells.Words.{Words}
use Rattle.construction.specs.Cells.{FitsWords}
use Rattle.commands.specs.declared.{Verb.Verb, Command.Command, Parsed.Parsed}
use Rattle.std.specs.Prelude.{Option, Some, None}
use Rattle.std.specs.Option.{option_map}
use Rattle.grammar.specs.declared.Found.{Found}
use Rattle.commands.specs.Commands.{one_line, word, malformed, with_number, numbered, call_at, change_at, parsed_at, fields_at, verb_at, command}
use Rattle.commands.proofs.CommandsLaws.{OnSome, on_unwrap, on_word}

-- the program and the inputs of a call
pub record FitsCall (k : ℕ) (x : Words) : Type 0 where
  pub program : k < 4294967296
  pub inputs : FitsWords x

abbrev pub FitsCommand : Command → Type 0
FitsCommand (Command.Call i k x) = FitsCall k x
FitsCommand (Command.Exit i) = Unit
FitsCommand (Command.Step i) = Unit
FitsCommand (Command.Trace i) = Unit
FitsCommand (Command.Read v) = Unit
FitsCommand (Command.Change k from count start end) = Unit
FitsCommand Command.Malformed = Unit

abbrev Fits : Option Parsed → Type 0
Fits o = OnSome (λ m. FitsCommand m.command) o

numbered_fits : (t : List ℕ) (v : Verb) (at : ℕ) → ((x : ℕ) → FitsCommand (with_number v x)) → Fits (numbered t v at)
numbered_fits t v at p = by (word t 10 at)
  where
    by : (w : Option (Found ℕ)) → Fits (option_map (λ x. one_line (with_number v x.value) x.next) w)
    by None = tt
    by (Some x) = p x.value

parsed_fits : (t : List ℕ) (verb : Verb) (at : ℕ) → Fits (parsed_at t verb at)
unfolding parsed_at call_at change_at
parsed_fits t Verb.Call at =
    on_word Fits t tt 44 at
    (λ i _ _ _. on_word Fits t tt 44 i.next
    (λ j _ _ a. on_word Fits t tt 44 j.next
    (λ k _ _ b. on_word Fits t tt 44 k.next
    (λ l _ _ c. on_word Fits t tt 44 l.next
    (λ m _ _ d. on_word Fits t tt 10 m.next (λ _ _ _ e. record { program = a; inputs = record { w0 = b; w1 = c; w2 = d; w3 = e } }))))))
parsed_fits t Verb.Exit at = numbered_fits t Verb.Exit at (λ _. tt)
parsed_fits t Verb.Step at = numbered_fits t Verb.Step at (λ _. tt)
parsed_fits t Verb.Trace at = numbered_fits t Verb.Trace at (λ _. tt)
parsed_fits t Verb.Read at = numbered_fits t Verb.Read at (λ _. tt)
parsed_fits t Verb.Change at =
    on_word Fits t tt 44 at (λ i _ _ _. on_word Fits t tt 44 i.next (λ j _ _ _. on_word Fits t tt 10 j.next (λ _ _ _ _. tt)))
parsed_fits t Verb.Unknown at = tt

pub fields_fit : (t : List ℕ) (verb : Verb) (line at : ℕ) → FitsCommand (fields_at t verb line at).command
unfolding fields_at
fields_fit t verb line at = on_unwrap (λ m. FitsCommand m.command) (parsed_at t verb at) (malformed t line) (parsed_fits t verb at) tt

pub command_fits : (t : List ℕ) (at : ℕ) → FitsCommand (command t at).command
unfolding command
command_fits t at = fields_fit t (verb_at t at).value at (verb_at t at).next
