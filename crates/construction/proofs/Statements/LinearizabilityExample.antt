-- Demand 3 is not empty: card K with two processes, one exited and one done, and with one process that calls twice; notes and log by computation.
use Prim.Native.Nat.{◌<◌}
use mathlib.Core.Path.{◌≡◌, refl}
use mathlib.Core.Bool.{true}
use mathlib.Core.List.{List, [], ◌∷◌, ◌++◌}
use native.Mathlib.Omega.{arith}
use lib.ListN.{length}
use Rattle.construction.specs.Types.{Card}
use Rattle.construction.specs.Opening.{opened}
use Rattle.construction.specs.Cells.{fault_yield}
use Rattle.construction.specs.History.{Entry, Finish, Return, run}
use Rattle.construction.specs.Log.{log_of, insert_by_number, sorted}
use Rattle.construction.specs.Examples.Terms.{one, plain, called, steps}
use Rattle.construction.specs.Examples.Pieces.{card_k, two_processes, unwritten}
use Rattle.construction.proofs.Statements.Linearizability.{linearizability}
use Rattle.construction.proofs.Statements.Computing.{observing}
use Rattle.construction.specs.Linearizability.{Linearizable, has_returned, rank}

-- card K with two processes, both called, one with an exit request
abbrev two : Card
two = (opened two_processes.text).card

-- card K with one process that calls, returns, and calls again
abbrev single : Card
single = (opened card_k).card

abbrev first : List Entry
first = called 0 (one 9) ++ steps 0 14

abbrev second : List Entry
second = called 0 (one 5) ++ steps 0 14

-- the operations of the single one, as they stand in its order and in its log
abbrev former : Finish
former = record { operation = 0; gate = 1; yields = plain (one 7) }

abbrev latter : Finish
latter = record { operation = 1; gate = 2; yields = plain (one 9) }

-- Of the two, operation 1 alone finishes, under number 1 with output 7; operation 0 returned exited and operation 1 done; the bench has 9.
-- The operation of the card with a fault finishes and returns as one, and the bench keeps 7.
-- The single one has returned before its second call, and both its operations stand in the order; its log, taken in the other sequence, sorts to it.
pub record Computed : Type 0 where
  pub notes_two :
      (run two two_processes.entries).history
      ≡ record {
        operations =
            record { process = 1; program = 0; inputs = one 9 } ∷ record { process = 0; program = 0; inputs = one 5 } ∷ [];
        order = record { operation = 1; gate = 1; yields = plain (one 7) } ∷ [];
        returns =
            record { operation = 1; return = Return.done 1 (plain (one 7)) } ∷ record { operation = 0; return = Return.exited } ∷ [];
        changes = [];
        words = 9 ∷ [];
      }
  pub notes_fault :
      (run (opened unwritten.text).card unwritten.entries).history
      ≡ record {
        operations = record { process = 0; program = 0; inputs = one 9 } ∷ [];
        order = record { operation = 0; gate = 1; yields = fault_yield } ∷ [];
        returns = record { operation = 0; return = Return.done 1 fault_yield } ∷ [];
        changes = [];
        words = 7 ∷ [];
      }
  pub returned_first : has_returned 0 (run single first).history.returns ≡ true
  pub called_first : length (run single first).history.operations ≡ 1
  pub order_both : (run single (first ++ second)).history.order ≡ latter ∷ former ∷ []
  pub log_both : log_of (run single (first ++ second)).history.returns ≡ latter ∷ former ∷ []
  pub sorted_both : sorted (former ∷ latter ∷ []) ≡ latter ∷ former ∷ []

pub computed : Computed
unfolding observing has_returned log_of insert_by_number sorted
computed = record { notes_two = refl; notes_fault = refl; returned_first = refl; called_first = refl; order_both = refl; log_both = refl; sorted_both = refl }

-- the theorem of both
pub linearizable_two : Linearizable two two_processes.entries
linearizable_two = linearizability two_processes.text two_processes.entries

-- the premises of the last clause hold of the single one's operations, and so does what it says
pub precedes_both : rank 0 (run single (first ++ second)).history.order < rank 1 (run single (first ++ second)).history.order
unfolding rank
precedes_both =
    (linearizability card_k (first ++ second)).precedes first second refl 0 1 computed.returned_first (omega (arith, computed.called_first))
    (rw computed.order_both (omega arith)) (rw computed.order_both (omega arith))
