-- The program's whole text (`session`): what `start` prints, and the lines from where it leaves the machines; each piece then prints the next of these lines (`Prints`).
use Prim.Native.Nat.{ℕ}
use mathlib.Core.Path.{◌≡◌, sym}
use mathlib.Core.List.{List, ◌++◌}
use lib.ListN.{replicate}
use Rattle.machine_session.specs.declared.Printed.{Printed}
use Rattle.machine_session.specs.Session.{stage, lines_text}
use Rattle.machine_session.specs.Starting.{beginning, session, Starts}

pub session_started :
    (text : List ℕ) (cards : List (List ℕ)) (calls b : List ℕ) (r : Printed) (bs z : List ℕ) →
    Starts text cards calls (replicate 5824 0) b r bs z →
    session text cards calls ≡ (beginning text cards calls (replicate 5824 0)).text ++ lines_text calls (stage r.state bs (replicate 3072 0))
unfolding session
session_started text cards calls b r bs z h =
    λ i. (beginning text cards calls (replicate 5824 0)).text ++ lines_text calls (stage (sym h.state i) (sym h.blocks i) (replicate 3072 0))
