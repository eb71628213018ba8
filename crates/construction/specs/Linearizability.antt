-- Demand 3 (document 01, 'Card and bench side by side') is linearizability: the operations that finish, in the order of their gate numbers, are a
-- sequential run that agrees with every answer and every read, and with the order in real time.
use Rattle.std.specs.Prelude.{ℕ, suc, ◌≤◌, ◌<◌, ◌≡◌, Bool, true, false, cond, ◌⊎◌, List, [], ◌∷◌, ◌++◌, length, get_or, eqb}
use Rattle.construction.specs.Types.{Card, Answer}
use Rattle.construction.specs.Cells.{no_yield}
use Rattle.construction.specs.Requests.{read}
use Rattle.construction.specs.History.{Entry, act, Steps, Finish, Return, Response, History, has_called, latest, finishing, Observation, run}

-- how often an operation stands in the order
unfoldable pub times : ℕ → List Finish → ℕ
times k [] = 0
times k (f ∷ fs) = cond (eqb f.operation k) (suc (times k fs)) (times k fs)

-- its rank in the order, counted from 1, and 0 if it does not stand there; and its note there: its gate number and what the bench got for it
unfoldable pub rank : ℕ → List Finish → ℕ
rank k [] = 0
rank k (f ∷ fs) = cond (eqb f.operation k) (suc (length fs)) (rank k fs)

unfoldable pub finish_of : ℕ → List Finish → Finish
finish_of k [] = record { operation = k; gate = 0; yields = no_yield }
finish_of k (f ∷ fs) = cond (eqb f.operation k) f (finish_of k fs)

-- an operation has returned
unfoldable pub has_returned : ℕ → List Response → Bool
has_returned k [] = false
has_returned k (r ∷ rs) = cond (eqb r.operation k) true (has_returned k rs)

-- the gate numbers in the order are 1, 2, 3, .. without a hole
abbrev pub Numbered : List Finish → Type 0
Numbered [] = Unit
Numbered (f ∷ fs) = (f.gate ≡ suc (length fs)) × Numbered fs

-- a return agrees with the order: done stands there once, under the number of its answer, with the bench's outputs and mark; exited never
abbrev pub Agrees : List Finish → ℕ → Return → Type 0
Agrees order k (Return.done number y) =
    (times k order ≡ 1) × (finish_of k order ≡ record { operation = k; gate = number; yields = y })
Agrees order k Return.exited = times k order ≡ 0

-- an operation returned as a fault (document 02, order 6)
abbrev pub is_fault : Return → Bool
is_fault (Return.done number y) = y.fault
is_fault Return.exited = false

unfoldable pub returned_fault : ℕ → List Response → Bool
returned_fault k [] = false
returned_fault k (r ∷ rs) = cond (eqb r.operation k) (is_fault r.return) (returned_fault k rs)

-- no operation returns twice
abbrev pub ReturnedOnce : List Response → Type 0
ReturnedOnce [] = Unit
ReturnedOnce (r ∷ rs) = (has_returned r.operation rs ≡ false) × ReturnedOnce rs

abbrev pub AllAgree : List Finish → List Response → Type 0
AllAgree order [] = Unit
AllAgree order (r ∷ rs) = Agrees order r.operation r.return × AllAgree order rs

-- an operation of process i is under way: it has a taken call, and the latest has not returned
pub record UnderWay (s : History) (i : ℕ) : Type 0 where
  pub called : has_called s.operations i ≡ true
  pub unreturned : has_returned (latest s.operations i) s.returns ≡ false

-- an entry finishes nothing, or steps a process and finishes one operation that is under way
pub record FinishesOne (m : Observation) (e : Entry) : Type 0 where
  pub process : ℕ
  pub only : finishing m.card (act m.card e).card ≡ process ∷ []
  pub under_way : UnderWay m.history process
  pub stepper : ℕ
  pub by_step : Steps e stepper

abbrev pub FinishesAtMostOne : Observation → Entry → Type 0
FinishesAtMostOne m e = (finishing m.card (act m.card e).card ≡ []) ⊎ FinishesOne m e

-- Demand 3 for the opened card o after the list of entries es. As the list is arbitrary, each clause holds at opening and after each entry.
pub record Linearizable (o : Card) (es : List Entry) : Type 0 where
  -- 1: a read of every variable gives the bench's word
  pub reads :
      (v : ℕ) → v < o.variable_count →
      read (run o es).card v ≡ record { card = (run o es).card; answer = Answer.Value (get_or (run o es).history.words v 0) }
  -- 2 and 5: every returned operation agrees with the order, and none returns twice
  pub returns : AllAgree (run o es).history.order (run o es).history.returns
  pub single : ReturnedOnce (run o es).history.returns
  -- 2, for faults (document 02, order 6): of the returned operations, those returned `fault` are those that the bench ended as a fault
  pub faults :
      (k : ℕ) → has_returned k (run o es).history.returns ≡ true →
      returned_fault k (run o es).history.returns ≡ (finish_of k (run o es).history.order).yields.fault
  -- 3: gate numbers without a hole; so the gate number of an operation, which a done answer gives (document 02, order 4), is its rank
  pub numbers : Numbered (run o es).history.order
  pub ranks : (k : ℕ) → (finish_of k (run o es).history.order).gate ≡ rank k (run o es).history.order
  -- 4: the next entry, whatever it is, finishes at most one operation, and one that is under way
  pub finishes : (e : Entry) → FinishesAtMostOne (run o es) e
  -- 5: no operation stands in the order twice, and only taken calls stand there
  pub once : (k : ℕ) → times k (run o es).history.order ≤ 1
  pub known : (k : ℕ) → length (run o es).history.operations ≤ k → times k (run o es).history.order ≡ 0
  -- 6: an operation that had returned before another was called stands earlier
  pub precedes :
      (es₁ es₂ : List Entry) → es ≡ es₁ ++ es₂ → (j k : ℕ) →
      has_returned j (run o es₁).history.returns ≡ true → length (run o es₁).history.operations ≤ k →
      0 < rank j (run o es).history.order → 0 < rank k (run o es).history.order →
      rank j (run o es).history.order < rank k (run o es).history.order
