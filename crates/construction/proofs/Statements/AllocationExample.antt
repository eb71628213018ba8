-- The theorem on hands is not empty (document 02, order 9): a card on which one process helps the other to take a cell, from the starting chain and
-- again once both have given theirs back, its premises proved and its conclusions computed; and for each premise a card that breaks it alone, on
-- which a cell comes into two hands.
use Prim.Native.Nat.{ℕ}
use mathlib.Core.Path.{◌≡◌, refl}
use mathlib.Core.Bool.{true}
use mathlib.Core.List.{List, [], ◌∷◌, ◌++◌}
use lib.ListN.{get_or}
use Rattle.construction.specs.Types.{Card}
use Rattle.construction.specs.Opening.{opened}
use Rattle.construction.specs.Answers.{bytes}
use Rattle.construction.specs.Examples.Terms.{one, steps}
use Rattle.construction.specs.History.{Entry, operation_at, start_words}
use Rattle.construction.specs.Allocation.{among, without, Action, Performed, words_after, chain_from, chain, hand, given_back, performed_from, performed_all}
use Rattle.construction.specs.Allocation.{performed, ChainWithoutRepeats, OnlyByCodes, OnlyFromHands, Disciplined, Allocating}
use Rattle.construction.proofs.Statements.Allocation.{allocation}
use Rattle.construction.proofs.Statements.Computing.{reading, observing}

-- three programs: take a cell, give back the one that the input names, store the input in variable 0
abbrev body : List ℕ
body = bytes "sheet,2\nins,13,0,0,0\nins,11,0,0,0\nsheet,2\nins,1,0,0,0\nins,14,0,0,0\nsheet,2\nins,1,0,0,0\nins,4,0,0,0\n"

abbrev takes : ℕ → Entry
takes i = Entry.Call i 0 (one 0)

abbrev gives : ℕ → ℕ → Entry
gives i c = Entry.Call i 1 (one c)

abbrev stores : ℕ → ℕ → Entry
stores i x = Entry.Call i 2 (one x)

abbrev by : ℕ → Action → Performed
by i a = record { process = i; action = a }

-- two free cells, 1 and then 2
abbrev text : List ℕ
text = bytes "card,2,3,3,200\nvar,1\nvar,2\nvar,0\n" ++ body

-- process 1 announces its operation; process 0 helps it to finish before its own; then each gives its cell back, process 1 first
abbrev to_given_back : List Entry
to_given_back = takes 1 ∷ takes 0 ∷ (steps 1 2 ++ (steps 0 28 ++ (steps 1 4 ++ (gives 1 1 ∷ (steps 1 15 ++ (gives 0 2 ∷ steps 0 16))))))

-- both take a cell again: process 1 announces its operation and makes no other step; process 0 helps it to finish before its own
abbrev entries : List Entry
entries = to_given_back ++ (takes 1 ∷ takes 0 ∷ (steps 1 2 ++ steps 0 28))

abbrev card : Card
card = (opened text).card

-- what is done until both have given back, and in all, newest first: process 1 is helped to cell 2, which process 0 gave back last, and process 0 gets cell 1
abbrev until_back : List Performed
until_back = by 0 (Action.Gave 2) ∷ by 1 (Action.Gave 1) ∷ by 0 (Action.Took 2) ∷ by 1 (Action.Took 1) ∷ []

abbrev in_all : List Performed
in_all = by 0 (Action.Took 1) ∷ by 1 (Action.Took 2) ∷ until_back

-- a chain that comes back to its first cell
abbrev looped : List ℕ
looped = bytes "card,2,2,3,200\nvar,1\nvar,1\n" ++ body

-- each process takes a cell, one after the other
abbrev take_both : List Entry
take_both = takes 0 ∷ (steps 0 20 ++ (takes 1 ∷ steps 1 20))

-- between, variable 0 is stored to, other than by the two codes
abbrev take_stored : List Entry
take_stored = takes 0 ∷ (steps 0 20 ++ (stores 0 1 ∷ (steps 0 20 ++ (takes 1 ∷ steps 1 20))))

-- between, process 1 gives back the cell that process 0 has
abbrev take_foreign : List Entry
take_foreign = takes 0 ∷ (steps 0 20 ++ (gives 1 1 ∷ (steps 1 20 ++ (takes 1 ∷ steps 1 20))))

-- cell 1 is in the hands of both processes
pub record InBoth (t : List ℕ) (es : List Entry) : Type 0 where
  pub first : among 1 (hand (performed (opened t).card es) 0) ≡ true
  pub second : among 1 (hand (performed (opened t).card es) 1) ≡ true

pub record Computed : Type 0 where
  pub actions : performed card entries ≡ in_all
  -- once both have given back: what is in hand, what is free, and what was given back, the last one first
  pub own_empty : hand until_back 0 ≡ []
  pub other_empty : hand until_back 1 ≡ []
  pub free : chain (words_after (start_words card) until_back) ≡ 2 ∷ 1 ∷ []
  pub back : given_back until_back ≡ 2 ∷ 1 ∷ []
  -- at the end: each has the cell that the other gave back, and none is free
  pub own : hand (performed card entries) 0 ≡ 1 ∷ []
  pub other : hand (performed card entries) 1 ≡ 2 ∷ []
  pub none : chain (words_after (start_words card) (performed card entries)) ≡ []
  -- the chain with a repeat, the store to variable 0, the cell of another's hand: each leaves the other two premises
  pub repeated : chain (start_words (opened looped).card) ≡ 1 ∷ 1 ∷ []
  pub stored : performed card take_stored ≡ by 1 (Action.Took 1) ∷ by 0 (Action.Stored 0 1) ∷ by 0 (Action.Took 1) ∷ []
  pub foreign : performed card take_foreign ≡ by 1 (Action.Took 1) ∷ by 1 (Action.Gave 1) ∷ by 0 (Action.Took 1) ∷ []

-- what is computed from actions, and the actions themselves, which are computed once for each list of entries
counting : Unit {0}
unfolding words_after chain_from hand among without given_back
counting = tt

performing : Unit {0}
unfolding observing counting performed_from performed_all operation_at
performing = tt

acted : performed card entries ≡ in_all
unfolding performing
acted = refl

acted_looped : performed (opened looped).card take_both ≡ by 1 (Action.Took 1) ∷ by 0 (Action.Took 1) ∷ []
unfolding performing
acted_looped = refl

acted_stored : performed card take_stored ≡ by 1 (Action.Took 1) ∷ by 0 (Action.Stored 0 1) ∷ by 0 (Action.Took 1) ∷ []
unfolding performing
acted_stored = refl

acted_foreign : performed card take_foreign ≡ by 1 (Action.Took 1) ∷ by 1 (Action.Gave 1) ∷ by 0 (Action.Took 1) ∷ []
unfolding performing
acted_foreign = refl

pub computed : Computed
unfolding counting
computed = record {
  actions = acted;
  own_empty = refl;
  other_empty = refl;
  free = unfold reading in refl;
  back = refl;
  own = rw acted;
  other = rw acted;
  none = rw acted (unfold reading in refl);
  repeated = unfold reading in refl;
  stored = acted_stored;
  foreign = acted_foreign;
}

chain_alone : ChainWithoutRepeats (start_words card)
unfolding counting reading
chain_alone = (refl, (refl, tt))

pub disciplined : Disciplined card entries
unfolding counting
disciplined = record
    { chain = chain_alone; touches = rw acted (tt, (tt, (tt, (tt, (tt, (tt, tt)))))); gives = rw acted (tt, (tt, (refl, (refl, (tt, (tt, tt)))))) }

pub allocating : Allocating card entries
allocating = allocation text entries disciplined

-- 'of the free cells given back the last one is the next taken', as the theorem says it of this card: whichever process takes a cell next, it is
-- cell 2, which variable 0 holds; and then it is cell 1
pub record Reused : Type 0 where
  pub next : get_or (words_after (start_words card) until_back) 0 0 ≡ 2
  pub last : (i c : ℕ) → performed card entries ≡ by 0 (Action.Took 1) ∷ by i (Action.Took c) ∷ until_back → c ≡ 2
  pub other : (i c : ℕ) → performed card entries ≡ by i (Action.Took c) ∷ by 1 (Action.Took 2) ∷ until_back → c ≡ 1

pub reused : Reused
unfolding counting
reused = record {
  next = (allocating.hands (by 0 (Action.Took 1) ∷ by 1 (Action.Took 2) ∷ []) until_back acted).next 2 (1 ∷ []) refl;
  last = λ i c e. allocating.last (by 0 (Action.Took 1) ∷ []) until_back i c 2 (1 ∷ []) e refl;
  other = λ i c e. allocating.last [] (by 1 (Action.Took 2) ∷ until_back) i c 1 [] e refl;
}

-- each premise broken alone
pub loop_breaks : InBoth looped take_both
unfolding counting
loop_breaks = record { first = rw acted_looped; second = rw acted_looped }

pub loop_keeps : OnlyByCodes (start_words (opened looped).card) (performed (opened looped).card take_both) × OnlyFromHands
    (performed (opened looped).card take_both)
loop_keeps = (rw acted_looped (tt, (tt, tt)), rw acted_looped (tt, (tt, tt)))

pub store_breaks : InBoth text take_stored
unfolding counting
store_breaks = record { first = rw acted_stored; second = rw acted_stored }

pub store_keeps : ChainWithoutRepeats (start_words card) × OnlyFromHands (performed card take_stored)
store_keeps = (chain_alone, rw acted_stored (tt, (tt, (tt, tt))))

pub foreign_breaks : InBoth text take_foreign
unfolding counting
foreign_breaks = record { first = rw acted_foreign; second = rw acted_foreign }

pub foreign_keeps : ChainWithoutRepeats (start_words card) × OnlyByCodes (start_words card) (performed card take_foreign)
foreign_keeps = (chain_alone, rw acted_foreign (tt, (tt, (tt, tt))))
