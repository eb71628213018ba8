-- Cells taken and given back (document 02, order 9): what the bench's runs do to its words, the chain of free cells, the hands of the processes.
use Rattle.std.specs.Prelude.{ℕ, zero, suc, ◌<◌, ◌≡◌, Bool, true, false, cond, List, [], ◌∷◌, ◌++◌, eqb, length, get_or, set, drop}
use Rattle.construction.specs.Types.{Words, Program, Effect, Simulation, Card, Answer}
use Rattle.construction.specs.Instructions.{is_cell, next_effect, started}
use Rattle.construction.specs.Effects.{on_executed}
use Rattle.construction.specs.Sequential.{word_at, with_stores, next_executed, sequential}
use Rattle.construction.specs.Parts.{contents_of}
use Rattle.construction.specs.Requests.{read}
use Rattle.construction.specs.History.{Entry, Invocation, Replacement, Finish, operation_at, start_words, text_at, run}

-- a number in a list, the list without it, a list without repeats
unfoldable pub among : ℕ → List ℕ → Bool
among c [] = false
among c (x ∷ xs) = cond (eqb x c) true (among c xs)

unfoldable pub without : ℕ → List ℕ → List ℕ
without c [] = []
without c (x ∷ xs) = cond (eqb x c) (without c xs) (x ∷ without c xs)

abbrev pub NoRepeats : List ℕ → Type 0
NoRepeats [] = Unit {0}
NoRepeats (x ∷ xs) = (among x xs ≡ false) × NoRepeats xs

-- what an instruction does to the words: a cell is taken (code 13), there is none to take (code 13), a cell is given back (code 14), a variable
-- is loaded (codes 3 and 5) or stored (codes 4 and 6)
pub data Action : Type 0 where
  Took : (cell : ℕ) → Action
  TookNone : Action
  Gave : (cell : ℕ) → Action
  Loaded : (variable : ℕ) → Action
  Stored : (variable value : ℕ) → Action

-- an action, and the process whose operation makes it
pub record Performed : Type 0 where
  pub process : ℕ
  pub action : Action

-- 'if it is not 0, variable 0 takes what the cell holds and the cell becomes 0'; 'the cell numbered r[a] takes variable 0, and variable 0 takes r[a]'
abbrev pub acted_on : List ℕ → Action → List ℕ
acted_on words (Action.Took c) = set (set words 0 (get_or words c 0)) c 0
acted_on words Action.TookNone = words
acted_on words (Action.Gave c) = set (set words c (get_or words 0 0)) 0 c
acted_on words (Action.Loaded v) = words
acted_on words (Action.Stored v x) = set words v x

-- the words after a list of actions, newest first
unfoldable pub words_after : List ℕ → List Performed → List ℕ
words_after words [] = words
words_after words (x ∷ xs) = acted_on (words_after words xs) x.action

-- 'Variable 0 holds the number of the first free cell, 0 for none, and each free cell holds the next': the free cells from a number on, at most
-- `fuel` of them. The chain ends at 0, or at a number of n or more.
unfoldable pub chain_from : ℕ → List ℕ → ℕ → List ℕ
chain_from zero words c = []
chain_from (suc fuel) words c = cond (is_cell (length words) c) (c ∷ chain_from fuel words (get_or words c 0)) []

-- a chain without repeats has fewer than n cells; a longer one has repeats among its first n
abbrev pub chain : List ℕ → List ℕ
chain words = chain_from (length words) words (get_or words 0 0)

-- 'a cell taken is in the calling process's hand until that process gives it back'
abbrev pub in_hand : Action → List ℕ → List ℕ
in_hand (Action.Took c) l = c ∷ l
in_hand Action.TookNone l = l
in_hand (Action.Gave c) l = without c l
in_hand (Action.Loaded v) l = l
in_hand (Action.Stored v x) l = l

unfoldable pub hand : List Performed → ℕ → List ℕ
hand [] i = []
hand (x ∷ xs) i = cond (eqb x.process i) (in_hand x.action (hand xs i)) (hand xs i)

-- the cells given back and not taken since, the last one first
abbrev pub given_back_by : Action → List ℕ → List ℕ
given_back_by (Action.Took c) l = without c l
given_back_by Action.TookNone l = l
given_back_by (Action.Gave c) l = c ∷ l
given_back_by (Action.Loaded v) l = l
given_back_by (Action.Stored v x) l = l

unfoldable pub given_back : List Performed → List ℕ
given_back [] = []
given_back (x ∷ xs) = given_back_by x.action (given_back xs)

-- an action that the codes can make on these words
abbrev pub Possible : List ℕ → Action → Type 0
Possible words (Action.Took c) = (get_or words 0 0 ≡ c) × (is_cell (length words) c ≡ true)
Possible words Action.TookNone = get_or words 0 0 ≡ 0
Possible words (Action.Gave c) = is_cell (length words) c ≡ true
Possible words (Action.Loaded v) = Unit {0}
Possible words (Action.Stored v x) = Unit {0}

-- what the effect of an instruction does to words, by the same tests as `execute`: one action, or none
abbrev pub actions_of : ℕ → (ℕ → ℕ) → Effect → List Action
actions_of n look Effect.Stop = []
actions_of n look Effect.Fault = []
actions_of n look (Effect.Set a x) = []
actions_of n look (Effect.Load a v) = Action.Loaded v ∷ []
actions_of n look (Effect.Store v x) = Action.Stored v x ∷ []
actions_of n look (Effect.Output a x) = []
actions_of n look (Effect.Skip c) = []
actions_of n look (Effect.Allocate a) =
    cond (is_cell n (look 0)) (Action.Took (look 0) ∷ []) (cond (eqb (look 0) 0) (Action.TookNone ∷ []) [])
actions_of n look (Effect.Free c) = Action.Gave c ∷ []

abbrev pub performed_by : ℕ → List Action → List Performed
performed_by i [] = []
performed_by i (a ∷ l) = record { process = i; action = a } ∷ performed_by i l

-- what a run for process i does to the words, newest first; 'faults apart': a run that ends as a fault does nothing
module _ (n : ℕ) (program : Program) (inputs : Words) (i : ℕ) where
  unfoldable pub performed_from : ℕ → Simulation → List ℕ → List Performed
  performed_from zero s words = []
  performed_from (suc fuel) s words =
      on_executed (next_executed n program inputs s words)
      []
      []
      (λ t l.
      performed_from fuel t (with_stores words l) ++ performed_by i (actions_of n (word_at words) (next_effect n program inputs s)))

  abbrev pub performed_in : List ℕ → List Performed
  performed_in words = cond (sequential n program inputs words).yields.fault [] (performed_from 32 started words)

-- 'the bench's runs' in the order of finishing: what each does to the words that the earlier ones left
abbrev pub performed_as : Card → List Replacement → ℕ → Invocation → List ℕ → List Performed
performed_as o changes number x words =
    performed_in o.variable_count (text_at (contents_of o) changes x.program number) x.inputs x.process words

unfoldable pub performed_all : Card → List Replacement → List Invocation → List Finish → List Performed
performed_all o changes xs [] = []
performed_all o changes xs (f ∷ fs) =
    performed_as o changes (suc (length fs)) (operation_at xs f.operation) (words_after (start_words o) (performed_all o changes xs fs))
    ++ performed_all o changes xs fs

-- over the run of demand 3
abbrev pub performed : Card → List Entry → List Performed
performed o es = performed_all o (run o es).history.changes (run o es).history.operations (run o es).history.order

-- the premises, each of the actions that the bench's runs make, newest first, from the words at opening

-- 'the starting chain has no repeats'
abbrev pub ChainWithoutRepeats : List ℕ → Type 0
ChainWithoutRepeats words = NoRepeats (chain words)

-- 'operations touch free cells and variable 0 only so': a variable loaded or stored is neither variable 0 nor a free cell
abbrev pub Outside : List ℕ → ℕ → Type 0
Outside words v = (eqb v 0 ≡ false) × (among v (chain words) ≡ false)

abbrev pub TouchesOutside : List ℕ → Action → Type 0
TouchesOutside words (Action.Took c) = Unit {0}
TouchesOutside words Action.TookNone = Unit {0}
TouchesOutside words (Action.Gave c) = Unit {0}
TouchesOutside words (Action.Loaded v) = Outside words v
TouchesOutside words (Action.Stored v x) = Outside words v

abbrev pub OnlyByCodes : List ℕ → List Performed → Type 0
OnlyByCodes words [] = Unit {0}
OnlyByCodes words (x ∷ xs) = TouchesOutside (words_after words xs) x.action × OnlyByCodes words xs

-- 'and give back only cells in their process's hand'
abbrev pub GivesOwn : List ℕ → Action → Type 0
GivesOwn l (Action.Took c) = Unit {0}
GivesOwn l Action.TookNone = Unit {0}
GivesOwn l (Action.Gave c) = among c l ≡ true
GivesOwn l (Action.Loaded v) = Unit {0}
GivesOwn l (Action.Stored v x) = Unit {0}

abbrev pub OnlyFromHands : List Performed → Type 0
OnlyFromHands [] = Unit {0}
OnlyFromHands (x ∷ xs) = GivesOwn (hand xs x.process) x.action × OnlyFromHands xs

-- what follows, after the actions xs on the words at opening
pub record InHands (words : List ℕ) (xs : List Performed) : Type 0 where
  -- 'no cell is ever in two hands'
  pub one : (c i j : ℕ) → among c (hand xs i) ≡ true → among c (hand xs j) ≡ true → i ≡ j
  -- nor in a hand and free
  pub free : (c i : ℕ) → among c (hand xs i) ≡ true → among c (chain (words_after words xs)) ≡ false
  -- the free cells are those given back, the last one first, and then those of the starting chain that were never taken
  pub taken : ℕ
  pub stack : chain (words_after words xs) ≡ given_back xs ++ drop taken (chain words)
  -- of the free cells given back variable 0 holds the number of the last one
  pub next : (c : ℕ) (l : List ℕ) → given_back xs ≡ c ∷ l → get_or (words_after words xs) 0 0 ≡ c

-- the theorem on hands, for the opened card o after the list of entries es: under the three premises it holds at every moment of the bench's
-- runs; and the words that the actions leave are the bench's, and so those that `look` shows (demand 3)
pub record Disciplined (o : Card) (es : List Entry) : Type 0 where
  pub chain : ChainWithoutRepeats (start_words o)
  pub touches : OnlyByCodes (start_words o) (performed o es)
  pub gives : OnlyFromHands (performed o es)

pub record Allocating (o : Card) (es : List Entry) : Type 0 where
  pub hands : (later earlier : List Performed) → performed o es ≡ later ++ earlier → InHands (start_words o) earlier
  -- 'of the free cells given back the last one is the next taken'
  pub last :
      (later earlier : List Performed) (i c d : ℕ) (l : List ℕ) →
      performed o es ≡ later ++ (record { process = i; action = Action.Took c } ∷ earlier) → given_back earlier ≡ d ∷ l → c ≡ d
  pub words : words_after (start_words o) (performed o es) ≡ (run o es).history.words
  pub shown :
      (v : ℕ) → v < o.variable_count →
      read (run o es).card v
      ≡ record { card = (run o es).card; answer = Answer.Value (get_or (words_after (start_words o) (performed o es)) v 0) }
