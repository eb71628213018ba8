-- The listing by recursion on the steps still to choose: what stands there, that all of it does, and in which order.
use Prim.Native.Nat.{ℕ, zero, suc, ◌+◌, ◌≤◌, ◌<◌}
use mathlib.Core.Path.{◌≡◌, refl, sym, ap, ◌∙◌}
use mathlib.Core.Bool.{true, false, not}
use mathlib.Core.Logic.{◌⊎◌, inl, inr}
use mathlib.Core.List.{List, [], ◌∷◌, ◌++◌}
use native.Mathlib.Omega.{arith}
use native.Mathlib.Decide.{ℕ_discrete}
use lib.ListN.{length}
use borrow.Author.Tests.{not-true}
use Rattle.construction.specs.declared.{card.Card.Card, answers.Answer.Answer, texts.Contents.Contents}
use Rattle.construction.specs.Answers.{is_refused}
use Rattle.construction.specs.Requests.{is_busy, step}
use Rattle.executions.specs.Schedules.{Execution, preceded, is_quiet, branch, branches, listing, Before, after}
use Rattle.construction.proofs.Basics.{on_test, and_true, clash, true_false}
use Rattle.construction.proofs.Observing.Entries.{on_step}
use Rattle.construction.proofs.Statements.OneAccess.{one_access}
use Rattle.executions.proofs.Executions.{All, all_append, all_map, all_of, all_weaken, Has, has_left, has_right, has_preceded, BeforeAll, Sorted}
use Rattle.executions.proofs.Executions.{sorted_append, sorted_preceded}

-- a schedule step by step, from a card on: its answers, and that no step of it is refused
abbrev pub told : Card → List ℕ → List Answer
told c [] = []
told c (i ∷ s) = (step c i).answer ∷ told (step c i).card s

abbrev pub Accepts : Card → List ℕ → Type 0
Accepts c [] = Unit
Accepts c (i ∷ s) = (is_refused (step c i).answer ≡ false) × Accepts (step c i).card s

abbrev pub Ends : ℕ → Card → List ℕ → Type 0
Ends n c s = (length s ≡ n) ⊎ ((length s < n) × (is_quiet (after c s) (after c s).process_count ≡ true))

-- an execution that belongs to the listing of n steps from a card on
pub record Listed (n : ℕ) (c : Card) (r : Execution) : Type 0 where
  pub accepted : Accepts c r.schedule
  pub answers : r.answers ≡ told c r.schedule
  pub ends : Ends n c r.schedule

-- the test of quiet
pub quiet_idle : (c : Card) (n i : ℕ) → is_quiet c n ≡ true → i < n → is_busy c i ≡ false
unfolding is_quiet
quiet_idle c zero i q lt = absurd (omega arith)
quiet_idle c (suc n) i q lt = go (ℕ_discrete i n) (λ l. quiet_idle c n i h.1 l)
  where
    h : (not (is_busy c n) ≡ true) × (is_quiet c n ≡ true)
    h = and_true (not (is_busy c n)) (is_quiet c n) q

    go : Dec (i ≡ n) → (i < n → is_busy c i ≡ false) → is_busy c i ≡ false
    go (yes e) below = rw e (not-true (is_busy c n) h.0)
    go (no ne) below = below (omega arith)

pub idle_quiet : (c : Card) (n : ℕ) → ((i : ℕ) → i < n → is_busy c i ≡ false) → is_quiet c n ≡ true
unfolding is_quiet
idle_quiet c zero h = refl
idle_quiet c (suc n) h = rw (h n (omega arith)) (idle_quiet c n (λ i lt. h i (omega arith)))

-- an accepted step is one of a process under way
pub accepted_busy : (c : Card) (i : ℕ) → is_refused (step c i).answer ≡ false → (i < c.process_count) × (is_busy c i ≡ true)
accepted_busy c i =
    on_step (λ r. is_refused r.answer ≡ false → (i < c.process_count) × (is_busy c i ≡ true)) c (λ why e. clash (cc)) i
    (λ lt b l e. (lt, b))

-- a step keeps the number of processes
pub step_processes : (c : Card) (i : ℕ) → (step c i).card.process_count ≡ c.process_count
step_processes c i =
    on_step (λ r. r.card.process_count ≡ c.process_count) c (λ why. refl) i
    (λ lt b l. sym (ap (λ (x : Contents). x.process_count) (one_access c i).text.0))

pub after_processes : (c : Card) (s : List ℕ) → (after c s).process_count ≡ c.process_count
after_processes c [] = refl
after_processes c (i ∷ s) = after_processes (step c i).card s ∙ step_processes c i

-- what stands in the listing
listed_preceded :
    (n : ℕ) (c : Card) (i : ℕ) → is_refused (step c i).answer ≡ false → (r : Execution) → Listed n (step c i).card r →
    Listed (suc n) c (preceded i (step c i).answer r)
listed_preceded n c i a r L =
    record {
      accepted = (a, L.accepted);
      answers = ap (λ (l : List Answer). (step c i).answer ∷ l) L.answers;
      ends = longer L.ends;
    }
  where
    longer : Ends n (step c i).card r.schedule → Ends (suc n) c (i ∷ r.schedule)
    longer (inl e) = inl (ap suc e)
    longer (inr q) = inr (omega (arith, q.0), q.1)

module _ (n : ℕ) (c : Card) (rest : Card → List Execution) where
  branches_listed : ((d : Card) → All (Listed n d) (rest d)) → (m k : ℕ) → All (Listed (suc n) c) (branches c rest m k)
  unfolding branches
  branches_listed h zero k = tt
  branches_listed h (suc m) k =
      all_append (Listed (suc n) c) (branch k (step c k) rest) (branches c rest m (suc k))
      (on_test (All (Listed (suc n) c)) (is_refused (step c k).answer) (λ _. tt)
      (λ a. all_map (Listed n (step c k).card) (Listed (suc n) c) (preceded k (step c k).answer) (listed_preceded n c k a) (rest (step c k).card)
      (h (step c k).card)))
      (branches_listed h m (suc k))

pub all_listed : (n : ℕ) (c : Card) → All (Listed n c) (listing n c)
unfolding listing
all_listed zero c = (record { accepted = tt; answers = refl; ends = inl refl }, tt)
all_listed (suc n) c =
    on_test (All (Listed (suc n) c)) (is_quiet c c.process_count)
    (λ q. (record { accepted = tt; answers = refl; ends = inr (omega arith, q) }, tt))
    (λ _. branches_listed n c (λ d. listing n d) (λ d. all_listed n d) c.process_count 0)

-- all of it stands there
branches_has :
    (c : Card) (rest : Card → List Execution) (i : ℕ) (s : List ℕ) → is_refused (step c i).answer ≡ false → Has s (rest (step c i).card) →
    (m k : ℕ) → k ≤ i → i < k + m → Has (i ∷ s) (branches c rest m k)
unfolding branches
branches_has c rest i s a h zero k le lt = absurd (omega arith)
branches_has c rest i s a h (suc m) k le lt = go (ℕ_discrete k i) (λ l. branches_has c rest i s a h m (suc k) l (omega arith))
  where
    here : Has (i ∷ s) (branch i (step c i) rest)
    here = rw a (has_preceded i (step c i).answer s (rest (step c i).card) h)

    go : Dec (k ≡ i) → (suc k ≤ i → Has (i ∷ s) (branches c rest m (suc k))) → Has (i ∷ s) (branch k (step c k) rest ++ branches c rest m (suc k))
    go (yes e) below = has_left (i ∷ s) (branch k (step c k) rest) (branches c rest m (suc k)) (rw e here)
    go (no ne) below = has_right (i ∷ s) (branch k (step c k) rest) (branches c rest m (suc k)) (below (omega arith))

pub listing_has : (n : ℕ) (c : Card) (s : List ℕ) → Accepts c s → Ends n c s → Has s (listing n c)
unfolding listing
listing_has zero c [] a e = inl refl
listing_has zero c (i ∷ s) a (inl e) = absurd (omega arith)
listing_has zero c (i ∷ s) a (inr q) = absurd (omega (arith, q.0))
listing_has (suc n) c [] a (inl e) = absurd (omega arith)
listing_has (suc n) c [] a (inr q) = rw q.1 (inl refl)
listing_has (suc n) c (i ∷ s) a e =
    on_test (Has (i ∷ s)) (is_quiet c c.process_count)
    (λ q. absurd (true_false (is_busy c i) b.1 (quiet_idle c c.process_count i q b.0)))
    (λ _. branches_has c (λ d. listing n d) i s a.0 (listing_has n (step c i).card s a.1 (shorter e)) c.process_count 0 (omega arith)
    (omega (arith, b.0)))
  where
    b : (i < c.process_count) × (is_busy c i ≡ true)
    b = accepted_busy c i a.0

    shorter : Ends (suc n) c (i ∷ s) → Ends n (step c i).card s
    shorter (inl e) = inl (omega arith)
    shorter (inr q) = inr (omega (arith, q.0), q.1)

-- dictionary order: executions that process k or a later one begins
abbrev StartsFrom : ℕ → List ℕ → Type 0
StartsFrom k [] = ⊥
StartsFrom k (i ∷ s) = k ≤ i

starts_later : (j k : ℕ) → j ≤ k → (s : List ℕ) → StartsFrom k s → StartsFrom j s
starts_later j k le [] h = h
starts_later j k le (i ∷ s) h = omega arith

starts_before : (i k : ℕ) (s t : List ℕ) → i < k → StartsFrom k t → Before (i ∷ s) t
starts_before i k s [] lt h = absurd h
starts_before i k s (j ∷ t) lt h = let l : i < j = omega arith in Before.lower l

module _ (c : Card) (rest : Card → List Execution) where
  branch_starts : (k : ℕ) → All (λ r. StartsFrom k r.schedule) (branch k (step c k) rest)
  branch_starts k =
      on_test (All (λ r. StartsFrom k r.schedule)) (is_refused (step c k).answer) (λ _. tt)
      (λ _. all_map (λ r. Unit) (λ r. StartsFrom k r.schedule) (preceded k (step c k).answer) (λ r _. omega arith) (rest (step c k).card)
      (all_of (λ r. Unit) (λ r. tt) (rest (step c k).card)))

  branches_start : (m k : ℕ) → All (λ r. StartsFrom k r.schedule) (branches c rest m k)
  unfolding branches
  branches_start zero k = tt
  branches_start (suc m) k =
      all_append (λ r. StartsFrom k r.schedule) (branch k (step c k) rest) (branches c rest m (suc k)) (branch_starts k)
      (all_weaken (λ r. StartsFrom (suc k) r.schedule) (λ r. StartsFrom k r.schedule) (λ r. starts_later k (suc k) (omega arith) r.schedule)
      (branches c rest m (suc k)) (branches_start m (suc k)))

  module _ (sorted : (d : Card) → Sorted (rest d)) where
    branch_sorted : (k : ℕ) → Sorted (branch k (step c k) rest)
    branch_sorted k =
        on_test Sorted (is_refused (step c k).answer) (λ _. tt)
        (λ _. sorted_preceded k (step c k).answer (rest (step c k).card) (sorted (step c k).card))

    branch_before : (m k : ℕ) → All (λ r. BeforeAll r (branches c rest m (suc k))) (branch k (step c k) rest)
    branch_before m k =
        on_test (All (λ r. BeforeAll r (branches c rest m (suc k)))) (is_refused (step c k).answer) (λ _. tt)
        (λ _. all_map (λ r. Unit) (λ r. BeforeAll r (branches c rest m (suc k))) (preceded k (step c k).answer)
        (λ r _. all_weaken (λ x. StartsFrom (suc k) x.schedule) (λ x. Before (k ∷ r.schedule) x.schedule)
        (λ x. starts_before k (suc k) r.schedule x.schedule (omega arith)) (branches c rest m (suc k)) (branches_start m (suc k)))
        (rest (step c k).card) (all_of (λ r. Unit) (λ r. tt) (rest (step c k).card)))

    branches_sorted : (m k : ℕ) → Sorted (branches c rest m k)
    unfolding branches
    branches_sorted zero k = tt
    branches_sorted (suc m) k =
        sorted_append (branch k (step c k) rest) (branches c rest m (suc k)) (branch_sorted k) (branches_sorted m (suc k)) (branch_before m k)

pub listing_sorted : (n : ℕ) (c : Card) → Sorted (listing n c)
unfolding listing
listing_sorted zero c = (tt, tt)
listing_sorted (suc n) c =
    on_test Sorted (is_quiet c c.process_count) (λ _. (tt, tt))
    (λ _. branches_sorted c (λ d. listing n d) (λ d. listing_sorted n d) c.process_count 0)
