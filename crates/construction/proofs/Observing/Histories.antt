-- Laws of what an observer notes: the lists of operations, finishes and returns, and how they grow. No machine.
use Prim.Native.Nat.{ℕ, zero, suc, ◌+◌, ◌≤◌, ◌<◌}
use mathlib.Core.Path.{◌≡◌, refl, sym, ap, ◌∙◌}
use mathlib.Core.Bool.{Bool, true, false, cond, not, ◌&&◌, true≢false, false≢true}
use mathlib.Core.Logic.{◌≢◌}
use mathlib.Core.List.{List, [], ◌∷◌}
use native.Mathlib.Omega.{arith}
use native.Mathlib.Nat.{add-zero, suc-add, add-suc}
use lib.ListN.{length, get_or, set}
use lib.Dec.{eqb}
use borrow.Author.Tests.{eqb-true, eqb-false, eq-eqb, ne_eqb}
use Rattle.construction.specs.Types.{Flag, Done, Active, Exit, Announcement, Card}
use Rattle.construction.specs.Cells.{is_done, open_announcement}
use Rattle.construction.specs.History.{Invocation, Finish, Return, Response, has_called, latest, turned, Event, History, with_finish, with_finishes}
use Rattle.construction.specs.History.{with_response}
use Rattle.construction.specs.Numbers.{caller_of, latest_finish}
use Rattle.construction.proofs.Basics.{on_test}
use Rattle.construction.specs.Linearizability.{times, rank, finish_of, has_returned, Numbered, Agrees, is_fault, returned_fault, AllAgree}

-- a list of notes, newest first, and an earlier one
pub data Extends {A : Type 0} (old : List A) : List A → Type 0 where
  same : Extends old old
  more : {x : A} {l : List A} → Extends old l → Extends old (x ∷ l)

pub extends_trans : {A : Type 0} {l m n : List A} → Extends l m → Extends m n → Extends l n
extends_trans p Extends.same = p
extends_trans p (Extends.more q) = Extends.more (extends_trans p q)

extends_length : {A : Type 0} {l m : List A} → Extends l m → length l ≤ length m
extends_length Extends.same = omega arith
extends_length (Extends.more q) = omega (arith, extends_length q)

-- by cases on whether two numbers are equal
pub on_equal {κ} : (P : Bool → Type κ) (a b : ℕ) → (a ≡ b → P true) → (a ≢ b → P false) → P (eqb a b)
on_equal P a b f g = go (eqb a b) refl
  where
    go : (t : Bool) → eqb a b ≡ t → P t
    go true e = f (eqb-true a b e)
    go false e = g (eqb-false a b e)

pub chosen {ℓ} : {A : Type ℓ} (a b : ℕ) (x y : A) → a ≡ b → cond (eqb a b) x y ≡ x
chosen a b x y e = rw (eq-eqb a b e)

pub passed {ℓ} : {A : Type ℓ} (a b : ℕ) (x y : A) → a ≢ b → cond (eqb a b) x y ≡ y
passed a b x y e = rw (ne_eqb a b e)

-- the number of a process's latest taken call
pub latest_below : (xs : List Invocation) (i : ℕ) → has_called xs i ≡ true → latest xs i < length xs
unfolding has_called latest
latest_below [] i h = absurd (false≢true h)
latest_below (x ∷ xs) i h =
    on_equal (λ b. cond b true (has_called xs i) ≡ true → cond b (length xs) (latest xs i) < suc (length xs)) x.process i
    (λ e k. omega arith) (λ e k. omega (arith, latest_below xs i k)) h

-- the latest calls of two processes have two numbers
pub latest_apart :
    (xs : List Invocation) (i j : ℕ) → i ≢ j → has_called xs i ≡ true → has_called xs j ≡ true → latest xs i ≢ latest xs j
unfolding has_called latest
latest_apart [] i j ne h k = λ e. false≢true h
latest_apart (x ∷ xs) i j ne h k =
    on_equal (λ a. cond a true (has_called xs i) ≡ true → cond a (length xs) (latest xs i) ≢ latest (x ∷ xs) j) x.process i
    (λ p _. on_equal (λ b. cond b true (has_called xs j) ≡ true → length xs ≢ cond b (length xs) (latest xs j)) x.process j
    (λ q _ _. ne (sym p ∙ q)) (λ q k' e. omega (arith, latest_below xs j k')) k)
    (λ p h'. on_equal (λ b. cond b true (has_called xs j) ≡ true → latest xs i ≢ cond b (length xs) (latest xs j)) x.process j
    (λ q _ e. omega (arith, latest_below xs i h')) (λ q k'. latest_apart xs i j ne h' k') k)
    h

-- the latest call of a process is its own
pub caller_latest : (xs : List Invocation) (i : ℕ) → has_called xs i ≡ true → caller_of xs (latest xs i) ≡ i
unfolding has_called latest caller_of
caller_latest [] i h = absurd (false≢true h)
caller_latest (x ∷ xs) i h =
    on_equal
    (λ b. cond b true (has_called xs i) ≡ true →
    cond (eqb (length xs) (cond b (length xs) (latest xs i))) x.process (caller_of xs (cond b (length xs) (latest xs i))) ≡ i) x.process i
    (λ e _. chosen (length xs) (length xs) x.process (caller_of xs (length xs)) refl ∙ e)
    (λ _ k. passed _ _ _ _ (λ (e : length xs ≡ latest xs i). omega (arith, latest_below xs i k)) ∙ caller_latest xs i k) h

-- one more call alters nothing of what finished before it
pub latest_asked :
    (x : Invocation) (xs : List Invocation) (fs : List Finish) (i : ℕ) → ((k : ℕ) → length xs ≤ k → times k fs ≡ 0) →
    latest_finish (x ∷ xs) fs i ≡ latest_finish xs fs i
unfolding latest_finish caller_of times
latest_asked x xs [] i h = refl
latest_asked x xs (f ∷ fs) i h =
    rw (passed (length xs) f.operation x.process (caller_of xs f.operation) here)
    (ap (λ (g : Finish). cond (eqb (caller_of xs f.operation) i) f g) (latest_asked x xs fs i before))
  where
    here : length xs ≢ f.operation
    here e =
        let z : suc (times f.operation fs) ≡ 0 = sym (chosen f.operation f.operation _ (times f.operation fs) refl) ∙ h f.operation
        (omega arith) in
        omega arith

    before : (k : ℕ) → length xs ≤ k → times k fs ≡ 0
    before k l =
        on_test (λ n. n ≡ 0 → times k fs ≡ 0) (eqb f.operation k) (λ _ z. absurd (omega arith)) (λ _ z. z) (h k l)

-- returns agree with a longer order, if the operation that finished has not returned
agrees_longer :
    (f : Finish) (fs : List Finish) (k : ℕ) → f.operation ≢ k → (r : Return) → Agrees fs k r → Agrees (f ∷ fs) k r
unfolding times finish_of
agrees_longer f fs k ne (Return.done n o) h = (passed _ k _ _ ne ∙ h.0, passed _ k _ _ ne ∙ h.1)
agrees_longer f fs k ne Return.exited h = passed _ k _ _ ne ∙ h

pub agree_longer :
    (f : Finish) (fs : List Finish) (rs : List Response) → has_returned f.operation rs ≡ false → AllAgree fs rs → AllAgree (f ∷ fs) rs
unfolding has_returned
agree_longer f fs [] h a = tt
agree_longer f fs (r ∷ rs) h a =
    on_equal (λ b. cond b true (has_returned f.operation rs) ≡ false → AllAgree (f ∷ fs) (r ∷ rs)) r.operation f.operation
    (λ e k. absurd (true≢false k))
    (λ ne k. (agrees_longer f fs r.operation (λ q. ne (sym q)) r.return a.0, agree_longer f fs rs k a.1)) h

pub agree_earlier : {old new : List Response} (fs : List Finish) → Extends old new → AllAgree fs new → AllAgree fs old
agree_earlier fs Extends.same a = a
agree_earlier fs (Extends.more q) a = agree_earlier fs q a.1

-- an operation that returned stands equally often in any two orders that its return agrees with
same_times : (old new : List Finish) (j : ℕ) (r : Return) → Agrees old j r → Agrees new j r → times j old ≡ times j new
same_times old new j (Return.done n o) p q = p.0 ∙ sym q.0
same_times old new j Return.exited p q = p ∙ sym q

pub returned_times :
    (old new : List Finish) (rs : List Response) (j : ℕ) → AllAgree old rs → AllAgree new rs → has_returned j rs ≡ true →
    times j old ≡ times j new
unfolding has_returned
returned_times old new [] j p q h = absurd (false≢true h)
returned_times old new (r ∷ rs) j p q h =
    on_equal (λ b. cond b true (has_returned j rs) ≡ true → times j old ≡ times j new) r.operation j
    (λ e _. rw (← e) (same_times old new r.operation r.return p.0 q.0))
    (λ _ k. returned_times old new rs j p.1 q.1 k) h

-- places in an order and in an earlier one
pub place_below : (k : ℕ) (fs : List Finish) → rank k fs ≤ length fs
unfolding rank
place_below k [] = omega arith
place_below k (f ∷ fs) =
    on_test (λ n. n ≤ suc (length fs)) (eqb f.operation k) (λ _. omega arith) (λ _. omega (arith, place_below k fs))

times_grow : {old new : List Finish} (k : ℕ) → Extends old new → times k old ≤ times k new
unfolding times
times_grow k Extends.same = omega arith
times_grow {old} k (Extends.more {x = f} {l = l} q) =
    on_test (λ n. times k old ≤ n) (eqb f.operation k) (λ _. omega (arith, times_grow k q)) (λ _. times_grow k q)

pub place_kept : {old new : List Finish} (k : ℕ) → Extends old new → times k old ≡ times k new → rank k new ≡ rank k old
unfolding times rank
place_kept k Extends.same e = refl
place_kept {old} k (Extends.more {x = f} {l = l} q) e =
    on_equal (λ b. times k old ≡ cond b (suc (times k l)) (times k l) → cond b (suc (length l)) (rank k l) ≡ rank k old) f.operation k
    (λ _ z. absurd (omega (arith, times_grow k q))) (λ _ z. place_kept k q z) e

no_place : (k : ℕ) (fs : List Finish) → times k fs ≡ 0 → rank k fs ≡ 0
unfolding times rank
no_place k [] e = refl
no_place k (f ∷ fs) e =
    on_equal (λ b. cond b (suc (times k fs)) (times k fs) ≡ 0 → cond b (suc (length fs)) (rank k fs) ≡ 0) f.operation k
    (λ _ z. absurd (omega arith)) (λ _ z. no_place k fs z) e

pub place_after_lem : {old new : List Finish} (k : ℕ) → Extends old new → times k old ≡ 0 → 0 < rank k new → length old < rank k new
unfolding rank
place_after_lem {old} k Extends.same e h = absurd (omega (arith, no_place k old e))
place_after_lem {old} k (Extends.more {x = f} {l = l} q) e h =
    on_equal (λ b. 0 < cond b (suc (length l)) (rank k l) → length old < cond b (suc (length l)) (rank k l)) f.operation k
    (λ _ _. omega (arith, extends_length q)) (λ _ z. place_after_lem k q e z) h

-- what is noted of an operation that does not stand in the order
pub finish_none : (k : ℕ) (fs : List Finish) → times k fs ≡ 0 → (finish_of k fs).yields.fault ≡ false
unfolding times finish_of
finish_none k [] h = refl
finish_none k (f ∷ fs) h =
    on_equal (λ b. cond b (suc (times k fs)) (times k fs) ≡ 0 → (cond b f (finish_of k fs)).yields.fault ≡ false) f.operation k
    (λ _ z. absurd (omega arith)) (λ _ z. finish_none k fs z) h

-- a returned operation is a fault where the order says so
fault_of : (k : ℕ) (order : List Finish) (r : Return) → Agrees order k r → is_fault r ≡ (finish_of k order).yields.fault
fault_of k order (Return.done n y) q = ap (λ (f : Finish). f.yields.fault) (sym q.1)
fault_of k order Return.exited q = sym (finish_none k order q)

pub faults_agree :
    (order : List Finish) (rs : List Response) → AllAgree order rs → (k : ℕ) → has_returned k rs ≡ true →
    returned_fault k rs ≡ (finish_of k order).yields.fault
unfolding has_returned returned_fault
faults_agree order [] a k h = absurd (false≢true h)
faults_agree order (r ∷ rs) a k h =
    on_equal
    (λ b. cond b true (has_returned k rs) ≡ true → cond b (is_fault r.return) (returned_fault k rs) ≡ (finish_of k order).yields.fault)
    r.operation k (λ e _. rw (← e) (fault_of r.operation order r.return a.0)) (λ _ z. faults_agree order rs a.1 k z) h

-- the gate number of an operation is its rank
pub gate_rank : (k : ℕ) (fs : List Finish) → Numbered fs → (finish_of k fs).gate ≡ rank k fs
unfolding finish_of rank
gate_rank k [] h = refl
gate_rank k (f ∷ fs) h =
    on_equal (λ b. (cond b f (finish_of k fs)).gate ≡ cond b (suc (length fs)) (rank k fs)) f.operation k
    (λ _. h.0) (λ _. gate_rank k fs h.1)

-- flags that turn to done between two lists of announcements: none, or one
abbrev pub turns : Flag → Flag → Bool
turns f g = not (is_done f) && is_done g

turns_same : (f : Flag) → turns f f ≡ false
turns_same Done = refl
turns_same Active = refl
turns_same Exit = refl

pub turned_same : (k : ℕ) (l : List Announcement) → turned k l l ≡ []
unfolding turned
turned_same k [] = refl
turned_same k (a ∷ l) = rw (turns_same a.flag) (turned_same (suc k) l)

pub turned_not :
    (k : ℕ) (l : List Announcement) (i : ℕ) (b : Announcement) → turns (get_or l i open_announcement).flag b.flag ≡ false →
    turned k l (set l i b) ≡ []
unfolding turned
turned_not k [] i b h = refl
turned_not k (a ∷ l) zero b h = rw h (turned_same (suc k) l)
turned_not k (a ∷ l) (suc i) b h = rw (turns_same a.flag) (turned_not (suc k) l i b h)

pub turned_one :
    (k : ℕ) (l : List Announcement) (m : ℕ) (b : Announcement) → m < length l → turns (get_or l m open_announcement).flag b.flag ≡ true →
    turned k l (set l m b) ≡ (k + m) ∷ []
unfolding turned
turned_one k [] m b lt h = absurd (omega arith)
turned_one k (a ∷ l) zero b lt h = rw (h, turned_same (suc k) l, add-zero)
turned_one k (a ∷ l) (suc m) b lt h =
    rw (turns_same a.flag) (turned_one (suc k) l m b (omega arith) h ∙ rw (suc-add, add-suc))

-- what finishes and what returns changes no text
pub finished_changes : (o : Card) (gate : ℕ) (is : List ℕ) (s : History) → (with_finishes o gate is s).changes ≡ s.changes
unfolding with_finishes
finished_changes o gate [] s = refl
finished_changes o gate (i ∷ is) s = finished_changes o gate is (with_finish o gate i s)

pub returned_changes : (s : History) (i : ℕ) (v : Event) → (with_response s i v).changes ≡ s.changes
returned_changes s i Event.taken = refl
returned_changes s i (Event.returned r) = refl
returned_changes s i Event.none = refl
