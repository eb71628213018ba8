-- 'A wish lasts until the operation returns; a second one is taken and alters nothing' (document 01, 'One step').
use Prim.Native.Nat.{ℕ}
use mathlib.Core.Path.{◌≡◌, refl, ap, ◌∙◌, subst, sym}
use mathlib.Core.Bool.{Bool, true, false, not}
use mathlib.Core.List.{List}
use mathlib.Core.Logic.{⊎_elim}
use lib.ListN.{get_or, set}
use lib.Seq.{set-get_or, set-set}
use Rattle.construction.specs.Types.{Words, P1, Access, Control, Card, Answer, Answered}
use Rattle.construction.specs.Cells.{open_announcement}
use Rattle.construction.specs.Instructions.{started}
use Rattle.construction.specs.Dictionary.{empty}
use Rattle.construction.specs.Parts.{idle_control, no_operation, no_gate, local_at, with_own, with_local}
use Rattle.construction.specs.Machine.{access_in, perform, advance}
use Rattle.construction.specs.Requests.{is_process, is_program, is_busy, is_idle, invoked, with_request, exiting, call, request_exit}
use Rattle.construction.specs.History.{Entry, act}
use Rattle.construction.proofs.Basics.{true_or_false, true_false, set_keeps}
use Rattle.construction.proofs.Observing.Outcomes.{Outcome, outcome}
use Rattle.construction.proofs.Statements.Refusals.{call_taken, exit_taken}

-- the card of an exit request that is taken
abbrev asked : Card → ℕ → Card
asked c i = with_local c i (exiting (local_at c i))

-- what stood in it, put back once more
asked_again : (c : Card) (i : ℕ) → asked (asked c i) i ≡ asked c i
asked_again c i =
    let d = asked c i in
    λ k.
    with_own c (set-get_or d.controls i idle_control k) (set-get_or d.operations i no_operation k) (set-set c.exits i true true k)
    (set-get_or d.counts i 0 k)
    (set-get_or d.gates_read i no_gate k) (set-get_or d.announcements_read i open_announcement k) (set-get_or d.simulations i started k)
    (set-get_or d.dictionaries i empty k) (set-get_or d.masks i 0 k)

-- a second exit request has the answer of the first and alters nothing
pub exit_twice : (c : Card) (i : ℕ) → request_exit (request_exit c i).card i ≡ request_exit c i
unfolding request_exit
exit_twice c i =
    ⊎_elim
    (λ (p : is_process c i ≡ true).
    ⊎_elim
    (λ (b : is_busy c i ≡ true). taken p b)
    (λ (b : is_busy c i ≡ false). again (rw (p, b)))
    (true_or_false (is_busy c i)))
    (λ (p : is_process c i ≡ false). again (rw p))
    (true_or_false (is_process c i))
  where
    -- a refused request leaves the card
    again : (request_exit c i).card ≡ c → request_exit (request_exit c i).card i ≡ request_exit c i
    again e = ap (λ (x : Card). request_exit x i) e

    busy_still : is_busy c i ≡ true → is_busy (asked c i) i ≡ true
    busy_still b =
        subst (λ (l : List Control). not (is_idle (get_or l i idle_control).place) ≡ true) (sym (set-get_or c.controls i idle_control)) b

    taken : is_process c i ≡ true → is_busy c i ≡ true → request_exit (request_exit c i).card i ≡ request_exit c i
    taken p b =
        let e = exit_taken c i p b in
        ap (λ (r : Answered). request_exit r.card i) e
        ∙ (exit_taken (asked c i) i p (busy_still b)
        ∙ (ap (λ (x : Card). record { card = x; answer = Answer.Taken }) (asked_again c i) ∙ sym e))

-- a step leaves every exit request
pub step_exits : (a : Access) (c : Card) (i : ℕ) → (perform a c i).card.exits ≡ c.exits
unfolding perform
step_exits Access.None c i = set-get_or c.exits i false
step_exits (Access.Gate a) c i = set-get_or c.exits i false
step_exits (Access.Announcement a) c i = set-get_or c.exits i false
step_exits Access.Help c i = set-get_or c.exits i false
step_exits Access.Note c i = set-get_or c.exits i false
step_exits Access.Write c i = set-get_or c.exits i false

-- an exit request of an operation under way lasts, whatever entry follows
pub exit_lasts :
    (c : Card) (i : ℕ) (e : Entry) → is_busy c i ≡ true → (local_at c i).exit ≡ true → (local_at (act c e).card i).exit ≡ true
unfolding advance
exit_lasts c i e b h = by_outcome (outcome c e)
  where
    lasts : (j : ℕ) (x : Bool) → (i ≡ j → x ≡ true) → get_or (set c.exits j x) i false ≡ true
    lasts j x f = set_keeps (λ y. y ≡ true) c.exits j i x false f h

    by_outcome : {e : Entry} {r : Answered} → Outcome c e r → (local_at r.card i).exit ≡ true
    by_outcome (Outcome.turned_back e why) = h
    by_outcome (Outcome.called j k inputs p f) =
        lasts j false (λ (z : i ≡ j). absurd (true_false _ b (subst (λ (n : ℕ). is_busy c n ≡ false) (sym z) f)))
    by_outcome (Outcome.asked j p) = lasts j true (λ _. refl)
    by_outcome (Outcome.stepped j x p f l) =
        ap (λ (l : List Bool). get_or l i false) (step_exits (access_in (local_at c j)) c j) ∙ h
    by_outcome (Outcome.shown v x) = h
    by_outcome (Outcome.unaltered k from t why line) = h
    by_outcome (Outcome.altered k from t p a l u) = h

-- after the return it has no effect: the next call, which alone is taken then, comes to the same card with it and without it
abbrev pub with_exit : Card → ℕ → Bool → Card
with_exit c i b = with_local c i (with_request (local_at c i) b)

pub exit_over :
    (c : Card) (i k : ℕ) (inputs : Words) (b : Bool) → is_process c i ≡ true → is_program c k ≡ true → is_busy c i ≡ false →
    call (with_exit c i b) i k inputs ≡ call c i k inputs
exit_over c i k inputs b p q f =
    call_taken (with_exit c i b) i k inputs p q
    (subst (λ (l : List Control). not (is_idle (get_or l i idle_control).place) ≡ false) (sym (set-get_or c.controls i idle_control)) f)
    ∙ (ap (λ (x : Card). record { card = x; answer = Answer.Taken }) same ∙ sym (call_taken c i k inputs p q f))
  where
    d : Card
    d = with_exit c i b

    same : with_local d i (invoked (local_at d i) k inputs) ≡ with_local c i (invoked (local_at c i) k inputs)
    same =
        λ n.
        with_own c (set-set c.controls i (local_at c i).control (record { place = P1; target = 0 }) n)
        (set-set c.operations i (local_at c i).operation (record { program = k; inputs = inputs }) n) (set-set c.exits i b false n)
        (set-set c.counts i (local_at c i).steps 0 n) (set-get_or d.gates_read i no_gate n) (set-get_or d.announcements_read i open_announcement n)
        (set-get_or d.simulations i started n) (set-get_or d.dictionaries i empty n) (set-get_or d.masks i 0 n)
