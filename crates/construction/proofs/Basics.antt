-- Case splits on a test and on a place of a list; what the tests of cells and flags say; flags and holders told apart.
use Prim.Native.Nat.{ℕ, zero, suc, ◌<◌}
use mathlib.Core.Path.{◌≡◌, refl, sym, ap}
use mathlib.Core.Bool.{Bool, true, false, cond, ◌&&◌}
use mathlib.Core.Logic.{◌≢◌, ◌⊎◌, inl, inr}
use mathlib.Core.List.{List, [], ◌∷◌}
use native.Mathlib.Decide.{ℕ_discrete}
use lib.ListN.{length, get_or, set, replicate}
use lib.Seq.{get_or-set_same, get_or-set_other}
use lib.Dec.{eqb}
use borrow.Author.Tests.{eqb-true, eq-eqb}
pub use Rattle.grammar.proofs.Cases.{on_test, and_true, clash}
use Rattle.std.specs.Prelude.{Option, None, Some}
use Rattle.construction.specs.Types.{Gate, Flag, Done, Active, Exit, Words, Announcement, Record}
use Rattle.construction.specs.Cells.{is_done, same_holder, same_flag, same_bool, same_words, same_gate, same_announcement, same_record}

pub true_or_false : (b : Bool) → (b ≡ true) ⊎ (b ≡ false)
true_or_false true = inl refl
true_or_false false = inr refl

pub true_false : (b : Bool) → b ≡ true → b ≡ false → ⊥
true_false b p q = clash (cc)

-- a test whose outcome is known
pub cond_true {ℓ} : {A : Type ℓ} (b : Bool) (x y : A) → b ≡ true → cond b x y ≡ x
cond_true b x y e = rw e

pub cond_false {ℓ} : {A : Type ℓ} (b : Bool) (x y : A) → b ≡ false → cond b x y ≡ y
cond_false b x y e = rw e

pub and_false : (a b : Bool) → a && b ≡ false → (a ≡ false) ⊎ ((a ≡ true) × (b ≡ false))
and_false true b e = inr (refl, e)
and_false false b e = inl refl

-- by cases on the place that was set
pub on_set {ℓ κ} :
    {A : Type ℓ} (P : A → Type κ) (l : List A) (i j : ℕ) (a d : A) →
    i < length l → (j ≡ i → P a) → (j ≢ i → P (get_or l j d)) → P (get_or (set l i a) j d)
on_set P l i j a d h same other = go (ℕ_discrete j i)
  where
    go : Dec (j ≡ i) → P (get_or (set l i a) j d)
    go (yes e) = rw e (rw get_or-set_same (same e))
    go (no n) = rw get_or-set_other (other n)

-- the same where the place may lie past the end
pub set_keeps {ℓ κ} :
    {A : Type ℓ} (P : A → Type κ) (l : List A) (i j : ℕ) (a d : A) →
    (j ≡ i → P a) → P (get_or l j d) → P (get_or (set l i a) j d)
set_keeps P [] i j a d same h = h
set_keeps P (x ∷ l) zero zero a d same h = same refl
set_keeps P (x ∷ l) zero (suc j) a d same h = h
set_keeps P (x ∷ l) (suc i) zero a d same h = h
set_keeps P (x ∷ l) (suc i) (suc j) a d same h = set_keeps P l i j a d (λ e. same (ap suc e)) h

-- a list of the same, its default too
pub get_or_replicate_same : {A : Type 0} (n i : ℕ) (a : A) → get_or (replicate n a) i a ≡ a
get_or_replicate_same zero i a = refl
get_or_replicate_same (suc n) zero a = refl
get_or_replicate_same (suc n) (suc i) a = get_or_replicate_same n i a

-- equality of the parts of a cell
pub same_holder-true : (a b : Option ℕ) → same_holder a b ≡ true → a ≡ b
same_holder-true None None e = refl
same_holder-true None (Some n) e = cc
same_holder-true (Some m) None e = cc
same_holder-true (Some m) (Some n) e = ap Some (eqb-true m n e)

pub same_holder-refl : (a : Option ℕ) → same_holder a a ≡ true
same_holder-refl None = refl
same_holder-refl (Some m) = eq-eqb m m refl

same_flag-true : (a b : Flag) → same_flag a b ≡ true → a ≡ b
same_flag-true Done Done e = refl
same_flag-true Done Active e = cc
same_flag-true Done Exit e = cc
same_flag-true Active Done e = cc
same_flag-true Active Active e = refl
same_flag-true Active Exit e = cc
same_flag-true Exit Done e = cc
same_flag-true Exit Active e = cc
same_flag-true Exit Exit e = refl

same_flag-refl : (a : Flag) → same_flag a a ≡ true
same_flag-refl Done = refl
same_flag-refl Active = refl
same_flag-refl Exit = refl

same_bool-true : (a b : Bool) → same_bool a b ≡ true → a ≡ b
same_bool-true true b e = sym e
same_bool-true false true e = cc
same_bool-true false false e = refl

same_bool-refl : (a : Bool) → same_bool a a ≡ true
same_bool-refl true = refl
same_bool-refl false = refl

pub eqb_refl : (n : ℕ) → eqb n n ≡ true
eqb_refl n = eq-eqb n n refl

-- four tests that hold together
and_four : (a b c d : Bool) → a && (b && (c && d)) ≡ true → (a ≡ true) × (b ≡ true) × (c ≡ true) × (d ≡ true)
and_four a b c d e =
    let h = and_true a _ e in
    let k = and_true b _ h.1 in
    let l = and_true c d k.1 in
    (h.0, k.0, l.0, l.1)

-- a test that holds of a value and itself does not fail on equal values
refl_false : {A : Type 0} (same : A → A → Bool) → ((a : A) → same a a ≡ true) → (a b : A) → same a b ≡ false → a ≢ b
refl_false same r a b e q = true_false (same a b) (rw (← q) (r a)) e

-- equality of the words of a cell, and of whole cells, by their fields
words_path : {a b : Words} → a.w0 ≡ b.w0 → a.w1 ≡ b.w1 → a.w2 ≡ b.w2 → a.w3 ≡ b.w3 → a ≡ b
words_path e f g h = λ i. record { w0 = e i; w1 = f i; w2 = g i; w3 = h i }

pub gate_path : {a b : Gate} → a.holder ≡ b.holder → a.seq ≡ b.seq → a ≡ b
gate_path e f = λ i. record { holder = e i; seq = f i }

pub announcement_path :
    {a b : Announcement} → a.program ≡ b.program → a.flag ≡ b.flag → a.seq ≡ b.seq → a.number ≡ b.number → a.words ≡ b.words →
    a.fault ≡ b.fault → a ≡ b
announcement_path e f g n h k = λ i. record { program = e i; flag = f i; seq = g i; number = n i; words = h i; fault = k i }

record_path : {a b : Record} → a.val0 ≡ b.val0 → a.val1 ≡ b.val1 → a.toggle ≡ b.toggle → a.seq ≡ b.seq → a ≡ b
record_path e f g h = λ i. record { val0 = e i; val1 = f i; toggle = g i; seq = h i }

-- the tests of them
same_words-true : (a b : Words) → same_words a b ≡ true → a ≡ b
unfolding same_words
same_words-true a b e =
    let h = and_four (eqb a.w0 b.w0) (eqb a.w1 b.w1) (eqb a.w2 b.w2) _ e in
    words_path (eqb-true _ _ h.0) (eqb-true _ _ h.1) (eqb-true _ _ h.2) (eqb-true _ _ h.3)

same_words-refl : (a : Words) → same_words a a ≡ true
unfolding same_words
same_words-refl a = rw (eqb_refl a.w0, eqb_refl a.w1, eqb_refl a.w2) (eqb_refl a.w3)

pub same_gate-true : (a b : Gate) → same_gate a b ≡ true → a ≡ b
unfolding same_gate
same_gate-true a b e =
    let h = and_true (same_holder a.holder b.holder) _ e in
    gate_path (same_holder-true _ _ h.0) (eqb-true _ _ h.1)

same_gate-refl : (a : Gate) → same_gate a a ≡ true
unfolding same_gate
same_gate-refl a = rw same_holder-refl (eqb_refl a.seq)

pub same_gate-false : (a b : Gate) → same_gate a b ≡ false → a ≢ b
same_gate-false = refl_false same_gate same_gate-refl

pub same_announcement-true : (a b : Announcement) → same_announcement a b ≡ true → a ≡ b
unfolding same_announcement
same_announcement-true a b e =
    let h = and_four (eqb a.program b.program) (eqb a.seq b.seq) (same_flag a.flag b.flag) _ e in
    let k = and_true (eqb a.number b.number) _ h.3 in
    let l = and_true (same_bool a.fault b.fault) _ k.1 in
    announcement_path (eqb-true _ _ h.0) (same_flag-true _ _ h.2) (eqb-true _ _ h.1) (eqb-true _ _ k.0) (same_words-true _ _ l.1)
    (same_bool-true _ _ l.0)

same_announcement-refl : (a : Announcement) → same_announcement a a ≡ true
unfolding same_announcement
same_announcement-refl a = rw (eqb_refl a.program, eqb_refl a.seq, same_flag-refl, eqb_refl a.number, same_bool-refl) (same_words-refl a.words)

pub same_announcement-false : (a b : Announcement) → same_announcement a b ≡ false → a ≢ b
same_announcement-false = refl_false same_announcement same_announcement-refl

pub same_record-true : (a b : Record) → same_record a b ≡ true → a ≡ b
unfolding same_record
same_record-true a b e =
    let h = and_four (eqb a.val0 b.val0) (eqb a.val1 b.val1) (same_bool a.toggle b.toggle) _ e in
    record_path (eqb-true _ _ h.0) (eqb-true _ _ h.1) (same_bool-true _ _ h.2) (eqb-true _ _ h.3)

same_record-refl : (a : Record) → same_record a a ≡ true
unfolding same_record
same_record-refl a = rw (eqb_refl a.val0, eqb_refl a.val1, same_bool-refl) (eqb_refl a.seq)

pub same_record-false : (a b : Record) → same_record a b ≡ false → a ≢ b
same_record-false = refl_false same_record same_record-refl

-- holders told apart
pub nobody_process : {h : Option ℕ} {m : ℕ} → h ≡ None → h ≡ Some m → ⊥
nobody_process a b = clash (cc)

pub process_same : {m n : ℕ} → ◌≡◌ {A = Option ℕ} (Some m) (Some n) → m ≡ n
process_same e = cc

-- flags told apart
pub active_not_done : {f : Flag} → f ≡ Active → f ≢ Done
active_not_done p q = clash (cc)

pub active_not_exit : {f : Flag} → f ≡ Active → f ≢ Exit
active_not_exit p q = clash (cc)

pub exit_not_done : {f : Flag} → f ≡ Exit → f ≢ Done
exit_not_done p q = clash (cc)

pub done_or_not : (f : Flag) → (f ≡ Done) ⊎ (f ≢ Done)
done_or_not Done = inl refl
done_or_not Active = inr (active_not_done refl)
done_or_not Exit = inr (exit_not_done refl)

pub else_exit : (f : Flag) → f ≢ Done → f ≢ Active → f ≡ Exit
else_exit Done a b = absurd (a refl)
else_exit Active a b = absurd (b refl)
else_exit Exit a b = refl

pub else_done : (f : Flag) → f ≢ Active → f ≢ Exit → f ≡ Done
else_done Done a b = refl
else_done Active a b = absurd (a refl)
else_done Exit a b = absurd (b refl)

-- the test of a flag
pub is_done-true : (f : Flag) → is_done f ≡ true → f ≡ Done
is_done-true Done e = refl
is_done-true Active e = cc
is_done-true Exit e = cc

pub is_done-false : (f : Flag) → is_done f ≡ false → f ≢ Done
is_done-false f e d = true_false _ (ap is_done d) e

pub ne-is_done : (f : Flag) → f ≢ Done → is_done f ≡ false
ne-is_done Done h = absurd (h refl)
ne-is_done Active h = refl
ne-is_done Exit h = refl
