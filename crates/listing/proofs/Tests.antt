-- The tests of the listing as loops make them: idle processes, calls whose programs are there, the calls one by one.
use Prim.Native.Nat.{ℕ, zero, suc, ◌+◌, ◌-◌, ◌<◌, ◌≤◌}
use mathlib.Core.Path.{◌≡◌, refl, sym, ap, ◌∙◌}
use mathlib.Core.Bool.{Bool, true, false, not, ◌&&◌, ◌||◌}
use mathlib.Core.List.{List}
use native.Mathlib.Omega.{arith}
use native.Mathlib.Numerals.{add-one}
use lib.ListN.{get_or}
use lib.Dec.{ltb}
use borrow.Author.Tests.{lt-ltb, le-ltb, lt-leb, le-leb}
use Rattle.construction.specs.declared.{accesses.Label.Label, accesses.Control.Control, card.Card.Card}
use Rattle.construction.specs.Parts.{idle_control}
use Rattle.construction.specs.Requests.{is_idle, is_program, call}
use Rattle.executions.specs.declared.{Request.Request}
use Rattle.executions.specs.Schedules.{no_request, is_quiet}
use Rattle.executions.specs.Listings.{are_callable}
use Rattle.executions.proofs.Runs.{called_from}
use Rattle.listing.specs.Prefixes.{are_idle}
use Rattle.listing.specs.Runs.{distance, place_at, are_far, runs_on}

-- idle processes
not_not : (b : Bool) → not (not b) ≡ b
not_not true = refl
not_not false = refl

pub quiet_controls : (c : Card) (n : ℕ) → is_quiet c n ≡ are_idle c.controls n
unfolding is_quiet are_idle
quiet_controls c zero = refl
quiet_controls c (suc n) = rw (not_not (is_idle (get_or c.controls n idle_control).place), quiet_controls c n)

module _ (l : List Control) where
  idle_suc : (n : ℕ) → are_idle l (suc n) ≡ (is_idle (get_or l n idle_control).place && are_idle l n)
  unfolding are_idle
  idle_suc n = refl

  idle_step : (n : ℕ) → 0 < n → are_idle l n ≡ (is_idle (get_or l (n - 1) idle_control).place && are_idle l (n - 1))
  idle_step zero h = absurd (omega arith)
  idle_step (suc n) h = let e : suc n - 1 ≡ n = omega arith in rw e (idle_suc n)

  pub idle_turn : (n : ℕ) {b : Bool} → 0 < n → b ≡ is_idle (get_or l (n - 1) idle_control).place → b ≡ true → are_idle l n ≡ are_idle l (n - 1)
  idle_turn n h e t = idle_step n h ∙ rw (sym e ∙ t)

  pub idle_stop : (n : ℕ) {b : Bool} → 0 < n → b ≡ is_idle (get_or l (n - 1) idle_control).place → b ≡ false → are_idle l n ≡ false
  idle_stop n h e t = idle_step n h ∙ rw (sym e ∙ t)

  pub idle_none : (n : ℕ) → n ≤ 0 → are_idle l n ≡ true
  unfolding are_idle
  idle_none zero h = refl
  idle_none (suc n) h = absurd (omega arith)

-- processes that are far from their return
module _ (n : ℕ) (l : List Control) where
  far_suc : (m : ℕ) → are_far n l (suc m) ≡ ((is_idle (place_at l m) || ltb n (distance (place_at l m))) && are_far n l m)
  unfolding are_far
  far_suc m = refl

  far_step : (m : ℕ) → 0 < m → are_far n l m ≡ ((is_idle (place_at l (m - 1)) || ltb n (distance (place_at l (m - 1)))) && are_far n l (m - 1))
  far_step zero h = absurd (omega arith)
  far_step (suc m) h = let e : suc m - 1 ≡ m = omega arith in rw e (far_suc m)

  module _ (m : ℕ) {p : Label} {b : Bool} (h : 0 < m) (e : p ≡ place_at l (m - 1)) (t : b ≡ (is_idle p || ltb n (distance p))) where
    far_told : (is_idle (place_at l (m - 1)) || ltb n (distance (place_at l (m - 1)))) ≡ b
    far_told = ap (λ (q : Label). is_idle q || ltb n (distance q)) (sym e) ∙ sym t

    pub far_turn : b ≡ true → are_far n l m ≡ are_far n l (m - 1)
    far_turn f = far_step m h ∙ rw (far_told ∙ f)

    pub far_stop : b ≡ false → are_far n l m ≡ false
    far_stop f = far_step m h ∙ rw (far_told ∙ f)

  pub far_none : (m : ℕ) → m ≤ 0 → are_far n l m ≡ true
  unfolding are_far
  far_none zero h = refl
  far_none (suc m) h = absurd (omega arith)

-- the test whether a branch runs on, in its three parts
module _ (left : ℕ) (l : List Control) (count k steps limit : ℕ) {p : Label} (e : p ≡ place_at l k) {d : ℕ} (q : d ≡ distance p) where
  near_told : distance (place_at l k) ≡ d
  near_told = ap (λ (r : Label). distance r) (sym e) ∙ sym q

  pub runs_near : d ≤ left → false ≡ runs_on left l count k steps limit
  unfolding runs_on
  runs_near h = sym (rw (ap (λ (n : ℕ). ltb left n) near_told ∙ le-ltb left d h))

  module _ (h : left < d) {b : Bool} (f : b ≡ are_far (left - 1) l count) where
    far_there : ltb left (distance (place_at l k)) ≡ true
    far_there = ap (λ (n : ℕ). ltb left n) near_told ∙ lt-ltb left d h

    pub runs_others : b ≡ false → false ≡ runs_on left l count k steps limit
    unfolding runs_on
    runs_others g = sym (rw (far_there, sym f ∙ g))

    pub runs_limited : b ≡ true → limit < steps + left → false ≡ runs_on left l count k steps limit
    unfolding runs_on
    runs_limited g i = sym (rw (far_there, sym f ∙ g, lt-leb (steps + left) limit i))

    pub runs_free : b ≡ true → steps + left ≤ limit → true ≡ runs_on left l count k steps limit
    unfolding runs_on
    runs_free g i = sym (rw (far_there, sym f ∙ g, le-leb (steps + left) limit i))

-- calls whose programs are there
module _ (c : Card) (calls : List Request) where
  callable_suc : (m k : ℕ) → are_callable c calls (suc m) k ≡ (is_program c (get_or calls k no_request).program && are_callable c calls m (suc k))
  unfolding are_callable
  callable_suc m k = refl

  callable_step : (m k : ℕ) → k < m → are_callable c calls (m - k) k ≡
      (is_program c (get_or calls k no_request).program && are_callable c calls (m - (k + 1)) (k + 1))
  callable_step m k h =
      let e : m - k ≡ suc (m - (k + 1)) = omega arith in
      rw (e, add-one k) (callable_suc (m - (suc k)) k)

  module _ (m k : ℕ) {x : Request} {b : Bool} (h : k < m) (r : x ≡ get_or calls k no_request) (e : b ≡ is_program c x.program) where
    told : is_program c (get_or calls k no_request).program ≡ b
    told = ap (λ (y : Request). is_program c y.program) (sym r) ∙ sym e

    pub callable_turn : b ≡ true → are_callable c calls (m - k) k ≡ are_callable c calls (m - (k + 1)) (k + 1)
    callable_turn t = callable_step m k h ∙ rw (told ∙ t)

    pub callable_stop : b ≡ false → are_callable c calls (m - k) k ≡ false
    callable_stop t = callable_step m k h ∙ rw (told ∙ t)

  pub callable_none : (n k : ℕ) → n ≤ 0 → are_callable c calls n k ≡ true
  unfolding are_callable
  callable_none zero k h = refl
  callable_none (suc n) k h = absurd (omega arith)

-- the calls
module _ (calls : List Request) where
  called_suc : (c : Card) (m k : ℕ) → called_from c calls (suc m) k ≡ called_from
      (call c k (get_or calls k no_request).program (get_or calls k no_request).inputs).card calls m (suc k)
  unfolding called_from
  called_suc c m k = refl

  pub called_turn : (c d : Card) (m k : ℕ) {x : Request} → k < m → x ≡ get_or calls k no_request → d ≡ (call c k x.program x.inputs).card →
      called_from c calls (m - k) k ≡ called_from d calls (m - (k + 1)) (k + 1)
  called_turn c d m k {x} h r e =
      let n : m - k ≡ suc (m - (k + 1)) = omega arith in
      rw (n, add-one k)
      (called_suc c (m - (suc k)) k
      ∙ ap (λ (y : Request). called_from (call c k y.program y.inputs).card calls (m - (suc k)) (suc k)) (sym r)
      ∙ ap (λ (y : Card). called_from y calls (m - (suc k)) (suc k)) (sym e))

  pub called_none : (c : Card) (n k : ℕ) → n ≤ 0 → called_from c calls n k ≡ c
  unfolding called_from
  called_none c zero k h = refl
  called_none c (suc n) k h = absurd (omega arith)
