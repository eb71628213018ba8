-- The arrays of a card that code holds are full; and what stands at a place that may lie past the room of an array.
use Prim.Native.Nat.{ℕ, ◌%◌, ◌≤◌, ◌<◌}
use mathlib.Core.Bool.{Bool, true, false, cond, not, ◌&&◌}
use mathlib.Core.List.{List}
use mathlib.Core.Path.{◌≡◌, refl, sym, ◌∙◌}
use native.Mathlib.Nat.{mod-eq_of_lt}
use lib.Dec.{ltb}
use lib.ListN.{length, get_or, set, get_or-eq_default}
use lib.Seq.{set_out}
use borrow.Author.Tests.{ltb-true, ltb-false}
use mir.Val.{Val}
use denote.Laws.{Is}
use denote.Struct.Declared.{row}
use Rattle.opening.proofs.Laws.{inside}
use Rattle.construction.specs.contracts.card.Card.{the_type}
use Rattle.construction.specs.declared.card.Card.{Card}

pub record FullArrays (c : Card) : Type 0 where
  pub from : length c.from ≡ 8
  pub earlier : length c.earlier ≡ 8
  pub later : length c.later ≡ 8
  pub announcements : length c.announcements ≡ 8
  pub records : length c.records ≡ 64
  pub controls : length c.controls ≡ 8
  pub counts : length c.counts ≡ 8
  pub announcements_read : length c.announcements_read ≡ 8
  pub dictionaries : length c.dictionaries ≡ 8
  pub gates_read : length c.gates_read ≡ 8
  pub masks : length c.masks ≡ 8

pub full_arrays : (c : Card) (vs : List Val) → Is (row the_type) c vs → FullArrays c
full_arrays c vs p =
    let limit = p.1.1.1.1.1 in
    let from = limit.1.1.1 in
    let earlier = from.1 in
    let later = earlier.1 in
    let announcements = later.1.1 in
    let records = announcements.1 in
    let controls = records.1.1 in
    let counts = controls.1.1.1 in
    let announcements_read = counts.1.1 in
    let dictionaries = announcements_read.1.1 in
    let gates_read = counts.1 in
    let masks = dictionaries.1 in
    record {
      from = from.0.1.0.1;
      earlier = earlier.0.1.0.1;
      later = later.0.1.0.1;
      announcements = announcements.0.1.0.1;
      records = records.0.1.0.1;
      controls = controls.0.1.0.1;
      counts = counts.0.1.0.1;
      announcements_read = announcements_read.0.1.0.1;
      dictionaries = dictionaries.0.1.0.1;
      gates_read = gates_read.0.1.0.1;
      masks = masks.0.1.0.1;
    }

module _ {A : Type 0} (l : List A) (n : ℕ) (full : length l ≡ n) (m : ℕ) where
  -- what is found at a place: past the room the opening value
  pub found : (d e x : A) → x ≡ cond (ltb m n) (get_or l (m % n) d) e → x ≡ get_or l m e
  found d e x p = p ∙ go (ltb m n) refl
    where
      go : (b : Bool) → ltb m n ≡ b → cond b (get_or l (m % n) d) e ≡ get_or l m e
      go true q = let h = ltb-true m n q in rw (mod-eq_of_lt h) (inside l m d e (rw full h))
      go false q = sym (get_or-eq_default l e {n = m} (rw full (ltb-false m n q)))

  -- past the room nothing is stored
  pub not_stored : (a : A) → n ≤ m → l ≡ set l m a
  not_stored a h = sym (set_out l m a (rw full h))

-- a number that passed the test of its room
second : (a b : Bool) → a && b ≡ true → b ≡ true
second true b e = e
second false b e = cc

pub in_room : (a b n : ℕ) → ltb a b && ltb a n ≡ true → a < n
in_room a b n e = ltb-true a n (second (ltb a b) (ltb a n) e)

none_right : (a : Bool) → a && false ≡ false
none_right true = refl
none_right false = refl

-- what is judged stands at place m mod n: where that is another place, number m is not there
pub judged_there :
    {A B : Type 0} (l : List A) (m s n : ℕ) (d : A) (none : B) (f : A → B) →
    cond (not (ltb m s && ltb m n)) none (f (get_or l (m % n) d)) ≡ cond (not (ltb m s && ltb m n)) none (f (get_or l m d))
judged_there {A} {B} l m s n d none f = go (ltb m n) refl
  where
    go : (b : Bool) → ltb m n ≡ b → cond (not (ltb m s && ltb m n)) none (f (get_or l (m % n) d)) ≡ cond (not (ltb m s && ltb m n)) none (f (get_or l m d))
    go true q = rw (mod-eq_of_lt (ltb-true m n q))
    go false q = rw (q, none_right (ltb m s))
