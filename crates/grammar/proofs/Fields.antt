-- Fields, and the last four numbers of a line.
use mathlib.Core.Bool.{Bool, true, false}
use mathlib.Core.Path.{◌≡◌, refl, sym, ap, ◌∙◌}
use mathlib.Core.List.{List}
use Prim.Native.Nat.{ℕ, suc, ◌+◌, ◌<◌, ◌≤◌}
use lib.ListN.{length}
use native.Mathlib.Omega.{arith}
use native.Mathlib.Numerals.{add-one}
use Rattle.std.specs.Prelude.{Option, Some, None}
use Rattle.std.proofs.lemmas.Option.{option_and_then_some}
use Rattle.grammar.specs.declared.{Found.Found, Four.Four}
use Rattle.grammar.specs.Reading.{found, four_of, has_byte, number, ended, field, four}
use Rattle.grammar.proofs.Cases.{on_test, clash}
use Rattle.grammar.proofs.Bytes.{byte_true}
use Rattle.grammar.proofs.Digits.{number_within}
use Rattle.grammar.proofs.Places.{same_value, same_next, same_found, same_parts}

-- ---- a field by its number and the byte after it
-- what a field that was read consists of: its number, and its separator as the last byte
pub record Field (t : List ℕ) (s at v next : ℕ) : Type 0 where
  pub end : ℕ
  pub number_there : number t at ≡ Some (found v end)
  pub separator_there : has_byte t end s ≡ true
  pub past : next ≡ suc end

pub field_parts : (t : List ℕ) (s at v i : ℕ) → field t s at ≡ Some (found v i) → Field t s at v i
unfolding field
field_parts t s at v i e = option_and_then_some (ended t s) (number t at) _ e go
  where
    go : (n : Found ℕ) → number t at ≡ Some n → ended t s n ≡ Some (found v i) → Field t s at v i
    go n f =
        on_test (λ (z : Option (Found ℕ)). z ≡ Some (found v i) → Field t s at v i) (has_byte t n.next s)
        (λ h z. let e = same_found z in
        record { end = n.next; number_there = f ∙ same_parts (same_value e) refl; separator_there = h; past = sym (same_next e) })
        (λ h z. clash (cc))

pub field_joined : (t : List ℕ) (s at v i : ℕ) → number t at ≡ Some (found v i) → has_byte t i s ≡ true → field t s at ≡ Some (found v (suc i))
unfolding field
field_joined t s at v i e p = rw (e, p)

pub field_within : (t : List ℕ) (s at v i : ℕ) → field t s at ≡ Some (found v i) → (at < i) × (i ≤ length t)
field_within t s at v i e =
    let p = field_parts t s at v i e in
    let n = number_within t at v p.end p.number_there in
    let h = byte_true t p.end s p.separator_there in
    let z = p.past in
    let l = h.within in
    omega arith

-- ---- four numbers by their fields
pub four_values :
    (t : List ℕ) (at : ℕ) {a b c d : Found ℕ} →
    Some a ≡ field t 44 at → Some b ≡ field t 44 a.next → Some c ≡ field t 44 b.next → Some d ≡ field t 10 c.next →
    Some (found (four_of a.value b.value c.value d.value) d.next) ≡ four t at
unfolding four
four_values t at ea eb ec ed = rw (← ea, ← eb, ← ec, ← ed)

-- what four numbers that were read consist of: the four fields, and the places where the later ones begin
pub record FourParts (t : List ℕ) (at a b c d next : ℕ) : Type 0 where
  pub at_b : ℕ
  pub at_c : ℕ
  pub at_d : ℕ
  pub field_a : field t 44 at ≡ Some (found a at_b)
  pub field_b : field t 44 at_b ≡ Some (found b at_c)
  pub field_c : field t 44 at_c ≡ Some (found c at_d)
  pub field_d : field t 10 at_d ≡ Some (found d next)

pub four_parts : (t : List ℕ) (at a b c d l : ℕ) → four t at ≡ Some (found (four_of a b c d) l) → FourParts t at a b c d l
unfolding four
four_parts t at a b c d l e =
    option_and_then_some _ (field t 44 at) _ e (λ x ex e₁.
    option_and_then_some _ (field t 44 x.next) _ e₁ (λ y ey e₂.
    option_and_then_some _ (field t 44 y.next) _ e₂ (λ z ez e₃.
    option_and_then_some _ (field t 10 z.next) _ e₃ (λ w ew e₄.
    let found_same = same_found e₄ in
    let values = same_value found_same in
    record {
      at_b = x.next;
      at_c = y.next;
      at_d = z.next;
      field_a = ex ∙ same_parts (ap (λ v. v.a) values) refl;
      field_b = ey ∙ same_parts (ap (λ v. v.b) values) refl;
      field_c = ez ∙ same_parts (ap (λ v. v.c) values) refl;
      field_d = ew ∙ same_parts (ap (λ v. v.d) values) (same_next found_same);
    }))))
