-- Things found in a text are equal where their values and the places past them are.
use mathlib.Core.Path.{◌≡◌, ap}
use Prim.Native.Nat.{ℕ}
use Rattle.std.specs.Prelude.{Some}
use Rattle.grammar.specs.declared.Found.{Found}
use Rattle.grammar.specs.declared.Four.{Four}
use Rattle.grammar.specs.Reading.{found, four_of}

pub same_value : {A : Type 0} {x y : Found A} → x ≡ y → x.value ≡ y.value
same_value e = ap (λ x. x.value) e

pub same_next : {A : Type 0} {x y : Found A} → x ≡ y → x.next ≡ y.next
same_next e = ap (λ x. x.next) e

pub same_found : {A : Type 0} {x y : Found A} → Some x ≡ Some y → x ≡ y
same_found e = cc

pub same_parts : {A : Type 0} {x : Found A} {v : A} {i : ℕ} → x.value ≡ v → x.next ≡ i → Some x ≡ Some (found v i)
same_parts p q = rw (← p, ← q)

pub same_fours :
    {x : Found Four} {a b c d i : ℕ} → x.value.a ≡ a → x.value.b ≡ b → x.value.c ≡ c → x.value.d ≡ d → x.next ≡ i →
    Some x ≡ Some (found (four_of a b c d) i)
same_fours p q r s t = rw (← p, ← q, ← r, ← s, ← t)
