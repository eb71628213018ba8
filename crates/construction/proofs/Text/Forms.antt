-- A line by its text (document 01, 'The card text'): a word and its numbers, of any length, as they are written. What is read of a number is kept
-- at `most` once it is larger, which no range lets through.
use Prim.Native.Nat.{ℕ, ◌+◌, ◌≤◌, ◌<◌, min}
use mathlib.Core.Path.{◌≡◌, refl, sym, ap, ◌∙◌}
use mathlib.Core.Bool.{Bool, true, false, ◌&&◌}
use mathlib.Core.List.{List, ◌++◌, append_assoc}
use native.Mathlib.Omega.{arith}
use native.Mathlib.Decide.{dec_lt}
use lib.ListN.{length, drop, length-append}
use lib.Dec.{ltb, leb, eqb}
use borrow.Author.Tests.{lt-leb, le-ltb, ne_eqb}
use Rattle.std.specs.Prelude.{Option, Some, None}
use Rattle.grammar.specs.declared.{Found.Found, Four.Four}
use Rattle.grammar.specs.Reading.{found, four_of, most, field, four, has_word}
use Rattle.grammar.specs.Writing.{field_text, four_text}
use Rattle.grammar.proofs.Bytes.{word_text_lem, word_reads, drop_past}
use Rattle.grammar.proofs.RoundTrip.{field_standing, four_standing, field_reads, four_reads}
use Rattle.construction.specs.Types.{OperandKind, Unused, Register, Word, Variable, Skip}
use Rattle.construction.specs.Instructions.{in_range, CodeRow, row_of, ranged, unused_zero}
use Rattle.construction.specs.Lines.{card_fits}
use Rattle.construction.proofs.Basics.{true_false}
use Rattle.construction.proofs.Text.Decoding.{past_rows}

module _ (t word : List ℕ) (at : ℕ) where
  -- a word and more stand at a place: the word, and then the more
  apart : (x : List ℕ) → has_word t at (word ++ x) ≡ true →
      (has_word t at word ≡ true) × (drop (at + length word) t ≡ x ++ drop (at + length (word ++ x)) t)
  apart x h =
      let e : drop at t ≡ word ++ (x ++ drop (at + length (word ++ x)) t) = word_text_lem t (word ++ x) at h ∙ append_assoc word x _ in
      (word_reads t word _ at e, drop_past t at word _ e)

  -- and the other way
  joined : (x r : List ℕ) → has_word t at word ≡ true → drop (at + length word) t ≡ x ++ r → has_word t at (word ++ x) ≡ true
  joined x r w e =
      word_reads t (word ++ x) r at (word_text_lem t word at w ∙ ap (λ (l : List ℕ). word ++ l) e ∙ sym (append_assoc word x r))

  past : (x : List ℕ) → at + length word + length x ≡ at + length (word ++ x)
  past x = omega (arith, length-append word x)

  -- a line of one number, and of four: it is read as it stands there, and if none stands there it has the wrong form
  pub field_found :
      (v : ℕ) → has_word t at (word ++ field_text 10 v) ≡ true →
      (has_word t at word ≡ true) × (field t 10 (at + length word) ≡ Some (found (min most v) (at + length (word ++ field_text 10 v))))
  field_found v h =
      let p = apart (field_text 10 v) h in
      (p.0, field_reads t 10 (at + length word) v _ refl p.1 ∙ ap (λ (i : ℕ). Some (found (min most v) i)) (past (field_text 10 v)))

  pub field_none :
      ((v : ℕ) → has_word t at (word ++ field_text 10 v) ≡ false) → has_word t at word ≡ true → field t 10 (at + length word) ≡ None
  field_none none w = go (field t 10 (at + length word)) refl
    where
      go : (f : Option (Found ℕ)) → field t 10 (at + length word) ≡ f → f ≡ None
      go None e = refl
      go (Some x) e =
          let s = field_standing t 10 (at + length word) x.value x.next e in
          absurd (true_false _ (joined (field_text 10 s.value) _ w s.there) (none s.value))

  pub four_found :
      (a b c d : ℕ) → has_word t at (word ++ four_text a b c d) ≡ true →
      (has_word t at word ≡ true)
      × (four t (at + length word) ≡ Some (found (four_of (min most a) (min most b) (min most c) (min most d)) (at + length (word ++ four_text a b c d))))
  four_found a b c d h =
      let p = apart (four_text a b c d) h in (
        p.0,
        four_reads t (at + length word) a b c d _ p.1
            ∙ ap (λ (i : ℕ). Some (found (four_of (min most a) (min most b) (min most c) (min most d)) i)) (past (four_text a b c d)),
      )

  pub four_none :
      ((a b c d : ℕ) → has_word t at (word ++ four_text a b c d) ≡ false) → has_word t at word ≡ true → four t (at + length word) ≡ None
  four_none none w = go (four t (at + length word)) refl
    where
      go : (f : Option (Found Four)) → four t (at + length word) ≡ f → f ≡ None
      go None e = refl
      go (Some x) e =
          let v = x.value in
          let s = four_standing t (at + length word) v.a v.b v.c v.d x.next e in
          absurd (true_false _ (joined (four_text s.a' s.b' s.c' s.d') _ w s.there) (none s.a' s.b' s.c' s.d'))

-- what depends on a number only below `most` does not see that it is kept there
kept_same : {A : Type 0} (f : ℕ → A) → ((x : ℕ) → most ≤ x → f x ≡ f most) → (x : ℕ) → f (min most x) ≡ f x
kept_same f h x = go (dec_lt x most)
  where
    go : Dec (x < most) → f (min most x) ≡ f x
    go (yes l) = let e : min most x ≡ x = omega arith in ap f e
    go (no l) = let e : min most x ≡ most = omega arith in ap f e ∙ sym (h x (omega arith))

and_no : (a b : Bool) → b ≡ false → a && b ≡ false
and_no true b e = e
and_no false b e = refl

range_past : (low high x : ℕ) → high < x → in_range low high x ≡ false
range_past low high x h = and_no (leb low x) _ (lt-leb x high h)

pub range_kept : (low high : ℕ) → high < most → (x : ℕ) → in_range low high (min most x) ≡ in_range low high x
range_kept low high l =
    kept_same (in_range low high) (λ x h. range_past low high x (omega arith) ∙ sym (range_past low high most (omega arith)))

below_kept : (n : ℕ) → n ≤ most → (x : ℕ) → ltb (min most x) n ≡ ltb x n
below_kept n l = kept_same (λ x. ltb x n) (λ x h. le-ltb x n (omega arith) ∙ sym (le-ltb most n (omega arith)))

pub fits_kept : (p n s l : ℕ) → card_fits (min most p) (min most n) (min most s) (min most l) ≡ card_fits p n s l
fits_kept p n s l =
    cc (range_kept 1 8 (omega arith) p, range_kept 1 64 (omega arith) n, range_kept 1 8 (omega arith) s, range_kept 1 1000000000000000000 (omega arith) l)

pub ranged_kept : (n : ℕ) → n ≤ 64 → (kind : OperandKind) (x : ℕ) → ranged n kind (min most x) ≡ ranged n kind x
ranged_kept n few Unused x = refl
ranged_kept n few Register x = below_kept 4 (omega arith) x
ranged_kept n few Word x = below_kept 4294967296 (omega arith) x
ranged_kept n few Variable x = below_kept n (omega arith) x
ranged_kept n few Skip x = range_kept 1 31 (omega arith) x

pub unused_kept : (kind : OperandKind) (x : ℕ) → unused_zero kind (min most x) ≡ unused_zero kind x
unused_kept Unused x = kept_same (λ x. eqb x 0) (λ x h. ne_eqb x 0 (λ e. omega arith) ∙ sym (ne_eqb most 0 (λ e. omega arith))) x
unused_kept Register x = refl
unused_kept Word x = refl
unused_kept Variable x = refl
unused_kept Skip x = refl

pub code_past : (k : ℕ) → 14 < k → (row_of k).format ≡ None
code_past k h = sym (ap (λ (r : CodeRow). r.format) (past_rows k h))

pub code_kept : (k : ℕ) → (row_of (min most k)).format ≡ (row_of k).format
code_kept = kept_same (λ k. (row_of k).format) (λ k h. code_past k (omega arith) ∙ sym (code_past most (omega arith)))
