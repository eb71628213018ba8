-- What is taken out of a block, element by element, is what its card was opened with, whatever the loan; and the text of that is the card's
use Prim.Native.Nat.{ℕ, zero, suc, ◌+◌, ◌*◌, ◌<◌}
use mathlib.Core.Path.{◌≡◌, refl, sym, ◌∙◌, subst}
use mathlib.Core.Bool.{Bool, true, false, cond}
use mathlib.Core.List.{List, [], ◌∷◌, ◌++◌}
use native.Mathlib.Omega.{arith}
use native.Mathlib.Numerals.{add-one}
use lib.Dec.{leb}
use lib.ListN.{length, get_or, set, take}
use lib.Seq.{take_all, take-suc-set, ext_get_or}
use Rattle.construction.specs.declared.{texts.Contents.Contents, programs.Program.Program}
use Rattle.construction.specs.Instructions.{no_program}
use Rattle.construction.specs.Opening.{fresh, no_contents}
use Rattle.construction.specs.Parts.{contents_of}
use Rattle.construction.specs.Writing.{text_of, written, written_into}
use Rattle.construction.specs.Types.{Written}
use Rattle.codes.specs.Types.{Card}
use Rattle.codes.specs.Parts.{table, part, word_at}
use Rattle.codes.specs.Codes.{half, program_of}
use Rattle.codes.proofs.Blocks.{length_table, get_or_table}
use Rattle.block.specs.Layout.{process_count_in, variable_count_in, program_count_in, limit_in, start_in, opening_text}
use Rattle.block.specs.Cards.{standing, card_of}
use Rattle.block.proofs.Gets.{process_count_is, variable_count_is, program_count_is, limit_is, start_is, opening_text_is}
use Rattle.writer.specs.Written.{Writes}

-- a table made element by element
module _ {A : Type 0} where
  snoc : (n : ℕ) (f : ℕ → A) → table n f ++ (f n ∷ []) ≡ table (suc n) f
  unfolding table
  snoc zero f = refl
  snoc (suc n) f = rw (snoc n (λ k. f (suc k)))

  pub table_start : (f : ℕ → A) → ◌≡◌ {A = List A} [] (table 0 f)
  unfolding table
  table_start f = refl

  pub table_turn : (f : ℕ → A) (xs : List A) (k : ℕ) (x : A) → take k xs ≡ table k f → k < length xs → x ≡ f k → take (k + 1) (set xs k x) ≡ table (k + 1) f
  table_turn f xs k x e p q = rw (add-one k, take-suc-set xs k x p, e, q) (snoc k f)

  pub table_done : (f : ℕ → A) (xs : List A) (k n : ℕ) → take k xs ≡ table k f → length xs ≡ n → k ≡ n → xs ≡ table n f
  table_done f xs k n e p q = sym (take_all n xs (omega arith)) ∙ (rw q at e)

  -- a table of the elements of a list
  table_of : (n : ℕ) (f : ℕ → A) (xs : List A) (d : A) → length xs ≡ n → ((k : ℕ) → f k ≡ get_or xs k d) → table n f ≡ xs
  table_of n f xs d e h =
      let z = length_table n f in
      ext_get_or d (table n f) xs (z ∙ sym e) (λ i p. get_or_table n i f d (omega arith) ∙ h i)

module _ (b l : List ℕ) where
  starts_count : length (card_of b l).starts ≡ 64
  unfolding card_of standing fresh
  starts_count = go (leb 1456 (length b))
    where
      go : (t : Bool) → length (cond t (standing b l) (fresh no_contents)).starts ≡ 64
      go true = length_table 64 (λ i. half (word_at b (592 + i)))
      go false = refl

  programs_count : length (card_of b l).programs ≡ 8
  unfolding card_of standing fresh
  programs_count = go (leb 1456 (length b))
    where
      go : (t : Bool) → length (cond t (standing b l) (fresh no_contents)).programs ≡ 8
      go true = length_table 8 (λ i. program_of (part b (656 + 33 * i) 33))
      go false = refl

  abbrev taken : Contents
  taken =
      record {
        process_count = process_count_in b;
        variable_count = variable_count_in b;
        program_count = program_count_in b;
        limit = limit_in b;
        starts = table 64 (λ v. start_in b v);
        programs = table 8 (λ k. opening_text b k);
      }

  contents_is : taken ≡ contents_of (card_of b l)
  contents_is =
      let process_count = process_count_is b l in
      let variable_count = variable_count_is b l in
      let program_count = program_count_is b l in
      let limit = limit_is b l in
      let starts = table_of 64 (λ v. start_in b v) (card_of b l).starts 0 starts_count (start_is b l) in
      let programs = table_of 8 (λ k. opening_text b k) (card_of b l).programs no_program programs_count (opening_text_is b l) in
      λ j. record {
        process_count = process_count j;
        variable_count = variable_count j;
        program_count = program_count j;
        limit = limit j;
        starts = starts j;
        programs = programs j;
      }

  pub contents_taken :
      (p n s m : ℕ) (xs : List ℕ) (ys : List Program) → p ≡ process_count_in b → n ≡ variable_count_in b → s ≡ program_count_in b → m ≡ limit_in b →
      xs ≡ table 64 (λ v. start_in b v) → ys ≡ table 8 (λ k. opening_text b k) →
      record { process_count = p; variable_count = n; program_count = s; limit = m; starts = xs; programs = ys } ≡ contents_of (card_of b l)
  contents_taken p n s m xs ys e f g h u v =
      (λ j. record { process_count = e j; variable_count = f j; program_count = g j; limit = h j; starts = u j; programs = v j }) ∙ contents_is

-- the loan makes no difference
pub contents_any : (b l m : List ℕ) → contents_of (card_of b l) ≡ contents_of (card_of b m)
contents_any b l m = sym (contents_is b l) ∙ contents_is b m

-- the text of a card is that of what it was opened with
whole : (c : Card) (b : List ℕ) (r : Written) (z : List ℕ) → Writes (fresh (contents_of c)) b r z → Writes c b r z
unfolding fresh text_of written written_into
whole c b r z w = record { answer = w.answer; bytes = w.bytes }

pub writes_card : (c : Card) (x : Contents) (b : List ℕ) (r : Written) (z : List ℕ) → x ≡ contents_of c → Writes (fresh x) b r z → Writes c b r z
writes_card c x b r z e w = whole c b r z (subst (λ (y : Contents). Writes (fresh y) b r z) e w)

within : (c : Card) (b : List ℕ) (r : Written) (z : List ℕ) → Writes c b r z → Writes (fresh (contents_of c)) b r z
unfolding fresh text_of written written_into
within c b r z w = record { answer = w.answer; bytes = w.bytes }

pub writes_any : (b l m u : List ℕ) (r : Written) (z : List ℕ) → Writes (card_of b l) u r z → Writes (card_of b m) u r z
writes_any b l m u r z w = writes_card (card_of b m) (contents_of (card_of b l)) u r z (contents_any b l m) (within (card_of b l) u r z w)
