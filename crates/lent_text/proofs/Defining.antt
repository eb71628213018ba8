-- Every word of the card is defined by the text: two blocks have the same 1456 words after it, whatever they had before
use Prim.Native.Nat.{ℕ, zero, suc, ◌+◌, ◌*◌, ◌<◌, ◌≤◌}
use mathlib.Core.Path.{◌≡◌, refl, sym, ◌∙◌}
use mathlib.Core.Bool.{Bool, true, false, cond}
use mathlib.Core.List.{List, [], ◌∷◌}
use native.Mathlib.Omega.{arith}
use lib.Dec.{eqb}
use lib.ListN.{length, get_or, set, length-set}
use lib.Seq.{get_or-set_same, get_or-set_other}
use borrow.Author.Tests.{eqb-true, eqb-false, le-leb}
use Rattle.construction.specs.declared.{texts.Contents.Contents, programs.Program.Program}
use Rattle.construction.specs.Cells.{open_gate, open_record}
use Rattle.construction.specs.Instructions.{no_program}
use Rattle.construction.specs.Weight.{card_weight}
use Rattle.codes.specs.Parts.{word_at, place, stores_from, stores}
use Rattle.codes.specs.Codes.{gate_words, record_words, program_words}
use Rattle.block.specs.Layout.{is_room, put_row, put_number}
use Rattle.lent_text.specs.Opened.{cleared, put_head, put_values, put_programs, contents_block}
use Rattle.lent_text.proofs.Clearing.{cleared_word, cleared_length}

record Agree (b c : List ℕ) : Type 0 where
  left : 1456 ≤ length b
  right : 1456 ≤ length c
  words : (q : ℕ) → q < 1456 → word_at b q ≡ word_at c q

set_agree : (b c : List ℕ) (at x : ℕ) → Agree b c → Agree (set b at x) (set c at x)
set_agree b c at x a =
    record {
      left = rw length-set a.left;
      right = rw length-set a.right;
      words = λ q p. go q p (eqb q at) refl;
    }
  where
    go : (q : ℕ) → q < 1456 → (t : Bool) → eqb q at ≡ t → word_at (set b at x) q ≡ word_at (set c at x) q
    go q p true e =
        let z = eqb-true q at e in
        let l = a.left in
        let r = a.right in
        rw z (get_or-set_same b at x 0 (omega arith) ∙ sym (get_or-set_same c at x 0 (omega arith)))
    go q p false e =
        let n = eqb-false q at e in
        get_or-set_other b at q x 0 n ∙ a.words q p ∙ sym (get_or-set_other c at q x 0 n)

stores_agree : (b c : List ℕ) (at k : ℕ) (l : List ℕ) → Agree b c → Agree (stores_from b at k l) (stores_from c at k l)
stores_agree b c at k [] a = a
stores_agree b c at k (x ∷ l) a = stores_agree (set b (place at k) x) (set c (place at k) x) at (suc k) l (set_agree b c (place at k) x a)

-- a part put into both
room_agree : (b c : List ℕ) (i n : ℕ) → Agree b c → is_room b i n ≡ is_room c i n
unfolding is_room
room_agree b c i n a = rw (le-leb 1456 (length b) a.left, le-leb 1456 (length c) a.right)

module _ (b c : List ℕ) (base n i : ℕ) (a : Agree b c) where
  number_agree : (x : ℕ) → Agree (put_number b base n i x) (put_number c base n i x)
  unfolding put_number
  number_agree x = rw (room_agree b c i n a) (go (is_room c i n))
    where
      go : (t : Bool) → Agree (cond t (set b (base + i) x) b) (cond t (set c (base + i) x) c)
      go true = set_agree b c (base + i) x a
      go false = a

  row_agree : (size : ℕ) (words : List ℕ) → Agree (put_row b base size n i words) (put_row c base size n i words)
  unfolding put_row
  row_agree size words = rw (room_agree b c i n a) (go (is_room c i n))
    where
      go : (t : Bool) → Agree (cond t (stores b (base + size * i) words) b) (cond t (stores c (base + size * i) words) c)
      go true = stores_agree b c (base + size * i) 0 words a
      go false = a

head_agree : (b c : List ℕ) (x : Contents) → Agree b c → Agree (put_head b x) (put_head c x)
unfolding put_head
head_agree b c x a =
    row_agree _ _ 5 1 0
    (number_agree _ _ 3 1 0
    (number_agree _ _ 2 1 0
    (number_agree _ _ 1 1 0 (number_agree _ _ 0 1 0 (number_agree b c 7 1 0 a (card_weight x)) x.process_count) x.variable_count)
    x.program_count)
    x.limit)
    2 (gate_words open_gate)

values_agree : (n : ℕ) (b c xs : List ℕ) → Agree b c → Agree (put_values n b xs) (put_values n c xs)
unfolding put_values
values_agree zero b c xs a = a
values_agree (suc n) b c xs a =
    row_agree _ _ 80 64 n (number_agree _ _ 592 64 n (values_agree n b c xs a) (get_or xs n 0)) 4 (record_words (open_record (get_or xs n 0)))

programs_agree : (n : ℕ) (b c : List ℕ) (xs : List Program) → Agree b c → Agree (put_programs n b xs) (put_programs n c xs)
unfolding put_programs
programs_agree zero b c xs a = a
programs_agree (suc n) b c xs a =
    let w = program_words (get_or xs n no_program) in
    row_agree _ _ 1192 8 n (row_agree _ _ 928 8 n (row_agree _ _ 656 8 n (programs_agree n b c xs a) 33 w) 33 w) 33 w

pub contents_defined :
    (b c : List ℕ) → 1456 ≤ length b → 1456 ≤ length c → (x : Contents) (q : ℕ) → q < 1456 → word_at (contents_block b x) q ≡ word_at (contents_block c x) q
unfolding contents_block
contents_defined b c h k x =
    (programs_agree 8 _ _ x.programs
    (values_agree 64 _ _ x.starts
    (head_agree (cleared b) (cleared c) x
    (record {
      left = let e = cleared_length b h in omega arith;
      right = let e = cleared_length c k in omega arith;
      words = λ q p. cleared_word b h q p ∙ sym (cleared_word c k q p);
    })))
    ).words
