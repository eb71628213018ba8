-- The loop that puts a text in pieces: s₀ and b₀ as it began, s and b as they stand, the lines that n bytes hold.
use mathlib.Core.Path.{◌≡◌, refl, ◌∙◌, ap}
use mathlib.Core.List.{List, [], ◌∷◌, ◌++◌, append-nil}
use Prim.Native.Nat.{ℕ, suc, ◌<◌, ◌≤◌}
use lib.ListN.{length, take, set}
use lib.Seq.{sets, length-sets, take-set-le}
use native.Mathlib.Omega.{arith}
use borrow.Author.Tests.{le-leb, lt-leb}
use Rattle.grammar.specs.Writing.{largest, Put}
use Rattle.grammar.proofs.Puts.{front_text, put_both, put_fits}
use Rattle.grammar.specs.Pieces.{gather, fitting, first_part, piece_into}

-- a store past the front of a buffer keeps it
take_sets : (x b : List ℕ) (n : ℕ) → take n (sets b n x) ≡ take n b
take_sets x b n = go x b n n (omega arith)
  where
    go : (x b : List ℕ) (n i : ℕ) → n ≤ i → take n (sets b i x) ≡ take n b
    go [] b n i h = refl
    go (a ∷ x) b n i h = go x (set b i a) n (suc i) (omega arith) ∙ take-set-le n b i a h

module _ {S L : Type 0} (part : S → L → List ℕ) (after : S → L → S) (left : S → List L) where
  pub record PrintLoop (s₀ : S) (b₀ lines : List ℕ) (s : S) (n : ℕ) (b : List ℕ) : Type 0 where
    pub put : Put b₀ 0 lines n b
    pub gathered : fitting part after s₀ (left s₀) (length b₀) ≡ gather part after (length b₀) (record { text = lines; state = s }) (left s)
    pub within : n ≤ length b₀
    pub small : length b₀ < largest

  -- what it comes to
  pub record Stopped (s₀ : S) (b₀ lines : List ℕ) (s : S) (n : ℕ) (z : List ℕ) : Type 0 where
    pub state : s ≡ (fitting part after s₀ (left s₀) (length b₀)).state
    pub count : n ≡ length (fitting part after s₀ (left s₀) (length b₀)).text
    pub bytes : z ≡ piece_into part after left s₀ b₀
    pub front : take n z ≡ lines
    pub within : n ≤ length z

  pub piece_length : (s : S) (b : List ℕ) → length (piece_into part after left s b) ≡ length b
  unfolding piece_into
  piece_length s b = let g = fitting part after s (left s) (length b) in length-sets b 0 (g.text ++ first_part part after g.state (left g.state))

  pub print_loop : (s : S) (b : List ℕ) → length b < largest → PrintLoop s b [] s 0 b
  print_loop s b h = record { put = record { place = refl; bytes = refl }; gathered = refl; within = omega arith; small = h }

  module _ {s₀ : S} {b₀ lines : List ℕ} {s : S} {n : ℕ} {b : List ℕ} (g : PrintLoop s₀ b₀ lines s n b) where
    pub print_loop_length : length b ≡ length b₀
    print_loop_length = ap length g.put.bytes ∙ length-sets b₀ 0 lines

    count : n ≡ length lines
    count = let p = g.put.place in let w = g.within in let l = g.small in omega arith

    -- nothing is left
    pub print_loop_end : left s ≡ [] → Stopped s₀ b₀ lines s n b
    unfolding piece_into gather
    print_loop_end none =
        let w = g.within in
        let l = g.small in
        let f : fitting part after s₀ (left s₀) (length b₀) ≡ record { text = lines; state = s } = g.gathered ∙ rw none in
        record {
          state = rw f;
          count = rw f count;
          bytes = rw (f, none, append-nil lines) g.put.bytes;
          front = front_text g.put (omega arith) w;
          within = omega (arith, print_loop_length);
        }

    -- a part is put
    module _ {l : L} {x : List ℕ} {j : ℕ} {z : List ℕ} (e : x ≡ part s l) (p : Put b n x j z) where
      both : Put b₀ 0 (lines ++ part s l) j z
      both = let w = g.within in let m = g.small in rw (← e) (put_both (omega arith) g.put p)

      pub print_loop_same : length z ≡ length b₀
      print_loop_same = ap length both.bytes ∙ length-sets b₀ 0 (lines ++ part s l)

      -- it fits
      pub print_loop_again : {s₁ : S} → s₁ ≡ after s l → left s ≡ l ∷ left (after s l) → j ≤ length z → PrintLoop s₀ b₀ (lines ++ part s l) s₁ j z
      unfolding gather
      print_loop_again es more fits =
          let same = print_loop_same in
          let room = (put_fits (length b₀) g.small both).0 (omega arith) in
          record {
            put = both;
            gathered = g.gathered ∙ rw (more, le-leb _ _ room.0, ← es);
            within = omega arith;
            small = g.small;
          }

      -- it does not
      pub print_loop_stopped : {ls : List L} → left s ≡ l ∷ ls → length z < j → Stopped s₀ b₀ lines s n z
      unfolding piece_into gather
      print_loop_stopped more over =
          let w = g.within in
          let m = g.small in
          let same = print_loop_same in
          let long = (put_fits (length b₀) g.small both).1 (omega arith) in
          let f : fitting part after s₀ (left s₀) (length b₀) ≡ record { text = lines; state = s } = g.gathered ∙ rw (more, lt-leb _ _ long) in
          record {
            state = rw f;
            count = rw f count;
            bytes = rw (f, more) both.bytes;
            front = ap (λ (y : List ℕ). take n y) p.bytes ∙ take_sets x b n ∙ front_text g.put (omega arith) w;
            within = omega arith;
          }
