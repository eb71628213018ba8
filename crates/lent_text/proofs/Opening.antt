-- The block that a text's contents leave holds the card that they open to, part by part
use Prim.Native.Nat.{ℕ, zero, suc, ◌<◌, ◌≤◌, min}
use mathlib.Core.Path.{◌≡◌, refl, sym, ◌∙◌, ap}
use mathlib.Core.Logic.{inl}
use mathlib.Core.List.{List, [], ◌∷◌, ◌++◌, map}
use native.Mathlib.Omega.{arith}
use lib.ListN.{length, get_or, set, take, replicate, length-set}
use lib.Seq.{take_all, take-suc, take-suc-set}
use Rattle.construction.specs.declared.{texts.Contents.Contents, programs.Program.Program}
use Rattle.construction.specs.Cells.{open_gate, open_record}
use Rattle.construction.specs.Instructions.{no_program}
use Rattle.construction.specs.Opening.{begun, gathered, fresh}
use Rattle.construction.specs.Parts.{with_cells, with_gate, with_record}
use Rattle.construction.specs.Weight.{card_weight}
use Rattle.codes.specs.Types.{Card, Record}
use Rattle.codes.specs.Codes.{program_words}
use Rattle.codes.proofs.Values.{nobody_fits}
use Rattle.codes.proofs.Programs.{FitsProgram}
use Rattle.block.specs.Layout.{room_in, put_room, put_process_count, put_variable_count, put_program_count, put_limit, put_start, put_opening, put_earlier}
use Rattle.block.specs.Cards as cards
use Rattle.block.specs.Cards.{card_of}
use Rattle.block.proofs.Puts as puts
use Rattle.block.proofs.Standing.{number_same}
use Rattle.lent_text.specs.Opened.{cleared, put_head, put_value, put_values, put_texts, put_programs, contents_block}
use Rattle.lent_text.proofs.Fitting.{FitsContents}
use Rattle.lent_text.proofs.Clearing.{cleared_length, cleared_word, cleared_card, no_number}
use Rattle.lent_text.proofs.Keeping.{head_same, values_same, programs_same, contents_same}

-- a list replaced from another one, element by element, is that one
module _ {A : Type 0} (d : A) where
  unfoldable filled : ℕ → List A → List A → List A
  filled zero ys xs = ys
  filled (suc n) ys xs = set (filled n ys xs) n (get_or xs n d)

  filled_length : (n : ℕ) (ys xs : List A) → length (filled n ys xs) ≡ length ys
  unfolding filled
  filled_length zero ys xs = refl
  filled_length (suc n) ys xs = length-set (filled n ys xs) n (get_or xs n d) ∙ filled_length n ys xs

  filled_front : (n : ℕ) (ys xs : List A) → n ≤ length ys → n ≤ length xs → take n (filled n ys xs) ≡ take n xs
  unfolding filled
  filled_front zero ys xs p q = refl
  filled_front (suc n) ys xs p q =
      let e = filled_length n ys xs in
      let h = filled_front n ys xs (omega arith) (omega arith) in
      take-suc-set (filled n ys xs) n (get_or xs n d) (omega arith) ∙ ap (λ (z : List A). z ++ (get_or xs n d ∷ [])) h ∙ sym (take-suc xs n d (omega arith))

  filled_all : (n : ℕ) (ys xs : List A) → length ys ≡ n → length xs ≡ n → filled n ys xs ≡ xs
  filled_all n ys xs p q =
      let e = filled_length n ys xs in
      sym (take_all n (filled n ys xs) (omega arith)) ∙ filled_front n ys xs (omega arith) (omega arith) ∙ take_all n xs (omega arith)

map_set : {A B : Type 0} (f : A → B) (l : List A) (i : ℕ) (a : A) → set (map f l) i (f a) ≡ map f (set l i a)
map_set f [] i a = refl
map_set f (x ∷ l) zero a = refl
map_set f (x ∷ l) (suc i) a = rw (map_set f l i a)

abbrev with_records : Card → List Record → Card
with_records c rs = with_cells c c.gate c.announcements rs

module _ (l : List ℕ) where
  module _ (b : List ℕ) (long : 1456 ≤ length b) (y : Contents) (e : card_of b l ≡ fresh y) where
    -- a starting value with its record
    value_stored : (v x : ℕ) → x < 4294967296 → card_of (put_value b v x) l ≡ fresh (gathered y (set y.starts v x) y.programs)
    unfolding fresh
    value_stored v x p =
        let c = put_start b v x in
        let same = puts.put_number_length b 592 64 v x in
        puts.record_stored c l (omega arith) v (open_record x) (record { val0 = p; val1 = omega arith })
        ∙ ap (λ (k : Card). with_record k v (open_record x)) (puts.start_stored b l long v x p ∙ ap (λ (k : Card). cards.with_start k v x) e)
        ∙ ap (λ (rs : List Record). with_records (fresh (gathered y (set y.starts v x) y.programs)) rs) (map_set open_record y.starts v x)

    -- a program with its three texts
    texts_stored : (k : ℕ) (z : Program) → FitsProgram z → card_of (put_texts b k z) l ≡ fresh (gathered y y.starts (set y.programs k z))
    unfolding fresh
    texts_stored k z p =
        let c = put_opening b k z in
        let d = put_earlier c k z in
        let one = puts.put_row_length b 656 8 k 33 (program_words z) in
        let two = puts.put_row_length c 928 8 k 33 (program_words z) in
        puts.later_stored d l (omega arith) k z p
        ∙ ap (λ (x : Card). cards.with_later x k z) (puts.earlier_stored c l (omega arith) k z p)
        ∙ ap (λ (x : Card). cards.with_later (cards.with_earlier x k z) k z) (puts.opening_stored b l long k z p ∙ ap (λ (x : Card). cards.with_opening x k z) e)

  module _ (b : List ℕ) (long : 1456 ≤ length b) (y : Contents) (e : card_of b l ≡ fresh y) where
    values_stored :
        (xs : List ℕ) → ((k : ℕ) → get_or xs k 0 < 4294967296) → (n : ℕ) →
        card_of (put_values n b xs) l ≡ fresh (gathered y (filled {A = ℕ} 0 n y.starts xs) y.programs)
    unfolding put_values filled
    values_stored xs p zero = e
    values_stored xs p (suc n) =
        let same = (values_same 7 (inl refl) n b xs).size in
        value_stored (put_values n b xs) (omega arith) (gathered y (filled {A = ℕ} 0 n y.starts xs) y.programs) (values_stored xs p n) n (get_or xs n 0)
        (p n)

    programs_stored :
        (xs : List Program) → ((k : ℕ) → FitsProgram (get_or xs k no_program)) → (n : ℕ) →
        card_of (put_programs n b xs) l ≡ fresh (gathered y y.starts (filled no_program n y.programs xs))
    unfolding put_programs filled
    programs_stored xs p zero = e
    programs_stored xs p (suc n) =
        let same = (programs_same 7 (inl refl) n b xs).size in
        texts_stored (put_programs n b xs) (omega arith) (gathered y y.starts (filled no_program n y.programs xs)) (programs_stored xs p n) n
        (get_or xs n no_program) (p n)

  module _ (b : List ℕ) (long : 1456 ≤ length b) (x : Contents) where
    -- w, where nothing is noted
    cleared_room : (card_of (put_room (cleared b) (card_weight x)) l ≡ card_of (cleared b) l) ×
        (room_in (put_room (cleared b) (card_weight x)) ≡ min (card_weight x) 32)
    cleared_room =
        let same = cleared_length b long in
        puts.room_stored (cleared b) l (omega arith) (card_weight x) (λ i p. no_number (cleared b) l (cleared_word b long) 576 8 i (omega arith) p)

    head_stored : FitsContents x → card_of (put_head (cleared b) x) l ≡ fresh (begun x.process_count x.variable_count x.program_count x.limit)
    unfolding put_head fresh
    head_stored f =
        let c = cleared b in
        let b0 = put_room c (card_weight x) in
        let b1 = put_process_count b0 x.process_count in
        let b2 = put_variable_count b1 x.variable_count in
        let b3 = put_program_count b2 x.program_count in
        let b4 = put_limit b3 x.limit in
        let z = cleared_length b long in
        let z0 = puts.put_number_length c 7 1 0 (card_weight x) in
        let z1 = puts.put_number_length b0 0 1 0 x.process_count in
        let z2 = puts.put_number_length b1 1 1 0 x.variable_count in
        let z3 = puts.put_number_length b2 2 1 0 x.program_count in
        let z4 = puts.put_number_length b3 3 1 0 x.limit in
        let e0 = cleared_room.0 ∙ cleared_card b l long in
        let e1 = puts.process_count_stored b0 l (omega arith) x.process_count f.process_count ∙ ap
        (λ (k : Card). cards.with_process_count k x.process_count) e0 in
        let e2 = puts.variable_count_stored b1 l (omega arith) x.variable_count f.variable_count ∙ ap
        (λ (k : Card). cards.with_variable_count k x.variable_count) e1 in
        let e3 = puts.program_count_stored b2 l (omega arith) x.program_count f.program_count ∙ ap
        (λ (k : Card). cards.with_program_count k x.program_count) e2 in
        let e4 = puts.limit_stored b3 l (omega arith) x.limit ∙ ap (λ (k : Card). cards.with_limit k x.limit) e3 in
        puts.gate_stored b4 l (omega arith) open_gate nobody_fits ∙ ap (λ (k : Card). with_gate k open_gate) e4

    pub contents_stored : FitsContents x → length x.starts ≡ 64 → length x.programs ≡ 8 → card_of (contents_block b x) l ≡ fresh x
    unfolding contents_block
    contents_stored f p q =
        let head = put_head (cleared b) x in
        let first = begun x.process_count x.variable_count x.program_count x.limit in
        let z = cleared_length b long in
        let z0 = puts.put_number_length (cleared b) 7 1 0 (card_weight x) in
        let z1 = (head_same 7 (inl refl) (cleared b) x).size in
        let z2 = (values_same 7 (inl refl) 64 head x.starts).size in
        let some = values_stored head (omega arith) first (head_stored f) x.starts f.starts 64 in
        let starts : filled {A = ℕ} 0 64 (replicate 64 0) x.starts ≡ x.starts = filled_all {A = ℕ} 0 64 (replicate 64 0) x.starts refl p in
        let programs : filled no_program 8 (replicate 8 no_program) x.programs ≡ x.programs =
        filled_all no_program 8 (replicate 8 no_program) x.programs refl q in
        programs_stored (put_values 64 head x.starts) (omega arith)
        (gathered first (filled {A = ℕ} 0 64 (replicate 64 0) x.starts) (replicate 8 no_program)) some
        x.programs f.programs 8
        ∙ λ j. fresh (gathered first (starts j) (programs j))

    pub contents_room : room_in (contents_block b x) ≡ min (card_weight x) 32
    contents_room =
        let s = contents_same 7 (inl refl) b x in
        ap (λ (k : ℕ). min k 32) (number_same (put_room (cleared b) (card_weight x)) (contents_block b x) 7 1 0 s.size s.word) ∙ cleared_room.1
