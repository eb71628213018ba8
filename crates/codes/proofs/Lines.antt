-- The words of a program, one by one: read into its lines, and stored from them
use Prim.Native.Nat.{ℕ, zero, suc, ◌+◌, ◌<◌}
use mathlib.Core.Path.{◌≡◌, refl, sym, ◌∙◌, ap}
use mathlib.Core.List.{List, [], ◌∷◌, ◌++◌}
use native.Mathlib.Omega.{arith}
use native.Mathlib.Numerals.{add-one}
use lib.ListN.{length, get_or, set, take}
use lib.Seq.{take-suc-set}
use Rattle.construction.specs.Instructions.{no_line}
use Rattle.codes.specs.Types.{Instruction, Line, Program}
use Rattle.codes.specs.Parts.{word_at, place, part_from, stores_from, part, stores, table}
use Rattle.codes.specs.Codes.{byte, instruction_from, instruction_word, program_of, program_words}
use Rattle.codes.proofs.Blocks.{place_is, length_table, table_same}

-- a word of a part, and all of them
word_from : (b : List ℕ) (at j n k : ℕ) → k < n → word_at (part_from b at j n) k ≡ word_at b (at + (j + k))
word_from b at j zero k p = absurd (omega arith)
word_from b at j (suc n) zero p = ap (word_at b) (place_is at j ∙ omega arith)
word_from b at j (suc n) (suc k) p = word_from b at (suc j) n k (omega arith) ∙ ap (word_at b) (let z : at + (suc j + k) ≡ at + (j + suc k) = omega arith in z)

pub word_of_lem : (b : List ℕ) (at n k : ℕ) → k < n → word_at (part b at n) k ≡ word_at b (at + k)
word_of_lem b at n k p = word_from b at 0 n k p ∙ ap (word_at b) (let z : at + (0 + k) ≡ at + k = omega arith in z)

pub part_table : (b : List ℕ) (at j n : ℕ) → part_from b at j n ≡ table n (λ k. word_at b (at + (j + k)))
unfolding table
part_table b at j zero = refl
part_table b at j (suc n) =
    let e : word_at b (place at j) ≡ word_at b (at + (j + 0)) = ap (word_at b) (place_is at j ∙ omega arith) in
    let f = part_table b at (suc j) n in
    let g = table_same n (λ k. word_at b (at + (j + suc k))) (λ k. word_at b (at + (suc j + k)))
    (λ k p. ap (word_at b) (let z : at + (suc j + k) ≡ at + (j + suc k) = omega arith in z)) in
    λ i. e i ∷ (f ∙ g) i

-- one word more is stored behind the others
stores_snoc : (b : List ℕ) (at j : ℕ) (l : List ℕ) (w : ℕ) → stores_from b at j (l ++ (w ∷ [])) ≡ set (stores_from b at j l) (at + (j + length l)) w
stores_snoc b at j [] w = ap (λ (q : ℕ). set b q w) (place_is at j ∙ omega arith)
stores_snoc b at j (x ∷ l) w =
    stores_snoc (set b (place at j) x) at (suc j) l w
    ∙ ap (λ (q : ℕ). set (stores_from (set b (place at j) x) at (suc j) l) q w) (let z : at + (suc j + length l) ≡ at + (j + suc (length l)) = omega arith in z)

pub table_snoc : {A : Type 0} (n : ℕ) (f : ℕ → A) → table n f ++ (f n ∷ []) ≡ table (suc n) f
unfolding table
table_snoc zero f = refl
table_snoc (suc n) f = rw (table_snoc n (λ k. f (suc k)))

pub stores_table : (b : List ℕ) (at j k : ℕ) (f : ℕ → ℕ) → stores_from b at j (table (suc k) f) ≡ set (stores_from b at j (table k f)) (at + (j + k)) (f k)
stores_table b at j k f =
    let n = length_table k f in
    ap (λ (l : List ℕ). stores_from b at j l) (sym (table_snoc k f)) ∙ stores_snoc b at j (table k f) (f k)
    ∙ ap (λ (m : ℕ). set (stores_from b at j (table k f)) (at + (j + m)) (f k)) n

-- the instruction at a place
abbrev pub line_of : List ℕ → ℕ → Line
line_of w k = record { instruction = instruction_from (word_at w (suc k)) }

-- a text by value, line by line
abbrev pub line_at : List ℕ → ℕ → ℕ → Line
line_at b at k = record { instruction = instruction_from (word_at b (at + (k + 1))) }

pub lines_start : (xs : List Line) (b : List ℕ) (at : ℕ) → take 0 xs ≡ table 0 (line_at b at)
unfolding table
lines_start xs b at = refl

pub lines_turn :
    (xs : List Line) (b : List ℕ) (at k : ℕ) (x : Instruction) → take k xs ≡ table k (line_at b at) → k < length xs →
    x ≡ instruction_from (word_at b (at + (k + 1))) → take (k + 1) (set xs k (record { instruction = x })) ≡ table (k + 1) (line_at b at)
lines_turn xs b at k x e p q =
    rw (add-one k, take-suc-set xs k (record { instruction = x }) p, e, q) (table_snoc k (line_at b at))

take_all : {A : Type 0} (xs : List A) (n : ℕ) → length xs ≡ n → take n xs ≡ xs
take_all [] zero e = refl
take_all [] (suc n) e = absurd (omega arith)
take_all (x ∷ xs) zero e = absurd (omega arith)
take_all (x ∷ xs) (suc n) e = let h = take_all xs n (omega arith) in λ j. x ∷ h j

pub lines_done :
    (xs : List Line) (b : List ℕ) (at k n : ℕ) → take k xs ≡ table k (line_at b at) → length xs ≡ 32 → k ≡ 32 → n ≡ byte (word_at b at) →
    record { length = n; lines = xs } ≡ program_of (part b at 33)
lines_done xs b at k n e p q h =
    let w = part b at 33 in
    let all : xs ≡ table 32 (line_at b at) = sym (take_all xs 32 p) ∙ (rw q at e) in
    let same = table_same 32 (line_of w) (line_at b at)
    (λ j r. let z = word_of_lem b at 33 (suc j) (omega arith) ∙ ap (word_at b) (let y : at + suc j ≡ at + (j + 1) = omega arith in y) in
    λ i. record { instruction = instruction_from (sym z i) }) in
    let first : word_at w 0 ≡ word_at b at = refl in
    λ i. record { length = h i; lines = (all ∙ same) i }

-- a text put back, line by line
abbrev word_of : Program → ℕ → ℕ
word_of y k = instruction_word (get_or y.lines k no_line).instruction

-- behind the length
abbrev pub put_lines : List ℕ → ℕ → ℕ → Program → List ℕ
put_lines b at k y = stores_from b at 1 (table k (word_of y))

pub put_start_lem : (b : List ℕ) (at : ℕ) (y : Program) → b ≡ put_lines b at 0 y
unfolding table
put_start_lem b at y = refl

pub put_turn :
    (b c : List ℕ) (at k w : ℕ) (y : Program) → c ≡ put_lines b at k y → w ≡ word_of y k → set c (at + (k + 1)) w ≡ put_lines b at (k + 1) y
put_turn b c at k w y e h =
    let z : at + (1 + k) ≡ at + suc k = omega arith in
    rw (e, h, add-one k) (sym (stores_table b at 1 k (word_of y) ∙ ap (λ (q : ℕ). set (put_lines b at k y) q (word_of y k)) z))

pub put_done : (b c : List ℕ) (at k : ℕ) (y : Program) → c ≡ put_lines (set b at y.length) at k y → k ≡ 32 → c ≡ stores b at (program_words y)
put_done b c at k y e h = e ∙ rw h
