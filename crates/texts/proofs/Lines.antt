-- The words of a text, one by one: fetched and copied
use Prim.Native.Nat.{ℕ, suc, ◌+◌, ◌*◌, ◌<◌, ◌≤◌}
use mathlib.Core.Path.{◌≡◌, refl, sym, ◌∙◌, ap}
use mathlib.Core.Bool.{Bool, true, false}
use mathlib.Core.Logic.{inr}
use mathlib.Core.List.{List}
use native.Mathlib.Omega.{arith}
use native.Mathlib.Numerals.{add-one}
use lib.ListN.{set, get_or-eq_default}
use borrow.Author.Tests.{lt-ltb, le-ltb}
use Rattle.construction.specs.Instructions.{no_line, no_program, fetch}
use Rattle.codes.specs.Types.{Instruction}
use Rattle.codes.specs.Parts.{word_at, part, stores, table}
use Rattle.codes.specs.Codes.{byte, instruction_from, program_of}
use Rattle.codes.proofs.Blocks.{kept, length_table, table_same, get_or_table}
use Rattle.codes.proofs.Lines.{word_of_lem, part_table, stores_table, line_of}
use Rattle.texts.specs.declared.Text.{Text}
use Rattle.texts.specs.declared.Text.TheVariants.{Opening, Earlier, Later}
use Rattle.block.specs.Layout.{is_room, row_at}
use Rattle.texts.specs.Texts.{text_base}

pub base_small : (x : Text) → text_base x ≤ 1192
base_small Opening = omega arith
base_small Earlier = omega arith
base_small Later = omega arith

module _ (b : List ℕ) (base k c : ℕ) {t : Bool} (e : t ≡ is_room b k 8) where
  abbrev first : ℕ
  first = byte (word_at b (base + 33 * k))

  pub fetch_in :
      (x : Instruction) → t ≡ true → c < first → c < 32 → x ≡ instruction_from (word_at b (base + 33 * k + (c + 1))) →
      x ≡ fetch (row_at b base 33 8 program_of no_program k) c
  unfolding row_at fetch
  fetch_in x p q r h =
      let w = part b (base + 33 * k) 33 in
      let z : word_at w (suc c) ≡ word_at b (base + 33 * k + (c + 1)) =
      word_of_lem b (base + 33 * k) 33 (suc c) (omega arith) ∙ ap (word_at b) (let y : base + 33 * k + suc c ≡ base + 33 * k + (c + 1) = omega arith in y) in
      h ∙ sym (rw (sym e ∙ p, lt-ltb c first q, get_or_table 32 c (line_of w) no_line r, z))

  pub fetch_past_lines : t ≡ true → c < first → 32 ≤ c → Instruction.Stop ≡ fetch (row_at b base 33 8 program_of no_program k) c
  unfolding row_at fetch
  fetch_past_lines p q r =
      let w = part b (base + 33 * k) 33 in
      let z = length_table 32 (line_of w) in
      rw (sym e ∙ p, lt-ltb c first q, get_or-eq_default (table 32 (line_of w)) no_line {n = c} (omega arith))

  pub fetch_past : t ≡ true → first ≤ c → Instruction.Stop ≡ fetch (row_at b base 33 8 program_of no_program k) c
  unfolding row_at fetch
  fetch_past p q = rw (sym e ∙ p, le-ltb c first q)

  pub fetch_none : t ≡ false → Instruction.Stop ≡ fetch (row_at b base 33 8 program_of no_program k) c
  unfolding row_at fetch
  fetch_none p = rw (sym e ∙ p, le-ltb c 0 (omega arith))

-- how many there are
module _ (b : List ℕ) (base k x : ℕ) {t : Bool} (e : t ≡ is_room b k 8) where
  pub size_in : t ≡ true → x ≡ byte (word_at b (base + 33 * k)) → x ≡ (row_at b base 33 8 program_of no_program k).length
  unfolding row_at
  size_in p h = h ∙ sym (rw (sym e ∙ p))

  pub size_none : t ≡ false → x ≡ 0 → x ≡ (row_at b base 33 8 program_of no_program k).length
  unfolding row_at
  size_none p h = h ∙ sym (rw (sym e ∙ p))

-- a text copied, word by word
abbrev pub copied : List ℕ → ℕ → ℕ → ℕ → List ℕ
copied b start to k = stores b to (table k (λ j. word_at b (start + j)))

pub copy_start : (b : List ℕ) (start to : ℕ) → b ≡ copied b start to 0
unfolding table
copy_start b start to = refl

pub copy_turn :
    (b c : List ℕ) (start to k : ℕ) → c ≡ copied b start to k → to + 33 ≤ start → k < 33 →
    set c (to + k) (word_at c (start + k)) ≡ copied b start to (k + 1)
copy_turn b c start to k e p q =
    let f : ℕ → ℕ = λ j. word_at b (start + j) in
    let n = length_table k f in
    let old : word_at (copied b start to k) (start + k) ≡ word_at b (start + k) = kept b to (table k f) (start + k) (inr (omega arith)) in
    let z : to + (0 + k) ≡ to + k = omega arith in
    rw (e, old, add-one k) (sym (stores_table b to 0 k f ∙ ap (λ (r : ℕ). set (copied b start to k) r (f k)) z))

pub copy_done : (b c : List ℕ) (start to k : ℕ) → c ≡ copied b start to k → k ≡ 33 → c ≡ stores b to (part b start 33)
copy_done b c start to k e h =
    let g = table_same 33 (λ j. word_at b (start + j)) (λ j. word_at b (start + (0 + j)))
    (λ j p. ap (word_at b) (let z : start + (0 + j) ≡ start + j = omega arith in z)) in
    e ∙ rw h (ap (λ (l : List ℕ). stores b to l) (sym (part_table b start 0 33 ∙ g)))
