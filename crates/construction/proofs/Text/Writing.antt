-- The text of a card put into a buffer, line by line, and what the writer answers.
use Rattle.std.specs.Prelude.{Ok, Err}
use mathlib.Core.Path.{◌≡◌, refl, ◌∙◌, ap, subst}
use mathlib.Core.List.{List, [], ◌∷◌, ◌++◌}
use Prim.Native.Nat.{ℕ, suc, ◌+◌, ◌-◌, ◌<◌, ◌≤◌}
use lib.ListN.{length, get_or}
use native.Mathlib.Omega.{arith}
use native.Mathlib.Numerals.{add-one}
use borrow.Author.Tests.{eq-eqb, ne_eqb, le-leb, lt-leb}
use Rattle.grammar.specs.Writing.{Put, field_text, four_text, largest}
use Rattle.grammar.proofs.Puts.{Room, Rest, rest_all, rest_step, rest_last, rest_none, put_both, put_front, put_fits}
use Rattle.construction.specs.Types.{Instruction, Encoded, Line, Program, Card, ShortBuffer}
use Rattle.construction.specs.Instructions.{encode, no_line, no_program}
use Rattle.construction.specs.Lines.{card_word, var_word, sheet_word, ins_word, card_text, var_text, sheet_text, encoded_text, ins_text}
use Rattle.construction.specs.Writing.{vars_text, lines_text, program_text, programs_text, text_of, written, written_into}

-- ---- texts of pieces one after another: m pieces from place k on
pub record Series (whole : ℕ → ℕ → List ℕ) (piece : ℕ → List ℕ) : Type 0 where
  pub none : (k : ℕ) → whole 0 k ≡ []
  pub more : (m k : ℕ) → whole (suc m) k ≡ piece k ++ whole m (suc k)

pub vars_series : (l : List ℕ) → Series (λ m k. vars_text m k l) (λ k. var_text (get_or l k 0))
unfolding vars_text
vars_series l = record { none = λ k. refl; more = λ m k. refl }

pub lines_series : (l : List Line) → Series (λ m k. lines_text m k l) (λ k. ins_text (get_or l k no_line).instruction)
unfolding lines_text
lines_series l = record { none = λ k. refl; more = λ m k. refl }

pub programs_series : (l : List Program) → Series (λ m k. programs_text m k l) (λ k. program_text (get_or l k no_program))
unfolding programs_text
programs_series l = record { none = λ k. refl; more = λ m k. refl }

module _ {whole : ℕ → ℕ → List ℕ} {piece : ℕ → List ℕ} (s : Series whole piece) where
  pub series_begin : (b : List ℕ) (at m : ℕ) → Room b at → Rest b at (whole m 0) b at (whole (m - 0) 0)
  series_begin b at m h = rw (let z : m - 0 ≡ m = omega arith in z) (rest_all b at (whole m 0) h)

  module _ {b₀ : List ℕ} {at : ℕ} {text b : List ℕ} {i : ℕ} (m k : ℕ) where
    pub series_turn : {x : List ℕ} {j : ℕ} {z : List ℕ} → k < m → Rest b₀ at text b i (whole (m - k) k) → x ≡ piece k → Put b i x j z →
        Rest b₀ at text z j (whole (m - (k + 1)) (k + 1))
    series_turn {x} {j} {z} h r e p =
        let n : m - k ≡ suc (m - (k + 1)) = omega arith in
        let w : whole (m - k) k ≡ x ++ whole (m - (k + 1)) (k + 1) =
        ap (λ (y : ℕ). whole y k) n ∙ s.more (m - (k + 1)) k ∙ rw (e, add-one k) in
        rest_step (subst (λ (y : List ℕ). Rest b₀ at text b i y) w r) p

    pub series_end : m ≤ k → Rest b₀ at text b i (whole (m - k) k) → Put b₀ at text i b
    series_end h r =
        let n : m - k ≡ 0 = omega arith in
        rest_none (subst (λ (y : List ℕ). Rest b₀ at text b i y) (ap (λ (y : ℕ). whole y k) n ∙ s.none k) r)

-- ---- the lines
module _ {b : List ℕ} {at i j : ℕ} {z₁ z₂ : List ℕ} where
  pub put_var : (v : ℕ) → Room b at → Put b at var_word i z₁ → Put z₁ i (field_text 10 v) j z₂ → Put b at (var_text v) j z₂
  unfolding var_text
  put_var v h p q = put_both h p q

  pub put_instruction :
      (x : Instruction) {e : Encoded} → e ≡ encode x → Room b at → Put b at ins_word i z₁ → Put z₁ i (four_text e.code e.a e.b e.c) j z₂ →
      Put b at (ins_text x) j z₂
  unfolding ins_text
  put_instruction x {e} f h p q = subst (λ (y : Encoded). Put b at (encoded_text y) j z₂) f (put_both h p q)

module _ {b : List ℕ} {at i j k : ℕ} {z₁ z₂ z₃ : List ℕ} where
  pub put_program :
      (x : Program) → Room b at → Put b at sheet_word i z₁ → Put z₁ i (field_text 10 x.length) j z₂ → Put z₂ j (lines_text x.length 0 x.lines) k z₃ →
      Put b at (program_text x) k z₃
  unfolding sheet_text
  put_program x h p q r = put_both h (put_both h p q) r

-- ---- the card
pub put_nothing : (c : Card) (b : List ℕ) → c.process_count ≡ 0 → Put b 0 (text_of c) 0 b
unfolding text_of
put_nothing c b h = rw (eq-eqb c.process_count 0 h) (record { place = refl; bytes = refl })

module _ {b : List ℕ} {i j k l : ℕ} {z₁ z₂ z₃ z₄ : List ℕ} where
  pub put_card :
      (c : Card) → (c.process_count ≡ 0 → ⊥) → Room b 0 → Put b 0 card_word i z₁ →
      Put z₁ i (four_text c.process_count c.variable_count c.program_count c.limit) j z₂ →
      Put z₂ j (vars_text c.variable_count 0 c.starts) k z₃ → Put z₃ k (programs_text c.program_count 0 c.programs) l z₄ → Put b 0 (text_of c) l z₄
  unfolding text_of card_text
  put_card c h room p q r s =
      rw (ne_eqb c.process_count 0 h)
      (rest_last (rest_step (rest_step (rest_all b 0 _ room) (put_both room p q)) r) s)

-- ---- what the writer answers, by the length that a buffer of no bytes tells; d is the buffer after that
pub no_front : (y b : List ℕ) → length y ≡ 0 → y ++ b ≡ b
no_front [] b h = refl
no_front (x ∷ y) b h = absurd (omega arith)

module _ (c : Card) (b : List ℕ) {d : List ℕ} (same : d ≡ b) {e y : List ℕ} {n : ℕ} (p : Put e 0 (text_of c) n y) (room : length b < largest) where
  module _ (h : n ≤ length d) where
    fits : (length (text_of c) ≤ length b) × (n ≡ length (text_of c))
    fits = (put_fits (length b) room p).0 (rw same at h)

    pub written_bytes : Ok n ≡ written c b
    unfolding written
    written_bytes = rw (le-leb _ _ fits.0) (ap (λ (m : ℕ). Ok m) fits.1)

    pub text_there : {m : ℕ} {z : List ℕ} → Put d 0 (text_of c) m z → z ≡ written_into c b
    unfolding written_into
    text_there {m} {z} q = put_front fits.0 (subst (λ (x : List ℕ). Put x 0 (text_of c) m z) same q) ∙ rw (le-leb _ _ fits.0)

  module _ (h : length d < n) where
    long : length b < length (text_of c)
    long = (put_fits (length b) room p).1 (rw same at h)

    pub written_short : Err ShortBuffer ≡ written c b
    unfolding written
    written_short = rw (lt-leb _ _ long)

    pub bytes_kept : d ≡ written_into c b
    unfolding written_into
    bytes_kept = same ∙ rw (lt-leb _ _ long)
