-- The branches of the listing: room for the steps still to choose, one branch, the processes in turn, and a line that ends.
use Prim.Native.Nat.{ℕ, zero, suc, ◌+◌, ◌*◌, ◌-◌, ◌/◌, ◌%◌, ◌^◌, ◌<◌, ◌≤◌}
use mathlib.Core.Path.{◌≡◌, refl, sym, subst, ap, ◌∙◌}
use mathlib.Core.Bool.{Bool, true, false, cond, ◌||◌, false≢true}
use mathlib.Core.List.{List, [], ◌∷◌, ◌++◌}
use native.Mathlib.Omega.{arith}
use native.Mathlib.Nat.{zero-add, suc-mul, pow-le-pow_left, pow-le-pow_right, one-le-pow}
use native.Mathlib.Numerals.{add-one}
use lib.ListN.{length, take, length-take, length-append}
use lib.Dec.{eqb}
use borrow.Author.Tests.{eq-eqb, ne_eqb}
use Rattle.grammar.specs.Writing.{decimal, largest, Put}
use Rattle.grammar.proofs.Decimals.{decimal_one}
use Rattle.grammar.proofs.Puts.{Room, Rest}
use Rattle.construction.specs.declared.{accesses.Control.Control, card.Card.Card, answers.Answer.Answer, answers.Answered.Answered}
use Rattle.construction.specs.Answers.{is_refused}
use Rattle.construction.specs.Requests.{is_idle, step}
use Rattle.construction.proofs.Text.Writing.{Series, series_begin, series_turn, series_end}
use Rattle.executions.specs.Schedules.{is_quiet}
use Rattle.executions.specs.Listings.{answer_text, branch_text, branches_text, text_after, piece_after}
use Rattle.executions.proofs.Branches.{accepted_busy, step_processes}
use Rattle.executions.proofs.Texts.{text_ended, text_more}
use Rattle.listing.specs.Prefixes.{are_idle, Holds, longest, capacity, Lines}
use Rattle.listing.specs.Runs.{place_at, runs_on, run_text, runs_from, runs_text}
use Rattle.listing.proofs.Buffers.{Extended, extended, kept_less, put_none}
use Rattle.listing.proofs.Tests.{quiet_controls}
use Rattle.listing.proofs.Running.{runs_branch}

-- how much can come
pub capacity_up : (n v w : ℕ) → v ≤ w → capacity n v ≤ capacity n w
unfolding capacity
capacity_up zero v w h = h
capacity_up (suc n) v w h = omega (arith, capacity_up n v w h)

capacity_line : (n w : ℕ) → w ≤ capacity n w
unfolding capacity
capacity_line zero w = omega arith
capacity_line (suc n) w = omega (arith, capacity_line n w)

-- at most 16 steps
capacity_more : (m n w : ℕ) → m ≤ n → capacity m w ≤ capacity n w
unfolding capacity
capacity_more zero n w h = capacity_line n w
capacity_more (suc m) zero w h = absurd (omega arith)
capacity_more (suc m) (suc n) w h = omega (arith, capacity_more m n w (omega arith))

sixteen : capacity 16 2129 ≡ 91646469009
unfolding capacity
sixteen = refl

pub capacity_most : (n : ℕ) → n ≤ 16 → capacity n 2129 < largest
capacity_most n h = omega (arith, capacity_more n 16 2129 h, sixteen)

capacity_suc : (n w : ℕ) → capacity (suc n) w ≡ 3 * capacity n w
unfolding capacity
capacity_suc n w = refl

capacity_three : (n w : ℕ) → 0 < n → capacity n w ≡ 3 * capacity (n - 1) w
capacity_three zero w h = absurd (omega arith)
capacity_three (suc n) w h = let e : suc n - 1 ≡ n = omega arith in rw e (capacity_suc n w)

-- one more printed step
module _ (k : ℕ) (text : List ℕ) (n left : ℕ) (numbers : List ℕ) (x : ℕ) (answers : List ℕ) (y : ℕ) {p : ℕ} (H : Holds p left numbers x answers y) (low : k < 3)
    (more : 0 < left)
    {i : ℕ} {numbers₁ : List ℕ} (q : Put numbers x (decimal k) i numbers₁) {j : ℕ} {answers₁ : List ℕ} (r : Put answers y text j answers₁) (short : j ≤ y + 132)
  where
    digit : length (decimal k) ≡ 1
    digit = ap length (decimal_one k (omega (arith, low)))

    numbers_more : Extended numbers x (decimal k) i numbers₁
    numbers_more = extended q (omega (arith, q.place, digit, H.digits, H.digits_end)) H.digits_end

    answers_more : Extended answers y text j answers₁
    answers_more = extended r (omega (arith, short, H.fields)) H.fields_end

    pub add_holds : (m : ℕ) → m ≤ 3 → Holds m (left - 1) numbers₁ i answers₁ j
    add_holds m few =
        let u = numbers_more in
        let v = answers_more in
        record {
          few = few;
          digits = omega (arith, u.place, u.size, digit, H.digits);
          fields = omega (arith, v.size, short, H.fields);
          digits_end = omega (arith, u.size, H.digits_end);
          fields_end = omega (arith, v.size, H.fields_end);
        }

    pub add_lines :
        (f : List ℕ → List ℕ → List ℕ) {b : List ℕ} {at e : ℕ} {z numbers₂ answers₂ : List ℕ} →
        Lines b at (f (take i numbers₁) (take j answers₁)) (capacity n (longest (left - 1) i j)) e z numbers₁ i numbers₂ answers₁ j answers₂ →
        Lines b at (f (take x numbers ++ decimal k) (take y answers ++ text)) (capacity n (longest left x y)) e z numbers x numbers₂ answers y answers₂
    add_lines f {b} {at} {e} {z} {numbers₂} {answers₂} L =
        let u = numbers_more in
        let v = answers_more in
        record {
          put = subst (λ (t : List ℕ). Put b at t e z)
              (ap (λ (t : List ℕ). f t (take j answers₁)) u.whole ∙ ap (λ (t : List ℕ). f (take x numbers ++ decimal k) t) v.whole) L.put;
          within = omega (arith, L.within, capacity_up n (longest (left - 1) i j) (longest left x y) (omega (arith, u.place, digit, short)));
          digits = kept_less x i numbers₁ numbers₂ (omega (arith, u.place)) L.digits ∙ u.kept;
          fields = kept_less y j answers₁ answers₂ (omega (arith, v.place)) L.fields ∙ v.kept;
        }

-- nothing printed
pub no_lines : {text : List ℕ} (most : ℕ) (numbers : List ℕ) (x : ℕ) (answers : List ℕ) (y : ℕ) {b : List ℕ} {at : ℕ} → text ≡ [] → at ≤ largest →
    Lines b at text most at b numbers x numbers answers y answers
no_lines {text} most numbers x answers y {b} {at} e h =
    record { put = subst (λ (u : List ℕ). Put b at u at b) (sym e) (put_none b at h); within = omega arith; digits = refl; fields = refl }

-- one branch
module _ (c : Card) (k : ℕ) {s : Answered} (e : s ≡ step c k) {t : Bool} (a : t ≡ is_refused s.answer) where
  refusal : is_refused (step c k).answer ≡ t
  refusal = ap (λ (r : Answered). is_refused r.answer) (sym e) ∙ sym a

  module _ (rest : Card → List ℕ → List ℕ → List ℕ) (n left : ℕ) (numbers : List ℕ) (x : ℕ) (answers : List ℕ) (y : ℕ) where
    pub branch_refused :
        {b : List ℕ} {at : ℕ} → t ≡ true → at ≤ largest →
        Lines b at (branch_text k (step c k) (take x numbers) (take y answers) rest) (capacity n (longest left x y)) at b numbers x numbers answers y answers
    branch_refused f h = no_lines (capacity n (longest left x y)) numbers x answers y (rw (refusal ∙ f)) h

    module _ (H : Holds c.process_count left numbers x answers y) (more : 0 < left) (f : t ≡ false)
        {i : ℕ} {numbers₁ : List ℕ} (p : Put numbers x (decimal k) i numbers₁) {j : ℕ} {answers₁ : List ℕ}
        (q : Put answers y (answer_text s.answer) j answers₁) (short : j ≤ y + 132) where
      low : k < 3
      low = omega (arith, (accepted_busy c k (refusal ∙ f)).0, H.few)

      pub branch_holds : {d : Card} → d ≡ s.card → Holds d.process_count (left - 1) numbers₁ i answers₁ j
      branch_holds {d} g =
          let m : d.process_count ≡ c.process_count = ap (λ (u : Card). u.process_count) g ∙ ap (λ (r : Answered). r.card.process_count) e ∙ step_processes c
          k in
          add_holds k (answer_text s.answer) n left numbers x answers y H low more p q short d.process_count (omega (arith, m, H.few))

      pub branch_accepted :
          {b : List ℕ} {at r : ℕ} {z numbers₂ answers₂ : List ℕ} →
          Lines b at (rest s.card (take i numbers₁) (take j answers₁)) (capacity n (longest (left - 1) i j)) r z numbers₁ i numbers₂ answers₁ j answers₂ →
          Lines b at (branch_text k (step c k) (take x numbers) (take y answers) rest) (capacity n (longest left x y)) r z numbers x numbers₂ answers y answers₂
      branch_accepted {b} {at} {r} {z} {numbers₂} {answers₂} L =
          subst (λ (u : List ℕ). Lines b at u (capacity n (longest left x y)) r z numbers x numbers₂ answers y answers₂) (sym text)
          (add_lines k (answer_text s.answer) n left numbers x answers y H low more p q short (λ z w. rest s.card z w) L)
        where
          text : branch_text k (step c k) (take x numbers) (take y answers) rest ≡ rest s.card (take x numbers ++ decimal k)
              (take y answers ++ answer_text s.answer)
          text =
              subst
              (λ (u : Answered). branch_text k u (take x numbers) (take y answers) rest ≡ rest s.card (take x numbers ++ decimal k)
              (take y answers ++ answer_text s.answer))
              e
              (rw (sym a ∙ f))

-- a piece by cases
pub piece_ended : (m n j : ℕ) (c : Card) (x y : List ℕ) → 0 < m → {t : Bool} → t ≡ are_idle c.controls c.process_count → t ≡ true →
    piece_after m n j c x y ≡ cond (eqb j 0) (x ++ (y ++ (10 ∷ []))) []
unfolding piece_after
piece_ended zero n j c x y h e f = absurd (omega arith)
piece_ended (suc m) n j c x y h e f = rw (quiet_controls c c.process_count ∙ sym e ∙ f)

pub piece_more :
    (m n j : ℕ) (c : Card) (x y : List ℕ) → 0 < m → {t : Bool} → t ≡ are_idle c.controls c.process_count → t ≡ false → {block : ℕ} →
    block ≡ c.process_count ^ (m - 1) →
    piece_after m n j c x y ≡ branch_text (j / block) (step c (j / block)) x y (λ d z w. piece_after (m - 1) n (j % block) d z w)
unfolding piece_after
piece_more zero n j c x y h e f b = absurd (omega arith)
piece_more (suc m) n j c x y h e f b = let d : suc m - 1 ≡ m = omega arith in rw (quiet_controls c c.process_count ∙ sym e ∙ f, b, d)

-- a process goes on, so there is one
pub some_process : (c : Card) {t : Bool} → t ≡ are_idle c.controls c.process_count → t ≡ false → 0 < c.process_count
unfolding are_idle
some_process c {t} e f = go c.process_count (sym e ∙ f)
  where
    go : (n : ℕ) → are_idle c.controls n ≡ false → 0 < n
    go zero h = absurd (false≢true (sym h))
    go (suc n) h = omega arith

module _ (first left j : ℕ) (c : Card) (numbers : List ℕ) (x : ℕ) (answers : List ℕ) (y : ℕ) (more : 0 < first) {t : Bool}
    (idle : t ≡ are_idle c.controls c.process_count) where
  abbrev Piece : List ℕ → ℕ → ℕ → List ℕ → List ℕ → List ℕ → Type 0
  Piece b at r z numbers' answers' =
      Lines b at (piece_after first left j c (take x numbers) (take y answers)) (capacity left (longest (first + left) x y)) r z numbers x numbers' answers y
      answers'

  pub piece_line : {b : List ℕ} {at r : ℕ} {z : List ℕ} → t ≡ true → j ≡ 0 → Put b at (take x numbers ++ (take y answers ++ (10 ∷ []))) r z →
      Piece b at r z numbers answers
  piece_line {b} {at} {r} {z} f e p =
      record {
        put = subst (λ (u : List ℕ). Put b at u r z) (sym (piece_ended first left j c (take x numbers) (take y answers) more idle f ∙ rw (eq-eqb j 0 e))) p;
        within = omega (
          arith,
          p.place,
          length-append (take x numbers) (take y answers ++ (10 ∷ [])),
          length-append (take y answers) (10 ∷ []),
          length-take x numbers,
          length-take y answers,
          capacity_line left (longest (first + left) x y),
        );
        digits = refl;
        fields = refl;
      }

  pub piece_none : {b : List ℕ} {at : ℕ} → t ≡ true → (j ≡ 0 → ⊥) → at ≤ largest → Piece b at at b numbers answers
  piece_none {b} {at} f e h =
      record {
        put = subst (λ (u : List ℕ). Put b at u at b) (sym (piece_ended first left j c (take x numbers) (take y answers) more idle f ∙ rw (ne_eqb j 0 e)))
            (put_none b at h);
        within = omega arith;
        digits = refl;
        fields = refl;
      }

  pub piece_begun :
      {block : ℕ} → t ≡ false → block ≡ c.process_count ^ (first - 1) → {b : List ℕ} {at r : ℕ} {z numbers' answers' : List ℕ} →
      Lines b at (branch_text (j / block) (step c (j / block)) (take x numbers) (take y answers) (λ d z w. piece_after (first - 1) left (j % block) d z w))
      (capacity left (longest (first + left) x y)) r z numbers x numbers' answers y answers' →
      Piece b at r z numbers' answers'
  piece_begun f q {b} {at} {r} {z} {numbers'} {answers'} L =
      record {
        put = subst (λ (u : List ℕ). Put b at u r z) (sym (piece_more first left j c (take x numbers) (take y answers) more idle f q)) L.put;
        within = L.within;
        digits = L.digits;
        fields = L.fields;
      }

-- one step fewer
pub fewer_holds : (first left : ℕ) {p : ℕ} {numbers : List ℕ} {x : ℕ} {answers : List ℕ} {y : ℕ} → 0 < first → Holds p (first + left - 1) numbers x answers y →
    Holds p (first - 1 + left) numbers x answers y
fewer_holds first left {p} {numbers} {x} {answers} {y} h H = let e : first + left - 1 ≡ first - 1 + left = omega arith in
    subst (λ (n : ℕ). Holds p n numbers x answers y) e H

pub fewer_lines :
    (first left n : ℕ) {b : List ℕ} {at : ℕ} {text : List ℕ} {r : ℕ} {z numbers : List ℕ} {x : ℕ} {numbers' answers : List ℕ} {y : ℕ} {answers' : List ℕ} →
    0 < first →
    Lines b at text (capacity n (longest (first - 1 + left) x y)) r z numbers x numbers' answers y answers' →
    Lines b at text (capacity n (longest (first + left - 1) x y)) r z numbers x numbers' answers y answers'
fewer_lines first left n {b} {at} {text} {r} {z} {numbers} {x} {numbers'} {answers} {y} {answers'} h L =
    let e : first - 1 + left ≡ first + left - 1 = omega arith in
    subst (λ (m : ℕ). Lines b at text (capacity n (longest m x y)) r z numbers x numbers' answers y answers') e L

-- no first step
pub first_holds : (first left : ℕ) {p : ℕ} {numbers : List ℕ} {x : ℕ} {answers : List ℕ} {y : ℕ} → first ≡ 0 → Holds p (first + left) numbers x answers y →
    Holds p left numbers x answers y
first_holds first left {p} {numbers} {x} {answers} {y} e H = let d : first + left ≡ left = omega arith in subst (λ (n : ℕ). Holds p n numbers x answers y) d H

pub first_lines :
    (first left j : ℕ) (c : Card) {b : List ℕ} {at r : ℕ} {z numbers : List ℕ} {x : ℕ} {numbers' answers : List ℕ} {y : ℕ} {answers' : List ℕ} → first ≡ 0 →
    Lines b at (text_after left c (take x numbers) (take y answers)) (capacity left (longest left x y)) r z numbers x numbers' answers y answers' →
    Lines b at (piece_after first left j c (take x numbers) (take y answers)) (capacity left (longest (first + left) x y)) r z numbers x numbers' answers y
    answers'
unfolding piece_after
first_lines zero left j c {b} {at} {r} {z} {numbers} {x} {numbers'} {answers} {y} {answers'} e L =
    subst (λ (n : ℕ). Lines b at (text_after left c (take x numbers) (take y answers)) (capacity left (longest n x y)) r z numbers x numbers' answers y answers')
    (sym (zero-add left)) L
first_lines (suc first) left j c e L = absurd (omega arith)

-- powers that code can hold
pub power_fits : (b k : ℕ) → b ≤ 3 → k ≤ 16 → b ^ k < 4294967296
power_fits b k few h =
    let q : b ^ k ≤ 3 ^ k = pow-le-pow_left few k in
    let s : 3 ^ k ≤ 3 ^ 16 = pow-le-pow_right (omega arith) h in
    omega arith

pub power_some : (b k : ℕ) {r : ℕ} → 0 < b → r ≡ b ^ k → 0 < r
power_some b k h e = omega (arith, e, one-le-pow k b h)

-- a schedule that ends
pub has_ended : (c : Card) (left : ℕ) {b : Bool} → b ≡ (eqb left 0 || are_idle c.controls c.process_count) → (eqb left 0 || is_quiet c c.process_count) ≡ b
has_ended c left e = rw (quiet_controls c c.process_count) (sym e)

pub steps_left : (c : Card) (left : ℕ) {t : Bool} → t ≡ (eqb left 0 || are_idle c.controls c.process_count) → t ≡ false → 0 < left
steps_left c left e f = (text_more left c [] [] (has_ended c left e ∙ f)).0

module _ (c : Card) (left : ℕ) {numbers : List ℕ} {x : ℕ} {answers : List ℕ} {y : ℕ} {t : Bool}
    (ended : t ≡ (eqb left 0 || are_idle c.controls c.process_count)) where
  pub ended_lines :
      {b : List ℕ} {at r : ℕ} {z : List ℕ} → t ≡ true → Put b at (take x numbers ++ (take y answers ++ (10 ∷ []))) r z →
      Lines b at (text_after left c (take x numbers) (take y answers)) (capacity left (longest left x y)) r z numbers x numbers answers y answers
  ended_lines {b} {at} {r} {z} q p =
      record {
        put = subst (λ (u : List ℕ). Put b at u r z) (sym (text_ended left c (take x numbers) (take y answers) (has_ended c left ended ∙ q))) p;
        within = omega (
          arith,
          p.place,
          length-append (take x numbers) (take y answers ++ (10 ∷ [])),
          length-append (take y answers) (10 ∷ []),
          length-take x numbers,
          length-take y answers,
          capacity_line left (longest left x y),
        );
        digits = refl;
        fields = refl;
      }

-- the processes in turn: texts one after the other, each of at most `size` bytes
pub record Turning (whole : ℕ → ℕ → List ℕ) (count size : ℕ) (b₀ : List ℕ) (at : ℕ) (numbers₀ : List ℕ) (x : ℕ) (answers₀ : List ℕ) (y : ℕ) (b : List ℕ)
    (i k : ℕ) (numbers answers : List ℕ) : Type 0 where
  pub rest : Rest b₀ at (whole count 0) b i (whole (count - k) k)
  pub within : i ≤ at + k * size
  pub digits : take x numbers ≡ take x numbers₀
  pub fields : take y answers ≡ take y answers₀
  pub digits_size : length numbers ≡ length numbers₀
  pub fields_size : length answers ≡ length answers₀
  pub turns : k ≤ count

module _ {whole : ℕ → ℕ → List ℕ} {piece : ℕ → List ℕ} (S : Series whole piece) (count size : ℕ) (b₀ : List ℕ) (at : ℕ) (numbers₀ : List ℕ) (x : ℕ)
    (answers₀ : List ℕ) (y : ℕ) where
  pub turning_begin : Room b₀ at → Turning whole count size b₀ at numbers₀ x answers₀ y b₀ at 0 numbers₀ answers₀
  turning_begin h =
      record {
        rest = series_begin S b₀ at count h;
        within = omega arith;
        digits = refl;
        fields = refl;
        digits_size = refl;
        fields_size = refl;
        turns = omega arith;
      }

  module _ {b : List ℕ} {i k : ℕ} {numbers answers : List ℕ} (T : Turning whole count size b₀ at numbers₀ x answers₀ y b i k numbers answers) where
    pub turning_holds : {p left : ℕ} → Holds p left numbers₀ x answers₀ y → Holds p left numbers x answers y
    turning_holds H =
        record {
          few = H.few;
          digits = omega (arith, T.digits_size, H.digits);
          fields = omega (arith, T.fields_size, H.fields);
          digits_end = omega (arith, T.digits_size, H.digits_end);
          fields_end = omega (arith, T.fields_size, H.fields_end);
        }

    pub turning_turn :
        {text : List ℕ} → text ≡ piece k → {j : ℕ} {z numbers' answers' : List ℕ} → k < count → Lines b i text size j z numbers x numbers' answers y answers' →
        length numbers' ≡ length numbers → length answers' ≡ length answers → Turning whole count size b₀ at numbers₀ x answers₀ y z j (k + 1) numbers' answers'
    turning_turn {text} e {j} {z} {numbers'} {answers'} h L m n =
        record {
          rest = series_turn S count k h T.rest e L.put;
          within = omega (arith, T.within, L.within, step_more);
          digits = L.digits ∙ T.digits;
          fields = L.fields ∙ T.fields;
          digits_size = m ∙ T.digits_size;
          fields_size = n ∙ T.fields_size;
          turns = omega arith;
        }
      where
        step_more : (k + 1) * size ≡ k * size + size
        step_more = rw (add-one k) (suc-mul k size)

    pub turning_end : count ≤ 3 → count ≤ k → Lines b₀ at (whole count 0) (3 * size) i b numbers₀ x numbers answers₀ y answers
    turning_end few h =
        record {
          put = series_end S count k h T.rest;
          within = omega (arith, T.within, three k size (omega (arith, T.turns)));
          digits = T.digits;
          fields = T.fields;
        }
      where
        three : (k n : ℕ) → k ≤ 3 → k * n ≤ 3 * n
        three zero n l = omega arith
        three (suc zero) n l = omega (arith, suc-mul 0 n)
        three (suc (suc zero)) n l = omega (arith, suc-mul 1 n, suc-mul 0 n)
        three (suc (suc (suc zero))) n l = omega arith
        three (suc (suc (suc (suc k)))) n l = absurd (omega arith)

-- all processes of a card, and what follows
abbrev pub branches_of : Card → ℕ → List ℕ → List ℕ → ℕ → ℕ → List ℕ
branches_of c left x y m k = branches_text c x y (λ d z w. text_after (left - 1) d z w) m k

pub branches_series : (c : Card) (left : ℕ) (x y : List ℕ) →
    Series (branches_of c left x y) (λ k. branch_text k (step c k) x y (λ d z w. text_after (left - 1) d z w))
unfolding branches_text
branches_series c left x y = record { none = λ k. refl; more = λ m k. refl }

-- the prefixes as a turn found them are those that the loop began with
pub branch_kept :
    (c : Card) (left k : ℕ) {x x' y y' : List ℕ} → x ≡ x' → y ≡ y' →
    branch_text k (step c k) x y (λ d z w. text_after (left - 1) d z w) ≡ branch_text k (step c k) x' y' (λ d z w. text_after (left - 1) d z w)
branch_kept c left k e f = rw (e, f)

pub more_lines :
    (c : Card) (left : ℕ) {t : Bool} → t ≡ (eqb left 0 || are_idle c.controls c.process_count) → t ≡ false →
    {b : List ℕ} {at r : ℕ} {z numbers : List ℕ} {x : ℕ} {numbers' answers : List ℕ} {y : ℕ} {answers' : List ℕ} →
    Lines b at (branches_of c left (take x numbers) (take y answers) c.process_count 0) (3 * capacity (left - 1) (longest left x y)) r z numbers x numbers'
    answers y answers' →
    Lines b at (text_after left c (take x numbers) (take y answers)) (capacity left (longest left x y)) r z numbers x numbers' answers y answers'
more_lines c left e f {b} {at} {r} {z} {numbers} {x} {numbers'} {answers} {y} {answers'} L =
    let m = text_more left c (take x numbers) (take y answers) (has_ended c left e ∙ f) in
    record {
      put = subst (λ (u : List ℕ). Put b at u r z) (sym m.1) L.put;
      within = omega (arith, L.within, capacity_three left (longest left x y) m.0);
      digits = L.digits;
      fields = L.fields;
    }

-- the same of schedules that run on
abbrev pub runs_of : ℕ → List Control → ℕ → List ℕ → List ℕ → ℕ → ℕ → List ℕ
runs_of left l count x y m k = runs_from l x y (λ z w. runs_text (left - 1) l count z w) m k

pub runs_series : (left : ℕ) (l : List Control) (count : ℕ) (x y : List ℕ) →
    Series (runs_of left l count x y) (λ k. run_text l k x y (λ z w. runs_text (left - 1) l count z w))
unfolding runs_from
runs_series left l count x y = record { none = λ k. refl; more = λ m k. refl }

pub run_kept :
    (left : ℕ) (l : List Control) (count k : ℕ) {x x' y y' : List ℕ} → x ≡ x' → y ≡ y' →
    run_text l k x y (λ z w. runs_text (left - 1) l count z w) ≡ run_text l k x' y' (λ z w. runs_text (left - 1) l count z w)
run_kept left l count k e f = rw (e, f)

runs_more : (left : ℕ) (l : List Control) (count : ℕ) (x y : List ℕ) → (left ≡ 0 → ⊥) → runs_text left l count x y ≡ runs_of left l count x y count 0
unfolding runs_text
runs_more zero l count x y h = absurd (h refl)
runs_more (suc n) l count x y h = let e : suc n - 1 ≡ n = omega arith in rw e

runs_none : (left : ℕ) (l : List Control) (count : ℕ) (x y : List ℕ) → left ≡ 0 → runs_text left l count x y ≡ x ++ (y ++ (10 ∷ []))
unfolding runs_text
runs_none zero l count x y h = refl
runs_none (suc n) l count x y h = absurd (omega arith)

module _ (left : ℕ) (l : List Control) (count : ℕ) {b : List ℕ} {at r : ℕ} {z numbers : List ℕ} {x : ℕ} {numbers' answers : List ℕ} {y : ℕ} {answers' : List ℕ}
  where
    pub runs_lines :
        (left ≡ 0 → ⊥) → Lines b at (runs_of left l count (take x numbers) (take y answers) count 0) (3 * capacity (left - 1) (longest left x y)) r z numbers x
        numbers' answers y answers' →
        Lines b at (runs_text left l count (take x numbers) (take y answers)) (capacity left (longest left x y)) r z numbers x numbers' answers y answers'
    runs_lines h L =
        record {
          put = subst (λ (u : List ℕ). Put b at u r z) (sym (runs_more left l count (take x numbers) (take y answers) h)) L.put;
          within = omega (arith, L.within, capacity_three left (longest left x y) (omega arith));
          digits = L.digits;
          fields = L.fields;
        }

pub runs_line :
    (left : ℕ) (l : List Control) (count : ℕ) (numbers : List ℕ) (x : ℕ) (answers : List ℕ) (y : ℕ) {b : List ℕ} {at r : ℕ} {z : List ℕ} → left ≡ 0 →
    Put b at (take x numbers ++ (take y answers ++ (10 ∷ []))) r z →
    Lines b at (runs_text left l count (take x numbers) (take y answers)) (capacity left (longest left x y)) r z numbers x numbers answers y answers
runs_line left l count numbers x answers y {b} {at} {r} {z} h p =
    record {
      put = subst (λ (u : List ℕ). Put b at u r z) (sym (runs_none left l count (take x numbers) (take y answers) h)) p;
      within = omega (
        arith,
        p.place,
        length-append (take x numbers) (take y answers ++ (10 ∷ [])),
        length-append (take y answers) (10 ∷ []),
        length-take x numbers,
        length-take y answers,
        capacity_line left (longest left x y),
      );
      digits = refl;
      fields = refl;
    }

-- one process that runs on
module _ (l : List Control) (k left count : ℕ) (numbers : List ℕ) (x : ℕ) (answers : List ℕ) (y : ℕ) {t : Bool} (a : t ≡ is_idle (place_at l k)) where
  pub run_idle :
      {b : List ℕ} {at : ℕ} → t ≡ true → at ≤ largest →
      Lines b at (run_text l k (take x numbers) (take y answers) (λ z w. runs_text (left - 1) l count z w)) (capacity (left - 1) (longest left x y)) at b numbers
      x numbers answers y answers
  run_idle f h = no_lines (capacity (left - 1) (longest left x y)) numbers x answers y (rw (sym a ∙ f)) h

  module _ (H : Holds count left numbers x answers y) (lt : k < count) (more : 0 < left) (f : t ≡ false)
      {i : ℕ} {numbers₁ : List ℕ} (p : Put numbers x (decimal k) i numbers₁) {j : ℕ} {answers₁ : List ℕ} (q : Put answers y (answer_text Answer.Run) j answers₁)
      (short : j ≤ y + 132) where
    low' : k < 3
    low' = omega (arith, H.few)

    pub run_holds : Holds count (left - 1) numbers₁ i answers₁ j
    run_holds = add_holds k (answer_text Answer.Run) (left - 1) left numbers x answers y H low' more p q short count H.few

    pub run_busy :
        {b : List ℕ} {at r : ℕ} {z numbers₂ answers₂ : List ℕ} →
        Lines b at (runs_text (left - 1) l count (take i numbers₁) (take j answers₁)) (capacity (left - 1) (longest (left - 1) i j)) r z numbers₁ i numbers₂
        answers₁ j answers₂ →
        Lines b at (run_text l k (take x numbers) (take y answers) (λ z w. runs_text (left - 1) l count z w)) (capacity (left - 1) (longest left x y)) r z numbers
        x numbers₂ answers y answers₂
    run_busy {b} {at} {r} {z} {numbers₂} {answers₂} L =
        subst (λ (u : List ℕ). Lines b at u (capacity (left - 1) (longest left x y)) r z numbers x numbers₂ answers y answers₂) (sym (rw (sym a ∙ f)))
        (add_lines k (answer_text Answer.Run) (left - 1) left numbers x answers y H low' more p q short (λ z w. runs_text (left - 1) l count z w) L)

-- a branch of a card whose processes run on
pub runs_branch_lines :
    (left : ℕ) (c : Card) (k : ℕ) {numbers : List ℕ} {x : ℕ} {answers : List ℕ} {y : ℕ} → 0 < left → Holds c.process_count left numbers x answers y →
    length c.controls ≡ 8 → c.limit < 18446744073709551616 →
    k < c.process_count → {t : Bool} → t ≡ runs_on left c.controls c.process_count k c.steps c.limit → t ≡ true →
    {b : List ℕ} {at r : ℕ} {z numbers' answers' : List ℕ} →
    Lines b at (run_text c.controls k (take x numbers) (take y answers) (λ z w. runs_text (left - 1) c.controls c.process_count z w))
    (capacity (left - 1) (longest left x y)) r z numbers x numbers' answers y answers' →
    Lines b at (branch_text k (step c k) (take x numbers) (take y answers) (λ d z w. text_after (left - 1) d z w)) (capacity (left - 1) (longest left x y)) r z
    numbers x numbers' answers y answers'
runs_branch_lines left c k {numbers} {x} {answers} {y} more H controls limit lt e f {b} {at} {r} {z} {numbers'} {answers'} L =
    subst (λ (u : List ℕ). Lines b at u (capacity (left - 1) (longest left x y)) r z numbers x numbers' answers y answers')
    (sym (runs_branch left c k more (omega (arith, H.few)) controls limit lt e f (take x numbers) (take y answers))) L
