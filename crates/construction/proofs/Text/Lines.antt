-- The lines of a card text, by the tests that decide them (document 01, 'The card text').
use mathlib.Core.Bool.{Bool, true, false}
use mathlib.Core.Path.{◌≡◌, refl, ap, ◌∙◌}
use mathlib.Core.List.{List}
use Prim.Native.Nat.{ℕ, ◌+◌, ◌<◌, ◌≤◌}
use lib.Dec.{ltb, leb}
use borrow.Author.Tests.{lt-ltb, le-ltb, ltb-true, leb-true}
use Rattle.std.specs.Prelude.{Option, Some, None, Result, Ok, Err}
use Rattle.grammar.specs.declared.{Found.Found, Four.Four}
use Rattle.grammar.specs.Reading.{found, four_of, field, four, has_word}
use Rattle.grammar.proofs.Places.{same_value, same_next, same_parts, same_fours}
use Rattle.construction.proofs.Basics.{on_test, and_true, clash}
use Rattle.construction.specs.Types.{Instruction, Decoded, Encoded, Malformed, OutOfRange, CardNumbers, CardLine, VarLine, SheetLine, InsLine}
use Rattle.construction.specs.Instructions.{in_range, decode, encoded}
use Rattle.construction.specs.Lines.{card_word, var_word, sheet_word, ins_word, card_fits, card_numbers, card_line, judge_card, var_line, judge_var, sheet_line, judge_sheet}
use Rattle.construction.specs.Lines.{ins_of, ins_line, judge_ins}

same_ok : {A E : Type 0} {x y : A} → ◌≡◌ {A = Result A E} (Ok x) (Ok y) → x ≡ y
same_ok e = cc

pub range_true : (low high x : ℕ) → in_range low high x ≡ true → (low ≤ x) × (x ≤ high)
range_true low high x e = let h = and_true (leb low x) (leb x high) e in (leb-true low x h.0, leb-true x high h.1)

-- ---- a `card` line
module _ (t : List ℕ) (at : ℕ) {w : Bool} (e : w ≡ has_word t at card_word) where
  pub card_other : w ≡ false → Err Malformed ≡ card_line t at
  unfolding card_line
  card_other p = rw (← e, p)

  module _ (p : w ≡ true) where
    pub card_malformed : None ≡ four t (at + 5) → Err Malformed ≡ card_line t at
    unfolding card_line judge_card
    card_malformed q = rw (← e, p, ← q)

    module _ {x : Found Four} {f : Bool} (q : Some x ≡ four t (at + 5)) (g : f ≡ card_fits x.value.a x.value.b x.value.c x.value.d) where
      pub card_out : f ≡ false → Err OutOfRange ≡ card_line t at
      unfolding card_line judge_card
      card_out z = rw (← e, p, ← q, ← g, z)

      pub card_fields : f ≡ true → Ok (found (card_numbers x.value.a x.value.b x.value.c x.value.d) x.next) ≡ card_line t at
      unfolding card_line judge_card
      card_fields z = rw (← e, p, ← q, ← g, z)

pub record CardFits (p n s l : ℕ) : Type 0 where
  pub process_count : (1 ≤ p) × (p ≤ 8)
  pub variable_count : (1 ≤ n) × (n ≤ 64)
  pub program_count : (1 ≤ s) × (s ≤ 8)
  pub limit : (1 ≤ l) × (l ≤ 1000000000000000000)

pub card_fits_lem : (p n s l : ℕ) → card_fits p n s l ≡ true → CardFits p n s l
card_fits_lem p n s l e =
    let a = and_true (in_range 1 8 p) _ e in
    let b = and_true (in_range 1 64 n) _ a.1 in
    let c = and_true (in_range 1 8 s) _ b.1 in
    record {
      process_count = range_true 1 8 p a.0;
      variable_count = range_true 1 64 n b.0;
      program_count = range_true 1 8 s c.0;
      limit = range_true 1 1000000000000000000 l c.1;
    }

-- what a `card` line that was read consists of
pub record CardRead (t : List ℕ) (at p n s l i : ℕ) : Type 0 where
  pub word_there : has_word t at card_word ≡ true
  pub numbers_there : four t (at + 5) ≡ Some (found (four_of p n s l) i)
  pub fits : CardFits p n s l

pub card_read : (t : List ℕ) (at p n s l i : ℕ) → card_line t at ≡ Ok (found (card_numbers p n s l) i) → CardRead t at p n s l i
unfolding card_line judge_card
card_read t at p n s l i =
    on_test (λ (z : CardLine). z ≡ Ok (found (card_numbers p n s l) i) → CardRead t at p n s l i) (has_word t at card_word) (λ h. go h (four t (at + 5)) refl)
    (λ h e. clash (cc))
  where
    go : has_word t at card_word ≡ true → (f : Option (Found Four)) → four t (at + 5) ≡ f → judge_card f ≡ Ok (found (card_numbers p n s l) i) → CardRead t at p n s l i
    go h (Some x) q =
        on_test (λ (z : CardLine). z ≡ Ok (found (card_numbers p n s l) i) → CardRead t at p n s l i)
        (card_fits x.value.a x.value.b x.value.c x.value.d)
        (λ k e.
        let same = same_ok e in
        let ep : x.value.a ≡ p = ap (λ (y : Found CardNumbers). y.value.process_count) same in
        let en : x.value.b ≡ n = ap (λ (y : Found CardNumbers). y.value.variable_count) same in
        let es : x.value.c ≡ s = ap (λ (y : Found CardNumbers). y.value.program_count) same in
        let el : x.value.d ≡ l = ap (λ (y : Found CardNumbers). y.value.limit) same in
        record { word_there = h; numbers_there = q ∙ same_fours ep en es el (same_next same); fits = card_fits_lem p n s l (cc) })
        (λ k e. clash (cc))
    go h None q = λ e. clash (cc)

-- ---- a `var` line
module _ (t : List ℕ) (at : ℕ) {w : Bool} (e : w ≡ has_word t at var_word) where
  pub var_other : w ≡ false → Err Malformed ≡ var_line t at
  unfolding var_line
  var_other p = rw (← e, p)

  module _ (p : w ≡ true) where
    pub var_malformed : None ≡ field t 10 (at + 4) → Err Malformed ≡ var_line t at
    unfolding var_line judge_var
    var_malformed q = rw (← e, p, ← q)

    module _ {x : Found ℕ} (q : Some x ≡ field t 10 (at + 4)) where
      pub var_out : 4294967296 ≤ x.value → Err OutOfRange ≡ var_line t at
      unfolding var_line judge_var
      var_out z = rw (← e, p, ← q, le-ltb x.value 4294967296 z)

      pub var_start : x.value < 4294967296 → Ok x ≡ var_line t at
      unfolding var_line judge_var
      var_start z = rw (← e, p, ← q, lt-ltb x.value 4294967296 z)

pub record VarRead (t : List ℕ) (at v i : ℕ) : Type 0 where
  pub word_there : has_word t at var_word ≡ true
  pub field_there : field t 10 (at + 4) ≡ Some (found v i)
  pub fits : v < 4294967296

pub var_read : (t : List ℕ) (at v i : ℕ) → var_line t at ≡ Ok (found v i) → VarRead t at v i
unfolding var_line judge_var
var_read t at v i =
    on_test (λ (z : VarLine). z ≡ Ok (found v i) → VarRead t at v i) (has_word t at var_word) (λ h. go h (field t 10 (at + 4)) refl) (λ h e. clash (cc))
  where
    go : has_word t at var_word ≡ true → (f : Option (Found ℕ)) → field t 10 (at + 4) ≡ f → judge_var f ≡ Ok (found v i) → VarRead t at v i
    go h (Some x) q =
        on_test (λ (z : VarLine). z ≡ Ok (found v i) → VarRead t at v i) (ltb x.value 4294967296)
        (λ k e.
        let same = same_ok e in
        let ev : x.value ≡ v = same_value same in
        record { word_there = h; field_there = q ∙ ap Some same; fits = ltb-true v 4294967296 (cc) }) (λ k e. clash (cc))
    go h None q = λ e. clash (cc)

-- ---- a `sheet` line
module _ (t : List ℕ) (at : ℕ) {w : Bool} (e : w ≡ has_word t at sheet_word) where
  pub sheet_other : w ≡ false → Err Malformed ≡ sheet_line t at
  unfolding sheet_line
  sheet_other p = rw (← e, p)

  module _ (p : w ≡ true) where
    pub sheet_malformed : None ≡ field t 10 (at + 6) → Err Malformed ≡ sheet_line t at
    unfolding sheet_line judge_sheet
    sheet_malformed q = rw (← e, p, ← q)

    module _ {x : Found ℕ} {f : Bool} (q : Some x ≡ field t 10 (at + 6)) (g : f ≡ in_range 1 32 x.value) where
      pub sheet_out : f ≡ false → Err OutOfRange ≡ sheet_line t at
      unfolding sheet_line judge_sheet
      sheet_out z = rw (← e, p, ← q, ← g, z)

      pub sheet_length : f ≡ true → Ok x ≡ sheet_line t at
      unfolding sheet_line judge_sheet
      sheet_length z = rw (← e, p, ← q, ← g, z)

pub record SheetRead (t : List ℕ) (at m i : ℕ) : Type 0 where
  pub word_there : has_word t at sheet_word ≡ true
  pub field_there : field t 10 (at + 6) ≡ Some (found m i)
  pub fits : (1 ≤ m) × (m ≤ 32)

pub sheet_read : (t : List ℕ) (at m i : ℕ) → sheet_line t at ≡ Ok (found m i) → SheetRead t at m i
unfolding sheet_line judge_sheet
sheet_read t at m i =
    on_test (λ (z : SheetLine). z ≡ Ok (found m i) → SheetRead t at m i) (has_word t at sheet_word) (λ h. go h (field t 10 (at + 6)) refl)
    (λ h e. clash (cc))
  where
    go : has_word t at sheet_word ≡ true → (f : Option (Found ℕ)) → field t 10 (at + 6) ≡ f → judge_sheet f ≡ Ok (found m i) → SheetRead t at m i
    go h (Some x) q =
        on_test (λ (z : SheetLine). z ≡ Ok (found m i) → SheetRead t at m i) (in_range 1 32 x.value)
        (λ k e.
        let same = same_ok e in
        let em : x.value ≡ m = same_value same in
        record { word_there = h; field_there = q ∙ ap Some same; fits = range_true 1 32 m (cc) }) (λ k e. clash (cc))
    go h None q = λ e. clash (cc)

-- ---- an `ins` line
module _ (n : ℕ) (t : List ℕ) (at : ℕ) {w : Bool} (e : w ≡ has_word t at ins_word) where
  pub ins_other : w ≡ false → Err Malformed ≡ ins_line n t at
  unfolding ins_line
  ins_other p = rw (← e, p)

  module _ (p : w ≡ true) where
    pub ins_malformed : None ≡ four t (at + 4) → Err Malformed ≡ ins_line n t at
    unfolding ins_line judge_ins
    ins_malformed q = rw (← e, p, ← q)

    pub ins_decoded :
        {x : Found Four} {d : Decoded} {r : InsLine} → Some x ≡ four t (at + 4) →
        d ≡ decode n (encoded x.value.a x.value.b x.value.c x.value.d) → r ≡ ins_of d x.next → r ≡ ins_line n t at
    unfolding ins_line judge_ins
    ins_decoded q f z = z ∙ rw (← e, p, ← q, ← f)

pub record InsRead (n : ℕ) (t : List ℕ) (at : ℕ) (x : Instruction) (i : ℕ) : Type 0 where
  pub numbers : Encoded
  pub word_there : has_word t at ins_word ≡ true
  pub numbers_there : four t (at + 4) ≡ Some (found (four_of numbers.code numbers.a numbers.b numbers.c) i)
  pub fits : decode n numbers ≡ Ok x

pub ins_read : (n : ℕ) (t : List ℕ) (at : ℕ) (x : Instruction) (i : ℕ) → ins_line n t at ≡ Ok (found x i) → InsRead n t at x i
unfolding ins_line judge_ins
ins_read n t at x i =
    on_test (λ (z : InsLine). z ≡ Ok (found x i) → InsRead n t at x i) (has_word t at ins_word) (λ h. go h (four t (at + 4)) refl) (λ h e. clash (cc))
  where
    good :
        has_word t at ins_word ≡ true → (y : Found Four) → four t (at + 4) ≡ Some y →
        (d : Decoded) → decode n (encoded y.value.a y.value.b y.value.c y.value.d) ≡ d → ins_of d y.next ≡ Ok (found x i) → InsRead n t at x i
    good h y q (Ok z) f e =
        let v = y.value in
        let same = same_ok e in
        let ez : z ≡ x = same_value same in
        record { numbers = encoded v.a v.b v.c v.d; word_there = h; numbers_there = q ∙ same_parts refl (same_next same); fits = cc }
    good h y q (Err z) f e = clash (cc)

    go : has_word t at ins_word ≡ true → (f : Option (Found Four)) → four t (at + 4) ≡ f → judge_ins n f ≡ Ok (found x i) → InsRead n t at x i
    go h (Some y) q e = good h y q (decode n (encoded y.value.a y.value.b y.value.c y.value.d)) refl e
    go h None q e = clash (cc)
