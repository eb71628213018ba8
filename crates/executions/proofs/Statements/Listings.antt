-- The text of a listing and its refusals (document 02, order 13): 6, 17 and 11 in this sequence, else the text; the text by the recursion of code, whole and in pieces.
use Rattle.std.specs.Prelude.{Ok, Err}
use Prim.Native.Nat.{ℕ, zero, suc, ◌+◌, ◌^◌, ◌≤◌, ◌<◌}
use mathlib.Core.Path.{◌≡◌, refl, sym, ap, ◌∙◌}
use mathlib.Core.Bool.{Bool, true, false, cond, not}
use mathlib.Core.List.{List, [], ◌∷◌, ◌++◌}
use native.Mathlib.Omega.{arith}
use native.Mathlib.Decide.{ℕ_discrete}
use native.Mathlib.Nat.{pow-le-pow_right}
use lib.ListN.{length, get_or, drop}
use lib.Dec.{leb}
use borrow.Author.Tests.{le-leb, lt-leb, leb-true, leb-false}
use Rattle.executions.specs.declared.Request.{Request}
use Rattle.construction.specs.declared.{card.Card.Card, texts.Contents.Contents}
use Rattle.construction.specs.declared.answers.Refusal.TheVariants.{NoProgram, ShortBuffer, TooLarge}
use Rattle.construction.specs.Answers.{fields, refused_with, written_fields}
use Rattle.construction.specs.Requests.{is_program}
use Rattle.construction.specs.Opening.{fresh, opened}
use Rattle.construction.specs.History.{Entry, run}
use Rattle.construction.specs.Types.{Written}
use Rattle.executions.specs.Schedules.{no_request, calls_of, schedules}
use Rattle.executions.specs.Listings.{reopened, listing_text, text_after, piece_after, together, are_callable, is_callable, is_listable, listed, listed_into}
use Rattle.executions.specs.Listings.{Callable, Listable}
use Rattle.construction.proofs.Basics.{and_true, clash}
use Rattle.construction.proofs.Statements.AnswerFields.{written_known}
use Rattle.construction.proofs.Observing.Runs.{opened_consistent}
use Rattle.executions.proofs.Runs.{end_processes}
use Rattle.executions.proofs.Lengths.{listing_count}
use Rattle.executions.proofs.Pieces.{pieces_after}
use Rattle.executions.proofs.Texts.{text_after_lem}

-- the text by the recursion of the listing, and in pieces of m first steps
module _ (o : Card) (calls : List Request) where
  pub listing_text_lem : (L : ℕ) → listing_text o calls L ≡ text_after L (run o (calls_of o calls)).card [] []
  unfolding listing_text schedules
  listing_text_lem L = sym (text_after_lem L (run o (calls_of o calls)).card [] [])

  pub text_pieces :
      (m n : ℕ) → (0 < m → 0 < o.process_count) →
      listing_text o calls (m + n) ≡ together (λ j. piece_after m n j (run o (calls_of o calls)).card [] []) (o.process_count ^ m) 0
  text_pieces m n some =
      let e : (run o (calls_of o calls)).card.process_count ≡ o.process_count = end_processes o calls [] in
      listing_text_lem (m + n)
      ∙ sym (pieces_after m n (run o (calls_of o calls)).card [] [] (λ h. omega (arith, e, some h)))
      ∙ ap (λ (p : ℕ). together (λ j. piece_after m n j (run o (calls_of o calls)).card [] []) (p ^ m) 0) e

  -- 'L = 0 gives the one empty schedule, an empty line'
  pub empty_line : listing_text o calls 0 ≡ 10 ∷ []
  unfolding text_after
  empty_line = listing_text_lem 0

-- 'taken as it was opened whatever it has done since'
pub as_opened : (t : List ℕ) (es : List Entry) → reopened (run (opened t).card es).card ≡ (opened t).card
unfolding opened fresh
as_opened t es = ap (λ (x : Contents). fresh x) (opened_consistent t es).text

-- the two tests
callable_all : (o : Card) (calls : List Request) (m k : ℕ) → are_callable o calls m k ≡ true → (j : ℕ) → k ≤ j → j < k + m →
    is_program o (get_or calls j no_request).program ≡ true
unfolding are_callable
callable_all o calls zero k e j le lt = absurd (omega arith)
callable_all o calls (suc m) k e j le lt = go (ℕ_discrete j k) (λ l. callable_all o calls m (suc k) h.1 j l (omega arith))
  where
    h : (is_program o (get_or calls k no_request).program ≡ true) × (are_callable o calls m (suc k) ≡ true)
    h = and_true (is_program o (get_or calls k no_request).program) (are_callable o calls m (suc k)) e

    go : Dec (j ≡ k) → (suc k ≤ j → is_program o (get_or calls j no_request).program ≡ true) → is_program o (get_or calls j no_request).program ≡ true
    go (yes q) below = rw q h.0
    go (no n) below = below (omega arith)

all_callable : (o : Card) (calls : List Request) (m k : ℕ) → ((j : ℕ) → k ≤ j → j < k + m → is_program o (get_or calls j no_request).program ≡ true) →
    are_callable o calls m k ≡ true
unfolding are_callable
all_callable o calls zero k h = refl
all_callable o calls (suc m) k h =
    rw (h k (omega arith) (omega arith)) (all_callable o calls m (suc k) (λ j le lt. h j (omega arith) (omega arith)))

pub callable_true : (o : Card) (calls : List Request) → is_callable o calls ≡ true → Callable o calls
callable_true o calls e j lt = callable_all o calls o.process_count 0 e j (omega arith) (omega arith)

pub true_callable : (o : Card) (calls : List Request) → Callable o calls → is_callable o calls ≡ true
true_callable o calls h = all_callable o calls o.process_count 0 (λ j le lt. h j (omega arith))

pub listable_true : (o : Card) (L : ℕ) → is_listable o L ≡ true → Listable o L
listable_true o L e =
    let h = and_true (leb o.process_count 3) _ e in
    let k = and_true (leb L 16) (leb L o.limit) h.1 in
    record { processes = leb-true _ _ h.0; steps = leb-true _ _ k.0; limit = leb-true _ _ k.1 }

pub true_listable : (o : Card) (L : ℕ) → Listable o L → is_listable o L ≡ true
true_listable o L h = rw (le-leb o.process_count 3 h.processes, le-leb L 16 h.steps, le-leb L o.limit h.limit)

-- the refusals, in their sequence, and the text else
module _ (c : Card) (calls : List Request) (L : ℕ) (b : List ℕ) where
  pub list_no_program :
      is_callable (reopened c) calls ≡ false → (written_fields (listed c calls L b) ≡ refused_with 6) × (listed_into c calls L b ≡ b)
  unfolding listed listed_into written_fields
  list_no_program p = (rw p, rw p)

  pub list_too_large :
      is_callable (reopened c) calls ≡ true → is_listable (reopened c) L ≡ false →
      (written_fields (listed c calls L b) ≡ refused_with 17) × (listed_into c calls L b ≡ b)
  unfolding listed listed_into written_fields
  list_too_large p q = (rw (p, q), rw (p, q))

  pub list_short :
      is_callable (reopened c) calls ≡ true → is_listable (reopened c) L ≡ true → length b < length (listing_text (reopened c) calls L) →
      (written_fields (listed c calls L b) ≡ refused_with 11) × (listed_into c calls L b ≡ b)
  unfolding listed listed_into written_fields
  list_short p q l = (rw (p, q, lt-leb _ _ l), rw (p, q, lt-leb _ _ l))

  pub list_fits :
      is_callable (reopened c) calls ≡ true → is_listable (reopened c) L ≡ true → length (listing_text (reopened c) calls L) ≤ length b →
      (written_fields (listed c calls L b) ≡ fields "" (length (listing_text (reopened c) calls L) ∷ []))
      × (listed_into c calls L b ≡ listing_text (reopened c) calls L ++ drop (length (listing_text (reopened c) calls L)) b)
  unfolding listed listed_into written_fields
  list_fits p q l = (rw (p, q, le-leb _ _ l), rw (p, q, le-leb _ _ l))

-- and no other case tells these numbers
abbrev judged : Bool → Bool → Bool → ℕ → Written
judged a b f n =
    cond (not a) (Err NoProgram) (cond (not b) (Err TooLarge) (cond f (Ok n) (Err ShortBuffer)))

only_six : (a b f : Bool) (n : ℕ) → judged a b f n ≡ Err NoProgram → a ≡ false
only_six false b f n e = refl
only_six true false f n e = clash (cc)
only_six true true false n e = clash (cc)
only_six true true true n e = clash (cc)

only_seventeen : (a b f : Bool) (n : ℕ) → judged a b f n ≡ Err TooLarge → (a ≡ true) × (b ≡ false)
only_seventeen false b f n e = clash (cc)
only_seventeen true false f n e = (refl, refl)
only_seventeen true true false n e = clash (cc)
only_seventeen true true true n e = clash (cc)

only_eleven : (a b f : Bool) (n : ℕ) → judged a b f n ≡ Err ShortBuffer → (a ≡ true) × (b ≡ true) × (f ≡ false)
only_eleven false b f n e = clash (cc)
only_eleven true false f n e = clash (cc)
only_eleven true true false n e = (refl, refl, refl)
only_eleven true true true n e = clash (cc)

module _ (c : Card) (calls : List Request) (L : ℕ) (b : List ℕ) where
  abbrev o : Card
  o = reopened c

  abbrev size : ℕ
  size = length (listing_text o calls L)

  abbrev told : Written
  told = listed c calls L b

  told_is : (w : Written) → written_fields told ≡ written_fields w → judged (is_callable o calls) (is_listable o L) (leb size (length b)) size ≡ w
  unfolding listed
  told_is w e = written_known told w e

  pub six_only : written_fields told ≡ refused_with 6 → is_callable o calls ≡ false
  unfolding written_fields
  six_only e = only_six (is_callable o calls) (is_listable o L) (leb size (length b)) size (told_is (Err NoProgram) e)

  pub seventeen_only : written_fields told ≡ refused_with 17 → (is_callable o calls ≡ true) × (is_listable o L ≡ false)
  unfolding written_fields
  seventeen_only e = only_seventeen (is_callable o calls) (is_listable o L) (leb size (length b)) size (told_is (Err TooLarge) e)

  pub eleven_only : written_fields told ≡ refused_with 11 → (is_callable o calls ≡ true) × (is_listable o L ≡ true) × (length b < size)
  unfolding written_fields
  eleven_only e =
      let h = only_eleven (is_callable o calls) (is_listable o L) (leb size (length b)) size (told_is (Err ShortBuffer) e) in
      (h.0, h.1, leb-false _ _ h.2)

-- A listing has at most 3 to the power of L lines, 43,046,721 at most
pub count_bound : (o : Card) (calls : List Request) (L : ℕ) → Listable o L → length (schedules o calls L) ≤ 43046721
unfolding schedules
count_bound o calls L F =
    let p : (run o (calls_of o calls)).card.process_count ≤ 3 = omega (arith, end_processes o calls [], F.processes) in
    let h = listing_count L (run o (calls_of o calls)).card p in
    let k : 3 ^ L ≤ 3 ^ 16 = pow-le-pow_right (omega arith) F.steps in
    omega (arith, h, k)
