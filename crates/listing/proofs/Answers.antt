-- What the listing answers and leaves, from its length and its text by the recursion of code.
use Rattle.std.specs.Prelude.{Ok, Err}
use Prim.Native.Nat.{ℕ, ◌+◌, ◌≤◌, ◌<◌}
use mathlib.Core.Path.{◌≡◌, refl, sym, subst, ap, ◌∙◌}
use mathlib.Core.Bool.{Bool, true, false, cond, not, ◌&&◌}
use mathlib.Core.List.{List, [], ◌++◌}
use native.Mathlib.Omega.{arith}
use lib.ListN.{length, drop}
use lib.Dec.{leb}
use borrow.Author.Tests.{le-leb, lt-leb}
use Rattle.grammar.specs.Writing.{Put}
use Rattle.grammar.proofs.Puts.{put_front}
use Rattle.construction.specs.declared.{card.Card.Card, answers.Refusal.Refusal}
use Rattle.construction.specs.declared.answers.Refusal.TheVariants.{NoProgram, TooLarge, ShortBuffer}
use Rattle.construction.specs.History.{run}
use Rattle.construction.specs.Types.{Written}
use Rattle.construction.proofs.Basics.{clash}
use Rattle.executions.specs.declared.{Request.Request}
use Rattle.executions.specs.Schedules.{calls_of}
use Rattle.executions.specs.Listings.{reopened, listing_text, text_after, piece_after, is_callable, is_listable, measured, listed, listed_into}
use Rattle.executions.proofs.Runs.{end_processes}
use Rattle.executions.proofs.Statements.Listings.{listing_text_lem, listable_true}
use Rattle.listing.specs.Prefixes.{longest, capacity, Lines}
use Rattle.listing.specs.Listed.{Lists}
use Rattle.listing.specs.Pieces.{piece_text}
use Rattle.listing.proofs.Buffers.{put_none}
use Rattle.listing.proofs.Recursion.{capacity_up, capacity_most}

-- the listing from its first step on
pub listing_whole :
    (L : ℕ) → L ≤ 16 → {b : List ℕ} {t : List ℕ} {r : ℕ} {z numbers numbers' answers answers' : List ℕ} →
    Lines b 0 t (capacity L (longest L 0 0)) r z numbers 0 numbers' answers 0 answers' → Put b 0 t r z × (r ≤ capacity L 2129)
listing_whole L few H = (H.put, omega (arith, H.within, capacity_up L (longest L 0 0) 2129 (omega arith)))

-- a piece from its first step on, and the pieces that there are not
module _ (first left j : ℕ) (c : Card) {b : List ℕ} where
  pub piece_many : 3 < c.process_count → Put b 0 (piece_text first left j c) 0 b × (0 ≤ capacity left 2129)
  unfolding piece_text
  piece_many h = (subst (λ (t : List ℕ). Put b 0 t 0 b) (sym (rw (lt-leb c.process_count 3 h))) (put_none b 0 (omega arith)), omega arith)

  pub piece_long : c.process_count ≤ 3 → 16 < first + left → Put b 0 (piece_text first left j c) 0 b × (0 ≤ capacity left 2129)
  unfolding piece_text
  piece_long p h =
      (subst (λ (t : List ℕ). Put b 0 t 0 b) (sym (rw (le-leb c.process_count 3 p, lt-leb (first + left) 16 h))) (put_none b 0 (omega arith)), omega arith)

  pub piece_whole :
      c.process_count ≤ 3 → first + left ≤ 16 → {r : ℕ} {z numbers numbers' answers answers' : List ℕ} →
      Lines b 0 (piece_after first left j c [] []) (capacity left (longest (first + left) 0 0)) r z numbers 0 numbers' answers 0 answers' →
      Put b 0 (piece_text first left j c) r z × (r ≤ capacity left 2129)
  unfolding piece_text
  piece_whole p h {r} {z} H = (
    subst (λ (t : List ℕ). Put b 0 t r z) (sym (rw (le-leb c.process_count 3 p, le-leb (first + left) 16 h))) H.put,
    omega (arith, H.within, capacity_up left (longest (first + left) 0 0) 2129 (omega arith)),
  )

-- a listing that is made: its processes and steps are few, and it begins with the calls
module _ (c : Card) (calls : List Request) (L : ℕ) {o s : Card} (opens : o ≡ reopened c) (starts : s ≡ (run o (calls_of o calls)).card) where
  begins : s ≡ (run (reopened c) (calls_of (reopened c) calls)).card
  begins = starts ∙ ap (λ (d : Card). (run d (calls_of d calls)).card) opens

  pub few_processes : is_listable (reopened c) L ≡ true → (s.process_count ≤ 3) × (L ≤ 16)
  few_processes t =
      let F = listable_true (reopened c) L t in
      let n : s.process_count ≡ (reopened c).process_count = ap (λ (d : Card). d.process_count) begins ∙ end_processes (reopened c) calls [] in
      (omega (arith, n, F.processes), F.steps)

  text_from : text_after L s [] [] ≡ listing_text (reopened c) calls L
  text_from = ap (λ (d : Card). text_after L d [] []) begins ∙ sym (listing_text_lem (reopened c) calls L)

  -- its length is told exactly, as it has far fewer bytes than a place can name
  length_from : {e z : List ℕ} {n : ℕ} → L ≤ 16 → Put e 0 (text_after L s [] []) n z → n ≤ capacity L 2129 → n ≡ length (listing_text (reopened c) calls L)
  length_from {n = n} few p within =
      subst (λ (l : List ℕ). n ≡ length l) text_from (omega (arith, p.place, within, capacity_most L few))

-- the answer without a buffer
module _ (c : Card) (calls : List Request) (L : ℕ) {o : Card} (opens : o ≡ reopened c) {a : Bool} (calling : a ≡ is_callable o calls) where
  callable : is_callable (reopened c) calls ≡ a
  callable = ap (λ (d : Card). is_callable d calls) (sym opens) ∙ sym calling

  pub measured_six : a ≡ false → Err NoProgram ≡ measured c calls L
  unfolding measured
  measured_six f = rw (callable ∙ f)

  module _ (t : a ≡ true) {b : Bool} (fitting : b ≡ is_listable o L) where
    pub listable : is_listable (reopened c) L ≡ b
    listable = ap (λ (d : Card). is_listable d L) (sym opens) ∙ sym fitting

    pub measured_seventeen : b ≡ false → Err TooLarge ≡ measured c calls L
    unfolding measured
    measured_seventeen f = rw (callable ∙ t, listable ∙ f)

    pub measured_length :
        b ≡ true → {s : Card} → s ≡ (run o (calls_of o calls)).card → {e z : List ℕ} {n : ℕ} → Put e 0 (text_after L s [] []) n z → n ≤ capacity L 2129 →
        Ok n ≡ measured c calls L
    unfolding measured
    measured_length u {s} starts {e} {z} {n} p within =
        rw (callable ∙ t, listable ∙ u)
        (ap Ok (length_from c calls L opens starts (few_processes c calls L opens starts (listable ∙ u)).1 p within))

-- what the answer without a buffer says
abbrev judged : Bool → Bool → ℕ → Written
judged a b n = cond (not a) (Err NoProgram) (cond (not b) (Err TooLarge) (Ok n))

judged_bytes : (a b : Bool) (n size : ℕ) → Ok size ≡ judged a b n → (a ≡ true) × (b ≡ true) × (size ≡ n)
judged_bytes false b n size e = clash (cc)
judged_bytes true false n size e = clash (cc)
judged_bytes true true n size e = (refl, refl, cc)

judged_refused : (a b f : Bool) (n : ℕ) (r : Refusal) (t l : List ℕ) → Err r ≡ judged a b n →
    (Err r ≡ cond (not a) (Err NoProgram)
    (cond (not b) (Err TooLarge) (cond f (Ok n) (Err ShortBuffer))))
    × (l ≡ cond (a && (b && f)) t l)
judged_refused false b f n r t l e = (e, refl)
judged_refused true false f n r t l e = (e, refl)
judged_refused true true f n r t l e = clash (cc)

module _ (c : Card) (calls : List Request) (L : ℕ) {w : Written} {size : ℕ} (m : w ≡ measured c calls L) (e : w ≡ Ok size) where
  pub said : (is_callable (reopened c) calls ≡ true) × (is_listable (reopened c) L ≡ true) × (size ≡ length (listing_text (reopened c) calls L))
  unfolding measured
  said = judged_bytes (is_callable (reopened c) calls) (is_listable (reopened c) L) (length (listing_text (reopened c) calls L)) size (sym e ∙ m)

module _ (c : Card) (calls : List Request) (L : ℕ) (l : List ℕ) where
  pub listed_refused : {w : Written} {r : Refusal} → w ≡ measured c calls L → w ≡ Err r → Lists c calls L l w l
  unfolding measured listed listed_into
  listed_refused {w} {r} m e =
      let o = reopened c in
      let t = listing_text o calls L in
      let h = judged_refused (is_callable o calls) (is_listable o L) (leb (length t) (length l)) (length t) r (t ++ drop (length t) l) l (sym e ∙ m) in
      record { answer = e ∙ h.0; bytes = h.1 }

  module _ {w : Written} {size : ℕ} (m : w ≡ measured c calls L) (e : w ≡ Ok size) where
    pub listed_short : length l < size → Lists c calls L l (Err ShortBuffer) l
    unfolding listed listed_into
    listed_short h =
        let s = said c calls L m e in
        let f : leb (length (listing_text (reopened c) calls L)) (length l) ≡ false =
        lt-leb (length (listing_text (reopened c) calls L)) (length l) (omega (arith, s.2)) in
        record { answer = rw (s.0, s.1, f); bytes = rw (s.0, s.1, f) }

    pub listed_fits :
        {o d : Card} → o ≡ reopened c → d ≡ (run o (calls_of o calls)).card → {z : List ℕ} {n : ℕ} → size ≤ length l → Put l 0 (text_after L d [] []) n z →
        Lists c calls L l (Ok size) z
    unfolding listed listed_into
    listed_fits {o} {d} opens starts {z} {n} h p =
        let s = said c calls L m e in
        let f : leb (length (listing_text (reopened c) calls L)) (length l) ≡ true =
        le-leb (length (listing_text (reopened c) calls L)) (length l) (omega (arith, s.2)) in
        let x = text_from c calls L opens starts in
        record {
          answer = rw (s.0, s.1, f) (ap Ok s.2);
          bytes = rw (s.0, s.1, f) (put_front (omega (arith, s.2)) (subst (λ (t : List ℕ). Put l 0 t n z) x p));
        }
