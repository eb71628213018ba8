-- The machines that stand in the words go from request to request as those of the crate allowance do
use Prim.Native.Nat.{ℕ}
use mathlib.Core.Path.{◌≡◌, refl, sym, ap, ◌∙◌}
use mathlib.Core.Bool.{Bool, true, false, cond}
use mathlib.Core.Logic.{◌⊎◌, inl, inr}
use mathlib.Core.List.{List, [], ◌∷◌, map}
use lib.Dec.{eqb}
use lib.ListN.{length}
use borrow.Author.Tests.{eqb-true, eqb-false, eq-eqb}
use Rattle.construction.specs.History.{Entry}
use Rattle.construction.proofs.Basics.{true_or_false}
use Rattle.lent_runs.specs.Runs.{Memory, Reply, loan_after, is_accepted, memory_after, as_left}
use Rattle.lent_runs.proofs.Untouched.{untouched}
use Rattle.allowance.specs.Requests.{Request, Machines, Answered, request, after, log}
use Rattle.allowance.proofs.Cases.{on_request}
use Rattle.allowance.proofs.Statements.{others_kept}
use Rattle.shared_processor.specs.Requests.{lent_cards, memory_in, request_to}
use Rattle.shared_processor.proofs.Parts.{part_same, part_other}
use Rattle.shared_runs.specs.Runs.{Shared, shared_after, shared_reply, shared_run, shared_replies, standing, handed, handed_all, shared_log, told_in}

-- an entry keeps the lengths of block and loan
lengths_after :
    (m : Memory) (e : Entry) → (length (memory_after m (as_left m e)).block ≡ length m.block) × (length (memory_after m (as_left m e)).loan ≡ length m.loan)
lengths_after m e =
    let u = untouched m.block m.loan e in
    (u.block.size, either (is_accepted m.block m.loan e) (loan_after m.block m.loan e) m.loan u.size)
  where
    either : (t : Bool) (k l : List ℕ) → length k ≡ length l → length (cond t k l) ≡ length l
    either true k l h = h
    either false k l h = refl

module _ (stride : ℕ) (s : Shared) (m : ℕ) (e : Entry) where
  abbrev here : Memory
  here = memory_in stride s.blocks s.loans m

  abbrev left : Memory
  left = (request_to s.allowance stride s.blocks s.loans m e).machines.states m

  lengths : (length left.block ≡ length here.block) × (length left.loan ≡ length here.loan)
  unfolding request_to
  lengths =
      on_request lent_cards (standing stride s) m (as_left here e)
      (λ (y : Answered Memory Reply). (length (y.machines.states m).block ≡ length here.block) ×
      (length (y.machines.states m).loan ≡ length here.loan))
      (λ t. (refl, refl)) (λ t u v. (refl, refl)) (λ t u v. rw (eq-eqb m m refl) (lengths_after here e)) (λ t u. rw (eq-eqb m m refl) (lengths_after here e))

  -- the words of every machine after the request are its memory in the definitions
  state_after :
      (j : ℕ) → memory_in stride (shared_after stride s (Request.To m e)).blocks (shared_after stride s (Request.To m e)).loans j
      ≡ (request lent_cards (standing stride s) (Request.To m (as_left here e))).machines.states j
  unfolding request_to
  state_after j = go (true_or_false (eqb j m))
    where
      go :
          (eqb j m ≡ true) ⊎ (eqb j m ≡ false) →
          memory_in stride (shared_after stride s (Request.To m e)).blocks (shared_after stride s (Request.To m e)).loans j
          ≡ (request lent_cards (standing stride s) (Request.To m (as_left here e))).machines.states j
      go (inl p) =
          let same = eqb-true j m p in
          ap (memory_in stride (shared_after stride s (Request.To m e)).blocks (shared_after stride s (Request.To m e)).loans) same
          ∙ ((λ i. record {
            block = part_same 1456 s.blocks m left.block lengths.0 i;
            loan = part_same stride s.loans m left.loan lengths.1 i;
          })
          ∙ ap (request lent_cards (standing stride s) (Request.To m (as_left here e))).machines.states (sym same))
      go (inr p) =
          let other = eqb-false j m p in
          (λ i. record {
            block = part_other 1456 s.blocks m left.block lengths.0 j other i;
            loan = part_other stride s.loans m left.loan lengths.1 j other i;
          })
          ∙ sym (others_kept lent_cards (standing stride s) m j (as_left here e) (λ q. other (sym q)))

module _ (stride : ℕ) where
  pub standing_after : (s : Shared) (r : Request Entry) → standing stride (shared_after stride s r) ≡ (request lent_cards (standing stride s)
      (handed stride s r)).machines
  unfolding request_to request
  standing_after s (Request.To m e) =
      λ i. record { allowance = (request_to s.allowance stride s.blocks s.loans m e).machines.allowance; states = λ j. state_after stride s m e j i }
  standing_after s Request.Turn = refl

  reply_told :
      (s : Shared) (r : Request Entry) →
      shared_reply stride s r ≡ told_in (record { request = handed stride s r; outcome = (request lent_cards (standing stride s) (handed stride s r)).outcome })
  unfolding request_to
  reply_told s (Request.To m e) = refl
  reply_told s Request.Turn = refl

  pub log_first :
      (s : Shared) (r : Request Entry) (rs : List (Request Entry)) →
      shared_log stride s (r ∷ rs)
      ≡ record { request = handed stride s r; outcome = (request lent_cards (standing stride s) (handed stride s r)).outcome } ∷ shared_log stride
      (shared_after stride s r) rs
  unfolding log handed_all
  log_first s r rs =
      ap
      (λ (x : Machines Memory). record { request = handed stride s r; outcome = (request lent_cards (standing stride s) (handed stride s r)).outcome }
      ∷ log lent_cards x (handed_all stride (shared_after stride s r) rs))
      (sym (standing_after s r))

  -- EVERY LIST: what stands in the words, and what the functions answer
  pub standing_run : (s : Shared) (rs : List (Request Entry)) →
      standing stride (shared_run stride s rs) ≡ after lent_cards (standing stride s) (handed_all stride s rs)
  unfolding shared_run after handed_all
  standing_run s [] = refl
  standing_run s (r ∷ rs) =
      standing_run (shared_after stride s r) rs
      ∙ ap (λ (x : Machines Memory). after lent_cards x (handed_all stride (shared_after stride s r) rs)) (standing_after s r)

  pub replies_told : (s : Shared) (rs : List (Request Entry)) → shared_replies stride s rs ≡ map told_in (shared_log stride s rs)
  unfolding shared_replies handed_all log
  replies_told s [] = refl
  replies_told s (r ∷ rs) =
      (λ i. reply_told s r i ∷ replies_told (shared_after stride s r) rs i) ∙ ap (map told_in) (sym (log_first s r rs))
