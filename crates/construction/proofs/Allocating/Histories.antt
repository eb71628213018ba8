-- The bench's runs in the order of finishing (document 02, order 9): what they do to the words, and that this leaves the observer's words.
use Prim.Native.Nat.{ℕ, suc}
use mathlib.Core.Path.{◌≡◌, refl, sym, ◌∙◌}
use mathlib.Core.List.{List, [], ◌∷◌}
use lib.ListN.{length}
use Rattle.construction.specs.Types.{Card}
use Rattle.construction.specs.Opening.{opened}
use Rattle.construction.specs.History.{Entry, Invocation, Finish, Replacement, operation_at, start_words, run}
use Rattle.construction.specs.Texts.{bench_words}
use Rattle.construction.specs.Allocation.{words_after, performed_as, performed_all, performed}
use Rattle.construction.proofs.Observing.Operations.{ran}
use Rattle.construction.proofs.Allocating.Hands.{AllPossible}
use Rattle.construction.proofs.Allocating.Runs.{words_append, words_length, possible_append, in_words, in_possible}

-- what the runs do leaves the words that they leave
words_performed :
    (o : Card) (ys : List Replacement) (xs : List Invocation) (fs : List Finish) →
    words_after (start_words o) (performed_all o ys xs fs) ≡ bench_words o ys xs fs
unfolding performed_all bench_words words_after
words_performed o ys xs [] = refl
words_performed o ys xs (f ∷ fs) =
    words_append (start_words o) (performed_as o ys (suc (length fs)) (operation_at xs f.operation) before) (performed_all o ys xs fs)
    ∙ rw (words_performed o ys xs fs) (in_words _ _ _ _ (bench_words o ys xs fs))
  where
    before : List ℕ
    before = words_after (start_words o) (performed_all o ys xs fs)

-- from the opened card on
pub tied :
    (t : List ℕ) (es : List Entry) →
    words_after (start_words (opened t).card) (performed (opened t).card es) ≡ (run (opened t).card es).history.words
tied t es = words_performed _ _ _ _ ∙ (ran t es).words

-- each action is one that the codes can make there
pub all_possible :
    (o : Card) (ys : List Replacement) (xs : List Invocation) (fs : List Finish) → o.variable_count ≡ length (start_words o) →
    AllPossible (start_words o) (performed_all o ys xs fs)
unfolding performed_all
all_possible o ys xs [] h = tt
all_possible o ys xs (f ∷ fs) h =
    possible_append (start_words o) (performed_as o ys (suc (length fs)) (operation_at xs f.operation) before) (performed_all o ys xs fs)
    (in_possible _ _ _ _ before (h ∙ sym (words_length (start_words o) (performed_all o ys xs fs))))
    (all_possible o ys xs fs h)
  where
    before : List ℕ
    before = words_after (start_words o) (performed_all o ys xs fs)
