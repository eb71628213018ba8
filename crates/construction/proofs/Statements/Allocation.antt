-- The theorem on hands (document 02, order 9), for every text and every list of entries, hence under every schedule.
use Prim.Native.Nat.{ℕ}
use mathlib.Core.Path.{◌≡◌, sym, subst, ◌∙◌}
use mathlib.Core.List.{List, [], ◌∷◌, ◌++◌, append_assoc}
use Rattle.construction.specs.Opening.{opened}
use Rattle.construction.specs.History.{Entry, start_words, observe_all, run}
use Rattle.construction.specs.Allocation.{Action, Performed, words_after, performed, OnlyByCodes, OnlyFromHands, InHands, Disciplined, Allocating}
use Rattle.construction.proofs.Statements.Linearizability.{linearizability, bench_words_lem}
use Rattle.construction.proofs.Allocating.Hands.{AllPossible, kept_actions, kept_hands}
use Rattle.construction.proofs.Allocating.Runs.{possible_earlier, codes_earlier, hands_earlier}
use Rattle.construction.proofs.Allocating.Histories.{tied, all_possible}

module _ (t : List ℕ) (es : List Entry) (D : Disciplined (opened t).card es) where
  abbrev start : List ℕ
  start = start_words (opened t).card

  possible : (later earlier : List Performed) → performed (opened t).card es ≡ later ++ earlier → AllPossible start earlier
  unfolding observe_all
  possible later earlier e =
      possible_earlier start later earlier
      (subst (AllPossible start) e
      (all_possible (opened t).card (run (opened t).card es).history.changes (run (opened t).card es).history.operations
      (run (opened t).card es).history.order (sym (bench_words_lem t []))))

  in_hands : (later earlier : List Performed) → performed (opened t).card es ≡ later ++ earlier → InHands start earlier
  in_hands later earlier e =
      kept_hands start earlier
      (kept_actions start earlier D.chain (possible later earlier e)
      (codes_earlier start later earlier (subst (OnlyByCodes start) e D.touches))
      (hands_earlier later earlier (subst OnlyFromHands e D.gives)))

  same : words_after start (performed (opened t).card es) ≡ (run (opened t).card es).history.words
  same = tied t es

  pub allocation : Allocating (opened t).card es
  allocation =
      record {
        hands = in_hands;
        last = λ later earlier i c d l e g.
            sym (possible later (record { process = i; action = Action.Took c } ∷ earlier) e).0.0
            ∙ (in_hands (later ++ (record { process = i; action = Action.Took c } ∷ [])) earlier (e ∙ sym (append_assoc later _ earlier))).next d l g;
        words = same;
        shown = λ v l. rw same ((linearizability t es).reads v l);
      }
