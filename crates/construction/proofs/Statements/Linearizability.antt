-- Demand 3: for every text and every list of entries, the card and the single-user bench go side by side.
use Prim.Native.Nat.{ℕ, ◌≤◌, ◌<◌}
use mathlib.Core.Path.{◌≡◌, sym, subst, ap, ◌∙◌}
use mathlib.Core.Bool.{true}
use mathlib.Core.List.{List, ◌++◌}
use native.Mathlib.Omega.{arith}
use lib.ListN.{length}
use Rattle.construction.specs.Types.{Contents}
use Rattle.construction.specs.Opening.{opened}
use Rattle.construction.specs.History.{Entry, History, Observation, opening, run}
use Rattle.construction.proofs.Observing.Histories.{agree_earlier, faults_agree, gate_rank, returned_times, place_below, place_kept, place_after_lem}
use Rattle.construction.proofs.Observing.Growth.{Grown, all_grow, observe_append}
use Rattle.construction.proofs.Observing.Consistency.{finishes_one, read_shown}
use Rattle.construction.proofs.Observing.Runs.{opened_consistent}
use Rattle.construction.specs.Linearizability.{rank, has_returned, Linearizable}

-- 6: an operation that had returned before another was called stands earlier
module _ (t : List ℕ) (es fs : List Entry) where
  abbrev early : History
  early = (run (opened t).card es).history

  abbrev late : History
  late = (run (opened t).card (es ++ fs)).history

  grown : Grown early late
  grown =
      subst (λ (m : Observation). Grown early m.history) (sym (observe_append (opened t).card (opening (opened t).card) es fs))
      (all_grow (opened t).card (run (opened t).card es) fs)

  earlier :
      (j k : ℕ) → has_returned j early.returns ≡ true → length early.operations ≤ k → 0 < rank k late.order →
      rank j late.order < rank k late.order
  earlier j k h l p =
      let T = (opened_consistent t es).tracks in
      let same = returned_times early.order late.order early.returns j T.agree
      (agree_earlier late.order grown.returns (opened_consistent t (es ++ fs)).tracks.agree) h in
      omega (arith, place_kept j grown.order same, place_below j early.order, place_after_lem k grown.order (T.known k l) p)

-- Demand 3
pub linearizability : (t : List ℕ) (es : List Entry) → Linearizable (opened t).card es
linearizability t es =
    let O = opened_consistent t es in
    record {
      reads = read_shown (opened t).card (run (opened t).card es) O;
      returns = O.tracks.agree;
      single = O.tracks.single;
      faults = faults_agree (run (opened t).card es).history.order (run (opened t).card es).history.returns O.tracks.agree;
      numbers = O.tracks.numbers;
      ranks = λ k. gate_rank k (run (opened t).card es).history.order O.tracks.numbers;
      finishes = finishes_one (opened t).card (run (opened t).card es) O;
      once = O.tracks.once;
      known = O.tracks.known;
      precedes = λ es₁ es₂ e j k h l p q.
          subst (λ (x : List Entry). rank j (run (opened t).card x).history.order < rank k (run (opened t).card x).history.order) (sym e)
          (earlier t es₁ es₂ j k h l (subst (λ (x : List Entry). 0 < rank k (run (opened t).card x).history.order) e q));
    }

-- the single-user bench has n words after any list
pub bench_words_lem : (t : List ℕ) (es : List Entry) → length (run (opened t).card es).history.words ≡ (opened t).card.variable_count
bench_words_lem t es =
    let O = opened_consistent t es in
    ap length O.tracks.words ∙ (O.inv.good.size_words ∙ ap (λ (x : Contents). x.variable_count) O.text)
