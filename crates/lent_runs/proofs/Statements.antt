-- EVERY THEOREM OVER A LIST OF ENTRIES SPEAKS OF BLOCK AND LOAN (document 02, order 10): what construction says of every run of the card holds of the card that
-- stands in block and loan and of what is noted beside them, if the loan is handed back unaltered at each step. Each corollary has the name of its theorem.
use Rattle.std.specs.Prelude.{Ok}
use Prim.Native.Nat.{ℕ, ◌<◌, ◌≤◌}
use mathlib.Core.Path.{◌≡◌, refl, sym, ◌∙◌, ap, subst}
use mathlib.Core.Bool.{Bool, true, false, cond, true≢false}
use mathlib.Core.List.{List, [], ◌∷◌, ◌++◌}
use lib.ListN.{length, get_or, take}
use Rattle.construction.specs.declared.{answers.Answer.Answer, answers.Answered.Answered, card.Card.Card}
use Rattle.construction.specs.Parts.{local_at}
use Rattle.construction.specs.Requests.{read}
use Rattle.construction.specs.Changes.{change}
use Rattle.construction.specs.Tracing.{TellsNoted}
use Rattle.construction.specs.Opening.{opened}
use Rattle.construction.specs.Writing.{text_of}
use Rattle.construction.specs.Marks.{Marks}
use Rattle.construction.specs.Limits.{Limited}
use Rattle.construction.specs.Swaps.{TellsSwap}
use Rattle.construction.specs.OneAccess.{OneAccess}
use Rattle.construction.specs.History.{Entry, FitsEntry, Finish, Observation, run}
use Rattle.construction.specs.Linearizability.{Linearizable}
use Rattle.construction.specs.Waits.{WaitFree}
use Rattle.construction.specs.Paths.{Follows, unnoticed, noticed_from, accesses}
use Rattle.construction.specs.Log.{Permuted, log_of, SortsToOrder}
use Rattle.construction.specs.Numbers.{NumbersKept}
use Rattle.construction.specs.Faults.{MarkedDone, UnmarkedReading, YieldsKept}
use Rattle.construction.specs.Texts.{RunsItsText, RunsByNumber, Switches}
use Rattle.construction.specs.Allocation.{Disciplined, Allocating}
use Rattle.construction.proofs.Statements.Linearizability.{linearizability, bench_words_lem}
use Rattle.construction.proofs.Statements.Waits.{wait_free}
use Rattle.construction.proofs.Statements.Paths.{follows_lines, wish_kept}
use Rattle.construction.proofs.Statements.Log.{log_sorts}
use Rattle.construction.proofs.Statements.Allocation.{allocation}
use Rattle.construction.proofs.Statements.Limits.{limits}
use Rattle.construction.proofs.Statements.Counters.{counters}
use Rattle.construction.proofs.Statements.NotedSets.{noted_sets, tells_noted}
use Rattle.construction.proofs.Statements.Swaps.{tells_swap}
use Rattle.construction.proofs.Statements.OneAccess.{one_access}
use Rattle.construction.proofs.Statements.TextKept.{given_back_after}
use Rattle.construction.proofs.Statements.Numbers.{numbers_kept}
use Rattle.construction.proofs.Statements.Faults.{marked_done, unmarked_reading, yields_kept}
use Rattle.construction.proofs.Statements.Changes.{runs_its_text, runs_by_number, switches}
use Rattle.loan.specs.Loans.{loan_words}
use Rattle.lent_card.specs.Requests.{read_answer, change_answer}
use Rattle.lent_card.proofs.Cards.{read_is, change_is}
use Rattle.lent_runs.specs.Runs.{Handed, Memory, reply_in, reply_of, is_accepted, memory_after, remember, is_short, entries_of, AllFit, HandedBack}
use Rattle.lent_runs.specs.Runs.{opened_memory, memory_of, lent_run, entries_by_value, Speaks}
use Rattle.lent_runs.proofs.Entries.{Passed, passes}
use Rattle.lent_runs.proofs.Runs.{roomy, as_by_value, stands_after}
use Rattle.lent_runs.proofs.Requested.{change_numbers}

module _
    (t b l : List ℕ) (long : 1456 ≤ length b) (xs : List Handed) (fits : AllFit xs) (handed : HandedBack (opened_memory t b l) xs)
  where
    -- THE FORM: a statement on the entries of every run, and one on every observation of a run
    pub speaks : {Q : List Entry → Type 0} → ((es : List Entry) → Q es) → Speaks Q t b l xs
    speaks theorem = record { same = as_by_value t b l long xs fits handed; holds = theorem (entries_by_value t b l xs) }

    pub holds : (P : Observation → Type 0) → ((es : List Entry) → P (run (opened t).card es)) → P (lent_run t b l xs)
    holds P theorem = subst P (sym (as_by_value t b l long xs fits handed).observed) (theorem (entries_by_value t b l xs))

    -- the next entry, whatever it is, has the reply that the card by value gives, unless 11 refuses it: what a theorem says of the next step on the card it
    -- says of the next step on block and loan
    pub next_reply :
        (x : Handed) → FitsEntry x.entry →
        (is_accepted (memory_of t b l xs).block x.loan x.entry ≡ true →
        take (loan_words (memory_of t b l xs).block) x.loan ≡ take (loan_words (memory_of t b l xs).block) (memory_of t b l xs).loan) →
        is_short (memory_of t b l xs) x ≡ false →
        reply_in (memory_of t b l xs).block x.loan x.entry ≡ reply_of (run (opened t).card (entries_by_value t b l xs)).card x.entry
    next_reply x f same long_enough =
        by
        (passes (memory_of t b l xs) (run (opened t).card (entries_by_value t b l xs)).card (stands_after t b l long xs fits handed)
        (roomy t (entries_by_value t b l xs)) x f same)
      where
        by :
            Passed (run (opened t).card (entries_by_value t b l xs)).card (memory_of t b l xs) x →
            reply_in (memory_of t b l xs).block x.loan x.entry ≡ reply_of (run (opened t).card (entries_by_value t b l xs)).card x.entry
        by (Passed.skipped short z) = absurd (true≢false (sym short ∙ long_enough))
        by (Passed.went goes reply z) = reply

    -- demand 3; a read on the block gives the bench's word
    pub linearizability_lent : Speaks (Linearizable (opened t).card) t b l xs
    linearizability_lent = speaks (linearizability t)

    pub reads_lent :
        (v : ℕ) → v < (opened t).card.variable_count →
        read_answer (memory_of t b l xs).block v ≡ Answer.Value (get_or (lent_run t b l xs).history.words v 0)
    reads_lent v p =
        ap (λ (x : Answered). x.answer) (read_is (memory_of t b l xs).block (memory_of t b l xs).loan v)
        ∙ holds (λ m. (read m.card v).answer ≡ Answer.Value (get_or m.history.words v 0))
        (λ es. ap (λ (x : Answered). x.answer) ((linearizability t es).reads v p))

    pub bench_words_lent : length (lent_run t b l xs).history.words ≡ (opened t).card.variable_count
    bench_words_lent = holds (λ m. length m.history.words ≡ (opened t).card.variable_count) (bench_words_lem t)

    -- order 3
    pub wait_free_lent : Speaks (WaitFree (opened t).card) t b l xs
    wait_free_lent = speaks (wait_free t)

    -- demand 2 and order 1
    pub follows_lines_lent : (i : ℕ) → Speaks (λ es. Follows i (accesses (opened t).card es i)) t b l xs
    follows_lines_lent i = speaks (λ es. follows_lines t es i)

    pub wish_kept_lent : (i : ℕ) → Speaks (λ es. (local_at (run (opened t).card es).card i).exit ≡ (noticed_from (opened t).card i unnoticed es).wish) t b l xs
    wish_kept_lent i = speaks (λ es. wish_kept t es i)

    pub one_access_lent : (i : ℕ) → OneAccess (lent_run t b l xs).card i
    one_access_lent i = one_access (lent_run t b l xs).card i

    pub tells_swap_lent : (i : ℕ) → TellsSwap (lent_run t b l xs).card i
    tells_swap_lent i = tells_swap (lent_run t b l xs).card i

    pub noted_sets_lent : (i : ℕ) → Marks (local_at (lent_run t b l xs).card i).mask (local_at (lent_run t b l xs).card i).dictionary
    noted_sets_lent i = holds (λ m. Marks (local_at m.card i).mask (local_at m.card i).dictionary) (λ es. noted_sets t es i)

    pub tells_noted_lent : (i : ℕ) → i < (lent_run t b l xs).card.process_count → TellsNoted (lent_run t b l xs).card i
    tells_noted_lent i = holds (λ m. i < m.card.process_count → TellsNoted m.card i) (λ es. tells_noted t es i)

    pub limits_lent : Limited (lent_run t b l xs).card
    limits_lent = holds (λ m. Limited m.card) (limits t)

    pub counters_lent : (i : ℕ) → (local_at (lent_run t b l xs).card i).simulation.counter ≤ 32
    counters_lent i = holds (λ m. (local_at m.card i).simulation.counter ≤ 32) (λ es. counters t es i)

    -- order 4
    pub log_sorts_lent :
        (log : List Finish) → Permuted (log_of (lent_run t b l xs).history.returns) log → SortsToOrder (lent_run t b l xs).history log
    log_sorts_lent log = holds (λ m. Permuted (log_of m.history.returns) log → SortsToOrder m.history log) (λ es. log_sorts t es log)

    pub numbers_kept_lent : NumbersKept (lent_run t b l xs)
    numbers_kept_lent = holds NumbersKept (numbers_kept t)

    -- order 6
    pub marked_done_lent : MarkedDone (lent_run t b l xs).card
    marked_done_lent = holds (λ m. MarkedDone m.card) (marked_done t)

    pub unmarked_reading_lent : UnmarkedReading (lent_run t b l xs).card
    unmarked_reading_lent = holds (λ m. UnmarkedReading m.card) (unmarked_reading t)

    pub yields_kept_lent : YieldsKept (lent_run t b l xs)
    yields_kept_lent = holds YieldsKept (yields_kept t)

    -- order 9
    pub allocation_lent : Speaks (λ es. Disciplined (opened t).card es → Allocating (opened t).card es) t b l xs
    allocation_lent = speaks (allocation t)

    -- order 11
    pub runs_its_text_lent : Speaks (RunsItsText (opened t).card) t b l xs
    runs_its_text_lent = speaks (runs_its_text t)

    pub runs_by_number_lent : Speaks (RunsByNumber (opened t).card) t b l xs
    runs_by_number_lent = speaks (runs_by_number t)

    -- the writer's promise
    pub given_back_after_lent : (opened t).verdict ≡ Ok tt → text_of (lent_run t b l xs).card ≡ t
    given_back_after_lent a = holds (λ m. text_of m.card ≡ t) (given_back_after t a)

-- the entries of a list and of what follows it
entries_append : (xs ys : List Handed) (m : Memory) → entries_of m (xs ++ ys) ≡ entries_of m xs ++ entries_of (remember m xs) ys
unfolding entries_of remember
entries_append [] ys m = refl
entries_append (x ∷ xs) ys m = more (is_short m x) _ _ _ (entries_append xs ys (memory_after m x))
  where
    more : (s : Bool) (ds es fs : List Entry) → ds ≡ es ++ fs → cond s ds (x.entry ∷ ds) ≡ cond s es (x.entry ∷ es) ++ fs
    more true ds es fs e = e
    more false ds es fs e = ap (λ (gs : List Entry). x.entry ∷ gs) e

fits_before : (xs ys : List Handed) → AllFit (xs ++ ys) → AllFit xs
unfolding AllFit
fits_before [] ys f = tt
fits_before (x ∷ xs) ys f = (f.0, fits_before xs ys f.1)

handed_before : (xs ys : List Handed) (m : Memory) → HandedBack m (xs ++ ys) → HandedBack m xs
unfolding HandedBack
handed_before [] ys m h = tt
handed_before (x ∷ xs) ys m h = (h.0, handed_before xs ys (memory_after m x) h.1)

-- order 11: a change that the block takes after the entries xs switches its program, whatever entries ys follow
module _ (t b l : List ℕ) (long : 1456 ≤ length b) (xs ys : List Handed) (k from : ℕ) (text lent : List ℕ) where
  abbrev changing : Handed
  changing = record { entry = Entry.Change k from text; loan = lent }

  abbrev following : List Entry
  following = entries_of (memory_after (memory_of t b l xs) changing) ys

  pub switches_lent :
      AllFit (xs ++ (changing ∷ ys)) → HandedBack (opened_memory t b l) (xs ++ (changing ∷ ys)) →
      change_answer (memory_of t b l xs).block k from text ≡ Answer.Taken →
      (entries_by_value t b l (xs ++ (changing ∷ ys)) ≡ entries_by_value t b l xs ++ (Entry.Change k from text ∷ following))
      × Switches (opened t).card (entries_by_value t b l xs) following k from text
  unfolding entries_of
  switches_lent fits handed taken =
      let s = stands_after t b l long xs (fits_before xs (changing ∷ ys) fits) (handed_before xs (changing ∷ ys) (opened_memory t b l) handed) in
      let m = memory_of t b l xs in
      let answer = ap (λ (x : Answered). x.answer)
      (change_is m.block m.loan s.room k from text ∙ ap (λ (c : Card). change c k from text) s.card) in
      let none = change_numbers m.block k from text in
      (entries_append xs (changing ∷ ys) (opened_memory t b l) ∙ rw none, switches t (entries_by_value t b l xs) following k from text (sym answer ∙ taken))
