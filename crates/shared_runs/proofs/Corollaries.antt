-- WHAT IS PROVED OF EVERY RUN OF ONE CARD IS SAID OF EACH MACHINE: demand 3, the waits and the other orders, of its own entries less the steps that got 19.
use Rattle.std.specs.Prelude.{Ok}
use Prim.Native.Nat.{ℕ, ◌<◌, ◌≤◌}
use mathlib.Core.Path.{◌≡◌, ap, ◌∙◌}
use mathlib.Core.List.{List}
use lib.ListN.{length, get_or}
use Rattle.construction.specs.declared.{answers.Answer.Answer, answers.Answered.Answered, card.Card.Card}
use Rattle.construction.specs.Parts.{local_at}
use Rattle.construction.specs.Requests.{read}
use Rattle.construction.specs.Tracing.{TellsNoted}
use Rattle.construction.specs.Opening.{opened}
use Rattle.construction.specs.Writing.{text_of}
use Rattle.construction.specs.Marks.{Marks}
use Rattle.construction.specs.Limits.{Limited}
use Rattle.construction.specs.Swaps.{TellsSwap}
use Rattle.construction.specs.OneAccess.{OneAccess}
use Rattle.construction.specs.History.{Entry, Finish, run}
use Rattle.construction.specs.Linearizability.{Linearizable}
use Rattle.construction.specs.Waits.{WaitFree}
use Rattle.construction.specs.Paths.{Follows, unnoticed, noticed_from, accesses}
use Rattle.construction.specs.Log.{Permuted, log_of, SortsToOrder}
use Rattle.construction.specs.Numbers.{NumbersKept}
use Rattle.construction.specs.Faults.{MarkedDone, UnmarkedReading, YieldsKept}
use Rattle.construction.specs.Texts.{RunsItsText, RunsByNumber}
use Rattle.construction.specs.Allocation.{Disciplined, Allocating}
use Rattle.construction.proofs.Statements.Linearizability.{linearizability, bench_words_lem}
use Rattle.construction.proofs.Statements.Waits.{wait_free}
use Rattle.construction.proofs.Statements.Paths.{follows_lines, wish_kept}
use Rattle.construction.proofs.Statements.Log.{log_sorts}
use Rattle.construction.proofs.Statements.Allocation.{allocation}
use Rattle.construction.proofs.Statements.Limits.{limits}
use Rattle.construction.proofs.Statements.Counters.{counters}
use Rattle.construction.proofs.Statements.NotedSets.{noted_sets, tells_noted}
use Rattle.construction.proofs.Statements.Swaps.{tells_swap}
use Rattle.construction.proofs.Statements.OneAccess.{one_access}
use Rattle.construction.proofs.Statements.TextKept.{given_back_after}
use Rattle.construction.proofs.Statements.Numbers.{numbers_kept}
use Rattle.construction.proofs.Statements.Faults.{marked_done, unmarked_reading, yields_kept}
use Rattle.construction.proofs.Statements.Changes.{runs_its_text, runs_by_number}
use Rattle.lent_card.specs.Requests.{read_answer}
use Rattle.lent_card.proofs.Cards.{read_is}
use Rattle.allowance.specs.Requests.{Request}
use Rattle.shared_processor.specs.Parts.{part}
use Rattle.shared_runs.specs.Runs.{Shared, shared_run, own_entries, OpenedWith, AllFitRequests, SpeaksOf}
use Rattle.shared_runs.proofs.Statements.{as_alone}

module _
    (stride : ℕ) (t b : List ℕ) (s : Shared) (m : ℕ) (rs : List (Request Entry)) (there : m < s.allowance.count) (o : OpenedWith stride t b s m)
    (fits : AllFitRequests rs)
  where
    -- THE FORM
    pub speaks_of : {Q : List Entry → Type 0} → ((es : List Entry) → Q es) → SpeaksOf stride Q t b s m rs
    speaks_of theorem = record { same = as_alone stride t b s m rs there o fits; holds = theorem (own_entries stride m s rs) }

    abbrev Says : (List Entry → Type 0) → Type 0
    Says Q = SpeaksOf stride Q t b s m rs

    -- demand 3; a read of the machine gives its bench's word
    pub linearizability_shared : Says (Linearizable (opened t).card)
    linearizability_shared = speaks_of (linearizability t)

    pub reads_shared :
        (v : ℕ) → v < (opened t).card.variable_count →
        read_answer (part 1456 (shared_run stride s rs).blocks m) v ≡ Answer.Value (get_or (run (opened t).card (own_entries stride m s rs)).history.words v 0)
    reads_shared v p =
        ap (λ (x : Answered). x.answer)
        (read_is (part 1456 (shared_run stride s rs).blocks m) (part stride (shared_run stride s rs).loans m) v
        ∙ (ap (λ (c : Card). read c v) (as_alone stride t b s m rs there o fits).card ∙ (linearizability t (own_entries stride m s rs)).reads v p))

    pub bench_words_shared : Says (λ es. length (run (opened t).card es).history.words ≡ (opened t).card.variable_count)
    bench_words_shared = speaks_of (bench_words_lem t)

    -- order 3
    pub wait_free_shared : Says (WaitFree (opened t).card)
    wait_free_shared = speaks_of (wait_free t)

    -- demand 2 and order 1
    pub follows_lines_shared : (i : ℕ) → Says (λ es. Follows i (accesses (opened t).card es i))
    follows_lines_shared i = speaks_of (λ es. follows_lines t es i)

    pub wish_kept_shared : (i : ℕ) → Says (λ es. (local_at (run (opened t).card es).card i).exit ≡ (noticed_from (opened t).card i unnoticed es).wish)
    wish_kept_shared i = speaks_of (λ es. wish_kept t es i)

    pub one_access_shared : (i : ℕ) → Says (λ es. OneAccess (run (opened t).card es).card i)
    one_access_shared i = speaks_of (λ es. one_access (run (opened t).card es).card i)

    pub tells_swap_shared : (i : ℕ) → Says (λ es. TellsSwap (run (opened t).card es).card i)
    tells_swap_shared i = speaks_of (λ es. tells_swap (run (opened t).card es).card i)

    pub noted_sets_shared : (i : ℕ) → Says
        (λ es. Marks (local_at (run (opened t).card es).card i).mask (local_at (run (opened t).card es).card i).dictionary)
    noted_sets_shared i = speaks_of (λ es. noted_sets t es i)

    pub tells_noted_shared : (i : ℕ) → Says (λ es. i < (run (opened t).card es).card.process_count → TellsNoted (run (opened t).card es).card i)
    tells_noted_shared i = speaks_of (λ es. tells_noted t es i)

    pub limits_shared : Says (λ es. Limited (run (opened t).card es).card)
    limits_shared = speaks_of (limits t)

    pub counters_shared : (i : ℕ) → Says (λ es. (local_at (run (opened t).card es).card i).simulation.counter ≤ 32)
    counters_shared i = speaks_of (λ es. counters t es i)

    -- order 4
    pub log_sorts_shared :
        (log : List Finish) → Says
        (λ es. Permuted (log_of (run (opened t).card es).history.returns) log → SortsToOrder (run (opened t).card es).history log)
    log_sorts_shared log = speaks_of (λ es. log_sorts t es log)

    pub numbers_kept_shared : Says (λ es. NumbersKept (run (opened t).card es))
    numbers_kept_shared = speaks_of (numbers_kept t)

    -- order 6
    pub marked_done_shared : Says (λ es. MarkedDone (run (opened t).card es).card)
    marked_done_shared = speaks_of (marked_done t)

    pub unmarked_reading_shared : Says (λ es. UnmarkedReading (run (opened t).card es).card)
    unmarked_reading_shared = speaks_of (unmarked_reading t)

    pub yields_kept_shared : Says (λ es. YieldsKept (run (opened t).card es))
    yields_kept_shared = speaks_of (yields_kept t)

    -- order 9
    pub allocation_shared : Says (λ es. Disciplined (opened t).card es → Allocating (opened t).card es)
    allocation_shared = speaks_of (allocation t)

    -- order 11
    pub runs_its_text_shared : Says (RunsItsText (opened t).card)
    runs_its_text_shared = speaks_of (runs_its_text t)

    pub runs_by_number_shared : Says (RunsByNumber (opened t).card)
    runs_by_number_shared = speaks_of (runs_by_number t)

    -- the writer's promise
    pub given_back_after_shared : (opened t).verdict ≡ Ok tt → Says (λ es. text_of (run (opened t).card es).card ≡ t)
    given_back_after_shared a = speaks_of (given_back_after t a)
