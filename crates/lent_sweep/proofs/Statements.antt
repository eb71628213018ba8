-- A SWEEP IS A LIST OF ENTRIES OF DEMAND 3 (document 02, order 12), whatever entries were made before it: block and loan after it are those after the entries, and
-- so every theorem over lists of entries (lent_runs/proofs/Statements: demand 3, the longest wait, ..) speaks of it.
use Prim.Native.Nat.{ℕ, ◌≤◌}
use mathlib.Core.Path.{◌≡◌, refl, ◌∙◌, ap}
use mathlib.Core.Bool.{Bool, true, false, cond, not}
use mathlib.Core.List.{List, [], ◌∷◌, ◌++◌}
use lib.ListN.{length}
use Rattle.construction.specs.Answers.{is_refused}
use Rattle.construction.specs.Requests.{step}
use Rattle.construction.specs.Opening.{opened}
use Rattle.construction.specs.History.{Entry, run}
use Rattle.construction.specs.Cells.{FitsWords}
use Rattle.calls.specs.Tables.{request_in}
use Rattle.loan.specs.Loans.{loan_words}
use Rattle.lent_helping.specs.Steps.{access_loan}
use Rattle.lent_steps.specs.Steps.{step_verdict, access_at, step_block, step_loan, answer_to}
use Rattle.lent_text.specs.Opened.{opened_block}
use Rattle.lent_runs.specs.Runs.{Memory, Reply, memory_after, remember, AllFit, as_left, handing, opened_memory, memory_of}
use Rattle.lent_runs.proofs.Handing.{enough, still, hands_back, runs_every_list}
use Rattle.lent_runs.proofs.Statements.{next_reply}
use Rattle.lent_sweep.specs.declared.Counts.{Counts}
use Rattle.lent_sweep.specs.Sweeps.{with_answer, is_again, called_again, Sweep, sweep_step, swept}
use Rattle.lent_sweep.specs.Entries.{call_of, follows, entries, memory_in, before, with_sweep, handed_in, SweepRuns}

-- what a step leaves, accepted or not
step_left : (b l : List ℕ) (i : ℕ) → cond (not (is_refused (step_verdict b l i))) (step_loan b l i) l ≡ step_loan b l i
unfolding step_loan
step_left b l i = go (is_refused (step_verdict b l i))
  where
    go : (t : Bool) → cond (not t) (cond t l (access_loan (access_at b i) b l i)) l ≡ cond t l (access_loan (access_at b i) b l i)
    go true = refl
    go false = refl

-- block and loan go through the entries of a sweep
abbrev Remembers : List ℕ → List ℕ → Sweep → Type 0
Remembers calls schedule s = remember (memory_in s) (handing (memory_in s) (entries calls s schedule)) ≡ memory_in (swept calls s schedule)

-- .. behind a step, by whether its operation returned
module _ (calls : List ℕ) (schedule : List ℕ) (i : ℕ) (rest : (s : Sweep) → Remembers calls schedule s) (d m : List ℕ) (c : Counts) where
  abbrev gone_on : Bool → Sweep
  gone_on t = record { block = cond t (called_again calls d i) d; loan = m; counts = c }

  follow :
      (t : Bool) →
      remember (record { block = d; loan = m }) (handing (record { block = d; loan = m }) (follows t (call_of calls i) (entries calls (gone_on t) schedule)))
      ≡ memory_in (swept calls (gone_on t) schedule)
  unfolding remember handing
  follow true = rest (gone_on true)
  follow false = rest (gone_on false)

pub remembers : (calls : List ℕ) (schedule : List ℕ) (s : Sweep) → Remembers calls schedule s
unfolding remember handing entries swept
remembers calls [] s = refl
remembers calls (i ∷ is) s =
    let x = answer_to s.block s.loan i in
    let d = step_block s.block s.loan i in
    let made = follows (is_again calls i x) (call_of calls i) (entries calls (sweep_step calls s i) is) in
    ap (λ (l : List ℕ). remember (record { block = d; loan = l }) (handing (record { block = d; loan = l }) made)) (step_left s.block s.loan i)
    ∙ follow calls is i (λ z. remembers calls is z) d (step_loan s.block s.loan i) (with_answer s.counts x) (is_again calls i x)

pub remember_append :
    (es fs : List Entry) (m : Memory) →
    remember m (handing m (es ++ fs)) ≡ remember (remember m (handing m es)) (handing (remember m (handing m es)) fs)
unfolding remember handing
remember_append [] fs m = refl
remember_append (e ∷ es) fs m = remember_append es fs (memory_after m (as_left m e))

pub one_remembers : (calls : List ℕ) (s : Sweep) (i : ℕ) →
    remember (memory_in s) (handing (memory_in s) (entries calls s (i ∷ []))) ≡ memory_in (sweep_step calls s i)
unfolding swept
one_remembers calls s i = remembers calls (i ∷ []) s

-- the inputs of the calls have 32 bits each, as the functions' types have it
pub fit_append : (es fs : List Entry) (m : Memory) → AllFit (handing m es) → ((k : Memory) → AllFit (handing k fs)) → AllFit (handing m (es ++ fs))
unfolding AllFit handing
fit_append [] fs m f g = g m
fit_append (e ∷ es) fs m f g = (f.0, fit_append es fs (memory_after m (as_left m e)) f.1 g)

fit_follows : (t : Bool) (e : Entry) (es : List Entry) → ((k : Memory) → AllFit (handing k (e ∷ []))) → ((k : Memory) → AllFit (handing k es)) → (k : Memory) →
    AllFit (handing k (follows t e es))
unfolding AllFit handing
fit_follows true e es f g k = ((f k).0, g (memory_after k (as_left k e)))
fit_follows false e es f g k = g k

pub entries_fit : (calls : List ℕ) → ((i : ℕ) → FitsWords (request_in calls i).inputs) → (schedule : List ℕ) (s : Sweep) (k : Memory) →
    AllFit (handing k (entries calls s schedule))
unfolding AllFit handing entries
entries_fit calls fits [] s k = tt
entries_fit calls fits (i ∷ is) s k = (
  tt,
  fit_follows (is_again calls i (answer_to s.block s.loan i)) (call_of calls i) (entries calls (sweep_step calls s i) is) (λ _. (fits i, tt))
      (λ z. entries_fit calls fits is (sweep_step calls s i) z) (memory_after k (as_left k (Entry.Step i))),
)

-- the loan stays long enough
after_long : (es : List Entry) (m : Memory) → loan_words m.block ≤ length m.loan →
    loan_words (remember m (handing m es)).block ≤ length (remember m (handing m es)).loan
unfolding remember handing
after_long [] m h = h
after_long (e ∷ es) m h = after_long es (memory_after m (as_left m e)) (still m e h)

-- the answer to a step on block and loan, after any entries, is that of the run
pub answer_is :
    (t b l : List ℕ) → 1456 ≤ length b → loan_words (opened_block t b) ≤ length l → (es : List Entry) → AllFit (handing (opened_memory t b l) es) → (i : ℕ) →
    answer_to (before t b l es).block (before t b l es).loan i ≡ (step (run (opened t).card es).card i).answer
answer_is t b l long lent es fits i =
    let first = opened_memory t b l in
    let m = memory_of t b l (handing first es) in
    let h = hands_back es first lent in
    let r =
    next_reply t b l long (handing first es) fits h.0 (as_left m (Entry.Step i)) tt (λ _. refl)
    (enough m.block m.loan (after_long es first lent) (Entry.Step i)) in
    rw h.1 at (ap (λ (x : Reply). x.answer) r)

module _
    (t b l : List ℕ) (long : 1456 ≤ length b) (lent : loan_words (opened_block t b) ≤ length l) (es : List Entry)
    (fits : AllFit (handing (opened_memory t b l) es))
    (calls : List ℕ) (words : (i : ℕ) → FitsWords (request_in calls i).inputs) (schedule : List ℕ)
  where
    pub sweep_fits : AllFit (handed_in t b l es calls schedule)
    sweep_fits = fit_append es (entries calls (before t b l es) schedule) (opened_memory t b l) fits (entries_fit calls words schedule (before t b l es))

    pub sweep_runs : SweepRuns t b l es calls schedule
    sweep_runs =
        let all = with_sweep t b l es calls schedule in
        let h = hands_back all (opened_memory t b l) lent in
        record {
          handed = h.0;
          taken = h.1;
          memory = remember_append es (entries calls (before t b l es) schedule) (opened_memory t b l) ∙ remembers calls schedule (before t b l es);
          observed = runs_every_list t b l long lent all sweep_fits;
        }
