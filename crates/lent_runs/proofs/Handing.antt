-- THE PREMISE CAN BE MET, for every list of entries: an owner who lends p × w items and hands them back each time as they were left meets it, no step is
-- refused with 11, and block and loan go through that very list.
use Prim.Native.Nat.{ℕ, ◌*◌, ◌≤◌}
use mathlib.Core.Path.{◌≡◌, refl, ◌∙◌, ap}
use mathlib.Core.Bool.{Bool, true, false, cond}
use mathlib.Core.List.{List, [], ◌∷◌}
use native.Mathlib.Omega.{arith}
use lib.ListN.{length}
use Rattle.construction.specs.Opening.{opened}
use Rattle.construction.specs.History.{Entry, run}
use Rattle.codes.specs.Codes.{byte}
use Rattle.block.proofs.Standing.{number_same}
use Rattle.loan.specs.Loans.{loan_words}
use Rattle.lent_steps.specs.Steps.{answer_to}
use Rattle.lent_runs.specs.Runs.{Memory, reply_in, is_accepted, loan_after, memory_after, is_eleven, entries_of, HandedBack, AllFit, opened_memory, lent_run}
use Rattle.lent_runs.specs.Runs.{as_left, handing}
use Rattle.lent_text.specs.Opened.{opened_block}
use Rattle.lent_runs.specs.Untouched.{BlockKept}
use Rattle.lent_runs.proofs.Requested.{call_numbers, exit_numbers, read_numbers, change_numbers}
use Rattle.lent_runs.proofs.Runs.{as_by_value}
use Rattle.lent_runs.proofs.ShortLoans.{eleven_number, loan_too_short_only}
use Rattle.lent_runs.proofs.Untouched.{untouched, kept_w}

-- a loan of p × w items is never too short
step_enough : (b l : List ℕ) → loan_words b ≤ length l → (i : ℕ) → is_eleven (answer_to b l i) ≡ false
step_enough b l p i = by (is_eleven (answer_to b l i)) refl
  where
    by : (t : Bool) → is_eleven (answer_to b l i) ≡ t → t ≡ false
    by true e = let h = (loan_too_short_only b l i (eleven_number (answer_to b l i) e)).1 in absurd (omega arith)
    by false e = refl

pub enough : (b l : List ℕ) → loan_words b ≤ length l → (e : Entry) → is_eleven (reply_in b l e).answer ≡ false
enough b l p (Entry.Call i k inputs) = call_numbers b i k
enough b l p (Entry.Exit i) = exit_numbers b i
enough b l p (Entry.Step i) = step_enough b l p i
enough b l p (Entry.Trace i) = step_enough b l p i
enough b l p (Entry.Read v) = read_numbers b v
enough b l p (Entry.Change k from t) = change_numbers b k from t

-- and stays one
pub words_kept : {b c : List ℕ} → BlockKept b c → loan_words c ≡ loan_words b
words_kept {b} {c} x =
    let processes = ap byte (number_same b c 0 1 0 x.size (x.counts 0 (omega arith))) in
    let room = kept_w x in
    λ j. 3 * processes j * room j

length_left : (t : Bool) (m l : List ℕ) → length m ≡ length l → length (cond t m l) ≡ length l
length_left true m l e = e
length_left false m l e = refl

pub still :
    (m : Memory) (e : Entry) → loan_words m.block ≤ length m.loan →
    loan_words (memory_after m (as_left m e)).block ≤ length (memory_after m (as_left m e)).loan
still m e p =
    let u = untouched m.block m.loan e in
    let w = words_kept u.block in
    let n = length_left (is_accepted m.block m.loan e) (loan_after m.block m.loan e) m.loan u.size in
    omega arith

pub hands_back : (es : List Entry) (m : Memory) → loan_words m.block ≤ length m.loan → HandedBack m (handing m es) × (entries_of m (handing m es) ≡ es)
unfolding handing HandedBack entries_of
hands_back [] m p = (tt, refl)
hands_back (e ∷ es) m p =
    let rest = hands_back es (memory_after m (as_left m e)) (still m e p) in
    ((λ a. refl, rest.0), rw (enough m.block m.loan p e) (ap (λ (fs : List Entry). e ∷ fs) rest.1))

-- so every run of the card by value is one on block and loan
pub runs_every_list :
    (t b l : List ℕ) → 1456 ≤ length b → loan_words (opened_block t b) ≤ length l → (es : List Entry) → AllFit (handing (opened_memory t b l) es) →
    lent_run t b l (handing (opened_memory t b l) es) ≡ run (opened t).card es
runs_every_list t b l long lent es fits =
    let h = hands_back es (opened_memory t b l) lent in
    (as_by_value t b l long (handing (opened_memory t b l) es) fits h.0).observed ∙ ap (run (opened t).card) h.1
