-- THE LONGEST WAIT OF A SWEEP (document 02, orders 3 and 12): the most own steps that a sweep tells never pass the longest wait of the card, where no exit request was
-- made before it.
use Prim.Native.Nat.{ℕ, ◌+◌, ◌≤◌}
use mathlib.Core.Path.{◌≡◌, refl, ◌∙◌, ap, subst}
use mathlib.Core.Bool.{Bool, true, false, cond, not, ◌&&◌, true≢false}
use mathlib.Core.List.{List, [], ◌∷◌, ◌++◌}
use native.Mathlib.Nat.{add-zero}
use native.Mathlib.Omega.{arith}
use lib.Dec.{eqb, ltb}
use lib.ListN.{length}
use borrow.Author.Tests.{ltb-true}
use Rattle.construction.specs.declared.{answers.Answer.Answer, card.Card.Card, texts.Contents.Contents}
use Rattle.construction.specs.Answers.{is_refused}
use Rattle.construction.specs.Parts.{contents_of, local_at}
use Rattle.construction.specs.Requests.{is_process, step}
use Rattle.construction.specs.Opening.{opened}
use Rattle.construction.specs.History.{Entry, act, run}
use Rattle.construction.specs.Paths.{Noticed, unnoticed, noticed, noticed_from}
use Rattle.construction.specs.Waits.{wait_of, extra, TellsAtMost}
use Rattle.construction.proofs.Basics.{and_true}
use Rattle.construction.proofs.Observing.Runs.{opened_consistent}
use Rattle.construction.proofs.Statements.Paths.{wish_kept}
use Rattle.construction.proofs.Statements.Waits.{wait_free}
use Rattle.construction.specs.Cells.{FitsWords}
use Rattle.calls.specs.Tables.{request_in}
use Rattle.loan.specs.Loans.{loan_words}
use Rattle.lent_steps.specs.Steps.{answer_to}
use Rattle.lent_text.specs.Opened.{opened_block}
use Rattle.lent_runs.specs.Runs.{Memory, AllFit, handing, opened_memory, memory_of}
use Rattle.lent_sweep.specs.declared.Counts.{Counts}
use Rattle.lent_sweep.specs.Sweeps.{with_done, with_answer, is_again, Sweep, sweep_step, swept}
use Rattle.lent_sweep.specs.Entries.{call_of, follows, entries, memory_in, before, is_exit, NoExits}
use Rattle.lent_sweep.proofs.Statements.{remember_append, one_remembers, fit_append, entries_fit, answer_is}

-- without an exit request no wish is noticed
either : (t : Bool) (x y : Noticed) → x.wish ≡ false → y.wish ≡ false → (cond t x y).wish ≡ false
either true x y e f = e
either false x y e f = f

unwished_entry : (c : Card) (i : ℕ) (n : Noticed) (e : Entry) (a : Answer) → is_exit e ≡ false → n.wish ≡ false → (noticed c i n e a).wish ≡ false
unfolding noticed
unwished_entry c i n (Entry.Call j k inputs) a h w = either (eqb j i && not (is_refused a)) unnoticed n refl w
unwished_entry c i n (Entry.Exit j) a h w = absurd (true≢false h)
unwished_entry c i n (Entry.Step j) a h w = either (eqb j i && not (is_refused a)) _ n w w
unwished_entry c i n (Entry.Trace j) a h w = either (eqb j i && not (is_refused a)) _ n w w
unwished_entry c i n (Entry.Read v) a h w = w
unwished_entry c i n (Entry.Change k from t) a h w = w

unwished : (es : List Entry) (c : Card) (i : ℕ) (n : Noticed) → NoExits es → n.wish ≡ false → (noticed_from c i n es).wish ≡ false
unfolding noticed_from NoExits
unwished [] c i n h w = w
unwished (e ∷ es) c i n h w = unwished es (act c e).card i (noticed c i n e (act c e).answer) h.1 (unwished_entry c i n e (act c e).answer h.0 w)

no_exits_append : (es fs : List Entry) → NoExits es → NoExits fs → NoExits (es ++ fs)
unfolding NoExits
no_exits_append [] fs h g = g
no_exits_append (e ∷ es) fs h g = (h.0, no_exits_append es fs h.1 g)

exits_follow : (t : Bool) (calls : List ℕ) (i : ℕ) → NoExits (follows t (call_of calls i) [])
unfolding NoExits
exits_follow true calls i = (refl, tt)
exits_follow false calls i = tt

made_exits : (calls : List ℕ) (s : Sweep) (i : ℕ) → NoExits (entries calls s (i ∷ []))
unfolding NoExits entries
made_exits calls s i = (refl, exits_follow (is_again calls i (answer_to s.block s.loan i)) calls i)

-- a step of a run tells at most the longest wait
module _ (t : List ℕ) (es : List Entry) (none : NoExits es) (i : ℕ) where
  abbrev o : Card
  o = (opened t).card

  abbrev c : Card
  c = (run o es).card

  no_wish : (local_at c i).exit ≡ false
  no_wish = wish_kept t es i ∙ unwished es o i unnoticed none refl

  step_tells : TellsAtMost (wait_of (contents_of o)) (step c i).answer
  unfolding step
  step_tells = go (is_process c i) refl
    where
      go : (p : Bool) → is_process c i ≡ p → TellsAtMost (wait_of (contents_of o)) (step c i).answer
      go true e =
          let below = ltb-true i c.process_count (and_true (ltb i c.process_count) (ltb i 8) e).0 in
          let same = ap (λ (x : Contents). x.process_count) (opened_consistent t es).text in
          let w = no_wish in
          let z : wait_of (contents_of o) + extra (local_at c i).exit ≡ wait_of (contents_of o) =
          ap (λ (x : Bool). wait_of (contents_of o) + extra x) w ∙ add-zero (wait_of (contents_of o)) in
          subst (λ (k : ℕ). TellsAtMost k (step c i).answer) z ((wait_free t es).returns i (omega arith))
      go false e = rw e tt

-- the most that is told
counted : (n : ℕ) (c : Counts) (x : Answer) → TellsAtMost n x → c.longest ≤ n → (with_answer c x).longest ≤ n
counted n c Answer.Taken h k = k
counted n c Answer.Run h k = k
counted n c (Answer.Done number y steps) h k = by y.fault
  where
    by : (t : Bool) → (with_done c t steps).longest ≤ n
    by true = omega arith
    by false = omega arith
counted n c (Answer.Exited steps) h k = omega arith
counted n c (Answer.Value x) h k = k
counted n c (Answer.Refused why) h k = k
counted n c (Answer.RefusedAt why line) h k = k

module _
    (t b l : List ℕ) (long : 1456 ≤ length b) (lent : loan_words (opened_block t b) ≤ length l) (calls : List ℕ)
    (words : (i : ℕ) → FitsWords (request_in calls i).inputs)
  where
    abbrev first : Memory
    first = opened_memory t b l

    abbrev reached : List Entry → Memory
    reached es = memory_of t b l (handing first es)

    abbrev most : ℕ
    most = wait_of (contents_of (opened t).card)

    answer_tells : (es : List Entry) → AllFit (handing first es) → NoExits es → (i : ℕ) → TellsAtMost most (answer_to (reached es).block (reached es).loan i)
    answer_tells es fits none i = rw (answer_is t b l long lent es fits i) (step_tells t es none i)

    on_from : (schedule : List ℕ) (es : List Entry) → AllFit (handing first es) → NoExits es → (c : Counts) → c.longest ≤ most →
        (swept calls (record { block = (reached es).block; loan = (reached es).loan; counts = c }) schedule).counts.longest ≤ most
    unfolding swept
    on_from [] es fits none c h = h
    on_from (i ∷ is) es fits none c h =
        let m = reached es in
        let s : Sweep = record { block = m.block; loan = m.loan; counts = c } in
        let x = answer_to m.block m.loan i in
        let made = entries calls s (i ∷ []) in
        let q : reached (es ++ made) ≡ memory_in (sweep_step calls s i) = remember_append es made first ∙ one_remembers calls s i in
        subst (λ (z : Memory). (swept calls (record { block = z.block; loan = z.loan; counts = with_answer c x }) is).counts.longest ≤ most) q
        (on_from is (es ++ made) (fit_append es made first fits (entries_fit calls words (i ∷ []) s)) (no_exits_append es made none (made_exits calls s i))
        (with_answer c x) (counted most c x (answer_tells es fits none i) h))

    pub longest_within :
        (es : List Entry) → AllFit (handing first es) → NoExits es → (schedule : List ℕ) → (swept calls (before t b l es) schedule).counts.longest ≤ most
    longest_within es fits none schedule = on_from schedule es fits none _ (omega arith)
