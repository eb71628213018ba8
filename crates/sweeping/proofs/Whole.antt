-- THE PIECES OF A SWEEP ARE ONE SWEEP (document 02, order 12): where every process has an operation under way and is called again with a program that is there, what
-- stands and is counted after the last piece is what the fold of the single requests over the whole drawn schedule gives.
use Prim.Native.Nat.{ℕ, zero, suc, ◌+◌, ◌-◌, ◌<◌, ◌≤◌}
use mathlib.Core.Path.{◌≡◌, refl, sym, ◌∙◌, ap, subst}
use mathlib.Core.Bool.{Bool, true, false, cond}
use mathlib.Core.List.{List, ◌++◌}
use native.Mathlib.Omega.{arith}
use lib.Dec.{eqb}
use lib.ListN.{length}
use borrow.Author.Tests.{eqb-true, eqb-false}
use Rattle.grammar.specs.Writing.{largest}
use Rattle.construction.specs.declared.{card.Card.Card, texts.Contents.Contents}
use Rattle.construction.specs.Opening.{opened}
use Rattle.construction.specs.History.{Entry, Observation, run}
use Rattle.construction.proofs.Observing.Runs.{opened_consistent}
use Rattle.construction.specs.Cells.{FitsWords}
use Rattle.block.specs.Layout.{process_count_in, limit_in, steps_in}
use Rattle.block.specs.Cards.{card_of}
use Rattle.block.proofs.Gets.{process_count_is, limit_is, steps_is}
use Rattle.calls.specs.Tables.{request_in}
use Rattle.loan.specs.Loans.{loan_words}
use Rattle.lent_text.specs.Opened.{opened_block}
use Rattle.lent_runs.specs.Runs.{Memory, AllFit, handing, opened_memory, memory_of}
use Rattle.lent_runs.proofs.Handing.{runs_every_list}
use Rattle.xorshift.specs.Xorshift.{after, drawn}
use Rattle.xorshift.proofs.Drawing.{drawn_length, drawn_append, remainder_below}
use Rattle.lent_sweep.specs.declared.Counts.{Counts}
use Rattle.lent_sweep.specs.Sweeps.{none, sum_of, Sweep, start, swept}
use Rattle.lent_sweep.specs.Entries.{entries, memory_in}
use Rattle.lent_sweep.specs.Limits.{AllBusy, AllCalled, Within}
use Rattle.lent_sweep.proofs.Steps.{Tallied}
use Rattle.lent_sweep.proofs.Statements.{remembers, remember_append, fit_append, entries_fit}
use Rattle.lent_sweep.proofs.Accepted.{accepted_steps_lem}
use Rattle.lent_sweep.proofs.Limits.{accepts, only_limit}
use Rattle.lent_sweep.proofs.Parts.{behind, swept_append, swept_from, swept_limit, tallied_swept}
use Rattle.sweeping.specs.declared.Progress.{Progress}
use Rattle.sweeping.specs.Pieces.{begun, added, left_after, run_drawn, piece_size, piece, Stage, stage, next_stage, in_pieces}
use Rattle.sweeping.proofs.Progressing.{ended}

drawn_within : (n x p : ℕ) → 0 < p → Within p (drawn n x p)
unfolding Within drawn
drawn_within zero x p h = tt
drawn_within (suc n) x p h = (remainder_below _ p h, drawn_within n _ p h)

-- counts that have room for the steps that are left
pub record Small (q : Progress) : Type 0 where
  pub accepted : q.counts.accepted + q.left ≤ largest
  pub returned : q.counts.done + (q.counts.faulted + q.counts.exited) ≤ q.counts.accepted

added_sum : (c d : Counts) → c.accepted + d.accepted ≤ largest → c.done + (c.faulted + c.exited) ≤ c.accepted →
    d.done + (d.faulted + d.exited) ≤ d.accepted → added c d ≡ sum_of c d
added_sum c d h f g =
    let e0 : (added c d).accepted ≡ c.accepted + d.accepted = omega arith in
    let e1 : (added c d).done ≡ c.done + d.done = omega arith in
    let e2 : (added c d).faulted ≡ c.faulted + d.faulted = omega arith in
    let e3 : (added c d).exited ≡ c.exited + d.exited = omega arith in
    λ j. record { accepted = e0 j; done = e1 j; faulted = e2 j; exited = e3 j; longest = (sum_of c d).longest }

-- what stands and is counted at a stage
abbrev pub sweep_at : Stage → Sweep
sweep_at s = record { block = s.block; loan = s.loan; counts = s.progress.counts }

module _
    (t b l : List ℕ) (long : 1456 ≤ length b) (lent : loan_words (opened_block t b) ≤ length l) (calls : List ℕ)
    (words : (i : ℕ) → FitsWords (request_in calls i).inputs) (called : AllCalled (opened t).card calls) (some : 0 < (opened t).card.process_count)
  where
    abbrev o : Card
    o = (opened t).card

    abbrev p : ℕ
    p = o.process_count

    abbrev first : Memory
    first = opened_memory t b l

    abbrev reached : List Entry → Memory
    reached es = memory_of t b l (handing first es)

    -- the card that stands there
    stands : (es : List Entry) → AllFit (handing first es) → card_of (reached es).block (reached es).loan ≡ (run o es).card
    stands es fits = ap (λ (m : Observation). m.card) (runs_every_list t b l long lent es fits)

    processes : (es : List Entry) → AllFit (handing first es) → process_count_in (reached es).block ≡ p
    processes es fits =
        process_count_is (reached es).block (reached es).loan ∙ ap (λ (c : Card). c.process_count) (stands es fits)
        ∙ ap (λ (x : Contents). x.process_count) (opened_consistent t es).text

    limits : (es : List Entry) → AllFit (handing first es) → limit_in (reached es).block ≡ o.limit
    limits es fits =
        limit_is (reached es).block (reached es).loan ∙ ap (λ (c : Card). c.limit) (stands es fits)
        ∙ ap (λ (x : Contents). x.limit) (opened_consistent t es).text

    -- a piece from where the entries es lead
    module _ (es : List Entry) (fits : AllFit (handing first es)) (busy : AllBusy (run o es).card) (q : Progress) (small : Small q) where
      abbrev m : ℕ
      m = piece_size q

      abbrev xs : List ℕ
      xs = drawn m q.x p

      abbrev rest : List ℕ
      rest = drawn (q.left - m) (after m q.x) p

      abbrev begins : Sweep
      begins = start (reached es).block (reached es).loan

      abbrev part : Sweep
      part = swept calls begins xs

      abbrev made : List Entry
      made = entries calls begins xs

      tallied : Tallied (0 + length xs) part.counts
      tallied = tallied_swept calls xs begins 0 (record { accepted = omega arith; returned = omega arith })

      few : part.counts.accepted ≤ m
      few = omega (arith, tallied.accepted, drawn_length m q.x p)

      is_part : piece calls (reached es).block (reached es).loan q ≡ part
      unfolding run_drawn
      is_part = ap (λ (k : ℕ). swept calls begins (drawn m q.x k)) (processes es fits)

      summed : added q.counts part.counts ≡ sum_of q.counts part.counts
      summed = added_sum q.counts part.counts (omega (arith, few, small.accepted)) small.returned tallied.returned

      -- the whole schedule from here on is the piece and then the rest
      split : swept calls (record { block = (reached es).block; loan = (reached es).loan; counts = q.counts }) (drawn q.left q.x p) ≡ swept calls
          (behind q.counts part) rest
      split =
          let e : m + (q.left - m) ≡ q.left = omega arith in
          ap (λ (k : ℕ). swept calls (record { block = (reached es).block; loan = (reached es).loan; counts = q.counts }) (drawn k q.x p)) (sym e)
          ∙
          (ap (λ (z : List ℕ). swept calls (record { block = (reached es).block; loan = (reached es).loan; counts = q.counts }) z)
          (drawn_append m (q.left - m) q.x p)
          ∙ (swept_append calls xs rest (record { block = (reached es).block; loan = (reached es).loan; counts = q.counts })
          ∙ ap (λ (z : Sweep). swept calls z rest) (swept_from calls (reached es).block (reached es).loan xs q.counts)))

      -- where the piece leads
      leads : reached (es ++ made) ≡ memory_in part
      leads = remember_append es made first ∙ remembers calls xs begins

      fits' : AllFit (handing first (es ++ made))
      fits' = fit_append es made first fits (entries_fit calls words xs begins)

      busy' : AllBusy (run o (es ++ made)).card
      busy' = (accepts t b l long lent calls words called xs (drawn_within m q.x p some) es fits busy none).busy

      -- a piece that is not all accepted ends at the limit
      at_limit : (part.counts.accepted ≡ m → ⊥) → limit_in part.block ≤ steps_in part.block
      at_limit ne =
          let a = only_limit t b l long lent calls words called es fits busy xs (drawn_within m q.x p some) in
          let s : steps_in part.block ≡ (run o es).card.steps + part.counts.accepted =
          steps_is part.block part.loan ∙ accepted_steps_lem t b l long lent calls words es fits xs in
          let k : limit_in part.block ≡ o.limit = ap (λ (z : Memory). limit_in z.block) (sym leads) ∙ limits (es ++ made) fits' in
          omega (arith, drawn_length m q.x p, ne)

      -- the stage after it
      abbrev onward : ℕ → Stage
      onward left = stage part.block part.loan (record { x = after m q.x; left = left; counts = sum_of q.counts part.counts })

      is_onward : next_stage calls (stage (reached es).block (reached es).loan q) ≡ onward (left_after q.left m part.counts.accepted)
      is_onward =
          ap
          (λ (z : Sweep). stage z.block z.loan
          (record { x = after m q.x; left = left_after q.left m z.counts.accepted; counts = added q.counts z.counts }))
          is_part
          ∙ ap
          (λ (k : Counts). stage part.block part.loan
          (record { x = after m q.x; left = left_after q.left m part.counts.accepted; counts = k }))
          summed

      abbrev whole : Sweep
      whole = swept calls (record { block = (reached es).block; loan = (reached es).loan; counts = q.counts }) (drawn q.left q.x p)

      -- it is the last one, or others follow
      last : (part.counts.accepted ≡ m → ⊥) → (n : ℕ) → whole ≡ sweep_at (in_pieces n calls (onward 0))
      last ne n =
          split
          ∙
          (swept_limit calls part.block part.loan (sum_of q.counts part.counts) (at_limit ne) rest ∙ ap sweep_at
          (sym (ended n calls (onward 0) (omega arith))))

      abbrev From : ℕ → Type 0
      From n =
          (r : Progress) → Small r → r.left ≤ n →
          swept calls (record { block = (reached (es ++ made)).block; loan = (reached (es ++ made)).loan; counts = r.counts }) (drawn r.left r.x p)
          ≡ sweep_at (in_pieces n calls (stage (reached (es ++ made)).block (reached (es ++ made)).loan r))

      followed : part.counts.accepted ≡ m → (n : ℕ) → 0 < q.left → q.left ≤ suc n → From n → whole ≡ sweep_at (in_pieces n calls (onward (q.left - m)))
      followed e n some' le from =
          let r : Progress = record { x = after m q.x; left = q.left - m; counts = sum_of q.counts part.counts } in
          let more : Small r = record { accepted = omega (arith, small.accepted); returned = omega (arith, small.returned, tallied.returned) } in
          split
          ∙ subst
          (λ (z : Memory). swept calls (record { block = z.block; loan = z.loan; counts = r.counts }) rest ≡ sweep_at
          (in_pieces n calls (stage z.block z.loan r)))
          leads
          (from r more (omega arith))

      one_piece : (n : ℕ) → 0 < q.left → q.left ≤ suc n → From n →
          whole ≡ sweep_at (in_pieces n calls (next_stage calls (stage (reached es).block (reached es).loan q)))
      one_piece n some' le from = by (eqb part.counts.accepted m) refl ∙ ap (λ (z : Stage). sweep_at (in_pieces n calls z)) (sym is_onward)
        where
          by : (z : Bool) → eqb part.counts.accepted m ≡ z → whole ≡ sweep_at (in_pieces n calls (onward (left_after q.left m part.counts.accepted)))
          by true e = rw e (followed (eqb-true part.counts.accepted m e) n some' le from)
          by false e = rw e (last (eqb-false part.counts.accepted m e) n)

      all : (n : ℕ) → q.left ≤ suc n → From n → whole ≡ sweep_at (in_pieces (suc n) calls (stage (reached es).block (reached es).loan q))
      unfolding swept drawn in_pieces
      all n le from = by (eqb q.left 0) refl
        where
          here : Stage
          here = stage (reached es).block (reached es).loan q

          by : (z : Bool) → eqb q.left 0 ≡ z → whole ≡ sweep_at (cond z here (in_pieces n calls (next_stage calls here)))
          by true e = let z = eqb-true q.left 0 e in rw z
          by false e = let ne = eqb-false q.left 0 e in one_piece n (omega (arith, ne)) le from

    -- all pieces from there on
    pub pieces_from :
        (n : ℕ) (es : List Entry) → AllFit (handing first es) → AllBusy (run o es).card → (q : Progress) → Small q → q.left ≤ n →
        swept calls (record { block = (reached es).block; loan = (reached es).loan; counts = q.counts }) (drawn q.left q.x p)
        ≡ sweep_at (in_pieces n calls (stage (reached es).block (reached es).loan q))
    unfolding swept drawn in_pieces
    pieces_from zero es fits busy q small h = let e : q.left ≡ 0 = omega arith in rw e
    pieces_from (suc n) es fits busy q small h =
        all es fits busy q small n h
        (λ r more le. pieces_from n (es ++ made es fits busy q small) (fits' es fits busy q small) (busy' es fits busy q small) r more le)

    -- a sweep of so many steps: counts, block and loan are those of the fold over the drawn schedule
    pub pieces_are_one :
        (es : List Entry) → AllFit (handing first es) → AllBusy (run o es).card → (steps seed : ℕ) → steps ≤ largest →
        swept calls (start (reached es).block (reached es).loan) (drawn steps seed p) ≡ sweep_at
        (in_pieces steps calls (stage (reached es).block (reached es).loan (begun steps seed)))
    pieces_are_one es fits busy steps seed h = pieces_from steps es fits busy (begun steps seed) (record { accepted = omega arith; returned = omega arith })
        (omega arith)
