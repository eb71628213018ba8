-- A program changed while the machine runs (document 02, order 11): what a taken change comes to, and which text every operation runs.
use Prim.Native.Nat.{ℕ, ◌≤◌, ◌<◌}
use mathlib.Core.Path.{◌≡◌, refl, sym, ap, subst, ◌∙◌}
use mathlib.Core.Logic.{◌≢◌}
use mathlib.Core.List.{List, [], ◌∷◌, ◌++◌}
use native.Mathlib.Omega.{arith}
use borrow.Author.Tests.{eq-eqb, ne_eqb, le-leb}
use Rattle.construction.specs.Types.{Card, Answer, Contents}
use Rattle.construction.specs.Parts.{contents_of}
use Rattle.construction.specs.Opening.{opened}
use Rattle.construction.specs.Changes.{change}
use Rattle.construction.specs.History.{Entry, Invocation, Finish, Replacement, text_at, Observation, opening, observe, observe_all, run}
use Rattle.construction.specs.Linearizability.{Numbered}
use Rattle.construction.specs.Texts.{RunsItsText, AllRun, RunsByNumber, Switches}
use Rattle.construction.proofs.Invariant.Changing.{text_before}
use Rattle.construction.proofs.Observing.Consistency.{entry_kept}
use Rattle.construction.proofs.Observing.Growth.{observe_append}
use Rattle.construction.proofs.Observing.Runs.{opened_consistent}
use Rattle.construction.proofs.Observing.Operations.{RunAs, ran}
use Rattle.construction.proofs.Observing.Texts.{told, Taken, taken_noted, last_noted, since_taken, since_all, unbrought}

-- what the bench runs after it was told of a change: from its number on the new text, before it and of other programs what it ran
module _ (x : Contents) (y : Replacement) (ys : List Replacement) where
  pub told_later : (number : ℕ) → y.from ≤ number → text_at x (y ∷ ys) y.program number ≡ y.text
  unfolding text_at
  told_later number h = rw (eq-eqb y.program y.program refl, le-leb y.from number h)

  pub told_earlier : (k number : ℕ) → number < y.from → text_at x (y ∷ ys) k number ≡ text_at x ys k number
  unfolding text_at
  told_earlier k number h = text_before (text_at x ys) y.program y.from y.text k number h

  pub told_other : (k number : ℕ) → y.program ≢ k → text_at x (y ∷ ys) k number ≡ text_at x ys k number
  unfolding text_at
  told_other k number ne = rw (ne_eqb y.program k ne)

-- over every text and every list of entries
pub runs_its_text : (t : List ℕ) (es : List Entry) → RunsItsText (opened t).card es
runs_its_text t es =
    let O = opened_consistent t es in
    record {
      last = last_noted t es;
      ahead = λ k number h. O.inv.texts.now k number h ∙ sym (O.changes k number);
      helping = λ i l e k.
          O.inv.texts.read i (subst (λ (x : Contents). i < x.process_count) (sym O.text) l) e k _ (omega arith) ∙ sym (O.changes k _);
    }

-- every finished operation ran the text of its gate number, told from the notes alone, and what the bench has is what these runs left
run_as : (o : Card) (ys : List Replacement) (xs : List Invocation) (fs : List Finish) → Numbered fs → RunAs o ys xs fs → AllRun o ys xs fs
run_as o ys xs [] n r = tt
run_as o ys xs (f ∷ fs) n r = (rw n.0 r.0, run_as o ys xs fs n.1 r.1)

pub runs_by_number : (t : List ℕ) (es : List Entry) → RunsByNumber (opened t).card es
runs_by_number t es =
    let R = ran t es in
    let s = (run (opened t).card es).history in
    record {
      operations = run_as (opened t).card s.changes s.operations s.order (opened_consistent t es).tracks.numbers R.yields;
      words = R.words;
    }

-- a taken change switches its program
pub switches :
    (t : List ℕ) (es₁ es₂ : List Entry) (k from : ℕ) (text : List ℕ) →
    (change (run (opened t).card es₁).card k from text).answer ≡ Answer.Taken → Switches (opened t).card es₁ es₂ k from text
unfolding observe_all
switches t es₁ es₂ k from text taken =
    record {
      later = λ number h q. rw whole
          (unbrought o k number n es₂ q ∙
          (ap (λ (ys : List Replacement). text_at (contents_of o) ys k number) T.noted ∙ told_later (contents_of o) (told o k from text)
          m.history.changes number h));
      earlier = below;
      helping = λ i l e h. (runs_its_text t (es₁ ++ (Entry.Change k from text ∷ es₂))).helping i l e k ∙ below _ h;
    }
  where
    o : Card
    o = (opened t).card

    m : Observation
    m = run o es₁

    n : Observation
    n = observe o m (Entry.Change k from text)

    T : Taken o m n k from text
    T = taken_noted o m k from text taken

    whole : run o (es₁ ++ (Entry.Change k from text ∷ es₂)) ≡ observe_all o n es₂
    whole = observe_append o (opening o) es₁ (Entry.Change k from text ∷ es₂)

    below : (number : ℕ) → number < from →
        text_at (contents_of o) (run o (es₁ ++ (Entry.Change k from text ∷ es₂))).history.changes k number ≡ text_at (contents_of o) m.history.changes k
        number
    below number h =
        rw whole
        ((since_all n es₂ (entry_kept o m (opened_consistent t es₁) (Entry.Change k from text)) (since_taken k from text (opened_consistent t es₁) T)).same
        number h)
