-- The notes only grow at their front.
use Prim.Native.Nat.{ℕ}
use mathlib.Core.Path.{◌≡◌, refl, sym, subst}
use mathlib.Core.List.{List, [], ◌∷◌, ◌++◌}
use Rattle.construction.specs.Types.{Card}
use Rattle.construction.specs.History.{Entry, act, Response, Event, event_of, History, finishing, with_finish, with_finishes, with_response, with_entry}
use Rattle.construction.specs.History.{Observation, observe, observe_all}
use Rattle.construction.proofs.Observing.Histories.{Extends, extends_trans}

finished_order : (o : Card) (gate : ℕ) (is : List ℕ) (s : History) → Extends s.order (with_finishes o gate is s).order
unfolding with_finishes
finished_order o gate [] s = Extends.same
finished_order o gate (i ∷ is) s = extends_trans (Extends.more Extends.same) (finished_order o gate is (with_finish o gate i s))

finished_returns : (o : Card) (gate : ℕ) (is : List ℕ) (s : History) → (with_finishes o gate is s).returns ≡ s.returns
unfolding with_finishes
finished_returns o gate [] s = refl
finished_returns o gate (i ∷ is) s = finished_returns o gate is (with_finish o gate i s)

response_grows :
    (s : History) (i : ℕ) (v : Event) → ((with_response s i v).order ≡ s.order) × Extends s.returns (with_response s i v).returns
response_grows s i Event.taken = (refl, Extends.same)
response_grows s i (Event.returned r) = (refl, Extends.more Extends.same)
response_grows s i Event.none = (refl, Extends.same)

noted_grows : (o : Card) (s : History) (e : Entry) (v : Event) → ((with_entry o s e v).order ≡ s.order) × Extends s.returns (with_entry o s e v).returns
noted_grows o s (Entry.Call i k inputs) Event.taken = (refl, Extends.same)
noted_grows o s (Entry.Call i k inputs) (Event.returned r) = (refl, Extends.same)
noted_grows o s (Entry.Call i k inputs) Event.none = (refl, Extends.same)
noted_grows o s (Entry.Exit i) v = (refl, Extends.same)
noted_grows o s (Entry.Step i) v = response_grows s i v
noted_grows o s (Entry.Trace i) v = response_grows s i v
noted_grows o s (Entry.Read x) v = (refl, Extends.same)
noted_grows o s (Entry.Change k from t) Event.taken = (refl, Extends.same)
noted_grows o s (Entry.Change k from t) (Event.returned r) = (refl, Extends.same)
noted_grows o s (Entry.Change k from t) Event.none = (refl, Extends.same)

pub record Grown (s t : History) : Type 0 where
  pub order : Extends s.order t.order
  pub returns : Extends s.returns t.returns

observe_grows : (o : Card) (m : Observation) (e : Entry) → Grown m.history (observe o m e).history
unfolding observe
observe_grows o m e =
    let r = act m.card e in
    let n = with_finishes o m.card.gate.seq (finishing m.card r.card) m.history in
    let g = noted_grows o n e (event_of r.answer) in
    record {
      order = subst (Extends m.history.order) (sym g.0) (finished_order o m.card.gate.seq (finishing m.card r.card) m.history);
      returns =
          subst (λ (l : List Response). Extends l (with_entry o n e (event_of r.answer)).returns)
          (finished_returns o m.card.gate.seq (finishing m.card r.card) m.history) g.1;
    }

pub all_grow : (o : Card) (m : Observation) (es : List Entry) → Grown m.history (observe_all o m es).history
unfolding observe_all
all_grow o m [] = record { order = Extends.same; returns = Extends.same }
all_grow o m (e ∷ es) =
    let g = observe_grows o m e in
    let h = all_grow o (observe o m e) es in
    record { order = extends_trans g.order h.order; returns = extends_trans g.returns h.returns }

pub observe_append : (o : Card) (m : Observation) (es fs : List Entry) → observe_all o m (es ++ fs) ≡ observe_all o (observe_all o m es) fs
unfolding observe_all
observe_append o m [] fs = refl
observe_append o m (e ∷ es) fs = observe_append o (observe o m e) es fs
