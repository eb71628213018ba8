-- THE THEOREM OF ORDER 10: block and loan go through every list of entries as the card by value does, if the loan is handed back unaltered at each step.
use Prim.Native.Nat.{ℕ, suc, ◌≤◌, min}
use mathlib.Core.Path.{◌≡◌, refl, sym, ◌∙◌, ap}
use mathlib.Core.Bool.{Bool, true, false, cond, not, ◌&&◌, true≢false}
use mathlib.Core.List.{List, [], ◌∷◌}
use native.Mathlib.Omega.{arith}
use native.Mathlib.Nat.{max-le}
use lib.ListN.{length, get_or}
use Rattle.construction.specs.declared.{cells.Announcement.Announcement, answers.Answer.Answer, card.Card.Card, texts.Contents.Contents}
use Rattle.construction.specs.declared.{programs.Program.Program, simulations.Dictionary.Dictionary}
use Rattle.construction.specs.Weight.{weight, heaviest, card_weight}
use Rattle.construction.specs.Instructions.{no_program}
use Rattle.construction.specs.Dictionary.{empty}
use Rattle.construction.specs.Parts.{contents_of, local_at}
use Rattle.construction.specs.Opening.{fresh, read_card, opened}
use Rattle.construction.specs.Cells.{is_done}
use Rattle.construction.specs.History.{Entry, act, Event, event_of, History, turned, finishing, with_finishes, with_entry, Observation, opening, observe}
use Rattle.construction.specs.History.{observe_all, run}
use Rattle.construction.proofs.Basics.{get_or_replicate_same}
use Rattle.construction.proofs.Text.Bounds.{opened_bounded}
use Rattle.construction.proofs.Observing.Runs.{opened_consistent}
use Rattle.construction.proofs.Statements.Limits.{limits}
use Rattle.block.specs.Cards.{dictionary_at}
use Rattle.block.proofs.Gets.{dictionary_is}
use Rattle.lent_text.specs.Opened.{opened_block}
use Rattle.lent_text.proofs.Theorems.{opened_card, opened_room, opened_length}
use Rattle.lent_runs.specs.Runs.{Handed, Memory, reply_in, reply_of, memory_after, remember, is_eleven, is_short, history_after, history_of, entries_of}
use Rattle.lent_runs.specs.Runs.{replies_in, replies_of, HandedBack, AllFit, opened_memory, memory_of, entries_by_value, AsByValue}
use Rattle.lent_runs.proofs.Entries.{Roomy, Stands, Passed, passes}

-- a card of a run has room where H21 reads one record more (the theorem of limits): its text weighs at most 32
heaviest_most : (l : List Program) → ((k : ℕ) → weight (get_or l k no_program) ≤ 32) → heaviest l ≤ 32
unfolding heaviest
heaviest_most [] h = omega arith
heaviest_most (x ∷ l) h = max-le (h 0) (heaviest_most l (λ k. h (suc k)))

pub roomy : (t : List ℕ) (es : List Entry) → Roomy (run (opened t).card es).card
unfolding opened fresh
roomy t es i p at =
    let c = (run (opened t).card es).card in
    let L = limits t es in
    let n = L.noting i p at in
    let w = L.texts (local_at c i).announcement.program (local_at c i).gate.seq in
    let same = ap (λ (x : Contents). card_weight x) (opened_consistent t es).text in
    let most = heaviest_most (read_card t).contents.programs (opened_bounded t).weights in
    omega arith

-- at opening
opened_stands : (t b l : List ℕ) → 1456 ≤ length b → Stands (opened_memory t b l) (opened t).card
unfolding opened fresh dictionary_at
opened_stands t b l long =
    let card = opened_card t b long l in
    record {
      long = let e = opened_length t b long in omega arith;
      card = card;
      room = opened_room t b long ∙ sym (ap (λ (c : Card). min 32 (card_weight (contents_of c))) card);
      none = λ i p.
          ap (λ (d : Dictionary). d.length) (dictionary_is (opened_block t b) l i)
          ∙ (ap (λ (c : Card). (local_at c i).dictionary.length) card ∙ ap (λ (d : Dictionary). d.length) (get_or_replicate_same 8 i empty));
    }

-- a step that is refused with 11 leaves nothing to note
none_turned : (l : List Announcement) (k : ℕ) → turned k l l ≡ []
unfolding turned
none_turned [] k = refl
none_turned (a ∷ l) k = still (is_done a.flag) (none_turned l (suc k))
  where
    still : (d : Bool) {xs : List ℕ} → xs ≡ [] → cond (not d && d) (k ∷ xs) xs ≡ []
    still true e = e
    still false e = e

eleven_none : (x : Answer) → is_eleven x ≡ true → event_of x ≡ Event.none
eleven_none (Answer.Refused r) e = refl
eleven_none Answer.Taken e = absurd (true≢false (sym e))
eleven_none Answer.Run e = refl
eleven_none (Answer.Done number y steps) e = absurd (true≢false (sym e))
eleven_none (Answer.Exited steps) e = absurd (true≢false (sym e))
eleven_none (Answer.Value x) e = refl
eleven_none (Answer.RefusedAt r line) e = refl

entry_none : (o : Card) (s : History) (e : Entry) → with_entry o s e Event.none ≡ s
entry_none o s (Entry.Call i k inputs) = refl
entry_none o s (Entry.Exit i) = refl
entry_none o s (Entry.Step i) = refl
entry_none o s (Entry.Trace i) = refl
entry_none o s (Entry.Read v) = refl
entry_none o s (Entry.Change k from t) = refl

-- what a list of entries leaves, from any memory and observation on
record Follows (o : Card) (a : Observation) (m : Memory) (xs : List Handed) : Type 0 where
  stands : Stands (remember m xs) (observe_all o a (entries_of m xs)).card
  history : history_of o m a.history xs ≡ (observe_all o a (entries_of m xs)).history
  replies : replies_in m xs ≡ replies_of a.card (entries_of m xs)

module _ (o : Card) (a : Observation) (m : Memory) (x : Handed) (s : Stands m a.card) where
  history_skipped : is_short m x ≡ true → Stands (memory_after m x) a.card → history_after o m a.history x ≡ a.history
  unfolding with_finishes
  history_skipped short z =
      let e = eleven_none (reply_in m.block x.loan x.entry).answer short in
      let p = s.card in
      let q = z.card in
      let n = none_turned a.card.announcements 0 in
      (λ j. with_entry o (with_finishes o (p j).gate.seq (finishing (p j) (q j)) a.history) x.entry (e j))
      ∙ ((λ j. with_entry o (with_finishes o a.card.gate.seq (n j) a.history) x.entry Event.none) ∙ entry_none o a.history x.entry)

  history_went :
      reply_in m.block x.loan x.entry ≡ reply_of a.card x.entry → Stands (memory_after m x) (act a.card x.entry).card →
      history_after o m a.history x ≡ (observe o a x.entry).history
  unfolding observe
  history_went reply z =
      let p = s.card in
      let q = z.card in
      λ j. with_entry o (with_finishes o (p j).gate.seq (finishing (p j) (q j)) a.history) x.entry (event_of (reply j).answer)

module _ (o : Card) where
  follows :
      (a : Observation) (m : Memory) → ((es : List Entry) → Roomy (observe_all o a es).card) → Stands m a.card → (xs : List Handed) →
      AllFit xs → HandedBack m xs → Follows o a m xs
  unfolding observe_all remember entries_of replies_in replies_of HandedBack AllFit history_of observe
  follows a m rooms s [] f h = record { stands = s; history = refl; replies = refl }
  follows a m rooms s (x ∷ xs) f h =
      by (λ d r z. follows d (memory_after m x) r z xs f.1 h.1) (passes m a.card s (rooms []) x f.0 h.0)
    where
      by :
          ((d : Observation) → ((es : List Entry) → Roomy (observe_all o d es).card) → Stands (memory_after m x) d.card → Follows o d (memory_after m x) xs) →
          Passed a.card m x → Follows o a m (x ∷ xs)
      by rest (Passed.skipped short z) =
          let r = rest a rooms z in
          let n = history_skipped o a m x s short z in
          record {
            stands = rw short r.stands;
            history = ap (λ (y : History). history_of o (memory_after m x) y xs) n ∙ rw short r.history;
            replies = rw short r.replies;
          }
      by rest (Passed.went goes reply z) =
          let r = rest (observe o a x.entry) (λ es. rooms (x.entry ∷ es)) z in
          let e = r.replies in
          let n = history_went o a m x s reply z in
          record {
            stands = rw goes r.stands;
            history = ap (λ (y : History). history_of o (memory_after m x) y xs) n ∙ rw goes r.history;
            replies = rw goes (λ j. reply j ∷ e j);
          }

module _ (t b l : List ℕ) (long : 1456 ≤ length b) (xs : List Handed) (fits : AllFit xs) (handed : HandedBack (opened_memory t b l) xs) where
  whole : Follows (opened t).card (opening (opened t).card) (opened_memory t b l) xs
  whole =
      let o = (opened t).card in
      follows o (opening o) (opened_memory t b l) (roomy t) (opened_stands t b l long) xs fits handed

  pub as_by_value : AsByValue t b l xs
  as_by_value =
      let card = whole.stands.card in
      let history = whole.history in
      record { observed = λ j. record { card = card j; history = history j }; replies = whole.replies }

  pub stands_after : Stands (memory_of t b l xs) (run (opened t).card (entries_by_value t b l xs)).card
  stands_after = whole.stands
