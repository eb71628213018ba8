-- Where a session starts, by what is opened and put into a buffer.
use Rattle.std.specs.Prelude.{Ok, Err}
use Prim.Native.Nat.{ℕ, suc, ◌<◌, ◌≤◌}
use mathlib.Core.List.{List, [], ◌∷◌}
use mathlib.Core.Path.{◌≡◌, refl, sym, ◌∙◌, ap}
use native.Mathlib.Omega.{arith}
use borrow.Author.Tests.{lt-ltb, le-ltb}
use lib.ListN.{length, take}
use lib.Seq.{length-take-le, length-sets}
use Rattle.grammar.specs.Writing.{Put}
use Rattle.construction.specs.declared.{answers.Refusal.Refusal}
use Rattle.construction.specs.Types.{Verdict}
use Rattle.construction.specs.declared.texts.RefusedAt.{RefusedAt}
use Rattle.commands.specs.Printing.{calls_refusal}
use Rattle.shared_processor.specs.Opening.{card_verdict, with_card}
use Rattle.machine_commands.specs.Printing.{longest, terms_refusal, card_refusal}
use Rattle.machine_terms.specs.declared.Terms.{Terms}
use Rattle.machine_terms.specs.Terms.{terms}
use Rattle.machine_session.specs.declared.{Printed.Printed, CardsOpened.CardsOpened}
use Rattle.machine_session.specs.Starting.{one_verdict, one_blocks, Cards, opened_cards, Beginning, opened_beginning, terms_beginning, beginning, Starts}

-- the card of one machine
module _ (count m : ℕ) (text bs : List ℕ) where
  pub no_card : count ≤ m → ((Ok tt) ≡ one_verdict count m text bs) × (bs ≡ one_blocks count m text bs)
  no_card h = (rw (le-ltb m count h), rw (le-ltb m count h))

  pub one_card :
      m < count → {v : Verdict} {z : List ℕ} → (v ≡ card_verdict text bs m) × (z ≡ with_card text bs m) →
      (v ≡ one_verdict count m text bs) × (z ≡ one_blocks count m text bs)
  one_card h x = (rw (lt-ltb m count h) x.0, rw (lt-ltb m count h) x.1)

-- the cards one after the other
module _ (count m : ℕ) (text : List ℕ) (texts : List (List ℕ)) (bs : List ℕ) {v : Verdict} {z : List ℕ}
    (o : (v ≡ one_verdict count m text bs) × (z ≡ one_blocks count m text bs)) where
  pub refused_card :
      {refused : RefusedAt} → v ≡ Err refused →
      opened_cards count m (text ∷ texts) bs ≡ record { opened = record { machine = m; verdict = v }; blocks = z }
  unfolding opened_cards
  refused_card e = rw (← o.0, ← o.1, e)

  pub next_card : v ≡ Ok tt → opened_cards count m (text ∷ texts) bs ≡ opened_cards count (suc m) texts z
  unfolding opened_cards
  next_card e = rw (← o.0, ← o.1, e)

pub no_more_cards :
    (count m : ℕ) (bs : List ℕ) {v : Verdict} → v ≡ Ok tt →
    opened_cards count m [] bs ≡ record { opened = record { machine = m; verdict = v }; blocks = bs }
unfolding opened_cards
no_more_cards count m bs e = rw e

pub told_cards :
    {x : Cards} {o : CardsOpened} {z : List ℕ} → x ≡ record { opened = o; blocks = z } → (o ≡ x.opened) × (z ≡ x.blocks)
told_cards e = (ap (λ (y : Cards). y.opened) (sym e), ap (λ (y : Cards). y.blocks) (sym e))

-- ---- the start of a session
module _ (text : List ℕ) (cards : List (List ℕ)) (calls bs : List ℕ) {w : Terms} (q : w ≡ terms text) where
  begins : beginning text cards calls bs ≡ terms_beginning cards calls w.allowance w.verdict bs
  unfolding beginning
  begins = rw (← q)

  starts_with :
      {x : Beginning} → beginning text cards calls bs ≡ x → {b : List ℕ} {r : Printed} {n : ℕ} {z : List ℕ} → Put b 0 x.text n z → n ≤ longest →
      r ≡ record { state = x.state; length = n } → Starts text cards calls bs b r x.blocks z
  starts_with e p short f =
      rw f (record {
        state = ap (λ (y : Beginning). y.state) (sym e);
        blocks = ap (λ (y : Beginning). y.blocks) (sym e);
        put = rw (ap (λ (y : Beginning). y.text) e) p;
        short = short;
      })

  pub terms_refused :
      {refused : RefusedAt} → w.verdict ≡ Err refused → {b : List ℕ} {r : Printed} {n : ℕ} {z : List ℕ} →
      Put b 0 (terms_refusal (Err refused)) n z × (n ≤ longest) →
      r ≡ record { state = record { allowance = w.allowance; at = length calls; line = 1 }; length = n } → Starts text cards calls bs b r bs z
  terms_refused e p f = starts_with (begins ∙ rw e) p.0 p.1 f

  module _ (v : w.verdict ≡ Ok tt) {o : CardsOpened} {bs' : List ℕ}
      (x : (o ≡ (opened_cards w.allowance.count 0 cards bs).opened) × (bs' ≡ (opened_cards w.allowance.count 0 cards bs).blocks)) where
    opens : beginning text cards calls bs ≡ opened_beginning calls w.allowance (record { opened = o; blocks = bs' })
    opens = begins ∙ rw (v, ← x.0, ← x.1)

    pub card_refused :
        {refused : RefusedAt} → o.verdict ≡ Err refused → {b : List ℕ} {r : Printed} {n : ℕ} {z : List ℕ} →
        Put b 0 (card_refusal o.machine (Err refused)) n z × (n ≤ longest) →
        r ≡ record { state = record { allowance = w.allowance; at = length calls; line = 1 }; length = n } → Starts text cards calls bs b r bs' z
    card_refused e p f = starts_with (opens ∙ rw e) p.0 p.1 f

    module _ (u : o.verdict ≡ Ok tt) where
      pub calls_refused :
          65536 < length calls → {b : List ℕ} {r : Printed} {n : ℕ} {z : List ℕ} → Put b 0 calls_refusal n z × (n ≤ 269) →
          r ≡ record { state = record { allowance = w.allowance; at = length calls; line = 1 }; length = n } → Starts text cards calls bs b r bs' z
      calls_refused h p f = let l = p.1 in starts_with (opens ∙ rw (u, lt-ltb 65536 (length calls) h)) p.0 (omega arith) f

      pub started :
          length calls ≤ 65536 → {b : List ℕ} {r : Printed} →
          r ≡ record { state = record { allowance = w.allowance; at = 0; line = 1 }; length = 0 } → Starts text cards calls bs b r bs' b
      started h f = starts_with {x = record { text = []; state = record { allowance = w.allowance; at = 0; line = 1 }; blocks = bs' }}
          (opens ∙ rw (u, le-ltb 65536 (length calls) h)) (record { place = refl; bytes = refl }) (omega arith) f

-- the printed bytes stand in the buffer
pub starts_count :
    {text : List ℕ} {cards : List (List ℕ)} {calls bs b : List ℕ} {r : Printed} {bs' z : List ℕ} → Starts text cards calls bs b r bs' z →
    longest ≤ length b → r.length ≡ length (take r.length z)
starts_count {text} {cards} {calls} {bs} {b} {r} {bs'} {z} p h =
    let e : length z ≡ length b = ap length p.put.bytes ∙ length-sets b 0 (beginning text cards calls bs).text in
    let l = p.short in
    sym (length-take-le r.length z (omega arith))
