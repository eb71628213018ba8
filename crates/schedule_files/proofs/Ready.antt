-- A listing that is made has at most 16 steps: every other is refused with 17.
use Rattle.std.specs.Prelude.{Ok, Err}
use Prim.Native.Nat.{ℕ, ◌≤◌}
use mathlib.Core.Path.{◌≡◌, refl, sym, ◌∙◌}
use mathlib.Core.Bool.{Bool, true, false, cond, not, true≢false}
use mathlib.Core.List.{List}
use lib.ListN.{length}
use lib.Dec.{ltb}
use Rattle.construction.specs.declared.{card.Card.Card}
use Rattle.construction.specs.Opening.{opened}
use Rattle.construction.specs.Types.{Verdict}
use Rattle.executions.specs.Listings.{is_callable, is_listable}
use Rattle.executions.proofs.Statements.Listings.{listable_true}
use Rattle.calls.specs.Tables.{requests_in}
use Rattle.calls.specs.Texts.{Calls, calls_of as calls_in}
use Rattle.schedule_files.specs.Files.{Preparation, judged_calls, judged_card, preparation}

not_refused : (t : Bool) (x y : Preparation) → x.ready ≡ false → (cond t x y).ready ≡ true → y.ready ≡ true
not_refused true x y e h = absurd (true≢false (sym h ∙ e))
not_refused false x y e h = h

listed : (t : Bool) (x y : Preparation) → x.ready ≡ false → (cond (not t) x y).ready ≡ true → t ≡ true
listed true x y e h = refl
listed false x y e h = absurd (true≢false (sym h ∙ e))

calls_short : (c : Card) (r : Calls) (L : ℕ) → (judged_calls c r L).ready ≡ true → L ≤ 16
calls_short c (Ok words) L h =
    let listable = not_refused (not (is_callable c (requests_in words))) _ _ refl h in
    (listable_true c L (listed (is_listable c L) _ _ refl listable)).steps
calls_short c (Err wrong) L h = absurd (true≢false (sym h))

card_short_lem : (v : Verdict) (c : Card) (calls : List ℕ) (L : ℕ) → (judged_card v c calls L).ready ≡ true → L ≤ 16
card_short_lem (Ok _) c calls L h = calls_short c (calls_in calls c.process_count) L (not_refused (ltb 65536 (length calls)) _ _ refl h)
card_short_lem (Err e) c calls L h = absurd (true≢false (sym h))

pub ready_short : (card calls : List ℕ) (L : ℕ) → (preparation card calls L).ready ≡ true → L ≤ 16
unfolding preparation
ready_short card calls L h = card_short_lem (opened card).verdict (opened card).card calls L h
