-- The printed line, and what the files come to.
use Rattle.std.specs.Prelude.{Ok, Err}
use Prim.Native.Nat.{ℕ, ◌<◌, ◌≤◌}
use mathlib.Core.Path.{◌≡◌, refl, sym, subst, ap, ◌∙◌}
use mathlib.Core.Bool.{Bool, true, false}
use mathlib.Core.List.{List, [], ◌∷◌, ◌++◌}
use native.Mathlib.Omega.{arith}
use lib.ListN.{length}
use borrow.Author.Tests.{lt-ltb, le-ltb}
use Rattle.grammar.specs.Writing.{Put}
use Rattle.grammar.proofs.Puts.{Room, rest_all, rest_step, rest_last}
use Rattle.construction.specs.declared.{card.Card.Card, texts.Opened.Opened}
use Rattle.construction.specs.Answers.{bytes, refused_with, fields_text}
use Rattle.construction.specs.Opening.{opened}
use Rattle.construction.specs.History.{run}
use Rattle.construction.specs.Types.{Verdict}
use Rattle.construction.specs.declared.texts.RefusedAt.{RefusedAt}
use Rattle.commands.specs.Printing.{card_refusal, calls_refusal}
use Rattle.executions.specs.Schedules.{calls_of}
use Rattle.executions.specs.Listings.{is_callable, is_listable}
use Rattle.schedule_files.specs.declared.{Prepared.Prepared}
use Rattle.calls.specs.declared.WrongLine.{WrongLine}
use Rattle.calls.specs.Tables.{requests_in}
use Rattle.calls.specs.Texts.{Calls, calls_of as calls_in, line_refusal}
use Rattle.schedule_files.specs.Files.{refusal_line, Preparation, refused_by, judged_calls, judged_card, preparation, PreparedAs}

-- the printed line
module _ {b : List ℕ} {i j k : ℕ} {z₁ z₂ z₃ : List ℕ} where
  pub refusal_put : (n : ℕ) → Room b 0 → Put b 0 (bytes "schedules") i z₁ → Put z₁ i (fields_text (refused_with n)) j z₂ → Put z₂ j (10 ∷ []) k z₃ → Put b 0 (refusal_line n) k z₃
  unfolding refusal_line
  refusal_put n h p q r = rest_last (rest_step (rest_step (rest_all b 0 (bytes "schedules" ++ (fields_text (refused_with n) ++ (10 ∷ []))) h) p) q) r

-- what the files come to
module _ (card calls : List ℕ) (L : ℕ) {o : Opened} (opens : o ≡ opened card) where
  -- the preparation by what was opened
  by_opened : preparation card calls L ≡ judged_card o.verdict o.card calls L
  unfolding preparation
  by_opened = ap (λ (x : Opened). judged_card x.verdict x.card calls L) (sym opens)

  judged_as_lem : {b : List ℕ} {r : Prepared} {z : List ℕ} {p : Preparation} → judged_card o.verdict o.card calls L ≡ p → PreparedAs p b r z →
      PreparedAs (preparation card calls L) b r z
  judged_as_lem {b} {r} {z} {p} e = subst (λ (q : Preparation). PreparedAs q b r z) (sym (by_opened ∙ e))

  refused_with_lem : {t b : List ℕ} {n : ℕ} {z : List ℕ} {r : Prepared} → Put b 0 t n z → n ≤ 269 → r ≡ record { ready = false; card = o.card; length = n } →
      PreparedAs (refused_by t o.card) b r z
  refused_with_lem {t} {b} {n} {z} {r} p h e =
      subst (λ (q : Prepared). PreparedAs (refused_by t o.card) b q z) (sym e) (record { put = p; short = h; ready = refl; card = refl })

  pub card_refused :
      {refused : RefusedAt} → o.verdict ≡ Err refused → {b : List ℕ} {n : ℕ} {z : List ℕ} {r : Prepared} →
      Put b 0 (card_refusal (Err refused)) n z → n ≤ 269 → r ≡ record { ready = false; card = o.card; length = n } →
      PreparedAs (preparation card calls L) b r z
  card_refused v p h e = judged_as_lem (ap (λ (x : Verdict). judged_card x o.card calls L) v) (refused_with_lem p h e)

  module _ (v : o.verdict ≡ Ok tt) where
    accepted : judged_card o.verdict o.card calls L ≡ judged_card (Ok tt) o.card calls L
    accepted = ap (λ (x : Verdict). judged_card x o.card calls L) v

    pub calls_refused : 65536 < length calls → {b : List ℕ} {n : ℕ} {z : List ℕ} {r : Prepared} → Put b 0 calls_refusal n z → n ≤ 269 →
        r ≡ record { ready = false; card = o.card; length = n } → PreparedAs (preparation card calls L) b r z
    calls_refused h p s e = judged_as_lem (accepted ∙ rw (lt-ltb 65536 (length calls) h)) (refused_with_lem p s e)

    module _ (h : length calls ≤ 65536) {c : Calls} (g : c ≡ calls_in calls o.card.process_count) where
      within : judged_card o.verdict o.card calls L ≡ judged_calls o.card c L
      within = accepted ∙ rw (le-ltb 65536 (length calls) h) (ap (λ (x : Calls). judged_calls o.card x L) (sym g))

      pub line_refused : {wrong : WrongLine} → c ≡ Err wrong → {b : List ℕ} {n : ℕ} {z : List ℕ} {r : Prepared} → Put b 0 (line_refusal wrong.line) n z → n ≤ 269 →
          r ≡ record { ready = false; card = o.card; length = n } → PreparedAs (preparation card calls L) b r z
      line_refused l p s e = judged_as_lem (within ∙ rw l) (refused_with_lem p s e)

      module _ {words : List ℕ} (l : c ≡ Ok words) {a : Bool} (f : a ≡ is_callable o.card (requests_in words)) where
        pub six : a ≡ false → {b : List ℕ} {n : ℕ} {z : List ℕ} {r : Prepared} → Put b 0 (refusal_line 6) n z → n ≤ 269 →
            r ≡ record { ready = false; card = o.card; length = n } → PreparedAs (preparation card calls L) b r z
        six q p s e = judged_as_lem (within ∙ rw (l, sym f ∙ q)) (refused_with_lem p s e)

        module _ (q : a ≡ true) {d : Bool} (i : d ≡ is_listable o.card L) where
          pub seventeen : d ≡ false → {b : List ℕ} {n : ℕ} {z : List ℕ} {r : Prepared} → Put b 0 (refusal_line 17) n z → n ≤ 269 →
              r ≡ record { ready = false; card = o.card; length = n } → PreparedAs (preparation card calls L) b r z
          seventeen j p s e = judged_as_lem (within ∙ rw (l, sym f ∙ q, sym i ∙ j)) (refused_with_lem p s e)

          pub begins : d ≡ true → {b : List ℕ} {x : Card} → x ≡ (run o.card (calls_of o.card (requests_in words))).card →
              PreparedAs (preparation card calls L) b (record { ready = true; card = x; length = 0 }) b
          begins j e =
              judged_as_lem {p = record { text = []; ready = true; card = (run o.card (calls_of o.card (requests_in words))).card }}
              (within ∙ rw (l, sym f ∙ q, sym i ∙ j))
              (record { put = record { place = omega arith; bytes = refl }; short = omega arith; ready = refl; card = e })
