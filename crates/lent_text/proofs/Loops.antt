-- Starting values and programs put one after another, the verdict on a text and a block, and both together
use Rattle.std.specs.Prelude.{Ok, Err}
use Prim.Native.Nat.{ℕ, ◌+◌, ◌<◌}
use mathlib.Core.Path.{◌≡◌, refl, sym, ◌∙◌, ap}
use mathlib.Core.List.{List}
use native.Mathlib.Numerals.{add-one}
use lib.ListN.{length, get_or}
use Rattle.construction.specs.declared.{programs.Program.Program, texts.Contents.Contents, texts.RefusedAt.RefusedAt}
use Rattle.construction.specs.Instructions.{no_program}
use Rattle.construction.specs.Opening.{no_contents, read_card}
use Rattle.construction.specs.Types.{Verdict}
use Rattle.construction.proofs.Text.RoundTrip.{read_empty}
use Rattle.reader.specs.declared.Read.{Read}
use Rattle.reader.specs.Told.{contents_told}
use Rattle.construction.proofs.Text.Given.{given_ok, given_err}
use Rattle.opening.proofs.Laws.{inside}
use Rattle.lent_text.specs.Opened.{put_value, put_values, put_texts, put_programs, contents_block, opened_block, judged, Opens}

module _ (b xs : List ℕ) where
  pub values_start : b ≡ put_values 0 b xs
  unfolding put_values
  values_start = refl

  pub values_turn : (c z : List ℕ) (k x : ℕ) → c ≡ put_values k b xs → z ≡ put_value c k x → x ≡ get_or xs k 0 → z ≡ put_values (k + 1) b xs
  unfolding put_values
  values_turn c z k x e h q = h ∙ rw (add-one k, e, q)

  pub values_done : (c : List ℕ) (k : ℕ) → c ≡ put_values k b xs → k ≡ 64 → c ≡ put_values 64 b xs
  values_done c k e h = rw h at e

module _ (b : List ℕ) (xs : List Program) where
  pub programs_start : b ≡ put_programs 0 b xs
  unfolding put_programs
  programs_start = refl

  pub programs_turn :
      (c z : List ℕ) (k : ℕ) (d : Program) → c ≡ put_programs k b xs → z ≡ put_texts c k (get_or xs k d) → k < length xs → z ≡ put_programs (k + 1) b xs
  unfolding put_programs
  programs_turn c z k d e h p = h ∙ rw (add-one k, e, inside xs k d no_program p)

  pub programs_done : (c : List ℕ) (k : ℕ) → c ≡ put_programs k b xs → k ≡ 8 → c ≡ put_programs 8 b xs
  programs_done c k e h = rw h at e

-- ---- a text that is accepted, and one that is refused, which leaves the empty card
module _ (t b : List ℕ) where
  pub reads :
      (r : Verdict) (x : Read Contents) → Ok x ≡ contents_told (read_card t) → r ≡ judged (Ok tt) b →
      (x.value ≡ (read_card t).contents) × (r ≡ judged (read_card t).verdict b)
  reads r x e f =
      let h = given_ok (read_card t).verdict _ e in
      (ap (λ (y : Read Contents). y.value) h.1, f ∙ ap (λ (v : Verdict). judged v b) (sym h.0))

  pub refuses :
      {refused : RefusedAt} (x : Contents) → Err refused ≡ contents_told (read_card t) → x ≡ no_contents →
      (x ≡ (read_card t).contents) × (Err refused ≡ judged (read_card t).verdict b)
  refuses {refused} x e p =
      let h = given_err (read_card t).verdict _ e in
      let none : (read_card t).contents ≡ no_contents = read_empty t (λ a. let q : Err refused ≡ Ok tt = sym h ∙ a in cc) in
      (p ∙ sym none, ap (λ (v : Verdict). judged v b) (sym h))

  pub opens :
      (r : Verdict) (x : Contents) (z : List ℕ) → x ≡ (read_card t).contents → r ≡ judged (read_card t).verdict b → z ≡ contents_block b x → Opens t b r z
  unfolding opened_block
  opens r x z e f g = record { answer = f; words = g ∙ ap (contents_block b) e }
