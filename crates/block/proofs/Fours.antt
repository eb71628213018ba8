-- A part whose words are partly four numbers from a place within it on: these are taken out and put by that place, the part by its own
use Prim.Native.Nat.{ℕ, ◌+◌}
use mathlib.Core.Path.{◌≡◌, ◌∙◌, ap}
use mathlib.Core.List.{List, [], ◌∷◌}
use native.Mathlib.Omega.{arith}
use lib.ListN.{set}
use Rattle.codes.specs.Types.{Words, Announcement, Operation, Simulation}
use Rattle.codes.specs.Parts.{word_at, stores}
use Rattle.codes.specs.Codes.{half, bit, flag_word, halves, put_halves, announcement_words, operation_words, simulation_words}

module _ (b : List ℕ) (at k : ℕ) where
  one : at + k + 1 ≡ at + (k + 1)
  one = omega arith

  two : at + k + 2 ≡ at + (k + 2)
  two = omega arith

  three : at + k + 3 ≡ at + (k + 3)
  three = omega arith

  pub halves_in :
      {x : Words} → x ≡ halves b (at + k) →
      x ≡ record
      { w0 = half (word_at b (at + k)); w1 = half (word_at b (at + (k + 1))); w2 = half (word_at b (at + (k + 2))); w3 = half (word_at b (at + (k + 3))) }
  halves_in e =
      e ∙ (λ j. record { w0 = half (word_at b (at + k)); w1 = half (word_at b (one j)); w2 = half (word_at b (two j)); w3 = half (word_at b (three j)) })

  put_in :
      (x : Words) →
      put_halves b (at + k) x ≡ set (set (set (set b (at + k) x.w0) (at + (k + 1)) x.w1) (at + (k + 2)) x.w2) (at + (k + 3)) x.w3
  put_in x = λ j. set (set (set (set b (at + k) x.w0) (one j) x.w1) (two j) x.w2) (three j) x.w3

module _ (b : List ℕ) (at : ℕ) {c : List ℕ} where
  pub operation_put : (o : Operation) → c ≡ put_halves (set b at o.program) (at + 1) o.inputs → c ≡ stores b at (operation_words o)
  operation_put o e = e ∙ put_in (set b at o.program) at 1 o.inputs

  pub announcement_put :
      (a : Announcement) {flag fault : ℕ} → flag ≡ flag_word a.flag →
      c ≡ put_halves (set (set (set (set b at a.program) (at + 1) flag) (at + 2) a.seq) (at + 3) a.number) (at + 4) a.words →
      fault ≡ bit a.fault → set c (at + 8) fault ≡ stores b at (announcement_words a)
  announcement_put a {flag} {fault} f e g =
      let head = set (set (set (set b at a.program) (at + 1) flag) (at + 2) a.seq) (at + 3) a.number in
      let put = e ∙ put_in head at 4 a.words in
      (λ j. set (put j) (at + 8) (g j)) ∙ rw f

  pub simulation_put :
      (s : Simulation) {d : List ℕ} {fault : ℕ} → d ≡ put_halves (set b at s.counter) (at + 1) s.registers →
      c ≡ put_halves d (at + 5) s.yields.outputs →
      fault ≡ bit s.yields.fault → set c (at + 9) fault ≡ stores b at (simulation_words s)
  simulation_put s {d} e f g =
      let first = e ∙ put_in (set b at s.counter) at 1 s.registers in
      let put = f ∙ ap (λ (l : List ℕ). put_halves l (at + 5) s.yields.outputs) first
      ∙ put_in (stores b at (s.counter ∷ s.registers.w0 ∷ s.registers.w1 ∷ s.registers.w2 ∷ s.registers.w3 ∷ [])) at 5 s.yields.outputs in
      λ j. set (put j) (at + 9) (g j)
