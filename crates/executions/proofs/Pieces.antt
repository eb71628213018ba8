-- The text of a listing in pieces, numbered by the digits of the first steps.
use Prim.Native.Nat.{ℕ, zero, suc, ◌+◌, ◌*◌, ◌/◌, ◌%◌, ◌^◌, ◌<◌, ◌≤◌}
use mathlib.Core.Path.{◌≡◌, refl, sym, ap, ◌∙◌}
use mathlib.Core.Bool.{Bool, true, false}
use mathlib.Core.List.{List, [], ◌++◌, append_assoc, append-nil}
use native.Mathlib.Omega.{arith}
use native.Mathlib.Nat.{zero-add, suc-add, add-zero, zero-mul, suc-mul, add_comm, pow-zero, pow-succ', one-le-pow, mul-add-div_right, mul-add-mod_self_right}
use native.Mathlib.Nat.{div-eq_of_lt, mod-eq_of_lt}
use borrow.Author.Tests.{ne_eqb}
use Rattle.grammar.specs.Writing.{decimal}
use Rattle.construction.specs.declared.{card.Card.Card}
use Rattle.construction.specs.Answers.{is_refused}
use Rattle.construction.specs.Requests.{step}
use Rattle.executions.specs.Schedules.{is_quiet}
use Rattle.executions.specs.Listings.{answer_text, branch_text, branches_text, text_after, piece_after, together}
use Rattle.executions.proofs.Branches.{step_processes}

-- texts one after the other
together_none : (f : ℕ → List ℕ) (m k : ℕ) → ((j : ℕ) → k ≤ j → f j ≡ []) → together f m k ≡ []
unfolding together
together_none f zero k h = refl
together_none f (suc m) k h = rw (h k (omega arith)) (together_none f m (suc k) (λ j le. h j (omega arith)))

together_same : (f g : ℕ → List ℕ) (m a b : ℕ) → ((r : ℕ) → r < m → f (a + r) ≡ g (b + r)) → together f m a ≡ together g m b
unfolding together
together_same f g zero a b h = refl
together_same f g (suc m) a b h =
    let first : f a ≡ g b = ap f (sym (add-zero a)) ∙ h 0 (omega arith) ∙ ap g (add-zero b) in
    let rest : together f m (suc a) ≡ together g m (suc b) = together_same f g m (suc a) (suc b)
    (λ r lt. let e : suc a + r ≡ a + suc r = omega arith in let d : b + suc r ≡ suc b + r = omega arith in ap f e ∙ h (suc r) (omega arith) ∙ ap g d) in
    rw (first, rest)

together_append : (f : ℕ → List ℕ) (a b k : ℕ) → together f (a + b) k ≡ together f a k ++ together f b (k + a)
unfolding together
together_append f zero b k = rw (zero-add b, add-zero k)
together_append f (suc a) b k =
    let e : suc k + a ≡ k + suc a = omega arith in
    rw (suc-add a b, together_append f a b (suc k), e) (sym (append_assoc (f k) (together f a (suc k)) (together f b (k + suc a))))

together_first : (f : ℕ → List ℕ) (m : ℕ) → 0 < m → ((j : ℕ) → 0 < j → f j ≡ []) → together f m 0 ≡ f 0
unfolding together
together_first f zero lt h = absurd (omega arith)
together_first f (suc m) lt h = rw (together_none f m 1 (λ j le. h j (omega arith))) (append-nil (f 0))

-- one step more: the pieces that each process begins
module _ (m n : ℕ) (c : Card) (x y : List ℕ) (some : 0 < c.process_count)
    (known : (d : Card) (z w : List ℕ) → d.process_count ≡ c.process_count →
    together (λ j. piece_after m n j d z w) (c.process_count ^ m) 0 ≡ text_after (m + n) d z w)
  where
    abbrev block : ℕ
    block = c.process_count ^ m

    full : 0 < block
    full = omega (arith, one-le-pow m c.process_count some)

    abbrev begun : ℕ → ℕ → List ℕ
    begun k r = branch_text k (step c k) x y (λ d z w. piece_after m n r d z w)

    begun_all : (k : ℕ) (b : Bool) → is_refused (step c k).answer ≡ b →
        together (λ r. begun k r) block 0 ≡ branch_text k (step c k) x y (λ d z w. text_after (m + n) d z w)
    begun_all k true e = together_none (λ r. begun k r) block 0 (λ j _. rw e) ∙ sym (rw e)
    begun_all k false e =
        together_same (λ r. begun k r) (λ r. piece_after m n r (step c k).card (x ++ decimal k) (y ++ answer_text (step c k).answer)) block 0 0 (λ r _. rw e)
        ∙ known (step c k).card (x ++ decimal k) (y ++ answer_text (step c k).answer) (step_processes c k)
        ∙ sym (rw e)

    module _ (quiet : is_quiet c c.process_count ≡ false) where
      piece_is : (j : ℕ) → piece_after (suc m) n j c x y ≡ begun (j / block) (j % block)
      unfolding piece_after
      piece_is j = rw quiet

      block_is : (k : ℕ) → together (λ j. piece_after (suc m) n j c x y) block (k * block) ≡ branch_text k (step c k) x y (λ d z w. text_after (m + n) d z w)
      block_is k =
          together_same (λ j. piece_after (suc m) n j c x y) (λ r. begun k r) block (k * block) 0
          (λ r lt. let e : (k * block + r) / block ≡ k = mul-add-div_right full k r ∙ ap (λ (q : ℕ). k + q) (div-eq_of_lt lt) ∙ add-zero k in
          let d : (k * block + r) % block ≡ 0 + r = mul-add-mod_self_right k block r ∙ mod-eq_of_lt lt ∙ sym (zero-add r) in
          piece_is (k * block + r) ∙ ap (λ (i : ℕ). begun i ((k * block + r) % block)) e ∙ ap (λ (i : ℕ). begun k i) d)
          ∙ begun_all k (is_refused (step c k).answer) refl

      blocks : (q k : ℕ) → together (λ j. piece_after (suc m) n j c x y) (q * block) (k * block) ≡ branches_text c x y (λ d z w. text_after (m + n) d z w) q k
      unfolding together branches_text
      blocks zero k = rw (zero-mul block)
      blocks (suc q) k =
          ap (λ (i : ℕ). together (λ j. piece_after (suc m) n j c x y) i (k * block)) (suc-mul q block ∙ add_comm (q * block) block)
          ∙ together_append (λ j. piece_after (suc m) n j c x y) block (q * block) (k * block)
          ∙ rw (block_is k, sym (suc-mul k block), blocks q (suc k))

      pub busy_pieces : together (λ j. piece_after (suc m) n j c x y) (c.process_count ^ suc m) 0 ≡ text_after (suc (m + n)) c x y
      unfolding text_after
      busy_pieces =
          ap (λ (i : ℕ). together (λ j. piece_after (suc m) n j c x y) i 0) (pow-succ' c.process_count m)
          ∙ ap (λ (i : ℕ). together (λ j. piece_after (suc m) n j c x y) (c.process_count * block) i) (sym (zero-mul block))
          ∙ blocks c.process_count 0
          ∙ sym (rw quiet)

    pub quiet_pieces : is_quiet c c.process_count ≡ true → together (λ j. piece_after (suc m) n j c x y) (c.process_count ^ suc m) 0 ≡ text_after (suc (m + n)) c x
        y
    unfolding text_after piece_after
    quiet_pieces quiet =
        together_first (λ j. piece_after (suc m) n j c x y) (c.process_count ^ suc m) (omega (arith, one-le-pow (suc m) c.process_count some))
        (λ j lt. rw (quiet, ne_eqb j 0 (λ z. omega arith)))
        ∙ rw quiet

pub pieces_after : (m n : ℕ) (c : Card) (x y : List ℕ) → (0 < m → 0 < c.process_count) →
    together (λ j. piece_after m n j c x y) (c.process_count ^ m) 0 ≡ text_after (m + n) c x y
unfolding together piece_after
pieces_after zero n c x y some = rw (pow-zero c.process_count, zero-add n) (append-nil (text_after n c x y))
pieces_after (suc m) n c x y some =
    rw (suc-add m n)
    (by (is_quiet c c.process_count) refl
    (λ d z w e. ap (λ (p : ℕ). together (λ j. piece_after m n j d z w) (p ^ m) 0) (sym e) ∙ pieces_after m n d z w (λ _. omega (arith, e, some (omega arith)))))
  where
    by : (b : Bool) → is_quiet c c.process_count ≡ b →
        ((d : Card) (z w : List ℕ) → d.process_count ≡ c.process_count →
        together (λ j. piece_after m n j d z w) (c.process_count ^ m) 0 ≡ text_after (m + n) d z w)
        →
        together (λ j. piece_after (suc m) n j c x y) (c.process_count ^ suc m) 0 ≡ text_after (suc (m + n)) c x y
    by true e known = quiet_pieces m n c x y (some (omega arith)) known e
    by false e known = busy_pieces m n c x y (some (omega arith)) known e
