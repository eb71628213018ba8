-- A change by the tests that judge it, and the card that code puts together
use Rattle.std.specs.Prelude.{Result, Ok, Err}
use Prim.Native.Nat.{ℕ, ◌%◌, ◌<◌, min}
use mathlib.Core.Bool.{Bool, true, false, cond, not, ◌||◌, true≢false}
use mathlib.Core.List.{List}
use mathlib.Core.Path.{◌≡◌, refl, sym, ap, ◌∙◌}
use native.Mathlib.Nat.{mod-eq_of_lt}
use lib.Dec.{ltb}
use lib.ListN.{length, get_or, set}
use Rattle.construction.specs.declared.{programs.Program.Program, card.Card.Card, answers.Answer.Answer, answers.Answered.Answered}
use Rattle.construction.specs.declared.answers.Refusal.TheVariants.{NoProgram, NotAhead, Unsettled}
use Rattle.construction.specs.Weight.{heaviest}
use Rattle.construction.specs.Instructions.{no_program}
use Rattle.construction.specs.Parts.{with_texts, contents_of, with_revision}
use Rattle.construction.specs.Requests.{is_program}
use Rattle.construction.specs.Answers.{is_refused}
use Rattle.construction.specs.Changes.{program_text, change_read, some_behind, is_unsettled, unchanged, if_read, change}
use Rattle.construction.specs.Types.{Verdict}
use Rattle.construction.specs.declared.texts.RefusedAt.{RefusedAt}
use Rattle.construction.specs.Readings.{ProgramReading, verdict_of}
use Rattle.reader.specs.declared.Read.{Read}
use Rattle.reader.specs.Told.{program_told}
use Rattle.construction.proofs.Text.Given.{given_ok, verdict_given}
use Rattle.opening.proofs.Laws.{inside}
use Rattle.requests.specs.Judging.{if_text_accepted, change_judged}
use Rattle.requests.proofs.Arrays.{in_room, judged_there}

-- the answer and the card by the tests: whether the program is there, the verdict on the text, whether the number is ahead of the gate's, and whether the
-- program is unsettled
abbrev answered : Bool → Verdict → Bool → Bool → Answer
answered a v b u =
    cond (not a) (Answer.RefusedAt NoProgram 0)
    (if_text_accepted v (cond (not b) (Answer.RefusedAt NotAhead 0) (cond u (Answer.RefusedAt Unsettled 0) Answer.Taken)))

module _ (c : Card) where
  abbrev by : Bool → Verdict → Bool → Bool → Answered → Answered
  by a v b u y =
      cond (not a) (unchanged c NoProgram 0) (if_read v c (cond (not b) (unchanged c NotAhead 0) (cond u (unchanged c Unsettled 0) y)))

  refuses :
      (a : Bool) (v : Verdict) (b u : Bool) (x : Answer) (y : Answered) → x ≡ answered a v b u → is_refused x ≡ true →
      record { card = c; answer = x } ≡ by a v b u y
  refuses false v b u x y e h = rw e
  refuses true (Err said) b u x y e h = rw e
  refuses true (Ok _) false u x y e h = rw e
  refuses true (Ok _) true true x y e h = rw e
  refuses true (Ok _) true false x y e h = absurd (true≢false (sym (rw e at h)))

  takes :
      (a : Bool) (v : Verdict) (b u : Bool) (x : Answer) → x ≡ answered a v b u → is_refused x ≡ false →
      (d after : Card) → (a ≡ true → d ≡ after) → record { card = d; answer = x } ≡ by a v b u (record { card = after; answer = Answer.Taken })
  takes false v b u x e h d after p = absurd (true≢false (rw e at h))
  takes true (Err said) b u x e h d after p = absurd (true≢false (rw e at h))
  takes true (Ok _) false u x e h d after p = absurd (true≢false (rw e at h))
  takes true (Ok _) true true x e h d after p = absurd (true≢false (rw e at h))
  takes true (Ok _) true false x e h d after p = rw (e, p refl)

-- code judges by the number of the last change that stands at place k mod 8, and by what it read, weighed and compared
module _
    (c : Card) (k from : ℕ) (t : List ℕ)
    (w : ℕ) (weighed : w ≡ min 32 (heaviest c.programs))
    (q : Result (Read Program) RefusedAt) (read : q ≡ program_told (program_text c.variable_count w t))
    (behind : Bool) (compared : behind ≡ some_behind c.controls c.gates_read c.process_count (get_or c.from (k % 8) 0) 8)
    (x : Answer) (judged : x ≡ change_judged k c.program_count (verdict_of q) c.gate.seq from (get_or c.from (k % 8) 0) behind)
  where
    abbrev r : ProgramReading
    r = program_text c.variable_count w t

    verdict : verdict_of q ≡ r.verdict
    verdict = ap verdict_of read ∙ verdict_given r.verdict _

    told : x ≡ answered (is_program c k) r.verdict (ltb c.gate.seq from) (is_unsettled c k)
    told =
        judged ∙ rw (verdict, compared) (judged_there c.from k c.program_count 8 0 (Answer.RefusedAt NoProgram 0)
        (λ (last : ℕ). if_text_accepted r.verdict (cond (not (ltb c.gate.seq from)) (Answer.RefusedAt NotAhead 0)
        (cond (ltb c.gate.seq last || some_behind c.controls c.gates_read c.process_count last 8) (Answer.RefusedAt Unsettled 0) Answer.Taken))))

    text_read : r ≡ change_read (contents_of c) t
    unfolding change_read
    text_read = rw weighed

    pub change_refused : is_refused x ≡ true → record { card = c; answer = x } ≡ change c k from t
    unfolding change
    change_refused h =
        rw (← text_read) (refuses c (is_program c k) r.verdict (ltb c.gate.seq from) (is_unsettled c k) x _ told h)

    pub change_taken :
        is_refused x ≡ false → {y : Read Program} → q ≡ Ok y → (d : Card) → (k < 8 → d ≡ with_revision c k from y.value) → record { card = d; answer = x } ≡ change c k from t
    unfolding change
    change_taken h {y} e d p =
        let same : y.value ≡ r.program = ap (λ (z : Read Program). z.value) (given_ok r.verdict _ (sym e ∙ read)).1 in
        rw (← text_read)
        (takes c (is_program c k) r.verdict (ltb c.gate.seq from) (is_unsettled c k) x told h d _
        (λ (there : is_program c k ≡ true). p (in_room k c.program_count 8 there) ∙ ap (with_revision c k from) same))

-- the card that code leaves
pub changed :
    (c : Card) → length c.later ≡ 8 → (k from : ℕ) (y d : Program) → k < 8 →
    with_texts c
    (record {
      from = set c.from (k % 8) from;
      earlier = set c.earlier (k % 8) (get_or c.later (k % 8) d);
      later = set c.later (k % 8) y;
    })
    ≡ with_revision c k from y
changed c full k from y d p = rw (mod-eq_of_lt p, inside c.later k d no_program (rw full p))
