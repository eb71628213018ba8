-- The requests on a block by what code takes out of it: a number that does not fit a byte is that of no part, and a request that is taken has small ones.
use Rattle.std.specs.Prelude.{Result, Ok}
use Prim.Native.Nat.{ℕ, min, ◌<◌, ◌≤◌}
use mathlib.Core.Path.{◌≡◌, refl, sym, ◌∙◌, ap}
use mathlib.Core.Bool.{Bool, true, false, cond, not, ◌&&◌, true≢false}
use mathlib.Core.List.{List}
use native.Mathlib.Omega.{arith}
use lib.Dec.{leb, ltb}
use lib.ListN.{length}
use borrow.Author.Tests.{ltb-true, ltb-false, lt-ltb, le-ltb}
use Rattle.construction.specs.declared.{programs.Program.Program, answers.Refusal.Refusal, answers.Answer.Answer, texts.RefusedAt.RefusedAt}
use Rattle.construction.specs.declared.answers.Refusal.TheVariants.{NoProcess, NoProgram, Busy, NotBusy, NoPlace}
use Rattle.construction.specs.Machine.{holder_of}
use Rattle.construction.specs.Requests.{is_idle, shown}
use Rattle.construction.specs.Answers.{is_refused}
use Rattle.construction.specs.Changes.{program_text, is_behind}
use Rattle.construction.specs.Types.{Verdict}
use Rattle.construction.specs.Readings.{ProgramReading, verdict_of}
use Rattle.reader.specs.declared.Read.{Read}
use Rattle.reader.specs.Told.{program_told}
use Rattle.construction.proofs.Text.Given.{given_ok, verdict_given}
use Rattle.requests.specs.Judging.{judged, call_judged, exit_judged, change_judged}
use Rattle.requests.proofs.Arrays.{in_room}
use Rattle.codes.specs.Types.{Words, Gate, Announcement, Record, Control}
use Rattle.codes.specs.Parts.{word_at}
use Rattle.block.specs.Layout.{is_room, row_at, number_at, process_count_in, variable_count_in, program_count_in, room_in, gate_in, announcement_in, record_in, control_in}
use Rattle.block.specs.Layout.{last_gate_in, put_exit, from_in}
use Rattle.lent_card.specs.Requests.{call_answer, put_call, call_block, exit_answer, exit_block, value_in, read_answer, behind_in, change_text, change_answer}
use Rattle.lent_card.specs.Requests.{put_change, change_block}

-- past the last part there is none
none {ℓ} : {A : Type ℓ} (t : Bool) (x y : A) → cond (t && false) x y ≡ y
none true x y = refl
none false x y = refl

row_past : {A : Type 0} (b : List ℕ) (base size n : ℕ) (decode : List ℕ → A) (d : A) (i : ℕ) → n ≤ i → row_at b base size n decode d i ≡ d
unfolding row_at is_room
row_past b base size n decode d i h = rw (le-ltb i n h) (none (leb 1456 (length b)) _ d)

number_past : (b : List ℕ) (base n i : ℕ) → n ≤ i → number_at b base n i ≡ 0
unfolding number_at is_room
number_past b base n i h = rw (le-ltb i n h) (none (leb 1456 (length b)) (word_at b _) 0)

-- so a number as a byte tells the same part
small : (n i : ℕ) → n ≤ 255 → i < n → min i 255 ≡ i
small n i h p = omega arith

same_part : {A : Type 0} (f : ℕ → A) (d : A) (n : ℕ) → n ≤ 255 → ((i : ℕ) → n ≤ i → f i ≡ d) → (i : ℕ) → f (min i 255) ≡ f i
same_part f d n h past i = go (ltb i n) refl
  where
    go : (t : Bool) → ltb i n ≡ t → f (min i 255) ≡ f i
    go true e = ap f (small n i h (ltb-true i n e))
    go false e = let p = ltb-false i n e in past (min i 255) (omega arith) ∙ sym (past i p)

module _ (b : List ℕ) where
  pub control_narrow : (i : ℕ) → control_in b (min i 255) ≡ control_in b i
  control_narrow = same_part (λ i. control_in b i) _ 8 (omega arith) (λ i h. row_past b 336 2 8 _ _ i h)

  record_narrow : (v : ℕ) → record_in b (min v 255) ≡ record_in b v
  record_narrow = same_part (λ v. record_in b v) _ 64 (omega arith) (λ v h. row_past b 80 4 64 _ _ v h)

  from_narrow : (k : ℕ) → from_in b (min k 255) ≡ from_in b k
  from_narrow = same_part (λ k. from_in b k) 0 8 (omega arith) (λ k h. number_past b 920 8 k h)

  -- what code judges
  pub call_judged_lem :
      (i k : ℕ) {n : ℕ} {t : Control} {p s : ℕ} {x : Answer} → n ≡ min i 255 → t ≡ control_in b n → p ≡ process_count_in b → s ≡ program_count_in b →
      x ≡ call_judged i p k s t.place → x ≡ call_answer b i k
  unfolding call_answer
  call_judged_lem i k pn pt pp ps px =
      let control = pt ∙ (ap (λ (z : ℕ). control_in b z) pn ∙ control_narrow i) in px ∙ λ j. call_judged i (pp j) k (ps j) (control j).place

  pub exit_judged_lem :
      (i : ℕ) {n : ℕ} {t : Control} {p : ℕ} {x : Answer} → n ≡ min i 255 → t ≡ control_in b n → p ≡ process_count_in b →
      x ≡ exit_judged i p t.place → x ≡ exit_answer b i
  unfolding exit_answer
  exit_judged_lem i pn pt pp px =
      let control = pt ∙ (ap (λ (z : ℕ). control_in b z) pn ∙ control_narrow i) in px ∙ λ j. exit_judged i (pp j) (control j).place

  pub change_judged_lem :
      (k from : ℕ) (v : Verdict) {n s last : ℕ} {g : Gate} {u : Bool} {x : Answer} → g ≡ gate_in b → n ≡ min k 255 → last ≡ from_in b n → s ≡ program_count_in b →
      u ≡ behind_in b last 8 → x ≡ change_judged k s v g.seq from last u →
      x ≡ change_judged k (program_count_in b) v (gate_in b).seq from (from_in b k) (behind_in b (from_in b k) 8)
  change_judged_lem k from v pg pn pl ps pu px =
      let last = pl ∙ (ap (λ (z : ℕ). from_in b z) pn ∙ from_narrow k) in
      let behind = pu ∙ ap (λ (z : ℕ). behind_in b z 8) last in
      px ∙ λ j. change_judged k (ps j) v (pg j).seq from (last j) (behind j)

  -- whether the operation of a process is behind a gate number
  module _ (i number : ℕ) {p : ℕ} (pp : p ≡ process_count_in b) where
    pub behind_none : p ≤ i → ltb i p ≡ ltb i (process_count_in b) && is_behind (control_in b i).place (last_gate_in b i) number
    behind_none h = rw (← pp, le-ltb i p h)

    pub behind_there :
        i < p → {t : Control} {g : Gate} {x : Bool} → t ≡ control_in b i → g ≡ last_gate_in b i → x ≡ is_behind t.place g number →
        x ≡ ltb i (process_count_in b) && is_behind (control_in b i).place (last_gate_in b i) number
    behind_there h pt pg px = rw (← pp, lt-ltb i p h) (px ∙ λ j. is_behind (pt j).place (pg j) number)

  -- what a read shows
  pub value_shown :
      (v : ℕ) {m : ℕ} {g : Gate} {a : Announcement} {r : Record} {x : ℕ} → g ≡ gate_in b → m ≡ holder_of g.holder → a ≡ announcement_in b m → r ≡ record_in b v →
      x ≡ shown g a r → x ≡ value_in b v
  value_shown v pg pm pa pr px =
      let holder = pm ∙ ap (λ (z : Gate). holder_of z.holder) pg in
      let a = pa ∙ ap (λ (z : ℕ). announcement_in b z) holder in
      px ∙ λ j. shown (pg j) (a j) (pr j)

  module _ (v : ℕ) {n : ℕ} {t : Bool} (pn : n ≡ variable_count_in b) (pt : t ≡ ltb v n && ltb v 64) where
    tested : t ≡ ltb v (variable_count_in b) && ltb v 64
    tested = pt ∙ ap (λ (z : ℕ). ltb v z && ltb v 64) pn

    pub read_refused : not t ≡ true → Answer.Refused NoPlace ≡ read_answer b v
    unfolding read_answer
    read_refused h = rw (← tested, h)

    pub read_shown : not t ≡ false → {m x : ℕ} → m ≡ min v 255 → x ≡ value_in b m → Answer.Value x ≡ read_answer b v
    unfolding read_answer
    read_shown h pm px =
        let cell = ap (λ (z : ℕ). record_in b z) pm ∙ record_narrow v in
        let shows = px ∙ λ j. shown (gate_in b) (announcement_in b (holder_of (gate_in b).holder)) (cell j) in
        rw (← tested, h, shows)

-- a request that is taken passed its tests
passed : (a b d : Bool) (r s t : Refusal) → is_refused (judged a r b s d t) ≡ false → (a ≡ true) × (b ≡ true)
passed true true true r s t h = (refl, refl)
passed true true false r s t h = absurd (true≢false h)
passed true false d r s t h = absurd (true≢false h)
passed false b d r s t h = absurd (true≢false h)

first_passed : (a : Bool) (r : Refusal) (x : Answer) → is_refused (cond (not a) (Answer.RefusedAt r 0) x) ≡ false → a ≡ true
first_passed true r x h = refl
first_passed false r x h = absurd (true≢false h)

module _ (b : List ℕ) (i : ℕ) {x : Answer} where
  module _ (k : ℕ) (inputs : Words) (px : x ≡ call_answer b i k) where
    pub call_refused : is_refused x ≡ true → b ≡ call_block b i k inputs
    unfolding call_block
    call_refused h = rw (← px, h)

    pub call_taken : is_refused x ≡ false → {m n : ℕ} {e : List ℕ} → m ≡ min i 255 → n ≡ min k 255 → e ≡ put_call b m n inputs → e ≡ call_block b i k inputs
    unfolding call_answer call_block
    call_taken h pm pn pe =
        let p = passed (ltb i (process_count_in b) && ltb i 8) (ltb k (program_count_in b) && ltb k 8) (is_idle (control_in b i).place) NoProcess NoProgram Busy
        (sym (ap is_refused px) ∙ h) in
        let process = pm ∙ small 8 i (omega arith) (in_room i (process_count_in b) 8 p.0) in
        let program = pn ∙ small 8 k (omega arith) (in_room k (program_count_in b) 8 p.1) in
        rw (← px, h) (pe ∙ λ j. put_call b (process j) (program j) inputs)

  module _ (px : x ≡ exit_answer b i) where
    pub exit_refused : is_refused x ≡ true → b ≡ exit_block b i
    unfolding exit_block
    exit_refused h = rw (← px, h)

    pub exit_taken : is_refused x ≡ false → {m : ℕ} {e : List ℕ} → m ≡ min i 255 → e ≡ put_exit b m true → e ≡ exit_block b i
    unfolding exit_answer exit_block
    exit_taken h pm pe =
        let p = passed (ltb i (process_count_in b) && ltb i 8) (not (is_idle (control_in b i).place)) true NoProcess NotBusy NotBusy
        (sym (ap is_refused px) ∙ h) in
        let process = pm ∙ small 8 i (omega arith) (in_room i (process_count_in b) 8 p.0) in
        rw (← px, h) (pe ∙ λ j. put_exit b (process j) true)

-- a change: what was read of its text, and the answer by that
module _
    (b : List ℕ) (k from : ℕ) (t : List ℕ) {n w : ℕ} {q : Result (Read Program) RefusedAt} {x : Answer}
    (pn : n ≡ variable_count_in b) (pw : w ≡ room_in b) (pq : q ≡ program_told (program_text n w t))
    (px : x ≡ change_judged k (program_count_in b) (verdict_of q) (gate_in b).seq from (from_in b k) (behind_in b (from_in b k) 8))
  where
    text : program_text n w t ≡ change_text b t
    text = λ j. program_text (pn j) (pw j) t

    verdict : verdict_of q ≡ (program_text n w t).verdict
    verdict = ap verdict_of pq ∙ verdict_given (program_text n w t).verdict _

    pub change_told : x ≡ change_answer b k from t
    unfolding change_answer
    change_told =
        px ∙ ap (λ (v : Verdict). change_judged k (program_count_in b) v (gate_in b).seq from (from_in b k) (behind_in b (from_in b k) 8)) verdict
        ∙ ap (λ (z : ProgramReading). change_judged k (program_count_in b) z.verdict (gate_in b).seq from (from_in b k) (behind_in b (from_in b k) 8)) text

    pub change_refused : is_refused x ≡ true → b ≡ change_block b k from t
    unfolding change_block
    change_refused h = rw (← change_told, h)

    pub change_taken :
        is_refused x ≡ false → {y : Read Program} → q ≡ Ok y → {m : ℕ} {e : List ℕ} → m ≡ min k 255 → e ≡ put_change b m from y.value → e ≡ change_block b k from t
    unfolding change_block
    change_taken h {y} py {m} pm pe =
        let same : y.value ≡ (program_text n w t).program = ap (λ (z : Read Program). z.value) (given_ok (program_text n w t).verdict _ (sym py ∙ pq)).1 in
        let p = first_passed (ltb k (program_count_in b) && ltb k 8) NoProgram _ (sym (ap is_refused px) ∙ h) in
        let program = pm ∙ small 8 k (omega arith) (in_room k (program_count_in b) 8 p) in
        rw (← change_told, h) (pe ∙ ap (put_change b m from) same ∙ λ j. put_change b (program j) from (text j).program)
