-- The lines of a session one after the other, and the pieces that a buffer has room for.
use mathlib.Core.Path.{◌≡◌, refl, sym, ◌∙◌, ap}
use mathlib.Core.List.{List, [], ◌∷◌, ◌++◌, append_assoc}
use Prim.Native.Nat.{ℕ, ◌+◌, ◌-◌, ◌<◌, ◌≤◌}
use lib.ListN.{length, take}
use lib.Seq.{sets, length-take-le, length-sets}
use native.Mathlib.Omega.{arith}
use borrow.Author.Tests.{le-leb, lt-leb}
use Rattle.grammar.specs.Writing.{place_after, largest, Put}
use Rattle.grammar.proofs.Puts.{put_both, front_text}
use Rattle.shared_processor.specs.declared.stepping.Traced.{Traced}
use Rattle.machine_commands.specs.declared.Line.{Line}
use Rattle.machine_commands.specs.Requests.{request, requests}
use Rattle.machine_commands.specs.Printing.{line_text, longest}
use Rattle.machine_commands.proofs.RequestsLaws.{request_past, requests_end, requests_more}
use Rattle.machine_session.specs.declared.{State.State, Printed.Printed}
use Rattle.machine_session.specs.Answering.{executed, Executes}
use Rattle.machine_session.specs.Session.{Stage, stage, line_of, after_line, lines_of, lines_text, Gathered, gather, fitting, Prints}

-- ---- the loop that prints: s₀ and b₀ as it began, s and b as they stand, n bytes printed
pub record PrintLoop (t : List ℕ) (s₀ : Stage) (b₀ : List ℕ) (s : Stage) (n : ℕ) (b : List ℕ) : Type 0 where
  pub lines : List ℕ
  pub text : lines_text t s₀ ≡ lines ++ lines_text t s
  pub gathered : fitting t s₀ (length b₀) ≡ gather t (length b₀) (record { text = lines; stage = s }) (requests t s.state.at)
  pub put : Put b₀ 0 lines n b
  pub within : n ≤ length b₀
  pub small : length b₀ < largest
  pub later : s₀.state.at ≤ s.state.at
  pub onward : 0 < n → s₀.state.at < s.state.at

pub print_loop : (t : List ℕ) (s₀ : Stage) (b₀ : List ℕ) → length b₀ < largest → PrintLoop t s₀ b₀ s₀ 0 b₀
unfolding fitting
print_loop t s₀ b₀ small =
    record {
      lines = [];
      text = refl;
      gathered = refl;
      put = record { place = refl; bytes = refl };
      within = omega arith;
      small = small;
      later = omega arith;
      onward = λ l. omega arith;
    }

module _ {t : List ℕ} {s₀ : Stage} {b₀ : List ℕ} {s : Stage} {n : ℕ} {b : List ℕ} (g : PrintLoop t s₀ b₀ s n b) where
  count : n ≡ length g.lines
  count = let p = g.put.place in let w = g.within in let l = g.small in omega arith

  front : take n b ≡ g.lines
  front = let w = g.within in let l = g.small in front_text g.put (omega arith) w

  pub same : length b ≡ length b₀
  same = ap length g.put.bytes ∙ length-sets b₀ 0 g.lines

  -- a piece that ends here
  ends :
      fitting t s₀ (length b₀) ≡ record { text = g.lines; stage = s } → (longest ≤ length b₀ → s₀.state.at < length t → s₀.state.at < s.state.at) →
      Prints t s₀.state s₀.blocks s₀.loans b₀ (record { state = s.state; length = n }) s.blocks s.loans b
  ends f on =
      record {
        session = ap (λ (x : Gathered). x.stage) (sym f);
        size = count ∙ ap (λ (x : Gathered). length x.text) (sym f);
        bytes = g.put.bytes ∙ ap (λ (x : Gathered). sets b₀ 0 x.text) (sym f);
        text = rw front g.text;
        within = g.within;
        onward = on;
      }

  -- no request is left
  pub ended :
      length t ≤ s.state.at →
      Prints t s₀.state s₀.blocks s₀.loans b₀ (record { state = s.state; length = n }) s.blocks s.loans b
  unfolding gather
  ended h = ends (g.gathered ∙ rw (requests_end t s.state.at h)) (λ k l. omega arith)

  -- a turn; m, r and z are what the code computes
  module _ (h : s.state.at < length t) where
    -- the longest line has no room
    pub stopped :
        length b - n < longest →
        Prints t s₀.state s₀.blocks s₀.loans b₀ (record { state = s.state; length = n }) s.blocks s.loans b
    unfolding gather
    stopped full =
        let w = g.within in
        let e = same in
        let c = count in
        let over : length b₀ < length g.lines + longest = omega arith in
        ends (g.gathered ∙ rw (requests_more t s.state.at h, lt-leb _ _ over)) (λ k _. g.onward (omega arith))

    module _
        (room : longest ≤ length b - n) {m : Line} {r : Traced} {bs ls : List ℕ} {e : ℕ} {z : List ℕ} (em : m ≡ request t s.state.at)
        (x : Executes (executed t s.state.allowance s.blocks s.loans m.request) r bs ls)
        (p : Put b n (line_text s.state.line m.request r.report r.answer) e z × (e ≤ n + longest)) where
      more : requests t s.state.at ≡ m ∷ requests t m.next
      more = rw em (requests_more t s.state.at h)

      past : s.state.at < m.next
      past = rw em (request_past t s.state.at h)

      the_line : Put b n (line_of t s m) e z
      unfolding line_of
      the_line = rw (← x.told) p.0

      put_more : Put b₀ 0 (g.lines ++ line_of t s m) e z
      put_more = let w = g.within in let l = g.small in put_both (omega arith) g.put the_line

      pub less : length t - m.next < length t - s.state.at
      less = let l = past in omega arith

      after_is :
          {l : ℕ} → l ≡ place_after s.state.line m.lines →
          after_line t s m ≡ stage (record { allowance = r.allowance; at = m.next; line = l }) bs ls
      unfolding after_line
      after_is el = rw (← x.told, ← x.blocks, ← x.loans, ← el)

      pub again :
          {l : ℕ} → l ≡ place_after s.state.line m.lines →
          PrintLoop t s₀ b₀ (stage (record { allowance = r.allowance; at = m.next; line = l }) bs ls) e z
      unfolding lines_text lines_of gather
      again {l} el =
          let near = p.1 in
          let w = g.within in
          let sb = same in
          let lp = past in
          let k = g.later in
          let c = count in
          let fits : length g.lines + longest ≤ length b₀ = omega arith in
          let after : after_line t s m ≡ stage (record { allowance = r.allowance; at = m.next; line = l }) bs ls = after_is el in
          record {
            lines = g.lines ++ line_of t s m;
            text = g.text ∙ rw (append_assoc, more, ← after);
            gathered = g.gathered ∙ rw (more, le-leb _ _ fits, ← after);
            put = put_more;
            within = omega arith;
            small = g.small;
            later = omega arith;
            onward = λ _. omega arith;
          }

-- ---- what a caller needs of a buffer that was printed into: the printed bytes stand in it
module _ {t : List ℕ} {s : State} {bs ls b : List ℕ} {r : Printed} {bs' ls' z : List ℕ} (p : Prints t s bs ls b r bs' ls' z) where
  pub prints_count : r.length ≡ length (take r.length z)
  prints_count =
      let e : length z ≡ length b = ap length p.bytes ∙ length-sets b 0 (fitting t (stage s bs ls) (length b)).text in
      let h = p.within in
      sym (length-take-le r.length z (omega arith))
