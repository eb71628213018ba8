use Rattle.std.proofs.Common.{ℕ, sym, ap, ◌≡◌, ◌∙◌, arith}
use Rattle.dump.proofs.Trails.{print_loop}
use Rattle.dump_reader.proofs.Loops as loops
use Rattle.std.proofs.lemmas.Bool.{not_from_false, not_from_true}
use Rattle.dump_reader.proofs.read_starts.Goals as goal

pub returns-then-not-starts : goal.returns-then-not-starts
returns-then-not-starts c =
    let a = c.args in
    let l = c.loop-next in
    loops.starts_refused a.step a.text.now a.count l.at l.number a.start.time l.next l.values l.shown
    c.loop-next-test.true c.line_at-line.ensures c.starts.ensures (not_from_false _ c.if-not-starts.true)
    c.progress_refused.ensures ∙ sym
    (loops.starts_begun a.step a.text.now a.count a.start c.requires.3 c.requires.2 l.invariant.0)

pub loop-next-preserved : goal.loop-next-preserved
loop-next-preserved c =
    let a = c.args in
    let l = c.loop-next in (
      l.invariant.0 ∙ loops.starts_again a.step a.text.now a.count l.at l.number a.start.time l.next l.values
          l.shown c.loop-next-test.true c.line_at-line.ensures c.starts.ensures
          (not_from_true _ c.if-not-starts.false) c.put_value.ensures c.show_value.ensures c.past-at.ensures,
      omega arith,
    )

pub returns : goal.returns
returns c =
    let a = c.args in
    let l = c.loop-next in
    let last : l.next ≡ a.count = omega arith in
    sym
    (loops.starts_begun a.step a.text.now a.count a.start c.requires.3 c.requires.2
    (l.invariant.0 ∙ loops.starts_end a.step a.text.now a.count l.next _ c.loop-next-test.false
    ∙ ap (λ (n : ℕ). print_loop l.at l.number a.start.time n l.values l.shown) last))
