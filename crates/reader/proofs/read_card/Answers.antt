use Rattle.std.proofs.Common.{lt-ltb, le-ltb, sym, ◌∙◌}
use Rattle.construction.proofs.Text.Lines.{card_read}
use Rattle.construction.specs.Opening.{read_card}
use Rattle.reader.proofs.read_card.Goals as goal

pub returns-then-text-gt16384 : goal.returns-then-text-gt16384
unfolding read_card
returns-then-text-gt16384 c = rw (lt-ltb _ _ c.if-text-gt16384.true)

pub returns-in_default : goal.returns-in_default
unfolding read_card
returns-in_default c = rw (c.refused.ensures, le-ltb _ _ c.if-text-gt16384.false, ← c.card_line-read.ensures, c.in_default.is)

pub read_body-requires : goal.read_body-requires
read_body-requires c =
    let v = c.in-Ok.line.value in
    let f =
    (card_read c.args.text.now 0 v.process_count v.variable_count v.program_count v.limit c.in-Ok.line.next
    (sym c.card_line-read.ensures ∙ c.in-Ok.is)).fits in
    (f.variable_count.1, f.program_count.1)

pub returns : goal.returns
unfolding read_card
returns c =
    rw (
      le-ltb _ _ c.if-text-gt16384.false,
      c.read_body.ensures,
      c.begun_contents-contents.ensures,
      ← c.card_line-read.ensures,
      c.in-Ok.is,
    )
