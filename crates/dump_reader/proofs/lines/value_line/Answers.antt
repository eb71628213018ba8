use Rattle.std.proofs.Common.{sym, ◌∙◌}
use Rattle.dump.proofs.Binaries.{bits_at-within}
use Rattle.dump_reader.proofs.lines.value_line.Goals as goal

pub has_code-requires : goal.has_code-requires
has_code-requires c =
    let a = c.args in
    (bits_at-within a.text.now a.at _ _ (sym c.bits_at.ensures ∙ c.in-Some.is)).1
