use Rattle.std.proofs.Common.{◌≡◌, ◌∙◌, ap}
use Rattle.construction.specs.declared.{cells.Gate.Gate, cells.SwappedCell.SwappedCell}
use Rattle.construction.specs.Cells.{swap_gate}
use Rattle.construction.proofs.Equality.{gate_swap}
use Rattle.lent.proofs.swap_lent_gate.Goals as goal

pub returns : goal.returns
returns c =
    let e : c.swap-after.result ≡ swap_gate c.args.gate.now c.args.expected c.args.new
    = c.swap-after.ensures ∙ gate_swap c.args.gate.now c.args.expected c.args.new in
    (ap (λ (x : SwappedCell Gate). x.won) e, ap (λ (x : SwappedCell Gate). x.cell) e)
