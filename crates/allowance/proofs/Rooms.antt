-- The quotas that code holds fill their array
use mathlib.Core.List.{List}
use mathlib.Core.Path.{◌≡◌}
use lib.ListN.{length, length-map}
use mir.Val.{Val}
use denote.Laws.{Is}
use denote.Struct.Declared.{row}
use Rattle.allowance.specs.contracts.Allowance as allowance-type
use Rattle.allowance.specs.Types.{Allowance}

pub quotas_four : (a : Allowance) (vs : List Val) → Is (row allowance-type.the_type) a vs → length a.quotas ≡ 4
quotas_four a vs p = p.1.1.1.1.0.1.0.1
