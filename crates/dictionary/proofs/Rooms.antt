-- The items of a dictionary that code holds fill their array.
use Prim.Native.Nat.{min}
use mathlib.Core.List.{List}
use mathlib.Core.Path.{◌≡◌}
use lib.ListN.{length, length-map, length-take}
use mir.Val.{Val}
use denote.Laws.{Is}
use denote.Struct.Declared.{row}
use Rattle.construction.specs.contracts.simulations.Dictionary as dictionary-type
use Rattle.construction.specs.declared.simulations.Dictionary.{Dictionary}
use Rattle.construction.specs.Dictionary.{noted}

pub items : (d : Dictionary) (vs : List Val) → Is (row dictionary-type.the_type) d vs → length d.items ≡ 32
items d vs p = let fields = p.1.1 in let array = fields.1.0 in array.1.0.1

-- how many items are noted
pub count : (d : Dictionary) (vs : List Val) → Is (row dictionary-type.the_type) d vs → min d.length 32 ≡ length (noted d)
count d vs p = rw (length-take d.length d.items, items d vs p)
