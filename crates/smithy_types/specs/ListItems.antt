-- The items of a list that may not have its vector yet.
use Rattle.std.specs.Prelude.{Option, None, Some, List, []}
use Rattle.std.specs.Global.{Vec}

-- the items of a list: none until the first one makes the vector
abbrev pub items_of : {T : Type 0} → Option (Vec T) → List T
items_of None = []
items_of (Some v) = v.items
