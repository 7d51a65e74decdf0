-- A list, and the room for more.
use Rattle.std.specs.Prelude.{ℕ, ◌-◌, Option, None, Some, List, [], vec_len, vec_capacity}
use Rattle.std.specs.Global.{Vec}

-- what a list holds, and for how many more items it took memory in advance
pub record Reserved (T : Type 0) : Type 0 where
  pub items : List T
  -- how many more can be added without memory being taken
  pub room : ℕ

-- an empty list that took no memory in advance
abbrev pub nothing_reserved : {T : Type 0} → Reserved T
nothing_reserved = record { items = []; room = 0 }

-- the items of a vector and its free room: none of both until the vector is made
abbrev pub reserved_of : {T : Type 0} → Option (Vec T) → Reserved T
reserved_of None = nothing_reserved
reserved_of (Some v) = record { items = v.items; room = vec_capacity v - vec_len v }
