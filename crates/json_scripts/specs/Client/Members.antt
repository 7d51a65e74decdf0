-- Objects of so many members.
use Rattle.std.specs.Prelude.{ℕ, ◌==◌, Option, Some, None, if◌then◌else◌}
use Rattle.serde_json.specs.Data.{Data, Members}
use Rattle.serde_json.specs.Find.{as_object}
use Rattle.json_forms.specs.Forms.{member_count}
use Rattle.json_forms.specs.Reading.{◌>>=◌}

-- there are exactly n members
abbrev pub has_members : ℕ → Members → Option (Unit {0})
has_members n ms = if member_count ms == n then Some tt else None

-- an object with n members, so that none stands beside n that are read
unfoldable pub members_at : ℕ → Data → Option (Unit {0})
members_at n d = as_object d >>= has_members n
