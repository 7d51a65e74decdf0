-- The members of an object that is being made.
use Rattle.std.specs.Prelude.{Bool, true}
use Rattle.serde_json.specs.Data.{Members}
use Rattle.serde_json.specs.View.{members_view}
use Rattle.json_payloads.specs.declared.objects.Object.{Object}

-- the members that were put into the object so far
abbrev pub members_in : Object → Members
members_in o = members_view o.members.entries

-- that all values which stand in it fit
unfoldable pub fits_of : Object → Bool
fits_of o = true
