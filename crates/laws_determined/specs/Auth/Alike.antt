-- When two states of a client's identities are alike: nothing that is answered tells one from the other.
use Rattle.std.specs.Prelude.{◌≡◌, true, Option, None, Some, is_some}
use Rattle.client_auth.specs.declared.identities.CachedIdentities.{CachedIdentities}
use Rattle.client_auth.specs.declared.identities.Identities.{Identities}
use Rattle.identity_cell.specs.declared.identity_load.IdentityLoad.{IdentityLoad}

-- a load that is open has a sleep
abbrev pub IsTimed : Option IdentityLoad → Type 0
IsTimed None = Unit {0}
IsTimed (Some load) = is_some load.sleep ≡ true

-- a load into the cache that is open has a sleep
abbrev pub LoadIsTimed : Option CachedIdentities → Type 0
LoadIsTimed None = Unit {0}
LoadIsTimed (Some cached) = IsTimed cached.current

-- the same sources, cache and open load, which has a sleep
pub record IdentitiesAlike {R : Type 0} (one two : Identities R) : Type 0 where
  pub sources : one.sources.items ≡ two.sources.items
  pub cached : one.cached ≡ two.cached
  pub load : one.load ≡ two.load
  pub timed : LoadIsTimed one.cached

-- identities over an outside
pub record Choices (X R : Type 0) : Type 0 where
  pub outside : X
  pub identities : Identities R

-- one outside, and identities that are alike
pub record ChoicesAlike {X R : Type 0} (one two : Choices X R) : Type 0 where
  pub outside : one.outside ≡ two.outside
  pub identities : IdentitiesAlike one.identities two.identities
