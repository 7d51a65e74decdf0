-- What the callers of a script name by its place is there.
use Rattle.std.specs.Prelude.{◌<◌, All, length}
use Rattle.json_scripts.specs.Client.Placed.{HasBucket, HasClient}
use Rattle.json_scripts.specs.declared.fleet.terms.CallerRecord.{CallerRecord}
use Rattle.json_scripts.specs.declared.fleet.terms.FleetScript.{FleetScript}

-- a caller's client has the one bucket or none, and the client of each invocation is that client
pub record HasPlaces (c : CallerRecord) : Type 0 where
  pub bucket : HasBucket 1 c.client
  pub clients : All (HasClient 1) c.invocations

-- there is a caller, and each has what it names
pub record IsPlaced (s : FleetScript) : Type 0 where
  pub some : 0 < length s.callers
  pub callers : All HasPlaces s.callers
