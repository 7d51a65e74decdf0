-- Which fleet scripts are within the limits.
use Rattle.std.specs.Prelude.{ℕ, Bool, ◌&&◌, length, nat_le, sum_by}
use Rattle.std.specs.List.{list_all}
use Rattle.json_scripts.specs.Client.Limits.{capacity_fits, client_fits, invocation_fits, fuel_of}
use Rattle.json_scripts.specs.declared.fleet.terms.CallerRecord.{CallerRecord}
use Rattle.json_scripts.specs.declared.fleet.terms.FleetScript.{FleetScript}

-- each text and each head of a caller
unfoldable pub caller_fits : CallerRecord → Bool
caller_fits c = client_fits c.client && list_all invocation_fits c.invocations

-- how many invocations a caller has
abbrev pub caller_runs : CallerRecord → ℕ
caller_runs c = length c.invocations

-- the fuel of these together
abbrev pub caller_fuel : CallerRecord → ℕ
caller_fuel c = sum_by fuel_of c.invocations

-- a capacity up to 500000000, texts and heads within their limits, at most 16 callers,
-- and of all callers together at most 10000 invocations and 100000 of fuel
unfoldable pub fleet_script_fits : FleetScript → Bool
fleet_script_fits s = capacity_fits s.bucket && (list_all caller_fits s.callers && (nat_le (length s.callers) 16
    && (nat_le (sum_by caller_runs s.callers) 10000 && nat_le (sum_by caller_fuel s.callers) 100000)))
