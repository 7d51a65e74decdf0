-- What a host is told.
use Rattle.std.specs.Prelude.{ℕ, true, false, not, Option, None, Some}
use Rattle.outside_hosted.specs.declared.hosted_outside.HostedOutside.{HostedOutside}
use Rattle.outside_hosted.specs.declared.load.HostLoad.{HostLoad}
use Rattle.outside_hosted.specs.declared.telling.Told.{Told}
use Rattle.outside_hosted.specs.declared.telling.ToldLoad.{ToldLoad}
use Rattle.outside_hosted.specs.Call.{open_call, order_left, without_order}

-- what is told of the load
abbrev pub told_load : Option HostLoad → Option ToldLoad
told_load None = None
told_load (Some load) = Some (record { id = load.id; is_new = not load.is_told })

-- the load when the host was told of it
abbrev pub known_load : Option HostLoad → Option HostLoad
known_load None = None
known_load (Some load) = Some (record { id = load.id; is_told = true; answer = load.answer })

-- what is told, with the next moment at which a sleep is over
abbrev pub told_of : Option ℕ → HostedOutside → Told
told_of wake old = record {
  call = open_call old.call;
  order = order_left old.call;
  load = told_load old.load;
  poisoned = old.poisoned;
  wake = wake;
}

-- the outside when the host was told
abbrev pub after_told : HostedOutside → HostedOutside
after_told old = record old {
  call = without_order old.call;
  load = known_load old.load;
  poisoned = None;
  is_parked = false;
}
