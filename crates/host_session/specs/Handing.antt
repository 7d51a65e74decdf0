-- What a host does to the outside between two stretches of a run.
use Rattle.std.specs.Prelude.{ℕ, List, [], ◌∷◌}
use Rattle.outside_hosted.specs.declared.events.HostEvent.{HostEvent}
use Rattle.outside_hosted.specs.declared.hosted_outside.HostedOutside.{HostedOutside}
use Rattle.outside_hosted.specs.Handing.{handed}
use Rattle.outside_hosted.specs.Steps.{moved_to}

-- the outside with each of these, in order
abbrev pub all_handed : List HostEvent → HostedOutside → HostedOutside
all_handed [] old = old
all_handed (event ∷ events) old = all_handed events (handed event old)

-- the outside at this moment, if that is later, with these
abbrev pub fed : ℕ → List HostEvent → HostedOutside → HostedOutside
fed moment events old = all_handed events (moved_to moment old)
