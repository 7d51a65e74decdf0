-- What came, one after another.
use Rattle.std.proofs.Common.{List, [], ◌∷◌, ◌++◌, ◌≡◌, refl}
use Rattle.outside_hosted.specs.declared.events.HostEvent.{HostEvent}
use Rattle.outside_hosted.specs.declared.hosted_outside.HostedOutside.{HostedOutside}
use Rattle.outside_hosted.specs.Handing.{handed}
use Rattle.host_session.specs.Handing.{all_handed}

-- one more behind those that came
pub handed_more : (events : List HostEvent) (event : HostEvent) (old : HostedOutside) → handed event (all_handed events old) ≡ all_handed (events ++ event ∷ []) old
handed_more [] event old = refl
handed_more (come ∷ events) event old = handed_more events event (handed come old)
