-- What a host hands in.
use Rattle.outside_hosted.specs.declared.events.HostEvent.{HostEvent}
use Rattle.outside_hosted.specs.declared.events.HostEvent.TheVariants as event
use Rattle.outside_hosted.specs.declared.hosted_outside.HostedOutside.{HostedOutside}
use Rattle.outside_hosted.specs.Call.{with_call_frame, with_reply}
use Rattle.outside_hosted.specs.Load.{with_answer}

-- the outside with one thing more that came
abbrev pub handed : HostEvent → HostedOutside → HostedOutside
handed (event.Reply call come) old = record old { call = with_reply call come old.call }
handed (event.Frame call frame) old = record old { call = with_call_frame call frame old.call }
handed (event.Load id come) old = record old { load = with_answer id come old.load }
