-- Which event JSON spells.
use Rattle.std.specs.Prelude.{◌^◌, List, Option, Some, None, codes, if◌then◌else◌}
use Rattle.serde_json.specs.Data.{Data}
use Rattle.serde_json.specs.Find.{as_array, as_str}
use Rattle.json_forms.specs.Forms.{blob_at, starts}
use Rattle.json_forms.specs.Lists.{list_of}
use Rattle.json_forms.specs.Plain.{number_at, number_below, pair_at, quadruple_at, triple_at}
use Rattle.json_forms.specs.Reading.{◌>>=◌}
use Rattle.json_values.specs.Readings.{connector_at, fault_at, headers_at, identity_at}
use Rattle.outside_hosted.specs.declared.events.HostEvent.{HostEvent}
use Rattle.outside_hosted.specs.declared.events.HostEvent.TheVariants as event
use Rattle.outside_hosted.specs.declared.events.HostFrame.TheVariants as frame
use Rattle.outside_hosted.specs.declared.events.HostIdentity.TheVariants as identity
use Rattle.outside_hosted.specs.declared.events.HostReply.TheVariants as reply

-- the call, the status and the headers of a response
unfoldable pub response_event_at : Data → Option HostEvent
response_event_at d = quadruple_at d >>= λ p. number_at p.1 >>= λ c. number_below (2 ^ 16) p.2 >>= λ s.
    headers_at p.3 >>= λ h. Some (event.Reply c (reply.Response s h))

-- the call of a request that failed, of which kind that is, and a text
unfoldable pub failed_at : Data → Option HostEvent
failed_at d = quadruple_at d >>= λ p. number_at p.1 >>= λ c. connector_at p.2 >>= λ k. as_str p.3 >>= λ t.
    Some (event.Reply c (reply.NoResponse k t))

-- the call, and a piece of its response's body
unfoldable pub data_at : Data → Option HostEvent
data_at d = triple_at d >>= λ p. number_at p.1 >>= λ c. blob_at p.2 >>= λ b. Some (event.Frame c (frame.Data b))

-- the call whose response's body has trailers
unfoldable pub trailers_at : Data → Option HostEvent
trailers_at d = pair_at d >>= λ p. number_at p.1 >>= λ c. Some (event.Frame c frame.Trailers)

-- the call whose response's body is at its end
unfoldable pub end_at : Data → Option HostEvent
end_at d = pair_at d >>= λ p. number_at p.1 >>= λ c. Some (event.Frame c frame.End)

-- the call whose response's body broke off, and how
unfoldable pub broken_at : Data → Option HostEvent
broken_at d = triple_at d >>= λ p. number_at p.1 >>= λ c. fault_at p.2 >>= λ f. Some (event.Frame c (frame.Broken f))

-- the scheme and its identity
unfoldable pub identity_event_at : Data → Option HostEvent
identity_event_at d = triple_at d >>= λ p. as_str p.1 >>= λ s. identity_at p.2 >>= λ i.
    Some (event.Load s (identity.Loaded i))

-- the scheme without an identity, and why
unfoldable pub no_identity_at : Data → Option HostEvent
no_identity_at d = triple_at d >>= λ p. as_str p.1 >>= λ s. as_str p.2 >>= λ t.
    Some (event.Load s (identity.NotLoaded t))

-- what came of a load
unfoldable pub load_event_at : Data → Option HostEvent
load_event_at d = if starts (codes "identity") d then identity_event_at d
    else (if starts (codes "no_identity") d then no_identity_at d else None)

-- what came of a body, or of a load
unfoldable pub call_event_at : Data → Option HostEvent
call_event_at d = if starts (codes "data") d then data_at d
    else (if starts (codes "end") d then end_at d
    else (if starts (codes "trailers") d then trailers_at d
    else (if starts (codes "broken") d then broken_at d else load_event_at d)))

-- what came of a request, of a body, or of a load
unfoldable pub event_at : Data → Option HostEvent
event_at d = if starts (codes "response") d then response_event_at d
    else (if starts (codes "failed") d then failed_at d else call_event_at d)

-- some events, in order
unfoldable pub events_at : Data → Option (List HostEvent)
events_at d = as_array d >>= list_of event_at
