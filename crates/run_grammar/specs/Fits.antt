-- Which answers fit which kind of question: what the component that it asks may give back (the traits of
-- aws-smithy-runtime-api: `Intercept`, `SerializeRequest`, `DeserializeResponse`, `ResolveIdentity`,
-- `ResolveEndpoint`, `Sign`, `HttpConnector`, `RetryStrategy`, `AsyncSleep`). NoMemory fits none.
use Rattle.std.specs.Prelude.{Bool, true, false}
use Rattle.run_grammar.specs.declared.kind.Kind.{Kind}
use Rattle.run_grammar.specs.declared.kind.Kind.TheVariants as kinds
use Rattle.run_grammar.specs.declared.answer.Answer.{Answer}
use Rattle.run_grammar.specs.declared.answer.Answer.TheVariants as answers

-- a configuration gives a layer, fails or is absent
abbrev pub fits_configure : Answer → Bool
fits_configure (answers.Layer l) = true
fits_configure (answers.Failed t) = true
fits_configure answers.Absent = true
fits_configure _ = false

-- a hook gives its change, its settings and its failure together
abbrev pub fits_hook : Answer → Bool
fits_hook (answers.Hooked a) = true
fits_hook _ = false

-- a serializer, the application of an endpoint or a signer gives a request, fails or is absent
abbrev pub fits_request : Answer → Bool
fits_request (answers.Request r) = true
fits_request (answers.Failed t) = true
fits_request answers.Absent = true
fits_request _ = false

-- the load of a body gives its bytes, fails, is absent, or isn't over
abbrev pub fits_load : Answer → Bool
fits_load answers.Pending = true
fits_load (answers.Loaded b) = true
fits_load (answers.Failed t) = true
fits_load answers.Absent = true
fits_load _ = false

-- a strategy lets an attempt go or doesn't, delays it, fails or is absent
abbrev pub fits_initial : Answer → Bool
fits_initial answers.Go = true
fits_initial answers.No = true
fits_initial (answers.Delay n) = true
fits_initial (answers.Failed t) = true
fits_initial answers.Absent = true
fits_initial _ = false

-- a sleep is started or absent
abbrev pub fits_start : Answer → Bool
fits_start answers.Started = true
fits_start answers.Absent = true
fits_start _ = false

-- a sleep is over or isn't
abbrev pub fits_wait : Answer → Bool
fits_wait answers.Pending = true
fits_wait answers.Ready = true
fits_wait _ = false

-- a choice gives a scheme with its identity, fails, is absent, or isn't made yet
abbrev pub fits_choose : Answer → Bool
fits_choose answers.Pending = true
fits_choose (answers.Chosen c) = true
fits_choose (answers.Failed t) = true
fits_choose answers.Absent = true
fits_choose _ = false

-- a resolver gives an endpoint, fails, is absent, or isn't done
abbrev pub fits_endpoint : Answer → Bool
fits_endpoint answers.Pending = true
fits_endpoint (answers.Endpoint e) = true
fits_endpoint (answers.Failed t) = true
fits_endpoint answers.Absent = true
fits_endpoint _ = false

-- a connector gives a response, fails in its own way, is absent, or isn't done
abbrev pub fits_transmit : Answer → Bool
fits_transmit answers.Pending = true
fits_transmit (answers.Response r) = true
fits_transmit (answers.ConnectorFailed k t) = true
fits_transmit answers.Absent = true
fits_transmit _ = false

-- a deserializer gives an outcome of the unread response, needs its body, or is absent
abbrev pub fits_stream : Answer → Bool
fits_stream answers.NotStreaming = true
fits_stream (answers.Outcome o) = true
fits_stream answers.Absent = true
fits_stream _ = false

-- the read of a body gives its bytes, fails, is absent, or isn't over
abbrev pub fits_body : Answer → Bool
fits_body answers.Pending = true
fits_body (answers.Read b) = true
fits_body (answers.Failed t) = true
fits_body answers.Absent = true
fits_body _ = false

-- a deserializer gives an outcome of the read response, or is absent
abbrev pub fits_deserialize : Answer → Bool
fits_deserialize (answers.Outcome o) = true
fits_deserialize answers.Absent = true
fits_deserialize _ = false

-- a strategy decides on a further attempt, fails or is absent
abbrev pub fits_decide : Answer → Bool
fits_decide (answers.Decided c n) = true
fits_decide (answers.Failed t) = true
fits_decide answers.Absent = true
fits_decide _ = false

-- what is given up has one answer
abbrev pub fits_abandon : Answer → Bool
fits_abandon answers.Abandoned = true
fits_abandon _ = false

-- a park has one answer
abbrev pub fits_park : Answer → Bool
fits_park answers.Parked = true
fits_park _ = false

-- whether the answer is one that a question of this kind may have
unfoldable pub fits : Kind → Answer → Bool
fits (kinds.Configure c) answer = fits_configure answer
fits (kinds.Hook h) answer = fits_hook answer
fits kinds.Serialize answer = fits_request answer
fits kinds.Load answer = fits_load answer
fits kinds.Initial answer = fits_initial answer
fits (kinds.Start r) answer = fits_start answer
fits (kinds.Wait r) answer = fits_wait answer
fits kinds.Choose answer = fits_choose answer
fits kinds.Endpoint answer = fits_endpoint answer
fits kinds.Apply answer = fits_request answer
fits kinds.Sign answer = fits_request answer
fits kinds.Transmit answer = fits_transmit answer
fits kinds.Stream answer = fits_stream answer
fits kinds.Body answer = fits_body answer
fits kinds.Deserialize answer = fits_deserialize answer
fits kinds.Decide answer = fits_decide answer
fits (kinds.Abandon a) answer = fits_abandon answer
fits kinds.Park answer = fits_park answer

-- the kinds behind Transmit
abbrev pub is_late : Kind → Bool
is_late kinds.Stream = true
is_late kinds.Body = true
is_late kinds.Deserialize = true
is_late kinds.Decide = true
is_late (kinds.Abandon a) = true
is_late kinds.Park = true
is_late _ = false
