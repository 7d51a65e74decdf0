-- Which values are within the limits of a script.
use Rattle.std.specs.Prelude.{ℕ, List, [], ◌∷◌, ◌++◌, Bool, true, ◌&&◌, length, map, fold, nat_le, if◌then◌else◌}
use Rattle.std.specs.List.{list_all, list_any}
use Rattle.smithy_context.specs.Setting.{same_key}
use Rattle.smithy_types.specs.declared.fault.Outcome.{Outcome}
use Rattle.smithy_types.specs.declared.fault.Outcome.TheVariants as outcomes
use Rattle.smithy_types.specs.declared.http.Body.{Body}
use Rattle.smithy_types.specs.declared.http.Body.TheVariants as bodies
use Rattle.smithy_types.specs.declared.http.HttpRequest.{HttpRequest}
use Rattle.smithy_types.specs.declared.http.HttpResponse.{HttpResponse}
use Rattle.smithy_types.specs.declared.identity.Endpoint.{Endpoint}
use Rattle.smithy_types.specs.declared.identity.EndpointHeader.{EndpointHeader}
use Rattle.smithy_context.specs.declared.intercept.Change.{Change}
use Rattle.smithy_context.specs.declared.intercept.Change.TheVariants as changes
use Rattle.smithy_context.specs.declared.intercept.HookAnswer.{HookAnswer}
use Rattle.smithy_context.specs.declared.layer.LayerEntry.{LayerEntry}
use Rattle.smithy_context.specs.declared.setting.Setting.{Setting}
use Rattle.smithy_context.specs.declared.setting.Setting.TheVariants as settings
use Rattle.smithy_context.specs.declared.setting.SettingKey.{SettingKey}
use Rattle.smithy_context.specs.declared.setting.SettingKey.TheVariants as keys
use Rattle.run_grammar.specs.declared.answer.Answer.{Answer}
use Rattle.run_grammar.specs.declared.answer.Answer.TheVariants as answers
use Rattle.run_grammar.specs.declared.answer.Chosen.{Chosen}
use Rattle.json_scripts.specs.Heads.{head_fits}
use Rattle.json_scripts.specs.Texts.{fits_or_none, text_fits, texts_fit}

-- ---- bodies, requests and responses

-- a body has at most 16 KiB
unfoldable pub bytes_fit : List ℕ → Bool
bytes_fit b = nat_le (length b) 16384

-- a body that is there has so many bytes at most; one that was taken has none
unfoldable pub body_fits : Body → Bool
body_fits (bodies.Bytes b) = bytes_fit b
body_fits (bodies.Once b) = bytes_fit b
body_fits bodies.Taken = true

-- method, address, headers and body of a request are within their limits
unfoldable pub request_fits : HttpRequest → Bool
request_fits r = text_fits r.method && (text_fits r.uri && (head_fits r.headers && body_fits r.body))

-- headers and body of a response are within their limits
unfoldable pub response_fits : HttpResponse → Bool
response_fits r = head_fits r.headers && body_fits r.body

-- ---- endpoints, failures and changes

-- a header's name isn't a text
abbrev pub endpoint_header_fits : EndpointHeader → Bool
endpoint_header_fits h = texts_fit h.values

-- address, headers and schemes of an endpoint are within their limits
unfoldable pub endpoint_fits : Endpoint → Bool
endpoint_fits e = text_fits e.url && (list_all endpoint_header_fits e.headers && fits_or_none texts_fit e.schemes)

-- the text of a failure is within its limit; an output has none
unfoldable pub outcome_fits : Outcome → Bool
outcome_fits (outcomes.Output p) = true
outcome_fits (outcomes.Failed f) = text_fits f.text

-- what a hook writes is within its limits
unfoldable pub change_fits : Change → Bool
change_fits (changes.Input p) = true
change_fits (changes.Request r) = request_fits r
change_fits (changes.Response r) = response_fits r
change_fits (changes.Outcome o) = outcome_fits o

-- ---- settings

-- the texts of a setting are within their limits
unfoldable pub setting_fits : Setting → Bool
setting_fits (settings.Partition p) = text_fits p.name
setting_fits (settings.Prefix t) = text_fits t
setting_fits (settings.Preference ts) = texts_fit ts
setting_fits (settings.Disable ts) = texts_fit ts
setting_fits (settings.User n b) = text_fits n
setting_fits _ = true

-- the name of a setting of the caller's own is within its limit
unfoldable pub key_fits : SettingKey → Bool
key_fits (keys.User n) = text_fits n
key_fits _ = true

-- key and value of an entry are within their limits
abbrev pub layer_entry_fits : LayerEntry → Bool
layer_entry_fits e = key_fits e.key && fits_or_none setting_fits e.value

-- each entry of a layer is within its limits
abbrev pub layer_fits : List LayerEntry → Bool
layer_fits l = list_all layer_entry_fits l

-- ---- answers

-- change, settings and failure of a hook's answer are within their limits
unfoldable pub hook_answer_fits : HookAnswer → Bool
hook_answer_fits a = fits_or_none change_fits a.change && (layer_fits a.settings && fits_or_none text_fits a.failure)

-- scheme, endpoint and settings of what was chosen are within their limits
unfoldable pub chosen_fits : Chosen → Bool
chosen_fits c = text_fits c.scheme && (fits_or_none endpoint_fits c.endpoint && layer_fits c.settings)

-- what an answer holds is within its limits
unfoldable pub answer_fits : Answer → Bool
answer_fits (answers.Failed t) = text_fits t
answer_fits (answers.ConnectorFailed k t) = text_fits t
answer_fits (answers.Layer l) = layer_fits l
answer_fits (answers.Hooked a) = hook_answer_fits a
answer_fits (answers.Request r) = request_fits r
answer_fits (answers.Loaded b) = bytes_fit b
answer_fits (answers.Chosen c) = chosen_fits c
answer_fits (answers.Endpoint e) = endpoint_fits e
answer_fits (answers.Response r) = response_fits r
answer_fits (answers.Outcome o) = outcome_fits o
answer_fits (answers.Read b) = bytes_fit b
answer_fits _ = true

-- ---- keys

-- the keys of a layer, in its order
abbrev pub layer_keys : List LayerEntry → List SettingKey
layer_keys l = map (λ (e : LayerEntry). e.key) l

-- the keys with a further one, where it isn't among them
abbrev pub with_key : List SettingKey → SettingKey → List SettingKey
with_key ks k = if list_any (same_key k) ks then ks else ks ++ k ∷ []

-- the keys with further ones, each once
abbrev pub with_keys : List SettingKey → List SettingKey → List SettingKey
with_keys ks more = fold with_key ks more

-- the layer that an answer sets
abbrev pub layer_of_answer : Answer → List LayerEntry
layer_of_answer (answers.Layer l) = l
layer_of_answer (answers.Hooked a) = a.settings
layer_of_answer (answers.Chosen c) = c.settings
layer_of_answer _ = []
