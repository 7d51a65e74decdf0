-- What a build is refused for.
use Rattle.std.specs.Prelude.{◌≡◌, Bool, true, false, not, ◌||◌, List, [], ◌∷◌, ◌++◌, Option, None, Some, is_none}
use Rattle.std.specs.Prelude.{option_and_then, option_map, unwrap_or}
use Rattle.std.specs.List.{list_any}
use Rattle.smithy_context.specs.Layer.{mentioned}
use Rattle.smithy_context.specs.declared.layer.LayerEntry.{LayerEntry}
use Rattle.smithy_context.specs.declared.setting.SettingKey.{SettingKey}
use Rattle.smithy_context.specs.declared.setting.SettingKey.TheVariants as keys
use Rattle.smithy_types.specs.declared.build_error.BuildError.{BuildError}
use Rattle.smithy_types.specs.declared.build_error.BuildError.TheVariants.{Missing}
use Rattle.smithy_types.specs.declared.build_error.Part.{Part}
use Rattle.smithy_types.specs.declared.build_error.Part.TheVariants as part
use Rattle.client_builder.specs.ClientLayer.{merged_layer}
use Rattle.client_builder.specs.Plugins.{draft_of}
use Rattle.client_builder.specs.declared.builder.OperationBuilder.{OperationBuilder}
use Rattle.client_builder.specs.declared.refusal.BuildRefusal.{BuildRefusal}
use Rattle.client_builder.specs.declared.refusal.BuildRefusal.TheVariants.{Refused, OutOfMemory}

-- whether a part is absent
abbrev pub Check : Type 0
Check = Bool × Part

-- the first that is absent
abbrev pub first_absent : List Check → Option Part
first_absent [] = None
first_absent ((true, which) ∷ checks) = Some which
first_absent ((false, which) ∷ checks) = first_absent checks

-- whether settings have no value for a key
abbrev pub lacks : List LayerEntry → SettingKey → Bool
lacks layer key = is_none (option_and_then (λ v. v) (mentioned layer key))

-- the two that are settings
abbrev pub setting_checks : List LayerEntry → List Check
setting_checks layer =
    (lacks layer keys.EndpointParams, part.EndpointParams)
    ∷ (lacks layer keys.Timeouts, part.Timeouts)
    ∷ []

module _ {I O E A R Z D V W : Type 0} {v : V → Type 0} {w : W → Type 0} where
  -- whether the outside's connector is used
  abbrev pub has_client : OperationBuilder I O E A R Z D V W v w → Bool
  has_client b = b.components.client || list_any (λ p. (draft_of p).client) b.plugins

  -- the seven that are parts
  abbrev pub part_checks : OperationBuilder I O E A R Z D V W v w → List Check
  part_checks b =
      (is_none b.service_name, part.ServiceName)
      ∷ (is_none b.operation_name, part.OperationName)
      ∷ (not (has_client b), part.HttpClient)
      ∷ (is_none b.endpoint_url, part.EndpointResolver)
      ∷ (is_none b.strategy, part.RetryStrategy)
      ∷ (is_none b.serializer, part.Serializer)
      ∷ (is_none b.deserializer, part.Deserializer)
      ∷ []

  -- the nine in their order
  abbrev pub checks_of : OperationBuilder I O E A R Z D V W v w → List Check
  checks_of b = part_checks b ++ setting_checks (merged_layer (unwrap_or b.service_name []) b)

  -- why a builder is refused, if it is: the first part that is absent
  abbrev pub refusal : OperationBuilder I O E A R Z D V W v w → Option BuildError
  refusal b = option_map Missing (first_absent (checks_of b))

  -- a builder may be refused so; want of memory may come at any
  abbrev pub IsRefusedFor : OperationBuilder I O E A R Z D V W v w → BuildRefusal → Type 0
  IsRefusedFor b (Refused error) = refusal b ≡ Some error
  IsRefusedFor b OutOfMemory = Unit
