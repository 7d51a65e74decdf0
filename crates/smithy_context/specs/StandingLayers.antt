-- What a contract sees of settings.
use Rattle.std.specs.Prelude.{List}
use Rattle.smithy_context.specs.declared.layer.LayerEntry.{LayerEntry}

-- the layers in the order in which they were pushed, and the state layer above them
pub record StandingLayers : Type 0 where
  pub pushed : List (List LayerEntry)
  pub state : List LayerEntry
