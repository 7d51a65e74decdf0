-- Settings by their layers.
use Rattle.std.specs.Prelude.{Option, None, Some, []}
use Rattle.smithy_context.specs.declared.settings.Layers.{Layers}
use Rattle.smithy_context.specs.StandingLayers.{StandingLayers}

-- the layers of settings: none until the first is pushed or merged
abbrev pub standing_of : Option Layers → StandingLayers
standing_of None = record { pushed = []; state = [] }
standing_of (Some l) = record { pushed = l.pushed; state = l.state }
