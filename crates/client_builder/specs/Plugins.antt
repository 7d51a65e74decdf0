-- What plugins give.
use Rattle.std.specs.Prelude.{ℕ, Bool, true, false, List, [], ◌∷◌, codes}
use Rattle.smithy_base.specs.declared.components.ComponentsDraft.{ComponentsDraft}
use Rattle.smithy_context.specs.declared.layer.LayerEntry.{LayerEntry}
use Rattle.client_builder.specs.declared.plugin.Plugin.{Plugin}
use Rattle.client_builder.specs.declared.plugin.Plugin.TheVariants.{Static, NoAuth, NoAuthV2, EnforceContentLength}

-- no part of the runtime is given
abbrev pub no_draft : ComponentsDraft
no_draft = record { sleep = false; time = false; client = false }

-- the parts that a plugin gives
abbrev pub draft_of : Plugin → ComponentsDraft
draft_of (Static layer draft) = draft
draft_of NoAuth = no_draft
draft_of NoAuthV2 = no_draft
draft_of EnforceContentLength = no_draft

-- what a plugin says of settings
abbrev pub entries_of : Plugin → List LayerEntry
entries_of (Static layer draft) = layer
entries_of NoAuth = []
entries_of NoAuthV2 = []
entries_of EnforceContentLength = []

-- whether it registers the scheme that signs nothing
abbrev pub is_no_auth : Plugin → Bool
is_no_auth (Static layer draft) = false
is_no_auth NoAuth = true
is_no_auth NoAuthV2 = true
is_no_auth EnforceContentLength = false

-- whether it also adds that scheme to the options
abbrev pub is_no_auth_v2 : Plugin → Bool
is_no_auth_v2 (Static layer draft) = false
is_no_auth_v2 NoAuth = false
is_no_auth_v2 NoAuthV2 = true
is_no_auth_v2 EnforceContentLength = false

-- whether it has responses held to their declared length
abbrev pub is_enforcing : Plugin → Bool
is_enforcing (Static layer draft) = false
is_enforcing NoAuth = false
is_enforcing NoAuthV2 = false
is_enforcing EnforceContentLength = true

-- the options that it adds
abbrev pub options_added : Plugin → List (List ℕ)
options_added (Static layer draft) = []
options_added NoAuth = []
options_added NoAuthV2 = codes "noAuth" ∷ []
options_added EnforceContentLength = []
