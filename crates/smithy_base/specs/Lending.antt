-- What a resolver lends.
use Rattle.std.specs.Prelude.{List, []}
use Rattle.std.specs.Borrow.{Lends, MutBor, Fml}
use mir.Syntax.{named}
use Rattle.smithy_context.specs.declared.layer.LayerEntry.{LayerEntry}
use Rattle.smithy_context.specs.contracts.cloneable.CloneableLayer as cloneable
use Rattle.smithy_base.specs.declared.components.ComponentsDraft.{ComponentsDraft}
use Rattle.smithy_base.specs.contracts.components.ComponentsDraft as draft
use Rattle.smithy_base.specs.declared.resolver.Resolver.{Resolver}
use Rattle.smithy_base.specs.contracts.resolver.Resolver as resolver

-- the resolver ends with the last value behind the result as its latest settings
abbrev pub LendsConfig : MutBor Resolver → MutBor (List LayerEntry) → Fml
LendsConfig s r =
    Lends (resolver.the_row (record { mir = named 1; lft = [] })) cloneable.the_row s r
    (λ w. record s.now { config = record s.now.config { now = w } })

-- and as its latest parts
abbrev pub LendsComponents : MutBor Resolver → MutBor ComponentsDraft → Fml
LendsComponents s r =
    Lends (resolver.the_row (record { mir = named 1; lft = [] })) draft.the_row s r
    (λ w. record s.now { components = record s.now.components { now = w } })
