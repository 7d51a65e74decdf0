-- The open load of an identity.
use Rattle.std.specs.Prelude.{ℕ, ◌==◌, Bool, nat_eq, if◌then◌else◌, List, Option, None, Some}
use Rattle.std.specs.Cmp.Lexicographic.{pointwise}
use Rattle.outside_scripted.specs.declared.loads.OpenLoad.{OpenLoad}
use Rattle.outside_scripted.specs.declared.records.IdentityRecord.{IdentityRecord}

-- when the open load is over
abbrev pub due_at : Option OpenLoad → Option ℕ
due_at None = None
due_at (Some load) = Some load.due

-- whether the source is of this auth scheme
abbrev pub has_id : List ℕ → IdentityRecord → Bool
has_id id source = pointwise nat_eq source.id id

-- When the load of this source is over: an open one of another source is given up, and one is
-- opened anew.
abbrev pub due_of : Option OpenLoad → ℕ → ℕ → ℕ
due_of None source opened = opened
due_of (Some load) source opened = if load.source == source then load.due else opened
