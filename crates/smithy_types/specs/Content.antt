-- The bytes of a blob, wherever they stand.
use Rattle.std.specs.Prelude.{ℕ, List}
use Rattle.smithy_types.specs.declared.blob.Content.{Content}
use Rattle.smithy_types.specs.declared.blob.Content.TheVariants.{Few, Shared}

-- the bytes that stand in the blob itself, or those that are shared
abbrev pub bytes_of : Content → List ℕ
bytes_of (Few few) = few.items
bytes_of (Shared shared) = shared
