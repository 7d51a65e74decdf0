-- The bytes of a text, wherever they stand.
use Rattle.std.specs.Prelude.{List, ℕ}
use Rattle.smithy_types.specs.declared.text.Content.{Content}
use Rattle.smithy_types.specs.declared.text.Content.TheVariants.{Few, Shared}

-- the bytes that stand in the text itself, or those that are shared
abbrev pub text_of : Content → List ℕ
text_of (Few few) = few.bytes
text_of (Shared shared) = shared
