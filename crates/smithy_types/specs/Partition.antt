-- When two partitions are one.
use Rattle.std.specs.Prelude.{Bool, is_some, nat_eq}
use Rattle.std.specs.Ordering.{on, eq_of_both}
use Rattle.std.specs.Cmp.Lexicographic.{pointwise}
use Rattle.std.specs.Bool.{beq}
use Rattle.smithy_types.specs.declared.partition.RetryPartition.{RetryPartition}

-- both are default or both custom, and the names are equal
abbrev pub same_partition : RetryPartition → RetryPartition → Bool
same_partition = eq_of_both (on (λ p. is_some p.custom) beq) (on (λ p. p.name) (pointwise nat_eq))
