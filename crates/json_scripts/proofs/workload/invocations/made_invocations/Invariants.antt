use Rattle.std.proofs.Common.{◌≡◌}
use Rattle.json_scripts.specs.Workload.Made.{made_invocations}
use Rattle.json_scripts.specs.Workload.Words.{generator_after}
use Rattle.json_scripts.proofs.workload.invocations.made_invocations.Given as goal

-- those before this one are made
abbrev pub invariant-loop-earlier : goal.invariant-loop-earlier
invariant-loop-earlier l = record {
  made : l.invocations ≡ made_invocations l.fn.seed l.earlier;
  given : l.generator ≡ generator_after l.fn.seed l.earlier;
}
