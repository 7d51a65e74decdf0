-- A call whose answer follows from the state before it.
use Rattle.std.specs.Prelude.{◌≡◌}
use Rattle.outside.specs.Calls.{OutsideCall}
use Rattle.outside_hosted.specs.declared.hosted_outside.HostedOutside.{HostedOutside}
use Rattle.outside_hosted.specs.Makes.{Makes}

-- the same call from one state, answered twice, has one answer
abbrev pub Tells : {A : Type 0} → (A → OutsideCall) → Type 0
Tells {A} call =
    (old new other : HostedOutside) (answer answered : A) → Makes old (call answer) new
    → Makes old (call answered) other → answer ≡ answered
