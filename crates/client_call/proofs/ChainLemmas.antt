-- Chains of calls of an outside.
use Rattle.std.proofs.Common.{◌≡◌, Bool, List, [], ◌∷◌, map, ap, ◌∙◌, refl}
use Rattle.smithy_types.specs.Chain.{Chained, ByCalls}
use Rattle.smithy_types.proofs.ChainLemmas.{chained_lift}
use Rattle.smithy_types.specs.declared.timers.TimersCall.{TimersCall}
use Rattle.outside.specs.Calls.{OutsideCall, OfTimers}

-- calls of the timers are calls of the outside
pub timed : {X : Type 0} (makes : X → OutsideCall → X → Type 0) (relates : X → TimersCall → X → Type 0) →
    ((o : X) (c : TimersCall) (n : X) → relates o c n → makes o (OfTimers c) n) →
    (x y : X) (calls : List TimersCall) → Chained relates x calls y → Chained makes x (map OfTimers calls) y
timed makes relates lift x y calls h = chained_lift relates makes OfTimers lift x y calls h

-- whether there are sleeps stays as it is
pub sleeps_along : {X : Type 0} (makes : X → OutsideCall → X → Type 0) (sleeps : X → Bool) →
    ((o : X) (c : OutsideCall) (n : X) → makes o c n → sleeps n ≡ sleeps o) →
    (x y : X) (calls : List OutsideCall) → Chained makes x calls y → sleeps y ≡ sleeps x
sleeps_along makes sleeps stay x y [] e = ap sleeps e
sleeps_along makes sleeps stay x y (c ∷ cs) (t, m, r) = sleeps_along makes sleeps stay t y cs r ∙ stay x c t m
