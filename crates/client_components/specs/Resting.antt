-- What is open is ended, and outside and quota are exchanged.
use Rattle.std.specs.Prelude.{◌≡◌, ◌++◌}
use Rattle.client_auth.specs.Identities.{at_rest, ending_choice}
use Rattle.client_call.specs.Ending.{ending_calls}
use Rattle.client_call.specs.Sleeping.{no_sleeps}
use Rattle.client_call.specs.declared.call.Call.TheVariants.{Idle}
use Rattle.outside.specs.Calls.{OutsideCall}
use Rattle.smithy_types.specs.Chain.{Chained}
use Rattle.client_components.specs.declared.parts.Parts.{Parts}

module _ {T X Q C I A R Z D P L : Type 0} (makes : X → OutsideCall → X → Type 0) where
  -- the open load, the open call and the open sleeps are ended, and all else stays
  pub record Ends (old new : Parts T X Q C I A R Z D P L) : Type 0 where
    pub calls : Chained makes old.outside (ending_choice old.identities ++ ending_calls old.sleeps old.call) new.outside
    pub others : new ≡ record old {
      sleeps = no_sleeps;
      call = Idle;
      identities = at_rest old.identities;
      outside = new.outside;
    }

  -- what is open is ended first, and then outside and quota are exchanged
  pub record Exchanges (old : Parts T X Q C I A R Z D P L) (outside : X) (quota : Q) (new : Parts T X Q C I A R Z D P L)
      (outside_after : X) (quota_after : Q) : Type 0 where
    pub ended : Parts T X Q C I A R Z D P L
    pub ends : Ends old ended
    pub parts : new ≡ record ended { outside = outside; quota = quota }
    pub outside_is : outside_after ≡ ended.outside
    pub quota_is : quota_after ≡ ended.quota
