-- What a client of a host means.
use Rattle.std.specs.Prelude.{Bool, List}
use Rattle.run_grammar.specs.declared.answer.Entry.{Entry}
use Rattle.outside_hosted.specs.declared.hosted_outside.HostedOutside.{HostedOutside}
use Rattle.rate_limit.specs.Pace.{Pace}
use Rattle.retry_quota.specs.Registers.{Registers}

-- its log, how it goes on over entries, whether a run has to wait, what lies outside of it and what its retries are paid
-- from, itself with another of each and with an empty log, and what ending all that is open makes of it
pub record HostedMeaning (W : Type 0) : Type 1 where
  pub calls : W → List Entry
  pub relates : W → List Entry → W → Type 0
  pub parks : W → Bool
  pub outside : W → HostedOutside
  pub with_outside : HostedOutside → W → W
  pub quota : W → Registers Pace
  pub with_quota : Registers Pace → W → W
  pub emptied : W → W
  pub rests : W → W → Type 0
