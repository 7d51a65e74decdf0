-- What is answered to the three steps of the configuration.
use Rattle.std.specs.Prelude.{◌&&◌, not, if◌then◌else◌, List, [], ℕ, codes}
use Rattle.run_grammar.specs.declared.answer.Answer.{Answer}
use Rattle.run_grammar.specs.declared.answer.Answer.TheVariants as answers
use Rattle.run_grammar.specs.declared.kind.ConfigureStage.{ConfigureStage}
use Rattle.run_grammar.specs.declared.kind.ConfigureStage.TheVariants.{Client, Operation, Final}
use Rattle.smithy_context.specs.declared.layer.LayerEntry.{LayerEntry}
use Rattle.client_retries.specs.declared.configure.CacheNeeds.{CacheNeeds}

-- why a lazy cache of identities is refused without a time source
unfoldable pub no_time_source : List ℕ
no_time_source = codes "Lazy identity caching requires a time source to be configured. Set a time source using the `time_source` method on config. If this isn't possible, then disable identity caching by calling the `identity_cache` method on config with `IdentityCache::no_cache()`"

-- why a lazy cache of identities is refused without sleeps
unfoldable pub no_sleep : List ℕ
no_sleep = codes "Lazy identity caching requires an async sleep implementation to be configured. Set a sleep impl using the `sleep_impl` method on config. If this isn't possible, then disable identity caching by calling the `identity_cache` method on config with `IdentityCache::no_cache()`"

-- a lazy cache needs a time source first, and then sleeps
abbrev pub finished : CacheNeeds → Answer
finished needs =
    if needs.lazy_cache && not needs.time_source then answers.Failed no_time_source
    else if needs.lazy_cache && not needs.sleep_impl then answers.Failed no_sleep
    else answers.Layer []

-- the client's layer comes first; the others set nothing
abbrev pub configured : ConfigureStage → List LayerEntry → CacheNeeds → Answer
configured Client client needs = answers.Layer client
configured Operation client needs = answers.Layer []
configured Final client needs = finished needs
