-- Retries where nothing else was chosen.
use Rattle.std.specs.Prelude.{false, None}
use Rattle.smithy_types.specs.declared.config.RetryConfig.{RetryConfig}
use Rattle.smithy_types.specs.declared.config.RetryMode.TheVariants.{Standard}
use Rattle.smithy_types.specs.declared.config.ReconnectMode.TheVariants.{ReconnectOnTransientError}

-- three attempts, backoffs of 1 s to 20 s, of which a random part is used
abbrev pub standard_retry : RetryConfig
standard_retry = record {
  mode = Standard;
  max_attempts = 3;
  initial_backoff = 1000000000;
  max_backoff = 20000000000;
  reconnect = ReconnectOnTransientError;
  static_base = false;
  spec = None;
}
