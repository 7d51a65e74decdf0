-- What the parts of an identity cache make.
use Rattle.std.specs.Prelude.{◌==◌, nat_lt, false, Option, Some, None, if◌then◌else◌}
use Rattle.std.specs.Option.{unwrap_or}
use Rattle.smithy_types.specs.declared.build_error.BuildError.{BuildError}
use Rattle.smithy_types.specs.declared.build_error.BuildError.TheVariants.{ZeroPartitions, ShortExpiration}
use Rattle.identity_cell.specs.declared.lazy_builder.LazyCacheBuilder.{LazyCacheBuilder}
use Rattle.identity_cell.specs.declared.identity_cache.SharedIdentityCache.{SharedIdentityCache}
use Rattle.identity_cell.specs.declared.identity_cache.SharedIdentityCache.TheVariants as cache

-- no part is given
abbrev pub no_parts : LazyCacheBuilder
no_parts = record {
  time_source = false;
  sleep_impl = false;
  load_timeout = None;
  buffer_time = None;
  default_expiration = None;
  max_partitions = None;
}

-- no partition at all is refused first, then an expiration below 15 minutes
abbrev pub refusal : LazyCacheBuilder → Option BuildError
refusal parts =
    if unwrap_or parts.max_partitions 64 == 0 then Some ZeroPartitions
    else if nat_lt (unwrap_or parts.default_expiration 900000000000) 900000000000 then Some ShortExpiration else None

-- the parts, with 10 s, 15 minutes and 64 partitions where they are absent
abbrev pub built : LazyCacheBuilder → SharedIdentityCache
built parts = cache.Lazy (record {
  load_timeout = parts.load_timeout;
  buffer = unwrap_or parts.buffer_time 10000000000;
  default_expiration = unwrap_or parts.default_expiration 900000000000;
  max_partitions = unwrap_or parts.max_partitions 64;
})
