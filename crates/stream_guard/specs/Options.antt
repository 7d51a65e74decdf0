-- Options and their builder.
use Rattle.std.specs.Prelude.{None, unwrap_or}
use Rattle.stream_guard.specs.declared.options.MinimumThroughputBodyOptions.{MinimumThroughputBodyOptions}
use Rattle.stream_guard.specs.declared.options.MinimumThroughputBodyOptionsBuilder.{MinimumThroughputBodyOptionsBuilder}
use Rattle.stream_guard.specs.Rate.{per_second}

-- one byte a second, twenty seconds of grace, and a window of one second
abbrev pub default_options : MinimumThroughputBodyOptions
default_options = record { minimum_throughput = per_second 1; grace_period = 20000000000; check_window = 1000000000 }

-- nothing set
abbrev pub unset : MinimumThroughputBodyOptionsBuilder
unset = record { minimum_throughput = None; grace_period = None }

-- what was set, and the default of each other part
abbrev pub built : MinimumThroughputBodyOptionsBuilder → MinimumThroughputBodyOptions
built b = record {
  minimum_throughput = unwrap_or b.minimum_throughput default_options.minimum_throughput;
  grace_period = unwrap_or b.grace_period default_options.grace_period;
  check_window = default_options.check_window;
}
