use Rattle.cli_client.specs.Means.{own_ranked}
use Rattle.cli_client.specs.Opening.{quota_of}
use Rattle.cli_serve.proofs.Whole.{Opened}
use Rattle.cli_serve.proofs.serving.open_and_serve.Given as goal

-- those before this one are opened
abbrev pub invariant-loop-seat : goal.invariant-loop-seat
invariant-loop-seat g l =
    Opened own_ranked l.fn.description.start (quota_of l.fn.description.buckets) l.fn.description.seats l.seat-iterator.rest.items l.seats.items l.quota
