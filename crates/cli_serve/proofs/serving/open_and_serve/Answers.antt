use Rattle.std.proofs.Common.{◌∷◌, ◌++◌, [], None, ap, refl, ◌∙◌, arith}
use Rattle.cli_client.specs.Means.{own_ranked}
use Rattle.cli_client.specs.Opening.{quota_of}
use Rattle.cli_serve.proofs.Closed.{closed_session, owned}
use Rattle.cli_serve.proofs.Whole.{all_opened, client_built, none_opened, one_opened, whole_served}
use Rattle.cli_serve.proofs.serving.open_and_serve.Goals as goal

pub build-requires : goal.build-requires
build-requires g c =
    whole_served c.served.result c.in_ok-builder.builder c.in_ok-partition.partition c.in-Some.seat.client c.in-Some.seat.errors c.served.ensures c.in_ok-builder.ensures.builder

pub loop-seat-init : goal.loop-seat-init
loop-seat-init g c =
    none_opened own_ranked c.args.description.start (quota_of c.args.description.buckets) c.in_ok-quota.quota c.args.description.seats c.into_iter-seat-iterator.result.rest.items
    c.new-seats.result.items (c.into_iter-seat-iterator.ensures.into_iter_gives.0 ∙ c.into_vec-seat-items.ensures)
    (c.in_ok-quota.ensures ∙ ap quota_of c.as_slice.ensures) c.new-seats.ensures.items

pub loop-seat-preserved : goal.loop-seat-preserved
loop-seat-preserved g c =
    one_opened own_ranked c.args.description.start c.len.result (quota_of c.args.description.buckets) c.loop-seat.quota c.partition_of.new.registry c.args.description.seats
    c.loop-seat.seat-iterator.rest.items c.next.new.self.rest.items c.in-Some.seat c.loop-seat.seats.items c.push_reserved.new.self.items c.in_ok-world.world
    c.terms_of-terms.result c.loop-seat.invariant c.in-Some.ensures.steps.0
    (owned _ _ _ c.args.description.start c.loop-seat.quota c.in-Some.seat c.in_ok-world.world c.partition_of.new.registry
    (client_built _ c.args.description.start c.in-Some.seat c.in_ok-partition.partition c.loop-seat.quota c.partition_of.new.registry c.in_ok-own_quota.own_quota
    c.in_ok-builder.builder c.served.result c.first_outside-outside.result c.in_ok-world.world c.in_ok-partition.ensures c.in_ok-builder.ensures.builder c.served.ensures
    c.first_outside-outside.ensures c.in_ok-world.ensures)
    (record { status = λ x. refl; modeled = λ x. refl; transient = λ x. refl }))
    (omega (arith, c.len.ensures, c.loop-seat.seats.ok.0)) c.terms_of-terms.ensures
    (c.push_reserved.ensures.items ∙ ap (λ l. l ++ record { world = c.in_ok-world.world; run = None; terms = c.terms_of-terms.result } ∷ []) c.in_ok-reserve.ensures.items)

pub returns-clause-serves : goal.returns-clause-serves
returns-clause-serves g c =
    let opened = all_opened own_ranked c.args.description.start (quota_of c.args.description.buckets) c.loop-seat.quota c.args.description.seats c.loop-seat.seat-iterator.rest.items
    c.loop-seat.seats.items c.loop-seat.invariant (omega (arith, c.in-None.ensures.steps.0, c.loop-seat.seat-iterator.rest.ok.0)) in
    closed_session c.args.description c.greet_and_talk.result _ _ _ _ own_ranked _ _ (record { seats = c.loop-seat.seats; quota = c.loop-seat.quota }) opened c.greet_and_talk.ensures.serves
    (record { status = λ x. refl; modeled = λ x. refl; transient = λ x. refl })
    (record { status = λ x context so_far. refl; modeled = λ x context so_far. refl; transient = λ x context so_far. refl })
    (record { names = λ one. refl; hooks = λ one hook. refl; runs = λ one hook view a new. refl; with_bucket = λ one bucket. refl; with_verdict = λ one verdict. refl })
