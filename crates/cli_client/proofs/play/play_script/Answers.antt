use Rattle.std.proofs.Common.{◌∙◌, ap, refl}
use Rattle.cli_client.proofs.Closing.{closed_run}
use Rattle.cli_client.proofs.Opened.{begun_outside, opened_so}
use Rattle.cli_client.specs.Means.{NoClassifier, NoInterceptor}
use Rattle.cli_client.specs.Opening.{quota_of}
use Rattle.cli_client.proofs.play.play_script.Goals as goal

pub returns : goal.returns
returns c =
    let opened = opened_so {V = NoClassifier} {W = NoInterceptor} c.in_ok-build_clients.ensures
    (record { outside = c.new.result; quota = c.build_clients.new.registry; clients = c.build_clients.new.clients; notes = c.args.notes })
    c.args.script.buckets c.args.script.start c.args.script.words refl refl (c.in_ok-quota.ensures ∙ ap quota_of c.as_slice.ensures) c.new-built.ensures.items
    (begun_outside c.new.result c.args.script.start c.args.script.words c.new.ensures.moment c.new.ensures.words c.new.ensures.records c.new.ensures.identities
    c.new.ensures.sleeps c.new.ensures.call c.new.ensures.load c.new.ensures.faults) in
    closed_run c.args.report c.args.script _ _ _ _ _ _ _ _ _ opened c.in_ok-text.ensures
    (record { status = λ x. refl; modeled = λ x. refl; transient = λ x. refl })
    (record { status = λ x context so_far. refl; modeled = λ x context so_far. refl; transient = λ x context so_far. refl })
    (record { names = λ one. refl; hooks = λ one hook. refl; runs = λ one hook view a new. refl; with_bucket = λ one bucket. refl; with_verdict = λ one verdict. refl })
