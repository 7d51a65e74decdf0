use Rattle.std.proofs.Common.{◌≡◌, length, arith}
use Rattle.cli_serve.proofs.ServeLemmas.{greeted}
use Rattle.cli_serve.proofs.serving.greet_and_talk.Goals as goal

pub returns-in-Ok-clause-serves : goal.returns-in-Ok-clause-serves
returns-in-Ok-clause-serves g c =
    let len : c.len.result ≡ length c.args.session.now.seats.items = omega (arith, c.len.ensures, c.args.session.now.seats.ok.0) in
    greeted _ c.talk.result c.args.session.now c.talk.new.session c.args.lines.now.unread.items c.talk.new.lines.unread.items (g.S.Source.view c.args.source.now)
    (g.S.Source.view c.talk.new.source) (g.K.Sink.view c.args.sink.now) (g.K.Sink.view c.greet.new.sink) (g.K.Sink.view c.talk.new.sink) (rw len at c.in-Ok.ensures.told) c.talk.ensures.talks
