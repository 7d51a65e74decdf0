use Rattle.std.proofs.Common.{ap, refl, sym, ◌∙◌}
use Rattle.std.specs.Prelude.{Some}
use Rattle.std.proofs.lemmas.Option.{slice_get-get_or}
use Rattle.host_session.proofs.Meeting.{takes_at}
use Rattle.host_session.proofs.session.Session.take_at.Goals as goal

pub returns : goal.returns
returns g c =
    takes_at _ c.args.place c.args.message c.args.self.now _ c.index_mut-seat.result.now c.take-taken.new.self c.exchange_quota.new.self c.exchange_quota-2.new.self
    c.exchange_quota.new.quota c.exchange_quota-2.new.quota c.args.out.now.items c.take-taken.new.out.items
    (slice_get-get_or c.args.self.now.seats.items c.args.place c.index_mut-seat.result.now c.requires ∙ ap Some (sym c.index_mut-seat.ensures.value))
    c.exchange_quota.ensures.given c.exchange_quota.ensures.taken c.in_ok-taken.ensures c.exchange_quota-2.ensures.given
    c.exchange_quota-2.ensures.taken refl refl
