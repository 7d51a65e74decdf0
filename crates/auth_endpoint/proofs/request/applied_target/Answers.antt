use Rattle.std.proofs.lemmas.Result.{IfOk-weaker, IfErr-weaker}
use Rattle.std.proofs.Common.{option_copied}
use Rattle.auth_endpoint.specs.Endpoint.{CantApply, CantRead, IsAppliedText, Reading}
use Rattle.auth_endpoint.proofs.CauseLemmas.{apply_cause}
use Rattle.auth_endpoint.proofs.request.applied_target.Goals as goal

pub returns-clause-ok : goal.returns-clause-ok
returns-clause-ok c =
    IfOk-weaker c.applied_text.result (IsAppliedText c.in_ok-uri.uri c.in_ok-url.url (option_copied c.args.prefix)) (λ text. Reading c.args.target.now c.args.front.now (λ uri url. IsAppliedText uri url (option_copied c.args.prefix) text))
    (λ text h. (c.in_ok-uri.uri, c.in_ok-url.url, record { target_spells = c.in_ok-uri.ensures.ok; front_spells = c.in_ok-url.ensures.ok }, h)) c.applied_text.ensures.ok

pub returns-clause-err : goal.returns-clause-err
returns-clause-err c =
    IfErr-weaker c.applied_text.result (CantApply c.in_ok-uri.uri c.in_ok-url.url (option_copied c.args.prefix)) (CantRead c.args.target.now c.args.front.now (option_copied c.args.prefix))
    (apply_cause c.args.target.now c.args.front.now (option_copied c.args.prefix) c.in_ok-uri.uri c.in_ok-url.url c.in_ok-uri.ensures.ok c.in_ok-url.ensures.ok) c.applied_text.ensures.err
