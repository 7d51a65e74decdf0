use Rattle.std.proofs.Common.{◌≡◌, ◌∙◌, ap, refl, sym}
use Rattle.std.specs.Prelude.{Some}
use Rattle.std.proofs.lemmas.Option.{slice_get-get_or}
use Rattle.std.proofs.lemmas.Result.{IfOk-weaker}
use Rattle.cli_client_runs.proofs.set.ClientSet.invoke_plain.Goals as goal

pub returns : goal.returns
returns g c =
    IfOk-weaker c.invoke.result _ _ (λ ran h. record {
      client = c.index_mut-client.result.now;
      after = c.invoke.new.client;
      there = slice_get-get_or c.args.self.now.clients.items c.args.invocation.client c.index_mut-client.result.now c.requires ∙ ap Some (sym c.index_mut-client.ensures.value);
      invoked = h;
      clients = refl;
    }) c.invoke.ensures.made
