use Rattle.std.proofs.Common.{◌≡◌, ◌∙◌, ap, refl, sym}
use Rattle.std.specs.List.{insert}
use Rattle.std.specs.Prelude.{Some}
use Rattle.std.proofs.lemmas.Option.{slice_get-get_or}
use Rattle.cli_client_runs.proofs.Moments.{put_back}
use Rattle.cli_client_runs.proofs.set.ClientSet.invoke_noting.Goals as goal

pub returns : goal.returns
returns g c = record {
  client = c.remove-client.result;
  after = c.in_ok-noted.noted.client;
  there = slice_get-get_or c.args.self.now.clients.items c.args.invocation.client c.remove-client.result c.requires ∙ ap Some (sym c.remove-client.ensures.value);
  invoked = c.in_ok-noted.ensures.invoked;
  clients = c.in_ok-insert.ensures.items ∙ ap (λ l. insert l c.args.invocation.client c.in_ok-noted.noted.client) c.remove-client.ensures.items
      ∙ put_back c.args.self.now.clients.items c.args.invocation.client c.in_ok-noted.noted.client c.requires;
}
