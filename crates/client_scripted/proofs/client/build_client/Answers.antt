use Rattle.std.proofs.Common.{◌≡◌, ◌∙◌, sym}
use Rattle.client_scripted.proofs.Whole.{built_by, whole_builder}
use Rattle.client_scripted.proofs.client.build_client.Goals as goal

pub build_world-requires : goal.build_world-requires
build_world-requires g c = whole_builder c.in_ok-builder.builder c.in_ok-partition.partition c.args.object c.in_ok-builder.ensures.builder

pub returns : goal.returns
returns g c = record {
  partition = c.in_ok-partition.partition;
  registered = c.in_ok-partition.ensures;
  operation = c.in_ok-operation.ensures;
  built = built_by _ c.in_ok-builder.builder _ c.in_ok-world.world c.in_ok-builder.ensures.builder c.in_ok-world.ensures;
  identities = c.in_ok-identities.ensures ∙ c.in_ok-builder.ensures.identities;
}
