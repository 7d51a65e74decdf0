use Rattle.std.proofs.Common.{is_none}
use Rattle.smithy_types.specs.declared.build_error.Part.TheVariants as part
use Rattle.client_builder.proofs.Refusing.{second, some_of}
use Rattle.client_builder.proofs.builder.OperationBuilder.assemble.Goals as goal

pub unwrap-requires-4 : goal.unwrap-requires-4
unwrap-requires-4 g c =
    some_of c.args.self.operation_name
    (second (is_none c.args.self.service_name) (is_none c.args.self.operation_name) part.ServiceName part.OperationName _ c.requires.complete)
