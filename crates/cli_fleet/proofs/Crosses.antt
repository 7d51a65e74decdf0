-- A caller may cross threads.
use denote.Enum.Declared as variants
use denote.Param.Send.{IsSend, IsSync, enum_send, recorded_send, sendable, struct_send}
use denote.RattleType.{RattleType}
use denote.Ref.{NamedLft}
use denote.Struct.Declared as fields
use Rattle.std.proofs.Crossing.{crosses}
use Rattle.std.proofs.alloc.Global.TheSendSync as heap
use Rattle.cli_fleet.specs.contracts.caller.CallerState as CallerState
use Rattle.cli_fleet.specs.contracts.caller.FleetCaller as FleetCaller
use Rattle.cli_fleet.proofs.work.CallerWork.TheSendSync as work
use Rattle.cli_fleet.proofs.work.Told.TheSendSync as told

pub state_send : IsSend (CallerState.the_field).row
state_send =
    let t = told.the_field_send in
    enum_send (variants.shape CallerState.the_type) ((work.the_field_send, tt), ((search (crosses, sendable) depth 20, (search (crosses, sendable) depth 20, tt)), tt))

-- its gate is shared, so several threads may use it
pub caller_send : (κ : NamedLft) (G : RattleType) → IsSync G → IsSend (FleetCaller.the_row κ G)
caller_send κ G y =
    recorded_send (FleetCaller.the_field κ G).row _ _ (FleetCaller.the_type κ G).to_one
    (struct_send (fields.shape (FleetCaller.the_type κ G)) (heap.the_field_send, (search (crosses, sendable) depth 20, (state_send, tt))))
