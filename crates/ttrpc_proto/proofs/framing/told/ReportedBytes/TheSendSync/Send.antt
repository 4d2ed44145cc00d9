use denote.Param.Send.{IsSend, owning_send, sendable}
use Rattle.ttrpc_proto.specs.contracts.framing.told.ReportedBytes.{the_row, the_type}

pub send : IsSend the_row
send = owning_send the_type (search sendable, tt) (λ d. tt) (λ k x w. tt)
