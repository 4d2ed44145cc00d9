use Rattle.ttrpc_client.proofs.Entered.{received_apart}
use Rattle.ttrpc_client.proofs.laws.streams_stand_by_themselves.Goals as goal

pub returns-clause-frame_elsewhere : goal.returns-clause-frame_elsewhere
returns-clause-frame_elsewhere g c = λ old new a sent k lands apart. lands.reaches.others k apart

pub returns-clause-received : goal.returns-clause-received
returns-clause-received g c = λ old mid new j k other given apart one two. received_apart old mid new j k other given apart one two
