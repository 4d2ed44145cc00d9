-- The answers of the program to frames, one after the other.
-- Source: PROTOCOL.md of ttrpc, "Request" and "Response".
use Rattle.std.specs.Prelude.{◌≡◌, ℕ, ◌%◌, ◌^◌, List, [], ◌∷◌, ◌++◌, length, codes, false, Option, Some, None}
use Rattle.ttrpc_proto.specs.declared.framing.header.TheConstants.{MESSAGE_LENGTH_MAX, MESSAGE_TYPE_RESPONSE}
use Rattle.ttrpc_proto.specs.declared.messages.Request.{Request}
use Rattle.ttrpc_proto.specs.declared.messages.Response.{Response}
use Rattle.ttrpc_proto.specs.Framing.Header.{header_bytes}
use Rattle.ttrpc_proto.specs.Messages.{empty_status}
use Rattle.ttrpc_proto.specs.declared.framing.frame.Incoming.{Incoming}
use Rattle.ttrpc_proto.specs.declared.framing.frame.Incoming.TheVariants.{Frame, Oversize}
use Rattle.ttrpc_connection.specs.declared.arrived.InboundResult.{InboundResult}
use Rattle.ttrpc_connection.specs.declared.arrived.InboundResult.TheVariants.{TooLong, Opened}
use Rattle.ttrpc_connection.specs.Frames.{header_of_frame}
use Rattle.ttrpc_server.specs.State.{Services, has_method}
use Rattle.ttrpc_server.specs.Protocol.{IsStatusResponse, fit_to_limit, response_bytes}
use Rattle.ttrpc_server.specs.Table.{Row, Ignore, SendResponse, SendCode, MakeJob, MakeStream, PutIn, sync_row}

-- the one service
abbrev pub echo_services : Services
echo_services = record { methods = (codes "demo.Echo", codes "Echo" ∷ []) ∷ []; streams = []; bare_openings = false }

-- these services have the method `Echo` of `demo.Echo`, and no other
abbrev pub HasEcho : Services → Type 0
HasEcho services = (service method : List ℕ) → has_method services service method ≡ has_method echo_services service method

-- the echo of a request: an OK status that is present and empty, and the request's payload
abbrev pub echo_of : Request → Response
echo_of request = record { status = Some empty_status; payload = request.payload }

-- with no transform a payload is opened as it is
abbrev pub plainly : Incoming → InboundResult
plainly (Oversize h) = TooLong
plainly (Frame m) = Opened m.payload

-- the response that a row gives, if it gives one
abbrev pub Says : Row → Option Response → Type 0
Says Ignore said = said ≡ None
Says (SendResponse r) said = said ≡ Some r
Says (SendCode code) said = (r : Response) × IsStatusResponse code r × (said ≡ Some r)
Says (MakeJob request) said = said ≡ Some (echo_of request)
Says (MakeStream request) said = said ≡ None
Says (PutIn payload) said = said ≡ None

-- a payload in a response frame of stream k
abbrev pub framed : ℕ → List ℕ → List ℕ
framed k payload = header_bytes (record { length = length payload % 2 ^ 32; stream_id = k; type_ = MESSAGE_TYPE_RESPONSE; flags = 0 }) ++ payload

-- the response as it is written: fitted to what a message may have
abbrev pub said_bytes : ℕ → Option Response → List ℕ
said_bytes k None = []
said_bytes k (Some r) = framed k (response_bytes (fit_to_limit MESSAGE_LENGTH_MAX r))

-- the bytes answer the frame, by the table and the echo
pub record IsAnswer (f : Incoming) (bytes : List ℕ) : Type 0 where
  pub said : Option Response
  pub says : Says (sync_row echo_services (header_of_frame f) (plainly f)) said
  pub bytes_are : bytes ≡ said_bytes ((header_of_frame f).stream_id) said

-- the bytes answer the frames, in order
abbrev pub AreAnswers : List Incoming → List ℕ → Type 0
AreAnswers [] bytes = bytes ≡ []
AreAnswers (f ∷ fs) bytes = (first : List ℕ) × (rest : List ℕ) × IsAnswer f first × (bytes ≡ first ++ rest) × AreAnswers fs rest
