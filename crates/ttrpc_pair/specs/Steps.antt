-- The effects that an event with its reply may have on a client, a server and their pipes.
-- Source: PROTOCOL.md of ttrpc, "Streaming", by the tables of both cores.
use Rattle.std.specs.Prelude.{◌≡◌, ◌⊎◌, ◌<◌, ◌≤◌, ◌%◌, ◌++◌, ℕ, List, [], ◌∷◌, length, take, drop, min, codes, Bool, true, false, Option, Some, None, Result, Ok, Err}
use Rattle.ttrpc_pair.specs.Types.{Error, Response, Connection, Failure, Told, Event, Call, Open, Outcome, Recv, Send, Close, DropCall, DropReceiver, DropSender, Take, Answer, Respond, Finish, EndStream, Drain, Tick, Carry, Deliver, Cut, Fail, Reply, Named, Ticket, Given, Item, Handed, Done, Count, Refused, NoMemory, NoStep, Entry}
use Rattle.ttrpc_proto.specs.declared.error.Error.TheVariants.{Socket}
use Rattle.ttrpc_proto.specs.Messages.{IsRequest, IsResponse}
use Rattle.ttrpc_proto.specs.Framing.Queue.{Queue, open_part}
use Rattle.ttrpc_connection.specs.Feeds.{Ways, Feeds, Breaks, IsFailed, is_open}
use Rattle.ttrpc_connection.specs.OneEnd.{Ends, failing, lending, reporting}
use Rattle.ttrpc_server.specs.declared.server.ServerCore.{ServerCore}
use Rattle.ttrpc_server.specs.declared.job.ActiveJob.{ActiveJob}
use Rattle.ttrpc_server.specs.declared.rules.Rules.{Rules}
use Rattle.ttrpc_server.specs.declared.rules.Rules.TheVariants.{Async, Sync}
use Rattle.ttrpc_server.specs.State.{IsTaken, IsUnknown, NoneWaits}
use Rattle.ttrpc_server.specs.Protocol.{Answers, AnswersError, Finishes, Hands, QueuesResponse, RefusesAnswer, RefusesFinish, RefusesResponse, drained, serving}
use Rattle.ttrpc_server.specs.Protocol as server
use Rattle.ttrpc_server.specs.Streaming.{EndsStream, RefusesEnd, RefusesItem, SendsItem, unheard}
use Rattle.ttrpc_server.specs.Streaming as streams
use Rattle.ttrpc_client.specs.declared.streams.Sender.TheVariants as sender
use Rattle.ttrpc_client.specs.Protocol.{RefusesRequest, Forgets, Requests, TakesOutcome}
use Rattle.ttrpc_client.specs.Inside.{calling}
use Rattle.ttrpc_client.specs.Streaming.{DropsReceiver, DropsSender, RefusesSending, RefusesStream, OpensStream, SendsOn}
use Rattle.ttrpc_client.specs.Streaming as streaming
use Rattle.ttrpc_client.specs.Calls.{Passes}
use Rattle.ttrpc_connection.specs.Items.{close_flags}
use Rattle.ttrpc_world_trace.specs.Flight.{bytes_after_carry}
use Rattle.ttrpc_world_trace.specs.declared.events.Side.TheVariants as side
use Rattle.ttrpc_world_trace.specs.declared.events.StreamEnd.TheVariants as end
use Rattle.ttrpc_pair.specs.Pipes.{Pipe, is_over}
use Rattle.ttrpc_pair.specs.Net.{Halves, Net, has_response, with_client, with_server}

-- ---- one side, and the pipe to it or from it

-- Returns the pipe after n more bytes of the first unfinished frame were written into it. A pipe that was cut loses them.
abbrev pub pipe_after_carry : Pipe → ℕ → Queue → Pipe
pipe_after_carry p n q = record p { bytes = bytes_after_carry p.cut p.bytes n q }

-- Returns the number of bytes that a loan of at most n bytes gives. The number is 0 after a failure.
abbrev pub lent_of : Option Failure → ℕ → Queue → ℕ
lent_of None n q = min n (length (open_part q))
lent_of (Some why) n q = 0

-- Holds if a loan of at most n bytes gives some: n isn't 0, the side hasn't failed, and bytes of its first frame are left.
abbrev pub HasToLend : {O I : Type 0} → Connection O I → ℕ → Type 0
HasToLend c n = 0 < lent_of c.failure n c.outbox.queue

-- Returns the connection after k bytes were lent and reported as written.
abbrev pub after_carry : {O I : Type 0} → Connection O I → ℕ → Connection O I
after_carry c k = reporting (lending c k) k

-- Returns the pipe after its first n bytes were taken.
abbrev pub taken_from : Pipe → ℕ → Pipe
taken_from p n = record p { bytes = drop n p.bytes }

-- Returns the pipe after a cut: its first bytes are kept, and all bytes that are written from now on are lost.
abbrev pub cut_to : Pipe → ℕ → Pipe
cut_to p keep = record { bytes = take keep p.bytes; cut = true }

-- Holds if the connection's input ended, in case the pipe is over, and if the connection is unchanged otherwise.
abbrev pub Hears : {O I : Type 0} → Bool → Connection O I → Connection O I → Type 0
Hears true old new = Ends old new
Hears false old new = new ≡ old

-- Holds if the side took the first k bytes of its pipe at this moment, and at most n. If k is less than n and than the pipe's
-- length, then the side isn't open after these bytes. If the pipe is over after them, the side's input ends.
pub record Delivers {S O I : Type 0} (w : Ways S O I) (s : S) (old : Connection O I) (pipe : Pipe) (now n k : ℕ) (t : S) (new : Connection O I) : Type 0 where
  pub count : k ≤ min n (length pipe.bytes)
  pub mid : Connection O I
  pub does : Feeds w s old (take k pipe.bytes) now t mid
  pub short : k < min n (length pipe.bytes) → is_open w t mid.outbox ≡ false
  pub hears : Hears (is_over (taken_from pipe k)) mid new

-- Holds if the side fails with this error at the first n bytes of its pipe, or at all its bytes if there are fewer.
abbrev pub BreaksAt : {S O I : Type 0} → Ways S O I → S → Connection O I → Pipe → ℕ → ℕ → Error → S → Connection O I → Type 0
BreaksAt w s old pipe now n told t new = Breaks w s old (take (min n (length pipe.bytes)) pipe.bytes) now told t new

-- the error with which the event `Fail` fails a side
abbrev pub failed_by_hand : Error
failed_by_hand = Socket (codes "failed")

-- ---- the events, each with its reply

module _ {CO CI SO SI : Type 0} (c : Halves CO CI) (s : Halves SO SI) (seals : Bool) where
  -- Holds if nothing but the client changed.
  abbrev pub OnlyClient : Net CO CI SO SI → Net CO CI SO SI → Type 0
  OnlyClient old new = new ≡ with_client old new.client

  -- Holds if nothing but the server changed.
  abbrev pub OnlyServer : Net CO CI SO SI → Net CO CI SO SI → Type 0
  OnlyServer old new = new ≡ with_server old new.server

  -- Holds if the client forgot this call, and nothing else changed.
  pub record Forgot (old : Net CO CI SO SI) (id : ℕ) (new : Net CO CI SO SI) : Type 0 where
    pub does : Forgets seals old.client id new.client
    pub only : new ≡ with_client old new.client

  -- Holds if the server answered a job with its handler's result. A handler's error ends the job, and under sync rules the
  -- connection fails.
  abbrev pub AnswersBy : ServerCore SO SI → ℕ → Result Response Error → ServerCore SO SI → Type 0
  AnswersBy old id (Ok response) new = IsResponse response × Answers s.out old id response new
  AnswersBy old id (Err error) new = AnswersError s.out old.state.rules old id error new

  -- Holds if a job may not be answered: it wasn't taken, is over, or has its response already.
  abbrev pub AwaitsNone : Net CO CI SO SI → ℕ → Type 0
  AwaitsNone w id = IsUnknown w.server.state.jobs.list id ⊎ (has_response w id ≡ true)

  -- Holds if a job may be answered: it was taken, isn't over, and has no response yet.
  pub record Awaits (w : Net CO CI SO SI) (id : ℕ) : Type 0 where
    pub job : ActiveJob
    pub at : IsTaken w.server.state.jobs.list id job
    pub none_yet : has_response w id ≡ false

  -- Holds if a server with sync rules queued a response for a job that may be answered. The job goes on.
  pub record RespondsTo (old : Net CO CI SO SI) (id : ℕ) (response : Response) (new : Net CO CI SO SI) : Type 0 where
    pub is_response : IsResponse response
    pub rules : old.server.state.rules ≡ Sync
    pub awaits : Awaits old id
    pub does : QueuesResponse s.out old.server awaits.job.header.stream_id response new.server
    pub only : new ≡ record (with_server old new.server) { responded = old.responded ++ id ∷ [] }

  -- Holds if a server with sync rules refused, with this error, a response for a job that may be answered.
  pub record RefusesRespond (old : Net CO CI SO SI) (id : ℕ) (response : Response) (told : Error) : Type 0 where
    pub rules : old.server.state.rules ≡ Sync
    pub awaits : Awaits old id
    pub does : RefusesResponse s.out old.server awaits.job.header.stream_id response told

  -- Holds if the response in the end of a stream's job, if there is one, is a value of its type.
  abbrev pub IsEnd : Result (Option Response) Error → Type 0
  IsEnd (Ok (Some response)) = IsResponse response
  IsEnd end = Unit {0}

  -- Holds if this moment came for both sides. The moment isn't before the last one.
  pub record Ticked (old : Net CO CI SO SI) (now : ℕ) (new : Net CO CI SO SI) : Type 0 where
    pub later : old.moment ≤ now
    pub does : Passes seals old.client.connection.failure old.client now new.client
    pub serves : server.Passes s.out old.server.state.rules old.server.connection.failure old.server now new.server
    pub only : new ≡ record (with_server (with_client old new.client) new.server) { moment = now }

  -- Holds if the client lent k bytes, of at most n, and they moved into the pipe to the server and were reported as written.
  pub record CarriesUp (old : Net CO CI SO SI) (n k : ℕ) (new : Net CO CI SO SI) : Type 0 where
    pub count : k ≡ lent_of old.client.connection.failure n old.client.connection.outbox.queue
    pub only : new ≡ record (with_client old (record old.client { connection = after_carry old.client.connection k })) { up = pipe_after_carry old.up k old.client.connection.outbox.queue }

  -- Holds if the server lent k bytes, of at most n, and they moved into the pipe to the client and were reported as written.
  pub record CarriesDown (old : Net CO CI SO SI) (n k : ℕ) (new : Net CO CI SO SI) : Type 0 where
    pub count : k ≡ lent_of old.server.connection.failure n old.server.connection.outbox.queue
    pub only : new ≡ record (with_server old (record old.server { connection = after_carry old.server.connection k })) { down = pipe_after_carry old.down k old.server.connection.outbox.queue }

  -- Holds if k bytes, of at most n, were delivered to the server at the last moment.
  pub record DeliversUp (old : Net CO CI SO SI) (n k : ℕ) (new : Net CO CI SO SI) : Type 0 where
    pub does : Delivers (serving s.out s.in_) old.server.state old.server.connection old.up old.moment n k new.server.state new.server.connection
    pub only : new ≡ record (with_server old new.server) { up = taken_from old.up k }

  -- Holds if nothing was delivered, since the server hasn't failed and isn't open. If the pipe is over, the server's input ends.
  pub record StaysUp (old : Net CO CI SO SI) (k : ℕ) (new : Net CO CI SO SI) : Type 0 where
    pub alive : old.server.connection.failure ≡ None
    pub shut : is_open (serving s.out s.in_) old.server.state old.server.connection.outbox ≡ false
    pub none : k ≡ 0
    pub hears : Hears (is_over old.up) old.server.connection new.server.connection
    pub only : new ≡ with_server old (record old.server { connection = new.server.connection })

  -- Holds if k bytes, of at most n, were delivered to the client. The client's input has no moment: the definition gives 0.
  pub record DeliversDown (old : Net CO CI SO SI) (n k : ℕ) (new : Net CO CI SO SI) : Type 0 where
    pub does : Delivers (calling c.out c.in_) old.client.state old.client.connection old.down 0 n k new.client.state new.client.connection
    pub only : new ≡ record (with_client old new.client) { down = taken_from old.down k }

  -- Holds if the server refused bytes with this error: it fails at them, or it had failed before.
  abbrev pub RefusesUp : Net CO CI SO SI → ℕ → Error → Net CO CI SO SI → Type 0
  RefusesUp old n told new =
      (BreaksAt (serving s.out s.in_) old.server.state old.server.connection old.up old.moment n told new.server.state new.server.connection × OnlyServer old new)
      ⊎ (IsFailed old.server.connection.failure told × (new ≡ old))

  -- Holds if the client refused bytes with this error: it fails at them, or it had failed before.
  abbrev pub RefusesDown : Net CO CI SO SI → ℕ → Error → Net CO CI SO SI → Type 0
  RefusesDown old n told new =
      (BreaksAt (calling c.out c.in_) old.client.state old.client.connection old.down 0 n told new.client.state new.client.connection × OnlyClient old new)
      ⊎ (IsFailed old.client.connection.failure told × (new ≡ old))

  -- Holds if the pipe to the server was cut. If nothing is left to deliver, the server's input ends at once.
  pub record CutsUp (old : Net CO CI SO SI) (keep : ℕ) (new : Net CO CI SO SI) : Type 0 where
    pub connection : Connection SO SI
    pub hears : Hears (is_over (cut_to old.up keep)) old.server.connection connection
    pub only : new ≡ record (with_server old (record old.server { connection = connection })) { up = cut_to old.up keep }

  -- Holds if the pipe to the client was cut. If nothing is left to deliver, the client's input ends at once.
  pub record CutsDown (old : Net CO CI SO SI) (keep : ℕ) (new : Net CO CI SO SI) : Type 0 where
    pub connection : Connection CO CI
    pub hears : Hears (is_over (cut_to old.down keep)) old.client.connection connection
    pub only : new ≡ record (with_client old (record old.client { connection = connection })) { down = cut_to old.down keep }

  -- ---- conditions on the server: it hasn't failed, it has these rules, and it has a job

  -- Holds if the server hasn't failed and has these rules.
  abbrev pub LivesBy : Rules → Net CO CI SO SI → Type 0
  LivesBy rules w = (w.server.connection.failure ≡ None) × (w.server.state.rules ≡ rules)

  -- Holds if the server hasn't failed, and if it has these rules or P holds.
  abbrev pub LivesOr : Rules → Type 0 → Net CO CI SO SI → Type 0
  LivesOr rules P w = (w.server.connection.failure ≡ None) × ((w.server.state.rules ≡ rules) ⊎ P)

  -- Holds if a job of this id was taken and isn't over.
  abbrev pub HasTaken : Net CO CI SO SI → ℕ → Type 0
  HasTaken w id = (job : ActiveJob) × IsTaken w.server.state.jobs.list id job

  -- ONE STEP. Holds if the event may have this reply and may change the old pair into the new one. No other reply can occur. The
  -- reply `NoMemory` says that nothing changed and that memory was needed: to remember a response, to carry bytes, or to fail a side
  -- that hadn't failed.
  abbrev pub Steps : Net CO CI SO SI → Event → Reply → Net CO CI SO SI → Type 0
  Steps old (Call request) (Named id) new = IsRequest request × Requests c.out old.client request old.moment id new.client × OnlyClient old new × (id % 2 ≡ 1)
  Steps old (Call request) (Refused told) new = RefusesRequest c.out old.client request told × (new ≡ old)
  Steps old (Outcome id) (Given outcome) new = TakesOutcome old.client id outcome new.client × OnlyClient old new
  Steps old (DropCall id) Done new = Forgot old id new
  -- the client's streams
  Steps old (Open request up down) (Named id) new = IsRequest request × OpensStream c.out old.client request up down id new.client × OnlyClient old new × (id % 2 ≡ 1)
  Steps old (Open request up down) (Refused told) new = RefusesStream c.out old.client request up told × (new ≡ old)
  Steps old (Recv (end.Client id)) (Item given) new = streaming.ReceivesOne old.client id given new.client × OnlyClient old new
  Steps old (Send (end.Client id) bytes) (Ticket ticket) new = SendsOn c.out old.client id 0 bytes sender.Open ticket new.client × OnlyClient old new
  Steps old (Send (end.Client id) bytes) (Refused told) new = RefusesSending c.out old.client id 0 bytes told × (new ≡ old)
  Steps old (Close id) (Ticket ticket) new = SendsOn c.out old.client id close_flags [] sender.Closed ticket new.client × OnlyClient old new
  Steps old (Close id) (Refused told) new = RefusesSending c.out old.client id close_flags [] told × (new ≡ old)
  Steps old (DropReceiver (end.Client id)) Done new = DropsReceiver old.client id new.client × OnlyClient old new
  Steps old (DropSender id) Done new = DropsSender old.client id new.client × OnlyClient old new
  -- the server's jobs
  Steps old Take (Handed (Some job)) new = Hands old.server job new.server × OnlyServer old new
  Steps old Take (Handed None) new = (old.server.connection.failure ≡ None → NoneWaits old.server.state.jobs.list) × (new ≡ old)
  Steps old (Answer id result) Done new = AnswersBy old.server id result new.server × OnlyServer old new × (has_response old id ≡ false)
  Steps old (Answer id result) (Refused told) new = RefusesAnswer s.out old.server id result told × (old.server.connection.failure ≡ None → Awaits old id) × (new ≡ old)
  Steps old (Answer id result) NoStep new = (old.server.connection.failure ≡ None) × AwaitsNone old id × (new ≡ old)
  Steps old (Respond id response) Done new = RespondsTo old id response new
  Steps old (Respond id response) (Refused told) new = (IsFailed old.server.connection.failure told ⊎ RefusesRespond old id response told) × (new ≡ old)
  Steps old (Respond id response) NoMemory new = LivesBy Sync old × Awaits old id × (new ≡ old)
  Steps old (Respond id response) NoStep new = LivesOr Async (AwaitsNone old id) old × (new ≡ old)
  Steps old (Finish id) Done new = Finishes old.server id new.server × OnlyServer old new × (old.server.state.rules ≡ Sync)
  Steps old (Finish id) (Refused told) new = IsFailed old.server.connection.failure told × (new ≡ old)
  Steps old (Finish id) NoStep new = LivesOr Async (IsUnknown old.server.state.jobs.list id) old × (new ≡ old)
  Steps old Drain Done new = new ≡ with_server old (drained old.server)
  -- the server's streams
  Steps old (Recv (end.Server id)) (Item given) new = streams.ReceivesOne old.server id given new.server × OnlyServer old new × (old.server.state.rules ≡ Async)
  Steps old (Recv (end.Server id)) NoStep new = (old.server.state.rules ≡ Sync) × (new ≡ old)
  Steps old (Send (end.Server id) bytes) (Ticket ticket) new = SendsItem s.out old.server id bytes ticket new.server × OnlyServer old new
  Steps old (Send (end.Server id) bytes) (Refused told) new = RefusesItem s.out old.server id bytes told × (old.server.connection.failure ≡ None → old.server.state.rules ≡ Async) × (new ≡ old)
  Steps old (Send (end.Server id) bytes) NoStep new = LivesBy Sync old × (new ≡ old)
  Steps old (DropReceiver (end.Server id)) Done new = (old.server.state.rules ≡ Async) × (new ≡ with_server old (unheard old.server id))
  Steps old (DropReceiver (end.Server id)) NoStep new = (old.server.state.rules ≡ Sync) × (new ≡ old)
  Steps old (EndStream id result) Done new = EndsStream s.out old.server id result new.server × OnlyServer old new × IsEnd result
  Steps old (EndStream id result) (Refused told) new = RefusesEnd s.out old.server id result told × (old.server.connection.failure ≡ None → (old.server.state.rules ≡ Async) × HasTaken old id) × (new ≡ old)
  Steps old (EndStream id result) NoStep new = LivesOr Sync (IsUnknown old.server.state.jobs.list id) old × (new ≡ old)
  -- both sides, and the pipes
  Steps old (Tick now) Done new = Ticked old now new
  Steps old (Tick now) NoStep new = (now < old.moment) × (new ≡ old)
  Steps old (Carry side.Client n) (Count k) new = CarriesUp old n k new
  Steps old (Carry side.Client n) NoMemory new = HasToLend old.client.connection n × (new ≡ old)
  Steps old (Carry side.Server n) (Count k) new = CarriesDown old n k new
  Steps old (Carry side.Server n) NoMemory new = HasToLend old.server.connection n × (new ≡ old)
  Steps old (Deliver side.Server n) (Count k) new = DeliversUp old n k new ⊎ StaysUp old k new
  Steps old (Deliver side.Server n) (Refused told) new = RefusesUp old n told new
  Steps old (Deliver side.Client n) (Count k) new = DeliversDown old n k new
  Steps old (Deliver side.Client n) (Refused told) new = RefusesDown old n told new
  Steps old (Cut side.Server keep) Done new = CutsUp old keep new
  Steps old (Cut side.Client keep) Done new = CutsDown old keep new
  Steps old (Fail side.Client) Done new = new ≡ with_client old (record old.client { connection = failing old.client.connection (Told failed_by_hand) })
  Steps old (Fail side.Server) Done new = new ≡ with_server old (record old.server { connection = failing old.server.connection (Told failed_by_hand) })
  Steps old (Fail side.Client) NoMemory new = (old.client.connection.failure ≡ None) × (new ≡ old)
  Steps old (Fail side.Server) NoMemory new = (old.server.connection.failure ≡ None) × (new ≡ old)
  Steps old event reply new = ⊥

  -- A RUN. Holds if the entries, in order, are steps that change the old pair into the new one. Each entry is one step.
  abbrev pub Runs : Net CO CI SO SI → List Entry → Net CO CI SO SI → Type 0
  Runs old [] new = new ≡ old
  Runs old (e ∷ es) new = (mid : Net CO CI SO SI) × Steps old e.event e.reply mid × Runs mid es new
