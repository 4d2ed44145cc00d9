-- Why a piece isn't served to its end.
use Rattle.std.proofs.Common.{◌≡◌, inl, inr, ℕ, ◌+◌, ◌<◌, ◌≤◌, ◌^◌, nat_le, List, [], ◌∷◌, ◌++◌, length, take, true, false, not, Option, Some, None, Result, Ok, Err, arith, refl, sym, ap, subst, ◌∙◌, length-append}
use Rattle.std.proofs.lemmas.Bool.{and_parts, cases_Bool, le-leb, leb-true}
use Rattle.std.specs.List.{AllByRecursion}
use Rattle.ttrpc_proto.specs.declared.error.Error.{Error}
use Rattle.ttrpc_proto.specs.declared.error.Error.TheVariants.{NoMemory}
use Rattle.ttrpc_proto.specs.declared.framing.header.MessageHeader.{MessageHeader}
use Rattle.ttrpc_proto.specs.declared.framing.header.TheConstants.{MESSAGE_HEADER_LENGTH, MESSAGE_LENGTH_MAX}
use Rattle.ttrpc_proto.specs.declared.messages.Response.{Response}
use Rattle.ttrpc_proto.specs.declared.framing.frame.Incoming.{Incoming}
use Rattle.ttrpc_proto.specs.Framing.Frames.{Held, Fed, given}
use Rattle.ttrpc_proto.specs.Framing.Queue.{free, unsent}
use Rattle.ttrpc_secure.specs.declared.plain.Plain.{Plain}
use Rattle.ttrpc_connection.specs.declared.connection.Connection.{Connection}
use Rattle.ttrpc_connection.specs.Feeds.{Acts, ActsAll, Breaks, IsWhy, Scene, arrived, is_open, scene}
use Rattle.ttrpc_connection.specs.OneEnd.{TakesFrontOrDrains}
use Rattle.ttrpc_connection.specs.Outbox.{Outbox}
use Rattle.ttrpc_connection.specs.declared.failure.Failure.{Failure}
use Rattle.ttrpc_connection.specs.Failure.{error_of}
use Rattle.ttrpc_connection.specs.Frames.{Sent, SendsAll, header_of_frame}
use Rattle.ttrpc_connection.proofs.Feeding.{fed_twice}
use Rattle.ttrpc_connection.proofs.Holding.{fed_some}
use Rattle.ttrpc_server.specs.declared.job.ActiveJob.{ActiveJob}
use Rattle.ttrpc_server.specs.declared.job.Job.{Job}
use Rattle.ttrpc_server.specs.declared.server.ServerCore.{ServerCore}
use Rattle.ttrpc_server.specs.Protocol.{Does, Hands, serving, IsUnsent, LacksRoom, RefusesAnswer, row_of, seen_by}
use Rattle.ttrpc_server.specs.Table.{Row, Ignore, SendResponse, SendCode, MakeJob, MakeStream, PutIn, sync_row}
use Rattle.ttrpc_server.proofs.Streams.{is_of_streams, no_streams}
use Rattle.ttrpc_server.specs.declared.rules.Rules.{Rules}
use Rattle.ttrpc_server.specs.declared.rules.Rules.TheVariants.{Sync}
use Rattle.ttrpc_server.specs.State.{IsNoUnary, IsUnknown, Server, takes_on}
use Rattle.ttrpc_echo.specs.Echo.{echo_services, plainly}
use Rattle.ttrpc_echo.specs.Serving.{plain_in, plain_out, Echoes, IsReady, IsStop, MayAnswer, Serves, UsesUp}
use Rattle.ttrpc_echo.proofs.Limits.{fitted_fits}
use Rattle.ttrpc_echo.proofs.Echoing.{fed_rules, no_job, no_more, one_front, row_acts, serves_nothing, some_is_not_none}
use Rattle.ttrpc_proto.proofs.Queues.{all_free, none_unsent}

-- ---- a frame makes one job at most

same_last : (old new : Server) → new ≡ old → new.jobs.last ≤ old.jobs.last + 1
same_last old new same = omega (arith, ap (λ (s : Server). s.jobs.last) same)

does_count : (row : Row) (old : Server) (o : Plain) (header : MessageHeader) (now : ℕ) (sent : List Sent) (new : Server) → Does plain_out row old o header now sent new → new.jobs.last ≤ old.jobs.last + 1
does_count Ignore old o header now sent new does = same_last old new does.0
does_count (SendResponse r) old o header now sent new does = same_last old new does.0
does_count (SendCode code) old o header now sent new does = same_last old new does.0
does_count (MakeJob request) old o header now sent new does = omega (arith, ap (λ (s : Server). s.jobs.last) does.0)
does_count (MakeStream request) old o header now sent new does = omega (arith, ap (λ (s : Server). s.jobs.last) does.0)
does_count (PutIn payload) old o header now sent new does = omega (arith, ap (λ (s : Server). s.jobs.last) does.0)

acts_count : (now : ℕ) (fs : List Incoming) (old new : Scene Server Plain Plain) → ActsAll (serving plain_out plain_in) now old fs new → new.state.jobs.last ≤ old.state.jobs.last + length fs
acts_count now [] old new acts = omega (arith, ap (λ (c : Scene Server Plain Plain). c.state.jobs.last) acts)
acts_count now (f ∷ fs) old new acts =
    let one = acts.1 in
    let count = does_count (row_of old.state (arrived f one.opening now)) (seen_by old.state (arrived f one.opening now)) old.outbox.half (header_of_frame f) now one.sent acts.0.state one.reacts in
    omega (arith, count, acts_count now fs acts.0 new acts.2)

-- one that is ready takes what comes
takes_so : {s : ServerCore Plain Plain} → IsReady s → takes_on s.state ≡ true
takes_so ready = ap not ready.takes

-- ---- feeding breaks

-- a front of the piece has so many frames, and so has the piece
uses_up : (old : ServerCore Plain Plain) (taken rest : List ℕ) (frames : List Incoming) (held : Held) → Fed old.connection.decoder taken frames held
    → 2 ^ 64 ≤ old.state.jobs.last + length frames → UsesUp old (taken ++ rest)
uses_up old taken rest frames held fed many = λ before holds.
    let at = fed before holds in
    let more = fed_some held at.0 rest at.2 in (
      frames ++ more.0,
      more.1,
      fed_twice old.connection.decoder held more.1 taken rest frames more.0 fed more.2,
      omega (arith, many, length-append frames more.0),
    )

breaks_at : (now : ℕ) (old : ServerCore Plain Plain) (taken rest : List ℕ) (frames : List Incoming) (last : Option Incoming) (held : Held) (mid : Scene Server Plain Plain) (why : Failure) (inbound : Plain)
    → Fed old.connection.decoder taken (frames ++ given last) held → ActsAll (serving plain_out plain_in) now (scene old.state old.connection) frames mid → IsWhy (serving plain_out plain_in) now mid last why inbound
    → IsStop old (taken ++ rest) (error_of why)
breaks_at now old taken rest frames None held mid why inbound fed acts is = inl (ap error_of is.0)
breaks_at now old taken rest frames (Some f) held mid why inbound fed acts (inl memory) = inl (ap error_of memory.0)
breaks_at now old taken rest frames (Some f) held mid why inbound fed acts (inr (opening, opens, inl memory)) = inl (ap error_of memory)
breaks_at now old taken rest frames (Some f) held mid why inbound fed acts (inr (opening, opens, inr no_id)) =
    inr (
      ap error_of no_id.failure_is,
      uses_up old taken rest (frames ++ f ∷ []) held fed (omega (arith, no_id.last, acts_count now frames (scene old.state old.connection) mid acts, length-append frames (f ∷ []))),
    )

pub breaks_stop : (now : ℕ) (old new : ServerCore Plain Plain) (piece : List ℕ) (told : Error)
    → Breaks (serving plain_out plain_in) old.state old.connection piece now told new.state new.connection → IsStop old piece told
breaks_stop now old new piece told breaks = elim breaks.is_told [
  | inl same ↦
      rw (breaks.piece_is, same)
      (breaks_at now old breaks.taken breaks.rest breaks.frames breaks.last new.connection.decoder breaks.mid breaks.failure new.connection.inbound breaks.fed breaks.acts breaks.why)
  | inr memory ↦ inl memory
]

-- a front was served, and the rest stops
pub stops_later : (old now : ServerCore Plain Plain) (front rest piece : List ℕ) (e : Error) → piece ≡ front ++ rest → Serves old front now → IsStop now rest e → IsStop old piece e
stops_later old now front rest piece e is serves (inl memory) = inl memory
stops_later old now front rest piece e is serves (inr used) = inr (
  used.0,
  λ before holds.
      let at = serves.fed before holds in
      let more = used.1 at.0 at.2 in (
        serves.frames ++ more.0,
        more.1,
        rw is (fed_twice old.connection.decoder now.connection.decoder more.1 front rest serves.frames more.0 serves.fed more.2),
        omega (arith, more.3, serves.jobs, length-append serves.frames more.0),
      ),
)

-- ---- the echo is refused

at_middle : {X : Type 0} (P : X → Type 0) (front back : List X) (x : X) → AllByRecursion P (front ++ x ∷ back) → P x
at_middle P [] back x all = all.0
at_middle P (y ∷ front) back x all = at_middle P front back x all.1

-- the job that was handed out is known
handed_is_known : (old mid : ServerCore Plain Plain) (job : Job) → Hands old job mid → IsUnknown mid.state.jobs.list job.id → ⊥
handed_is_known old mid job hands unknown =
    let one = hands.hands in
    let taken : ActiveJob = record one.job { request = None } in
    at_middle (λ (j : ActiveJob). j.id ≡ job.id → j.request ≡ None → ⊥) one.front one.back taken
    (subst (λ (js : List ActiveJob). IsUnknown js job.id) one.jobs unknown) (sym one.id) refl

-- a response that was fitted has room where there is room for the longest
has_room : (r : Response) (outbox : Outbox Plain) → MESSAGE_HEADER_LENGTH + MESSAGE_LENGTH_MAX ≤ free outbox.queue → LacksRoom Sync plain_out outbox r → ⊥
has_room r outbox room lacks = omega (arith, room, lacks.1, fitted_fits r)

unsent_is_memory : (outbox : Outbox Plain) (k : ℕ) (r : Response) (told : Error) → MESSAGE_HEADER_LENGTH + MESSAGE_LENGTH_MAX ≤ free outbox.queue → IsUnsent Sync plain_out outbox k r told → told ≡ NoMemory
unsent_is_memory outbox k r told room (inl above) = absurd (omega (arith, fitted_fits r, above.0))
unsent_is_memory outbox k r told room (inr (inl lacks)) = absurd (has_room r outbox room lacks.0)
unsent_is_memory outbox k r told room (inr (inr (inl unsealed))) = absurd unsealed.1.1.refuses
unsent_is_memory outbox k r told room (inr (inr (inr memory))) = memory

-- where a job was handed out there is room for its answer
room_for : (old mid : ServerCore Plain Plain) (job : Job) → MayAnswer old → Hands old job mid → MESSAGE_HEADER_LENGTH + MESSAGE_LENGTH_MAX ≤ free mid.connection.outbox.queue
room_for old mid job (inl none) hands = absurd (no_more hands.hands.front hands.hands.back hands.hands.job (sym none ∙ hands.hands.was))
room_for old mid job (inr room) hands = omega (arith, room, ap (λ (c : ServerCore Plain Plain). free c.connection.outbox.queue) hands.same)

-- the echo of a job that was just handed out is refused for want of memory alone
pub refused_is_memory : (old mid : ServerCore Plain Plain) (job : Job) (response : Result Response Error) (told : Error) → old.state.rules ≡ Sync → MayAnswer old → Hands old job mid
    → RefusesAnswer plain_out mid job.id response told → told ≡ NoMemory
refused_is_memory old mid job response told sync may hands (inl failed) =
    let alive : mid.connection.failure ≡ None = ap (λ (c : ServerCore Plain Plain). c.connection.failure) hands.same ∙ hands.alive in
    absurd (some_is_not_none failed.why (sym failed.is ∙ alive))
refused_is_memory old mid job response told sync may hands (inr (inl gone)) =
    let rules : mid.state.rules ≡ Sync = ap (λ (c : ServerCore Plain Plain). c.state.rules) hands.same ∙ sync in
    absurd (handed_is_known old mid job hands (subst (λ r. IsNoUnary r mid.state.jobs.list job.id) rules gone.unknown))
refused_is_memory old mid job response told sync may hands (inr (inr unsent)) =
    let rules : mid.state.rules ≡ Sync = ap (λ (c : ServerCore Plain Plain). c.state.rules) hands.same ∙ sync in
    unsent_is_memory mid.connection.outbox unsent.job.header.stream_id unsent.answer told (room_for old mid job may hands)
    (subst (λ r. IsUnsent r plain_out mid.connection.outbox unsent.job.header.stream_id unsent.answer told) rules unsent.unsent)

-- ---- a front is fed to a core that may be short of room

-- one of which nothing is unsent is open
pub ready_is_open : (s : ServerCore Plain Plain) → IsReady s → unsent s.connection.outbox.queue ≡ [] → is_open (serving plain_out plain_in) s.state s.connection.outbox ≡ true
ready_is_open s ready none =
    let room : nat_le (MESSAGE_HEADER_LENGTH + MESSAGE_LENGTH_MAX) (free s.connection.outbox.queue) ≡ true = le-leb _ _ (omega (arith, all_free s.connection.outbox.queue ready.queue (none_unsent s.connection.outbox.queue ready.queue none))) in
    rw (takes_so ready) room

-- a frame leaves no job that waits, or nothing more to write
row_may_answer : (now : ℕ) (row : Row) (f : Incoming) (old mid : ServerCore Plain Plain) (sent : List Sent) → IsReady old → row ≡ sync_row echo_services (header_of_frame f) (plainly f)
    → Does plain_out row old.state old.connection.outbox.half (header_of_frame f) now sent mid.state → SendsAll plain_out old.connection.outbox sent mid.connection.outbox
    → MESSAGE_HEADER_LENGTH + MESSAGE_LENGTH_MAX ≤ free old.connection.outbox.queue → MayAnswer mid
row_may_answer now Ignore f old mid sent ready is does sends room = inl (ap (λ (s : Server). s.jobs.list) does.0 ∙ ready.jobs)
row_may_answer now (SendResponse r) f old mid sent ready is does sends room = inl (ap (λ (s : Server). s.jobs.list) does.0 ∙ ready.jobs)
row_may_answer now (SendCode code) f old mid sent ready is does sends room = inl (ap (λ (s : Server). s.jobs.list) does.0 ∙ ready.jobs)
row_may_answer now (MakeJob request) f old mid sent ready is does sends room =
    let quiet : mid.connection.outbox ≡ old.connection.outbox = subst (λ (xs : List Sent). SendsAll plain_out old.connection.outbox xs mid.connection.outbox) does.1 sends in
    inr (omega (arith, room, ap (λ (o : Outbox Plain). free o.queue) quiet))
row_may_answer now (MakeStream request) f old mid sent ready is does sends room = absurd (let none : true ≡ false = ap is_of_streams is ∙ no_streams echo_services (header_of_frame f) (plainly f) in cc)
row_may_answer now (PutIn payload) f old mid sent ready is does sends room = absurd (let none : true ≡ false = ap is_of_streams is ∙ no_streams echo_services (header_of_frame f) (plainly f) in cc)

same_core : (a b : ServerCore Plain Plain) → a.state ≡ b.state → a.connection ≡ b.connection → a ≡ b
same_core a b state connection = ap (λ s. record { state = s; connection = a.connection }) state ∙ ap (λ c. record { state = b.state; connection = c }) connection

-- what the echo of the job after a front needs
pub record MayGoOn (s : ServerCore Plain Plain) : Type 0 where
  pub alive : s.connection.failure ≡ None
  pub rules : s.state.rules ≡ Sync
  pub room : MayAnswer s

acts_may : (now : ℕ) (o : Option Incoming) (old mid : ServerCore Plain Plain) → IsReady old → ActsAll (serving plain_out plain_in) now (scene old.state old.connection) (given o) (scene mid.state mid.connection)
    → is_open (serving plain_out plain_in) old.state old.connection.outbox ≡ true → MayAnswer mid
acts_may now None old mid ready acts was_open = inl (ap (λ (c : Scene Server Plain Plain). c.state.jobs.list) acts ∙ ready.jobs)
acts_may now (Some f) old mid ready acts was_open =
    let one = subst (λ (c : Scene Server Plain Plain). Acts (serving plain_out plain_in) now (scene old.state old.connection) f c) (sym acts.2) acts.1 in
    let r = row_acts now f old mid ready one in
    row_may_answer now r.0 f old mid one.sent ready r.1 r.2 one.sends (leb-true _ _ (and_parts _ _ was_open).1)

pub front_may : (now n : ℕ) (old mid : ServerCore Plain Plain) (piece : List ℕ) → IsReady old
    → TakesFrontOrDrains (serving plain_out plain_in) old.state old.connection piece now (Ok n) mid.state mid.connection → MayGoOn mid
front_may now n old mid piece ready fed = elim (cases_Bool (is_open (serving plain_out plain_in) old.state old.connection.outbox)) [
  | inl was_open ↦
      let t = (fed.takes was_open).ok in
      record { alive = t.still; rules = fed_rules now t.frame old mid t.acts ∙ ready.rules; room = acts_may now t.frame old mid ready t.acts was_open }
  | inr shut ↦
      let same = (fed.drains shut).same in
      record {
        alive = ap (λ (c : Connection Plain Plain). c.failure) same.1 ∙ ready.alive;
        rules = ap (λ (s : Server). s.rules) same.0 ∙ ready.rules;
        room = inl (ap (λ (s : Server). s.jobs.list) same.0 ∙ ready.jobs);
      }
]

-- a front, or none of it, was fed, and the job that it made is echoed
pub front_serves : (now n : ℕ) (old mid new : ServerCore Plain Plain) (piece : List ℕ) → IsReady old
    → TakesFrontOrDrains (serving plain_out plain_in) old.state old.connection piece now (Ok n) mid.state mid.connection → Echoes mid new → Serves old (take n piece) new × IsReady new
front_serves now n old mid new piece ready fed echoes = elim (cases_Bool (is_open (serving plain_out plain_in) old.state old.connection.outbox)) [
  | inl was_open ↦ let t = (fed.takes was_open).ok in one_front now t.frame old mid new (take n piece) ready t.still t.fed t.acts echoes
  | inr shut ↦
      let d = fed.drains shut in
      let as_before : mid ≡ old = same_core mid old d.same.0 d.same.1 in
      let same : new ≡ old = no_job mid new (ap (λ (s : Server). s.jobs.list) d.same.0 ∙ ready.jobs) echoes ∙ as_before in
      (rw (same, d.ok.0) (serves_nothing old), rw same ready)
]

pub front_count : (now n : ℕ) (old mid : ServerCore Plain Plain) (piece : List ℕ) → TakesFrontOrDrains (serving plain_out plain_in) old.state old.connection piece now (Ok n) mid.state mid.connection → n ≤ length piece
front_count now n old mid piece fed = elim (cases_Bool (is_open (serving plain_out plain_in) old.state old.connection.outbox)) [
  | inl was_open ↦ (fed.takes was_open).count.0
  | inr shut ↦ let none = (fed.drains shut).ok.0 in omega (arith, none)
]

pub front_some : (now n : ℕ) (old mid : ServerCore Plain Plain) (piece : List ℕ) → IsReady old → unsent old.connection.outbox.queue ≡ []
    → TakesFrontOrDrains (serving plain_out plain_in) old.state old.connection piece now (Ok n) mid.state mid.connection → 0 < length piece → 0 < n
front_some now n old mid piece ready none fed some = (fed.takes (ready_is_open old ready none)).count.1 some

pub front_stops : (now : ℕ) (old new : ServerCore Plain Plain) (piece : List ℕ) (e : Error) → IsReady old
    → TakesFrontOrDrains (serving plain_out plain_in) old.state old.connection piece now (Err e) new.state new.connection → IsStop old piece e
front_stops now old new piece e ready fed = elim (cases_Bool (is_open (serving plain_out plain_in) old.state old.connection.outbox)) [
  | inl was_open ↦ breaks_stop now old new piece e ((fed.takes was_open).fails ready.alive)
  | inr shut ↦ let failed = (fed.drains shut).failed in absurd (some_is_not_none failed.why (sym failed.is ∙ ready.alive))
]
