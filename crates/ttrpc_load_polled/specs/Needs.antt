-- The sources that the exchanges of one event loop wait for.
-- Source: this project's.
use Rattle.std.specs.Prelude.{◌≡◌, ℕ, Option, Some, None}
use Rattle.std.specs.Arc.{arc_value}
use Rattle.ttrpc_polled_client.specs.declared.request.ClientRequest.{ClientRequest}
use Rattle.ttrpc_polled_client.specs.Needs.{line_source, service_opening_needs}
use Rattle.ttrpc_polled.specs.Streams.Needs.{receiver_source, sender_source}
use Rattle.ttrpc_load_polled.specs.declared.counts.CountAt.{CountAt}
use Rattle.ttrpc_load_polled.specs.declared.counts.CountAt.TheVariants.{Opens as OpensCount, Receives as ReceivesItem, Done as IsCounted}
use Rattle.ttrpc_load_polled.specs.declared.exchanges.Exchanges.{Exchanges}
use Rattle.ttrpc_load_polled.specs.declared.exchanges.Exchanges.TheVariants.{Calls as OfCalls, Talks as OfTalks, Counts as OfCounts}
use Rattle.ttrpc_load_polled.specs.declared.talks.TalkAt.{TalkAt}
use Rattle.ttrpc_load_polled.specs.declared.talks.TalkAt.TheVariants.{Opens, Sends, Receives, Done}

-- a caller waits for the response to its call
abbrev pub CallNeeds : {O I : Type 0} → Option (ClientRequest O I) → ℕ → Type 0
CallNeeds (Some call) s = s ≡ line_source (arc_value call.line)
CallNeeds None s = ⊥

-- a talk waits for room for its request, until an item is sent, or for an item
abbrev pub TalkNeeds : {R : Type 0} → TalkAt R → ℕ → Type 0
TalkNeeds (Opens opening) s = service_opening_needs opening.at s
TalkNeeds (Sends halves sending) s = s ≡ sender_source line_source halves.tx.tx
TalkNeeds (Receives halves) s = s ≡ receiver_source line_source halves.rx.rx
TalkNeeds Done s = ⊥

-- a count waits for room for its request, or for an item
abbrev pub CountNeeds : {R : Type 0} → CountAt R → ℕ → Type 0
CountNeeds (OpensCount opening) s = service_opening_needs opening.at s
CountNeeds (ReceivesItem stream) s = s ≡ receiver_source line_source stream.rx.rx
CountNeeds IsCounted s = ⊥

-- exchanges wait for the same, by their kind
abbrev pub ExchangesNeed : {R : Type 0} → Exchanges R → ℕ → Type 0
ExchangesNeed (OfCalls calls) = CallNeeds calls.call
ExchangesNeed (OfTalks talks) = TalkNeeds talks.at
ExchangesNeed (OfCounts counts) = CountNeeds counts.at
