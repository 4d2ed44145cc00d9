-- The sources that the streams of the program wait for.
-- Source: this project's.
use Rattle.std.specs.Prelude.{◌≡◌, ⊤, ℕ}
use Rattle.ttrpc_polled.specs.Streams.Needs.{opening_needs, receiver_source, sender_source}
use Rattle.ttrpc_polled.specs.Streams.Handling.{AtCanPoll, AtNeeds}
use Rattle.ttrpc_polled_echo.specs.declared.chat.Chatting.{Chatting}
use Rattle.ttrpc_polled_echo.specs.declared.chat.ChatState.{ChatState}
use Rattle.ttrpc_polled_echo.specs.declared.chat.ChatState.TheVariants.{Receives, Sends, Done}
use Rattle.ttrpc_polled_echo.specs.declared.count.Counted.{Counted}
use Rattle.ttrpc_polled_echo.specs.declared.service.MethodCall.{MethodCall}
use Rattle.ttrpc_polled_echo.specs.declared.service.MethodCall.TheVariants.{Echoes, Waits}
use Rattle.ttrpc_polled_echo.specs.declared.service.StreamCall.{StreamCall}
use Rattle.ttrpc_polled_echo.specs.declared.service.StreamCall.TheVariants.{Chats, Sums, Counts}
use Rattle.ttrpc_polled_echo.specs.declared.count.Counted.TheVariants.{Opens, Sends as SendsOne, Done as IsDone}

module _ {L I : Type 0} (came : L → ℕ) where
  -- a chat waits for an item, or until one is sent
  abbrev pub TurnNeeds : Chatting L I → ChatState → ℕ → Type 0
  TurnNeeds c Receives s = s ≡ receiver_source came c.receiver.rx
  TurnNeeds c (Sends sending) s = s ≡ sender_source came c.sender.tx
  TurnNeeds c Done s = ⊥

  -- the same, by the chat's state
  abbrev pub ChattingNeeds : Chatting L I → ℕ → Type 0
  ChattingNeeds c = TurnNeeds c c.turn

  -- a count waits for its request, or until an item is sent
  abbrev pub CountingNeeds : Counted L I → ℕ → Type 0
  CountingNeeds (Opens opening) s = opening_needs came opening.stream s
  CountingNeeds (SendsOne sender sending left) s = s ≡ sender_source came sender.tx
  CountingNeeds IsDone s = ⊥

-- a method's call may be polled if its future may be
abbrev pub MethodCallCanPoll : MethodCall → Type 0
MethodCallCanPoll (Echoes call) = AtCanPoll (λ _. ⊤) call.at
MethodCallCanPoll (Waits call) = AtCanPoll (λ _. ⊤) call.at

-- a stream's call may be polled if its future may be
abbrev pub StreamCallCanPoll : {L I : Type 0} → StreamCall L I → Type 0
StreamCallCanPoll (Chats call) = AtCanPoll (λ _. ⊤) call.at
StreamCallCanPoll (Sums call) = AtCanPoll (λ _. ⊤) call.at
StreamCallCanPoll (Counts call) = AtCanPoll (λ _. ⊤) call.at

-- a stream's call waits for the sources of its future
abbrev pub StreamCallNeeds : {L I : Type 0} → (L → ℕ) → StreamCall L I → ℕ → Type 0
StreamCallNeeds came (Chats call) = AtNeeds (ChattingNeeds came) call.at
StreamCallNeeds came (Sums call) = AtNeeds (λ f s. s ≡ receiver_source came f.receiver.rx) call.at
StreamCallNeeds came (Counts call) = AtNeeds (λ f. CountingNeeds came f.at) call.at
