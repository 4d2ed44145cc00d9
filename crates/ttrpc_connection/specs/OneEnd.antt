-- The effect of each call of one end of a connection. The contracts of the cores and of their ports, which pass these calls on, use the
-- same definitions.
-- Source: this project's.
use Rattle.std.specs.Prelude.{◌≡◌, ◌≢◌, ◌<◌, ◌≤◌, ◌↔◌, ◌⊎◌, ℕ, List, [], true, false, length, take, drop, min, is_some, if◌then◌else◌, Some, None, Result, IfOk, IfErr}
use Rattle.ttrpc_proto.specs.Framing.Frames.{nothing}
use Rattle.ttrpc_proto.specs.Framing.Queue.{open_part, unsent, with_lent, after_report}
use Rattle.ttrpc_connection.specs.Types.{Error, Connection, Failure, Disconnected, DisconnectedInside}
use Rattle.ttrpc_connection.specs.Failure.{IsTold, error_of, first_failure}
use Rattle.ttrpc_connection.specs.Feeds.{Breaks, Feeds, FeedsFront, IsFailed, Ways, is_open}

-- ---- bytes in

-- Holds if this many bytes of a piece were taken. The number is less than the length only if the core isn't open any more, and 0 only if
-- the piece is empty.
pub record AreTaken {S O I : Type 0} (w : Ways S O I) (piece : List ℕ) (n : ℕ) (t : S) (new : Connection O I) : Type 0 where
  pub count : n ≤ length piece
  pub some : 0 < length piece → 0 < n
  pub short : n < length piece → is_open w t new.outbox ≡ false

-- Holds if a piece was fed at a moment to an open core, with this result. The first bytes of the piece were taken, or the connection failed
-- in it. If the connection had failed already, nothing changes, and the result is that failure.
pub record Takes {S O I : Type 0} (w : Ways S O I) (s : S) (old : Connection O I) (piece : List ℕ) (now : ℕ) (result : Result ℕ Error) (t : S) (new : Connection O I) : Type 0 where
  pub taken : IfOk result (λ n. AreTaken w piece n t new)
  pub ok : IfOk result (λ n. Feeds w s old (take n piece) now t new)
  pub fails : old.failure ≡ None → IfErr result (λ e. Breaks w s old piece now e t new)
  pub failed : (f : Failure) → old.failure ≡ Some f → IfErr result (IsTold (error_of f)) × (t ≡ s) × (new ≡ old)
  pub known : new.known ≡ old.known

-- Holds if the first bytes of a piece were fed to an open core, with this result. These bytes reach at most to the end of the first frame,
-- and are at least one if the piece isn't empty.
pub record TakesFront {S O I : Type 0} (w : Ways S O I) (s : S) (old : Connection O I) (piece : List ℕ) (now : ℕ) (result : Result ℕ Error) (t : S) (new : Connection O I) : Type 0 where
  pub count : IfOk result (λ n. (n ≤ length piece) × (0 < length piece → 0 < n))
  pub ok : IfOk result (λ n. FeedsFront w s old (take n piece) now t new)
  pub fails : old.failure ≡ None → IfErr result (λ e. Breaks w s old piece now e t new)
  pub failed : (f : Failure) → old.failure ≡ Some f → IfErr result (IsTold (error_of f)) × (t ≡ s) × (new ≡ old)
  pub known : new.known ≡ old.known

-- Holds if a piece was fed to a core that isn't open, with this result: 0, or the failure if the connection has failed. Nothing changed.
pub record Drains {S O I : Type 0} (s : S) (old : Connection O I) (result : Result ℕ Error) (t : S) (new : Connection O I) : Type 0 where
  pub ok : IfOk result (λ n. (n ≡ 0) × (old.failure ≡ None))
  pub failed : IfErr result (IsFailed old.failure)
  pub same : (t ≡ s) × (new ≡ old)

-- Holds if a piece was fed, with this result, whether the core is open or not.
pub record TakesOrDrains {S O I : Type 0} (w : Ways S O I) (s : S) (old : Connection O I) (piece : List ℕ) (now : ℕ) (result : Result ℕ Error) (t : S) (new : Connection O I) : Type 0 where
  pub takes : is_open w s old.outbox ≡ true → Takes w s old piece now result t new
  pub drains : is_open w s old.outbox ≡ false → Drains s old result t new

-- Holds if the first bytes of a piece were fed, with this result, whether the core is open or not.
pub record TakesFrontOrDrains {S O I : Type 0} (w : Ways S O I) (s : S) (old : Connection O I) (piece : List ℕ) (now : ℕ) (result : Result ℕ Error) (t : S) (new : Connection O I) : Type 0 where
  pub takes : is_open w s old.outbox ≡ true → TakesFront w s old piece now result t new
  pub drains : is_open w s old.outbox ≡ false → Drains s old result t new

-- ---- bytes out

-- Returns how many bytes can be lent: the rest of the first unfinished frame, and none after the connection has failed.
abbrev pub lendable : {O I : Type 0} → Connection O I → ℕ
lendable c = if is_some c.failure then 0 else length (open_part c.outbox.queue)

-- Holds if this many bytes were lent, into a buffer with other bytes. The lent bytes are the first of those that can be lent, as many as
-- fit. None are lent only if none fit, nothing is left to be written, or the connection has failed.
pub record Lends {O I : Type 0} (old : Connection O I) (before : List ℕ) (n : ℕ) (after : List ℕ) : Type 0 where
  pub count : n ≡ (if is_some old.failure then 0 else min (length before) (length (open_part old.outbox.queue)))
  pub zero : (n ≡ 0) ↔ ((length before ≡ 0) ⊎ (unsent old.outbox.queue ≡ []) ⊎ (is_some old.failure ≡ true))
  pub copied : take n after ≡ take n (open_part old.outbox.queue)
  pub rest : drop n after ≡ drop n before

-- Returns the connection after this many bytes were lent.
abbrev pub lending : {O I : Type 0} → Connection O I → ℕ → Connection O I
lending c n = record c { outbox = record c.outbox { queue = with_lent c.outbox.queue n } }

-- Returns the connection after this many of the lent bytes were reported as written.
abbrev pub reporting : {O I : Type 0} → Connection O I → ℕ → Connection O I
reporting c n = record c { outbox = record c.outbox { queue = after_report c.outbox.queue n } }

-- ---- failures

-- Returns the connection after it was failed for this reason. An earlier failure is kept.
abbrev pub failing : {O I : Type 0} → Connection O I → Failure → Connection O I
failing c failure = record c { failure = first_failure c.failure failure }

-- Holds if the input ended. The connection fails, and the failure states if the input ended inside a frame.
pub record Ends {O I : Type 0} (old new : Connection O I) : Type 0 where
  pub between : old.decoder ≡ nothing → new ≡ failing old Disconnected
  pub inside : old.decoder ≢ nothing → new ≡ failing old DisconnectedInside
