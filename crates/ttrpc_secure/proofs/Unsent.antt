-- What the error of a call that seals comes to.
use Rattle.std.proofs.Common.{◌≡◌, ◌≢◌, ◌↔◌, ◌≤◌, ◌<◌, ◌+◌, ℕ, Bool, List, length, Result, Err, arith, inl, inr}
use Rattle.std.proofs.lemmas.Bool.{cases_lt}
use Rattle.ttrpc_proto.specs.declared.framing.header.TheConstants.{MESSAGE_LENGTH_MAX}
use Rattle.ttrpc_proto.specs.declared.error.Error.{Error}
use Rattle.ttrpc_secure.specs.declared.sending.SendError.{SendError}
use Rattle.ttrpc_secure.specs.declared.sending.SendError.TheVariants.{TooLong, Failed}
use Rattle.ttrpc_secure.specs.declared.sending.SendError.TheVariants.{NoRoom as Full}
use Rattle.ttrpc_secure.specs.declared.transform.OutboundTransform.{Ghosts as OutboundTransform}
use Rattle.ttrpc_secure.specs.declared.transform.TransformError.{TransformError}
use Rattle.ttrpc_secure.specs.declared.transform.TransformError.TheVariants.{Refused, NoMemory as Starved}
use Rattle.ttrpc_secure.specs.Halves.{MayFail}
use Rattle.ttrpc_secure.specs.Context.Calls.{FailsToSeal, FailsToSend, TellsUnsent}
use Rattle.ttrpc_secure.specs.Sends.{needed}
use Rattle.ttrpc_proto.specs.Framing.Queue.{Queue, free}

-- A half refused the bytes, so that they aren't too long for it.
fits : {A : Type 0} (r : Result A SendError) (t : TransformError) (n overhead : ℕ) → r ≡ Err (Failed t) → (MESSAGE_LENGTH_MAX < n + overhead → r ≡ Err TooLong)
    → n + overhead ≤ MESSAGE_LENGTH_MAX
fits r t n overhead is long = elim (cases_lt MESSAGE_LENGTH_MAX (n + overhead)) [ inl above ↦ absurd (let e = long above in cc) | inr le ↦ le ]

-- There is room for the bytes, as else there would be another answer.
has_room : {A : Type 0} (r : Result A SendError) (t : TransformError) (n room free : ℕ) → r ≡ Err (Failed t) → n ≤ MESSAGE_LENGTH_MAX → ((n ≤ MESSAGE_LENGTH_MAX) × (free < room) → r ≡ Err Full)
    → room ≤ free
has_room r t n room free is short full = elim (cases_lt free room) [ inl lacks ↦ absurd (let e = full (short, lacks) in cc) | inr le ↦ le ]

module _ {A O : Type 0} (half : OutboundTransform O) (rpc_error : Bool) (advice bytes aad : List ℕ) (s : O) (small : half.overhead s ≤ MESSAGE_LENGTH_MAX) where
  pub fails_to_send : (q : Queue) (r : Result A SendError) (unsent : SendError) (e : Error) (t : O) → r ≡ Err unsent → t ≡ s
      → ((r ≡ Err TooLong) ↔ (MESSAGE_LENGTH_MAX < length bytes + half.overhead s))
      → ((r ≡ Err Full) ↔ ((length bytes + half.overhead s ≤ MESSAGE_LENGTH_MAX) × (free q < needed half s bytes)))
      → ((t : TransformError) → r ≡ Err (Failed t) → MayFail half.refuses s bytes aad t)
      → TellsUnsent half rpc_error advice t (length bytes) unsent e → FailsToSend half rpc_error advice s q bytes aad e
  fails_to_send q r TooLong e t is same long full refused tells = inr (inl (omega (arith, small, long.0 is), rw (← same) tells))
  fails_to_send q r Full e t is same long full refused tells = let h = full.0 is in inr (inr (inl (omega (arith, h.0), h.1, tells)))
  fails_to_send q r (Failed (Refused why)) e t is same long full refused tells =
      let short = fits r (Refused why) (length bytes) (half.overhead s) is long.1 in
      inr (inr (inr (omega (arith, short), has_room r (Refused why) (length bytes + half.overhead s) (needed half s bytes) (free q) is short full.1, (why, refused (Refused why) is, tells))))
  fails_to_send q r (Failed Starved) e t is same long full refused tells = inl tells

  pub fails_to_seal : (r : Result A SendError) (unsent : SendError) (e : Error) (t : O) → r ≡ Err unsent → (r ≢ Err Full) → t ≡ s
      → ((r ≡ Err TooLong) ↔ (MESSAGE_LENGTH_MAX < length bytes + half.overhead s))
      → ((t : TransformError) → r ≡ Err (Failed t) → MayFail half.refuses s bytes aad t)
      → TellsUnsent half rpc_error advice t (length bytes) unsent e → FailsToSeal half rpc_error advice s bytes aad e
  fails_to_seal r Full e t is never same long refused tells = absurd (never is)
  fails_to_seal r TooLong e t is never same long refused tells = inr (inl (omega (arith, small, long.0 is), rw (← same) tells))
  fails_to_seal r (Failed (Refused why)) e t is never same long refused tells =
      inr (inr (omega (arith, fits r (Refused why) (length bytes) (half.overhead s) is long.1), (why, refused (Refused why) is, tells)))
  fails_to_seal r (Failed Starved) e t is never same long refused tells = inl tells
