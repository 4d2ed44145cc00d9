-- The texts of the system's errors, in the order in which std declares their kinds.
use Rattle.std.proofs.Common.{◌≡◌, ℕ, zero, suc, List, [], ◌∷◌, map, codes, slice_index_or, Bor, refl}
use denote.Enum.Declared.{tag_of}
use Rattle.std.specs.contracts.io.ErrorKind.{the_type}
use Rattle.std.specs.declared.io.ErrorKind.{ErrorKind}
use Rattle.std.specs.declared.io.ErrorKind.TheVariants.{NotFound, PermissionDenied, ConnectionRefused, ConnectionReset, HostUnreachable, NetworkUnreachable, ConnectionAborted, NotConnected, AddrInUse, AddrNotAvailable, NetworkDown, BrokenPipe, AlreadyExists, WouldBlock, NotADirectory, IsADirectory, DirectoryNotEmpty, ReadOnlyFilesystem, FilesystemLoop, StaleNetworkFileHandle, InvalidInput, InvalidData, TimedOut, WriteZero, StorageFull, NotSeekable, QuotaExceeded, FileTooLarge, ResourceBusy, ExecutableFileBusy, Deadlock, CrossesDevices, TooManyLinks, InvalidFilename, ArgumentListTooLong, Interrupted, Unsupported, UnexpectedEof, OutOfMemory, InProgress, Other, Uncategorized}
use Rattle.ttrpc_proto.specs.KindText.{kind_text}

-- the texts
abbrev pub in_order : List (List ℕ)
in_order = codes "entity not found" ∷ codes "permission denied" ∷ codes "connection refused" ∷ codes "connection reset" ∷ codes "host unreachable" ∷ codes "network unreachable" ∷ codes "connection aborted" ∷ codes "not connected" ∷ codes "address in use" ∷ codes "address not available" ∷ codes "network down" ∷ codes "broken pipe" ∷ codes "entity already exists" ∷ codes "operation would block" ∷ codes "not a directory" ∷ codes "is a directory" ∷ codes "directory not empty" ∷ codes "read-only filesystem or storage medium" ∷ codes "filesystem loop or indirection limit (e.g. symlink loop)" ∷ codes "stale network file handle" ∷ codes "invalid input parameter" ∷ codes "invalid data" ∷ codes "timed out" ∷ codes "write zero" ∷ codes "no storage space" ∷ codes "seek on unseekable file" ∷ codes "quota exceeded" ∷ codes "file too large" ∷ codes "resource busy" ∷ codes "executable file busy" ∷ codes "deadlock" ∷ codes "cross-device link or rename" ∷ codes "too many links" ∷ codes "invalid filename" ∷ codes "argument list too long" ∷ codes "operation interrupted" ∷ codes "unsupported" ∷ codes "unexpected end of file" ∷ codes "out of memory" ∷ codes "in progress" ∷ codes "other error" ∷ codes "uncategorized error" ∷ []

-- what a reference at a place points to is at that place among what all of them point to
pub at_place : (texts : List (Bor (List ℕ))) (n : ℕ) (other : Bor (List ℕ)) → (slice_index_or texts n other).now ≡ slice_index_or (map (λ t. t.now) texts) n other.now
at_place [] n other = refl
at_place (t ∷ ts) zero other = refl
at_place (t ∷ ts) (suc n) other = at_place ts n other

-- the text at the place of a kind is its own
pub at_kind : (kind : ErrorKind) → slice_index_or in_order (tag_of the_type kind) [] ≡ kind_text kind
unfolding kind_text
at_kind NotFound = refl
at_kind PermissionDenied = refl
at_kind ConnectionRefused = refl
at_kind ConnectionReset = refl
at_kind HostUnreachable = refl
at_kind NetworkUnreachable = refl
at_kind ConnectionAborted = refl
at_kind NotConnected = refl
at_kind AddrInUse = refl
at_kind AddrNotAvailable = refl
at_kind NetworkDown = refl
at_kind BrokenPipe = refl
at_kind AlreadyExists = refl
at_kind WouldBlock = refl
at_kind NotADirectory = refl
at_kind IsADirectory = refl
at_kind DirectoryNotEmpty = refl
at_kind ReadOnlyFilesystem = refl
at_kind FilesystemLoop = refl
at_kind StaleNetworkFileHandle = refl
at_kind InvalidInput = refl
at_kind InvalidData = refl
at_kind TimedOut = refl
at_kind WriteZero = refl
at_kind StorageFull = refl
at_kind NotSeekable = refl
at_kind QuotaExceeded = refl
at_kind FileTooLarge = refl
at_kind ResourceBusy = refl
at_kind ExecutableFileBusy = refl
at_kind Deadlock = refl
at_kind CrossesDevices = refl
at_kind TooManyLinks = refl
at_kind InvalidFilename = refl
at_kind ArgumentListTooLong = refl
at_kind Interrupted = refl
at_kind Unsupported = refl
at_kind UnexpectedEof = refl
at_kind OutOfMemory = refl
at_kind InProgress = refl
at_kind Other = refl
at_kind Uncategorized = refl
