-- The calls that a server refuses by its settings, and the text of each refusal.
-- Source: this project's, with the texts of the Rust crate `ttrpc`.
use Rattle.std.specs.Prelude.{◌≡◌, ◌⊎◌, ℕ, List, Option, Some, None, Result, IfErr, IsErr, IsSomeAnd, codes, false, nat_lt, true, if◌then◌else◌}
use Rattle.std.specs.Duration.{as_nanos}
use Rattle.ttrpc_proto.specs.declared.error.Error.{Error}
use Rattle.ttrpc_proto.specs.declared.error.Error.TheVariants as error
use Rattle.ttrpc_sync_server.specs.declared.settings.Settings.{Settings}
use Rattle.ttrpc_sync_server.specs.declared.settings.refusal.Refusal.{Refusal}
use Rattle.ttrpc_sync_server.specs.declared.settings.refusal.Refusal.TheVariants as refusal

-- the text of each refusal
abbrev pub text_of : Refusal → List ℕ
text_of refusal.NotBelowMax = codes "thread_count_default should smaller than thread_count_max"
text_of refusal.NotAboveMin = codes "thread_count_default should bigger than thread_count_min"
text_of refusal.SecondAddress = codes "ttrpc-rust just support 1 sockaddr now"
text_of refusal.NotBound = codes "ttrpc-rust not bind"
text_of refusal.Listening = codes "server is already listening"
text_of refusal.Started = codes "services are fixed after start"

-- a server may get one address, until it listens no more
abbrev pub bind_refusal : Settings → Option Refusal
bind_refusal s = if s.is_bound then Some refusal.SecondAddress else None

-- a server may get services until its first start
abbrev pub register_refusal : Settings → Option Refusal
register_refusal s = if s.is_fixed then Some refusal.Started else None

-- a server may listen if it has an address, and doesn't listen yet
abbrev pub listen_refusal : Settings → Option Refusal
listen_refusal s = if s.is_bound then (if s.is_listening then Some refusal.Listening else None) else Some refusal.NotBound

-- a server may start if its counts are in order, checked in this order, and it may listen
abbrev pub start_refusal : Settings → Option Refusal
start_refusal s =
    if nat_lt s.thread_count_default s.thread_count_max then
    (if nat_lt s.thread_count_min s.thread_count_default then listen_refusal s else Some refusal.NotAboveMin)
    else Some refusal.NotBelowMax

-- The error is this refusal's text, or memory for the text was refused.
abbrev pub IsRefused : Option Refusal → Error → Type 0
IsRefused why e = (r : Refusal) × (why ≡ Some r) × ((e ≡ error.Others (text_of r)) ⊎ (e ≡ error.NoMemory))

-- If there is a refusal, the result is that error; else a failure is one of `Fails`.
abbrev pub Refuses : {T : Type 0} → Option Refusal → (Error → Type 0) → Result T Error → Type 0
Refuses why Fails result = ((r : Refusal) → why ≡ Some r → IsErr result × IfErr result (IsRefused why)) × (why ≡ None → IfErr result Fails)

-- ---- how calls change the settings

-- the settings of a new server
pub record IsNew (s : Settings) : Type 0 where
  pub default : s.thread_count_default ≡ 3
  pub min : s.thread_count_min ≡ 1
  pub max : s.thread_count_max ≡ 5
  pub retry : as_nanos s.accept_retry_interval ≡ 10000000000
  pub jobs : s.waiting_jobs ≡ Some 4096
  pub bytes : s.waiting_bytes ≡ Some 8388608
  pub frame : s.frame_limit ≡ None
  pub close : IsSomeAnd s.close_limit (λ limit. as_nanos limit ≡ 5000000000)
  pub bound : s.is_bound ≡ false
  pub listening : s.is_listening ≡ false
  pub fixed : s.is_fixed ≡ false

-- the settings of a server that has an address
abbrev pub bound_settings : Settings → Settings
bound_settings s = record s { is_bound = true }

-- the settings of a server that listens, and so has fixed services
abbrev pub started_settings : Settings → Settings
started_settings s = record s { is_listening = true; is_fixed = true }

-- the settings of a server that listens no more, and has no address
abbrev pub stopped_settings : Settings → Settings
stopped_settings s = record s { is_bound = false; is_listening = false }
