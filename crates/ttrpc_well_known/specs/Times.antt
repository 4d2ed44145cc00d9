-- The meaning of a `Timestamp` and a `Duration`, if std's times can represent it.
-- Source: google/protobuf/timestamp.proto and duration.proto of Protocol Buffers, the comments of their members.
use Rattle.std.specs.Prelude.{ℕ, ℤ, ◌≡◌, ◌≤◌, ◌<◌, ◌+◌, ◌*◌, pos}
use Rattle.ttrpc_well_known.specs.declared.messages.Timestamp.{Timestamp}
use Rattle.ttrpc_well_known.specs.declared.messages.Duration.{Duration}

-- the nanoseconds of a second
abbrev pub billion : ℕ
billion = 1_000_000_000

-- the last second of the year 9999, from the beginning of 1970
abbrev pub last_second : ℕ
last_second = 253_402_300_799

-- the seconds of some 10,000 years: no span is longer
abbrev pub longest_span : ℕ
longest_span = 315_576_000_000

-- seconds and nanoseconds are `count` nanoseconds: neither is negative, the seconds are at most `last`, and the
-- nanoseconds are less than a second
pub record AreNanos (seconds nanos : ℤ) (last count : ℕ) : Type 0 where
  pub whole : ℕ
  pub part : ℕ
  pub seconds_are : seconds ≡ pos whole
  pub nanos_are : nanos ≡ pos part
  pub in_range : whole ≤ last
  pub below : part < billion
  pub sum : count ≡ whole * billion + part

-- a `Timestamp` is the moment `count` nanoseconds after the beginning of 1970
abbrev pub IsMoment : Timestamp → ℕ → Type 0
IsMoment t = AreNanos t.seconds t.nanos last_second

-- a `Duration` is a span of `count` nanoseconds
abbrev pub IsSpan : Duration → ℕ → Type 0
IsSpan d = AreNanos d.seconds d.nanos longest_span
