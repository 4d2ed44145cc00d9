-- The texts for a payload that isn't sealed or opened.
-- Source: the Rust crate.
use Rattle.std.specs.Prelude.{ℕ, List, ◌++◌, codes}
use Rattle.std.specs.Fmt.{decimal}

-- Returns the text for a payload of this length that may become longer than a message may be, with this advice at its end.
abbrev pub unsafe_payload_text : ℕ → ℕ → List ℕ → List ℕ
unsafe_payload_text length limit advice = codes "payload " ++ decimal length ++ codes " bytes exceeds safe limit " ++ decimal limit ++ codes " bytes (MESSAGE_LENGTH_MAX - transform overhead)" ++ advice

-- The advice to a caller that can send less.
abbrev pub advice_text : List ℕ
advice_text = codes "; reduce payload size"

-- Returns the text for a payload that the outbound half didn't seal, for this reason.
abbrev pub unsealed_text : List ℕ → List ℕ
unsealed_text why = codes "transform_outbound failed: " ++ why

-- Returns the text for a payload that the inbound half didn't open, for this reason.
abbrev pub unopened_text : List ℕ → List ℕ
unopened_text why = codes "transform_inbound failed: " ++ why
