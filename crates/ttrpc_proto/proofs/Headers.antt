-- A header and its ten bytes determine each other.
use Rattle.std.proofs.Common.{◌≡◌, ℕ, ◌<◌, List, length, rules, arith}
use Rattle.std.proofs.lemmas.Grind.{common_steps}
use Rattle.std.specs.List.{AllByRecursion}
use Rattle.ttrpc_proto.specs.declared.framing.header.MessageHeader.{MessageHeader}
use Rattle.ttrpc_proto.specs.Framing.Header.{FitsHeader, header_bytes, header_of}

pub reads_back : (h : MessageHeader) → FitsHeader h → header_of (header_bytes h) ≡ h
reads_back h fits = search rules

pub writes_back : (bytes : List ℕ) → length bytes ≡ 10 → AllByRecursion (λ b. b < 256) bytes → header_bytes (header_of bytes) ≡ bytes
writes_back bytes size small = grind (arith, common_steps)
