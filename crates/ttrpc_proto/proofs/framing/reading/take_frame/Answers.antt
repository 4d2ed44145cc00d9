use Rattle.std.proofs.Common.{◌≡◌, ◌≤◌, ℕ, List, arith, length, subst, sym, take, take_all, Option}
use Rattle.std.specs.Io.KnownBytes.{Consumes}
use Rattle.ttrpc_proto.proofs.Streamed.{took_body, took_oversize, took_oversize_cut, took_oversize_broken}
use Rattle.ttrpc_proto.proofs.framing.reading.take_frame.Goals as goal

-- a header that came whole is all of the ten bytes
whole_head : (a b : Option (List ℕ)) (bytes : List ℕ) (n : ℕ) → length bytes ≡ 10 → 10 ≤ n → Consumes a b (take n bytes) → Consumes a b bytes
whole_head a b bytes n size all read = subst (λ t. Consumes a b t) (take_all n bytes (omega (arith, size, all))) read

pub returns-then-header-le-MESSAGE_LENGTH_MAX : goal.returns-then-header-le-MESSAGE_LENGTH_MAX
returns-then-header-le-MESSAGE_LENGTH_MAX g c =
    let size = c.fill-count.auto.buffer in
    let read = whole_head _ _ _ _ size c.if-count-lt-MESSAGE_HEADER_LENGTH.false c.fill-count.ensures.bytes in
    took_body _ _ _ _ _ _ _ size (sym c.from-header.ensures) c.if-header-le-MESSAGE_LENGTH_MAX.true read c.take_body.ensures

pub returns-in-Ok-true : goal.returns-in-Ok-true
returns-in-Ok-true g c =
    let size = c.fill-count.auto.buffer in
    let read = whole_head _ _ _ _ size c.if-count-lt-MESSAGE_HEADER_LENGTH.false c.fill-count.ensures.bytes in
    took_oversize _ _ _ _ _ _ _ c.in-Ok-true.field-0-test size (sym c.from-header.ensures) c.if-header-le-MESSAGE_LENGTH_MAX.false read c.in-Ok-true.ensures.ok

pub returns-in-Ok-false : goal.returns-in-Ok-false
returns-in-Ok-false g c =
    let size = c.fill-count.auto.buffer in
    let read = whole_head _ _ _ _ size c.if-count-lt-MESSAGE_HEADER_LENGTH.false c.fill-count.ensures.bytes in
    took_oversize_cut _ _ _ _ _ _ _ c.in-Ok-false.field-0-test size (sym c.from-header.ensures) c.if-header-le-MESSAGE_LENGTH_MAX.false read c.in-Ok-false.ensures.ok

pub returns-in-Err : goal.returns-in-Err
returns-in-Err g c =
    let size = c.fill-count.auto.buffer in
    let read = whole_head _ _ _ _ size c.if-count-lt-MESSAGE_HEADER_LENGTH.false c.fill-count.ensures.bytes in
    took_oversize_broken _ _ _ _ _ _ c.in-Err.error size (sym c.from-header.ensures) read c.in-Err.ensures.cut c.in-Err.ensures.err
