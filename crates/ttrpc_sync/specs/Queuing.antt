-- The next action of a thread that has queued a frame.
-- Source: this project's.
use Rattle.std.specs.Prelude.{Bool, true, false, if◌then◌else◌}
use Rattle.ttrpc_sync.specs.declared.ends.turn.WriteTurn.{WriteTurn}
use Rattle.ttrpc_sync.specs.declared.link.queuing.AfterQueuing.{AfterQueuing}
use Rattle.ttrpc_sync.specs.declared.link.queuing.AfterQueuing.TheVariants.{Write, Wake, Leave}

-- The thread writes if it may and no thread has the turn. Otherwise it wakes the writer thread, if that thread sleeps
-- and no thread has the turn. A thread that has the turn looks again by itself.
abbrev pub queuing_of : WriteTurn → (may_write : Bool) → AfterQueuing
queuing_of turn may_write =
    if turn.is_taken then Leave else
    (if may_write then Write else (if turn.sleeps then Wake else Leave))

-- the turn afterwards: taken if the thread writes; if the writer thread is woken, it no longer counts as asleep
abbrev pub turn_after_queuing : WriteTurn → (may_write : Bool) → WriteTurn
turn_after_queuing turn may_write =
    if turn.is_taken then turn else
    (if may_write then record turn { is_taken = true } else record turn { sleeps = false })
