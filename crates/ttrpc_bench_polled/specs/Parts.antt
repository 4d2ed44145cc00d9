-- When parts that run side by side may be polled, and the sources that each waits for.
-- Source: this project's.
use Rattle.std.specs.Prelude.{ℕ}
use Rattle.futures.specs.Queued.{AllPollable, set_places}
use Rattle.ttrpc_bench_polled.specs.declared.parts.Part.{Part}
use Rattle.ttrpc_bench_polled.specs.declared.parts.Part.TheVariants.{Does, Goes, Lasts}
use Rattle.ttrpc_bench_polled.specs.declared.parts.Parts.{Parts}

-- a part may be polled if its future may be
abbrev pub PartCanPoll : {D E : Type 0} → (D → Type 0) → (E → Type 0) → Part D E → Type 0
PartCanPoll does goes (Does d) = does d
PartCanPoll does goes (Goes e) = goes e
PartCanPoll does goes (Lasts e) = goes e

-- the part waits for the sources of its future
abbrev pub PartNeeds : {D E : Type 0} → (D → ℕ → Type 0) → (E → ℕ → Type 0) → Part D E → ℕ → Type 0
PartNeeds does goes (Does d) s = does d s
PartNeeds does goes (Goes e) s = goes e s
PartNeeds does goes (Lasts e) s = goes e s

-- each part may be polled
abbrev pub PartsCanPoll : {D E : Type 0} → (D → Type 0) → (E → Type 0) → Parts D E → Type 0
PartsCanPoll does goes p = AllPollable (PartCanPoll does goes) (set_places p.set)
