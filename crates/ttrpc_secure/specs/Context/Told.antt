-- The possible errors of a call, if the text of its error takes memory.
-- Source: this project's.
use Rattle.std.specs.Prelude.{◌≡◌, ◌⊎◌}
use Rattle.ttrpc_proto.specs.declared.error.Error.{Error}
use Rattle.ttrpc_proto.specs.declared.error.Error.TheVariants.{NoMemory}

-- Holds if the error is the expected one, or NoMemory, which is returned if memory for the expected error was refused.
abbrev pub IsTold : Error → Error → Type 0
IsTold told error = (error ≡ told) ⊎ (error ≡ NoMemory)
