-- The error for a message that is too long.
-- Source: the Rust crate.
use Rattle.std.specs.Prelude.{ℕ, List, ◌++◌, codes, Bool, true, false}
use Rattle.std.specs.Fmt.{decimal}
use Rattle.ttrpc_wire.specs.declared.values.code.Code.TheVariants.{INVALID_ARGUMENT}
use Rattle.ttrpc_proto.specs.declared.error.Error.{Error}
use Rattle.ttrpc_proto.specs.declared.error.Error.TheVariants.{RpcStatus, Others}
use Rattle.ttrpc_proto.specs.ErrorText.{status_of}

-- Returns the text for a message of this length, which is too long.
abbrev pub oversize_text : ℕ → List ℕ
oversize_text n = codes "message length " ++ decimal n ++ codes " exceed maximum message size of 4194304"

-- Returns the error for a message of this length, which is too long: a status if the flag is true.
abbrev pub oversize_error : Bool → ℕ → Error
oversize_error true n = RpcStatus (status_of INVALID_ARGUMENT (oversize_text n))
oversize_error false n = Others (oversize_text n)
