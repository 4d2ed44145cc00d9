use Rattle.std.proofs.Common.{◌++◌, codes, refl}
use Rattle.ttrpc_secure.proofs.hooks.hook_error.HookErrorDebug.fmt.Goals as goal

pub returns-in-Io-clause-such : goal.returns-in-Io-clause-such
returns-in-Io-clause-such g c = λ plain ok.
    let rest = c.as_str-in-Io.result.now in
    (codes "Io(" ++ rest ++ codes ")", rw c.in-Io.is (rest, refl), c.write-in-Io.ensures.writes plain ok)
