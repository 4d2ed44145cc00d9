use Rattle.std.proofs.Common.{◌≡◌, ◌+◌, Bool, true, false, nat_lt, if◌then◌else◌, Result, Ok, Err, subst, sym}
use Rattle.std.proofs.lemmas.Result.{IfOk-weaker}
use Rattle.std.specs.Arc.{arc_value}
use Rattle.std.specs.declared.io.Error.{Error as IoError}
use Rattle.std.specs.declared.time.Duration.{Duration}
use Rattle.ttrpc_secure.specs.Hooks.Admission.{IsAdmission, moment_of}
use Rattle.ttrpc_secure.specs.declared.hooks.hook_error.HookError.{HookError}
use Rattle.ttrpc_secure.specs.declared.hooks.hook_error.HookError.TheVariants.{Io, Timeout}
use Rattle.ttrpc_polled_server.proofs.serving.Serving.begin.Goals as goal

-- what was given in time is what the hook gave
gave : {X : Type 0} (R : Result Duration IoError → Type 0) (P : Result X HookError → Type 0) (x : X) → IsAdmission R P (Ok x) → P (Ok x)
gave R P x (Err e, ended, hooked, before, after, given, is) = cc
gave R P x (Ok started, Err e, hooked, before, after, given, is) = cc
gave {X} R P x (Ok started, Ok ended, hooked, before, after, given, is) = in_time (nat_lt (moment_of ended) (moment_of started + 30000000000)) is
  where
    in_time : (b : Bool) → Ok x ≡ (if b then hooked else Err Timeout) → P (Ok x)
    in_time true same = subst P (sym same) given
    in_time false same = cc

pub returns-clause-accepted : goal.returns-clause-accepted
returns-clause-accepted g c =
    let given = gave _ (g.A.AcceptHook.gives c.deref.result.now c.args.socket) c.in-Ok.output c.in-Ok.ensures in
    let own = subst (λ hook. g.A.AcceptHook.gives hook c.args.socket (Ok c.in-Ok.output)) c.deref.ensures given in
    IfOk-weaker c.open.result _ _ (λ made is. (c.in-Ok.output, own, is)) c.open.ensures.opened
