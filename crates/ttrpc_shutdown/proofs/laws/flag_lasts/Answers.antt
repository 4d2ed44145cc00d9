use Rattle.std.proofs.Common.{rules, subst, sym}
use Rattle.ttrpc_shutdown.specs.Rule.{Counted, IsKept}
use Rattle.ttrpc_shutdown.specs.ShutdownWords.{IsFlagSet}
use Rattle.ttrpc_shutdown.proofs.Between.{stays, by_the_notifier}
use Rattle.ttrpc_shutdown.proofs.laws.flag_lasts.Goals as goal

pub returns-clause-stays : goal.returns-clause-stays
returns-clause-stays c s t me after f kept then is_set =
    let kept_then = subst (λ (u : Counted). IsKept u.words u.views) f.state then in
    subst (λ (u : Counted). IsFlagSet u.words) (sym f.state) (stays s.words _ s.views f.seat me.0 after.0 f.there (search rules) kept kept_then is_set)

pub returns-clause-notifier : goal.returns-clause-notifier
returns-clause-notifier c s t me after f kept then not_set is_set =
    let kept_then = subst (λ (u : Counted). IsKept u.words u.views) f.state then in
    by_the_notifier s.words _ s.views f.seat me.0 after.0 f.there kept kept_then not_set (subst (λ (u : Counted). IsFlagSet u.words) f.state is_set)
