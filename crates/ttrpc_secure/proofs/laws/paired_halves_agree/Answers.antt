use Rattle.std.proofs.Common.{suc}
use Rattle.ttrpc_secure.proofs.laws.paired_halves_agree.Goals as goal

pub returns-clause-not_refused : goal.returns-clause-not_refused
returns-clause-not_refused g c =
    λ s t plain aad sealed s_after paired sealing. (paired 1 plain aad sealed s_after sealing).0

pub returns-clause-same : goal.returns-clause-same
returns-clause-same g c =
    λ s t plain aad sealed opened s_after t_after paired sealing opening.
    ((paired 1 plain aad sealed s_after sealing).1 opened t_after opening).0

pub returns-clause-paired_again : goal.returns-clause-paired_again
returns-clause-paired_again g c =
    λ s t plain aad sealed opened s_after t_after paired sealing opening n.
    ((paired (suc n) plain aad sealed s_after sealing).1 opened t_after opening).1
