use Rattle.std.proofs.Common.{◌≡◌, ℕ, List, [], ap, ◌∙◌}
use Rattle.std.proofs.lemmas.Result.{IfOk-weaker}
use Rattle.std.specs.Option.{unwrap_or}
use Rattle.ttrpc_message.specs.Metadata.{pairs_of, seen, texts_of, values_at}
use Rattle.ttrpc_message.proofs.Distinct.{values_again}
use Rattle.ttrpc_message.proofs.context.pairs.to_pb.Goals as goal

pub returns-clause-again : goal.returns-clause-again
returns-clause-again c =
    let entries = c.args.kvs.entries in
    IfOk-weaker c.all_pairs.result (λ pairs. pairs.items ≡ pairs_of (seen entries)) (λ pairs. (key : List ℕ) → values_at pairs.items key ≡ unwrap_or (texts_of (seen entries) key) [])
    (λ pairs is key. ap (λ ps. values_at ps key) is ∙ values_again entries c.len.ensures.ordered key) c.all_pairs.ensures.ok
