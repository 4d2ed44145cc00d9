use Rattle.std.proofs.Common.{◌++◌, take, ap, ◌∙◌}
use Rattle.std.proofs.lemmas.List.{take-append-le, length-take-le}
use Rattle.tokio.proofs.IoLemmas.{take-append_read}
use Rattle.ttrpc_polled.proofs.piece.lend_at.Goals as goal

pub returns-clause-loan : goal.returns-clause-loan
returns-clause-loan g c =
    let bound = c.lend.ensures.bound in
    record {
      before = _;
      after = c.lend.new.buffer;
      lent = c.lend.ensures.lends;
      kept = take-append_read _ _ c.args.at _ (length-take-le c.args.at c.args.buffer.now c.requires) ∙ ap (λ ws. take c.args.at c.args.buffer.now ++ ws) (take-append-le _ c.lend.new.buffer _ bound);
    }
