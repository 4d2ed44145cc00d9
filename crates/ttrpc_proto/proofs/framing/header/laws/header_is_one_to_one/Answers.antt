use Rattle.std.proofs.Common.{sym, ap, ◌∙◌}
use Rattle.ttrpc_proto.specs.Framing.Header.{header_bytes, header_of}
use Rattle.ttrpc_proto.proofs.Headers.{reads_back, writes_back}
use Rattle.ttrpc_proto.proofs.framing.header.laws.header_is_one_to_one.Goals as goal

pub returns-clause-reads_back : goal.returns-clause-reads_back
returns-clause-reads_back c = reads_back

pub returns-clause-writes_back : goal.returns-clause-writes_back
returns-clause-writes_back c = writes_back

pub returns-clause-one_header : goal.returns-clause-one_header
returns-clause-one_header c = λ g h fg fh e. sym (reads_back g fg) ∙ ap header_of e ∙ reads_back h fh

pub returns-clause-one_spelling : goal.returns-clause-one_spelling
returns-clause-one_spelling c = λ xs ys lx ly bx by e.
    sym (writes_back xs lx bx) ∙ ap header_bytes e ∙ writes_back ys ly by
