use Rattle.std.proofs.Common.{List, ℕ}
use Rattle.std.proofs.lemmas.Result.{err_from_is_err_and}
use Rattle.ttrpc_wire.specs.declared.values.codec_error.CodecError.{CodecError}
use Rattle.ttrpc_wire.specs.declared.field.Tag.{Tag}
use Rattle.ttrpc_wire.specs.Front.{Begins, Refuses}
use Rattle.ttrpc_wire.specs.Seen.{SpellsTag}
use Rattle.ttrpc_wire.proofs.Fields.{IsTagOf, tag_agrees}
use Rattle.ttrpc_wire.proofs.Calls.{taken, shorter, refused}
use Rattle.ttrpc_wire.proofs.reader.Reader.tag.Goals as goal

-- the code's tag, from its number and its wire type
tag_taken : (bytes rest : List ℕ) (tag : Tag) → Begins IsTagOf bytes (tag.number.value, tag.wire_type) rest → Begins SpellsTag bytes tag rest
tag_taken bytes rest tag b = record { front = b.front; whole = b.whole; is = b.is }

tag_refused : (old new : List ℕ) (e : CodecError) → Refuses IsTagOf old new e → Refuses SpellsTag old new e
tag_refused old new e r = record {
  none = record { none = λ tag rest b. r.none.none (tag.number.value, tag.wire_type) rest (record { front = b.front; whole = b.whole; is = b.is }) };
  unchanged = r.unchanged;
  not_memory = r.not_memory;
}

pub returns-in_err-tag-clause-err : goal.returns-in_err-tag-clause-err
returns-in_err-tag-clause-err c =
    let p = err_from_is_err_and c.from_residual.result c.from_residual.ensures.1 in
    rw (p.1, p.2) (tag_refused _ _ _ (refused tag_agrees c.self.inside.rest.now _ _ c.self.view_is c.in_err-tag.ensures))

pub returns-clause-ok : goal.returns-clause-ok
returns-clause-ok c = tag_taken _ _ _ (taken tag_agrees c.self.inside.rest.now _ _ _ c.self.view_is c.in_ok-tag.ensures)

pub returns-clause-shorter : goal.returns-clause-shorter
returns-clause-shorter c = shorter tag_agrees c.self.inside.rest.now _ _ (c.in_ok-tag.tag.number.value, c.in_ok-tag.tag.wire_type) c.self.view_is c.in_ok-tag.ensures
