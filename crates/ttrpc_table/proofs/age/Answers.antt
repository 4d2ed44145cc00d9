-- The first key of the row is above all of the older ones.
use Rattle.std.proofs.Common.{◌∙◌}
use Rattle.ttrpc_table.proofs.Calls.{aged}
use Rattle.ttrpc_table.proofs.age.Goals as goal

pub returns-in_default-insert-clause-ok : goal.returns-in_default-insert-clause-ok
returns-in_default-insert-clause-ok g c =
    record {
      key = c.in-Some-Some.key;
      value = c.in-Some-Some.value;
      keys_were = c.in-Some-Some.ensures.items;
      values_were = c.in-Some-Some.ensures'.items;
      are = c.in_default-insert.ensures.entries ∙ aged c.args.older.now.entries c.in-Some-Some.key c.in-Some-Some.value _ _ c.in-Some-Some.ensures.items c.requires.kept.rise;
    }
