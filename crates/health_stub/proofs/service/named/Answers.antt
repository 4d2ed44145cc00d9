use Rattle.std.proofs.Common.{◌≡◌, Some, string_bytes, true}
use Rattle.std.proofs.lemmas.Map.Text.{btree_map_updates_text}
use Rattle.std.proofs.lemmas.Slice.Eq.{bytes_eq-Decides}
use Rattle.std.specs.Str.{bytes_eq}
use Rattle.health_stub.proofs.service.named.Goals as goal

pub returns-clause-ok : goal.returns-clause-ok
returns-clause-ok g c =
    let after = btree_map_updates_text (string_bytes c.in_ok-from_str.field-0) c.new-map.result c.insert.new.self (Some c.args.value) c.in_ok-insert.ensures.updates c.args.name.now in
    let same : bytes_eq (string_bytes c.in_ok-from_str.field-0) c.args.name.now ≡ true = (bytes_eq-Decides (string_bytes c.in_ok-from_str.field-0) c.args.name.now).1 c.in_ok-from_str.ensures.ok in
    rw same at after
