-- The messages of talks.proto: the number, the kind and the place of each member. Written by tools/messages from talks.proto: change that, and run the tool.
-- Source: talks.proto.
use Rattle.std.specs.Prelude.{refl}
use Rattle.ttrpc_members.proofs.Proved.{Message, bytes, message, none, single, text, uint64, ◌&◌∶◌}
use Rattle.ttrpc_test_service.specs.declared.messages.Item.{Item}
use Rattle.ttrpc_test_service.specs.declared.messages.Count.{Count}

-- the message `Item`: 1 name, 2 content
abbrev pub item : Message Item
item = message
    (none & 1 ∶ single text & 2 ∶ single bytes)
    (λ m. ((tt, m.name), m.content))
    (λ x. record { name = x.0.1; content = x.1 })
    (λ x. refl) (λ m. refl) refl

-- the message `Count`: 1 count
abbrev pub count : Message Count
count = message
    (none & 1 ∶ single uint64)
    (λ m. (tt, m.count))
    (λ x. record { count = x.1 })
    (λ x. refl) (λ m. refl) refl
