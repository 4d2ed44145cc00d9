-- The messages of store.proto: the number, the kind and the place of each member. Written by tools/messages from store.proto: change that, and run the tool.
-- Source: store.proto.
use Rattle.std.specs.Prelude.{refl}
use Rattle.ttrpc_members.proofs.Proved.{Message, bytes, int64, message, nested, none, optional, single, text, ◌&◌∶◌}
use Rattle.store.specs.declared.messages.Entry.{Entry}
use Rattle.store.specs.declared.messages.GetRequest.{GetRequest}
use Rattle.store.specs.declared.messages.GetResponse.{GetResponse}
use Rattle.store.specs.declared.messages.PutResponse.{PutResponse}

-- the message `Entry`: 1 key, 2 value, 3 version
abbrev pub entry : Message Entry
entry = message
    (none & 1 ∶ single text & 2 ∶ single bytes & 3 ∶ single int64)
    (λ m. (((tt, m.key), m.value), m.version))
    (λ x. record { key = x.0.0.1; value = x.0.1; version = x.1 })
    (λ x. refl) (λ m. refl) refl

-- the message `GetRequest`: 1 key
abbrev pub get_request : Message GetRequest
get_request = message
    (none & 1 ∶ single text)
    (λ m. (tt, m.key))
    (λ x. record { key = x.1 })
    (λ x. refl) (λ m. refl) refl

-- the message `GetResponse`: 1 entry
abbrev pub get_response : Message GetResponse
get_response = message
    (none & 1 ∶ optional (nested entry))
    (λ m. (tt, m.entry))
    (λ x. record { entry = x.1 })
    (λ x. refl) (λ m. refl) refl

-- the message `PutResponse`: 1 version
abbrev pub put_response : Message PutResponse
put_response = message
    (none & 1 ∶ single int64)
    (λ m. (tt, m.version))
    (λ x. record { version = x.1 })
    (λ x. refl) (λ m. refl) refl
