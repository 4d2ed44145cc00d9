-- The messages of well_known.proto: the number, the kind and the place of each member. Written by tools/messages from ../../tools/proto/include/well_known.proto: change that, and run the tool.
-- Source: well_known.proto.
use Rattle.std.specs.Prelude.{refl, ◌≡◌, ◌⊎◌, Bool, List, [], ℕ, ℤ, ◌∷◌}
use Rattle.std.proofs.Common.{inl, inr}
use Rattle.ttrpc_members.proofs.Proved.{Message, OneOf, bits32, bits64, boolean, bytes, enclosed, int32, int64, map, message, no_choice, none, one_of, repeated, single, text, text_key, uint32, uint64, ◌&one◌, ◌&◌∶◌, ◌or◌is◌}
use Rattle.ttrpc_members.specs.declared.nesting.Content.TheVariants as content
use Rattle.ttrpc_members.specs.declared.nesting.Rule.{Rule}
use Rattle.ttrpc_well_known.specs.declared.messages.Any.{Any}
use Rattle.ttrpc_well_known.specs.declared.messages.Duration.{Duration}
use Rattle.ttrpc_well_known.specs.declared.messages.Empty.{Empty}
use Rattle.ttrpc_well_known.specs.declared.messages.FieldMask.{FieldMask}
use Rattle.ttrpc_well_known.specs.declared.messages.Struct.{Struct}
use Rattle.ttrpc_well_known.specs.declared.messages.ValueMessage.{ValueMessage}
use Rattle.ttrpc_well_known.specs.declared.messages.ListValue.{ListValue}
use Rattle.ttrpc_well_known.specs.declared.messages.Timestamp.{Timestamp}
use Rattle.ttrpc_well_known.specs.declared.messages.DoubleValue.{DoubleValue}
use Rattle.ttrpc_well_known.specs.declared.messages.FloatValue.{FloatValue}
use Rattle.ttrpc_well_known.specs.declared.messages.Int64Value.{Int64Value}
use Rattle.ttrpc_well_known.specs.declared.messages.UInt64Value.{UInt64Value}
use Rattle.ttrpc_well_known.specs.declared.messages.Int32Value.{Int32Value}
use Rattle.ttrpc_well_known.specs.declared.messages.UInt32Value.{UInt32Value}
use Rattle.ttrpc_well_known.specs.declared.messages.BoolValue.{BoolValue}
use Rattle.ttrpc_well_known.specs.declared.messages.StringValue.{StringValue}
use Rattle.ttrpc_well_known.specs.declared.messages.BytesValue.{BytesValue}
use Rattle.ttrpc_well_known.specs.declared.messages.ValueMessageKind.{ValueMessageKind}
use Rattle.ttrpc_well_known.specs.declared.messages.ValueMessageKind.TheVariants as value_message_kind_variants

-- what has to hold of the bytes of messages that may contain themselves, and of all that may be in them, by the place of a message's first rule:
-- 0 `google.protobuf.Struct`, 1 `google.protobuf.Value`, 4 `google.protobuf.ListValue`, 5 `google.protobuf.Struct.fields`
abbrev pub all_rules : List Rule
all_rules =
    record { message = 0; number = 1; content = content.Message 5 } ∷
    record { message = 1; number = 3; content = content.Text } ∷
    record { message = 1; number = 5; content = content.Message 0 } ∷
    record { message = 1; number = 6; content = content.Message 4 } ∷
    record { message = 4; number = 1; content = content.Message 1 } ∷
    record { message = 5; number = 1; content = content.Text } ∷
    record { message = 5; number = 2; content = content.Message 1 } ∷
    []

-- the message `Any`: 1 type_url, 2 value
abbrev pub any : Message Any
any = message
    (none & 1 ∶ single text & 2 ∶ single bytes)
    (λ m. ((tt, m.type_url), m.value))
    (λ x. record { type_url = x.0.1; value = x.1 })
    (λ x. refl) (λ m. refl) refl

-- the message `Duration`: 1 seconds, 2 nanos
abbrev pub duration : Message Duration
duration = message
    (none & 1 ∶ single int64 & 2 ∶ single int32)
    (λ m. ((tt, m.seconds), m.nanos))
    (λ x. record { seconds = x.0.1; nanos = x.1 })
    (λ x. refl) (λ m. refl) refl

-- the message `Empty`: no member
abbrev pub empty : Message Empty
empty = message
    (none)
    (λ m. tt)
    (λ x. record {})
    (λ x. refl) (λ m. refl) refl

-- the message `FieldMask`: 1 paths
abbrev pub field_mask : Message FieldMask
field_mask = message
    (none & 1 ∶ repeated text)
    (λ m. (tt, m.paths))
    (λ x. record { paths = x.1 })
    (λ x. refl) (λ m. refl) refl

-- the message `Struct`: 1 fields
abbrev pub struct : Message Struct
struct = message
    (none & 1 ∶ map text_key (enclosed all_rules 1))
    (λ m. (tt, m.fields))
    (λ x. record { fields = x.1 })
    (λ x. refl) (λ m. refl) refl

-- the rules want of `Struct` what makes them take the bytes that read as it, and no others
pub struct_wants : struct.wants all_rules 0
struct_wants = ((tt, (5, refl, refl, (refl, refl), refl)), refl)

-- what is set of `ValueMessageKind`, as one of several
abbrev pub value_message_kind_split : ValueMessageKind → (((((⊥ ⊎ ℤ) ⊎ ℕ) ⊎ List ℕ) ⊎ Bool) ⊎ List ℕ) ⊎ List ℕ
value_message_kind_split (value_message_kind_variants.NullValue x) = inl (inl (inl (inl (inl (inr x)))))
value_message_kind_split (value_message_kind_variants.NumberValue x) = inl (inl (inl (inl (inr x))))
value_message_kind_split (value_message_kind_variants.StringValue x) = inl (inl (inl (inr x)))
value_message_kind_split (value_message_kind_variants.BoolValue x) = inl (inl (inr x))
value_message_kind_split (value_message_kind_variants.StructValue x) = inl (inr x)
value_message_kind_split (value_message_kind_variants.ListValue x) = inr x

-- the other way round
abbrev pub value_message_kind_join : (((((⊥ ⊎ ℤ) ⊎ ℕ) ⊎ List ℕ) ⊎ Bool) ⊎ List ℕ) ⊎ List ℕ → ValueMessageKind
value_message_kind_join (inl (inl (inl (inl (inl (inl x)))))) = absurd x
value_message_kind_join (inl (inl (inl (inl (inl (inr x)))))) = value_message_kind_variants.NullValue x
value_message_kind_join (inl (inl (inl (inl (inr x))))) = value_message_kind_variants.NumberValue x
value_message_kind_join (inl (inl (inl (inr x)))) = value_message_kind_variants.StringValue x
value_message_kind_join (inl (inl (inr x))) = value_message_kind_variants.BoolValue x
value_message_kind_join (inl (inr x)) = value_message_kind_variants.StructValue x
value_message_kind_join (inr x) = value_message_kind_variants.ListValue x

-- both ways give it back
pub value_message_kind_joined : (x : ValueMessageKind) → value_message_kind_join (value_message_kind_split x) ≡ x
value_message_kind_joined (value_message_kind_variants.NullValue x) = refl
value_message_kind_joined (value_message_kind_variants.NumberValue x) = refl
value_message_kind_joined (value_message_kind_variants.StringValue x) = refl
value_message_kind_joined (value_message_kind_variants.BoolValue x) = refl
value_message_kind_joined (value_message_kind_variants.StructValue x) = refl
value_message_kind_joined (value_message_kind_variants.ListValue x) = refl

-- `ValueMessageKind`: one of 1 null_value, 2 number_value, 3 string_value, 4 bool_value, 5 struct_value, 6 list_value
abbrev pub value_message_kind : OneOf ValueMessageKind
value_message_kind = one_of (no_choice or 1 is int32 or 2 is bits64 or 3 is text or 4 is boolean or 5 is (enclosed all_rules 0) or 6 is (enclosed all_rules 4)) value_message_kind_split value_message_kind_join value_message_kind_joined

-- the message `ValueMessage`: one of 1 null_value, 2 number_value, 3 string_value, 4 bool_value, 5 struct_value, 6 list_value
abbrev pub value_message : Message ValueMessage
value_message = message
    (none &one value_message_kind)
    (λ m. (tt, m.kind))
    (λ x. record { kind = x.1 })
    (λ x. refl) (λ m. refl) refl

-- the rules want of `ValueMessage` what makes them take the bytes that read as it, and no others
pub value_message_wants : value_message.wants all_rules 1
value_message_wants = ((tt, ((((((tt, refl), refl), refl), refl), (refl, refl)), (refl, refl))), refl)

-- the message `ListValue`: 1 values
abbrev pub list_value : Message ListValue
list_value = message
    (none & 1 ∶ repeated (enclosed all_rules 1))
    (λ m. (tt, m.values))
    (λ x. record { values = x.1 })
    (λ x. refl) (λ m. refl) refl

-- the rules want of `ListValue` what makes them take the bytes that read as it, and no others
pub list_value_wants : list_value.wants all_rules 4
list_value_wants = ((tt, (refl, refl)), refl)

-- the message `Timestamp`: 1 seconds, 2 nanos
abbrev pub timestamp : Message Timestamp
timestamp = message
    (none & 1 ∶ single int64 & 2 ∶ single int32)
    (λ m. ((tt, m.seconds), m.nanos))
    (λ x. record { seconds = x.0.1; nanos = x.1 })
    (λ x. refl) (λ m. refl) refl

-- the message `DoubleValue`: 1 value
abbrev pub double_value : Message DoubleValue
double_value = message
    (none & 1 ∶ single bits64)
    (λ m. (tt, m.value))
    (λ x. record { value = x.1 })
    (λ x. refl) (λ m. refl) refl

-- the message `FloatValue`: 1 value
abbrev pub float_value : Message FloatValue
float_value = message
    (none & 1 ∶ single bits32)
    (λ m. (tt, m.value))
    (λ x. record { value = x.1 })
    (λ x. refl) (λ m. refl) refl

-- the message `Int64Value`: 1 value
abbrev pub int64_value : Message Int64Value
int64_value = message
    (none & 1 ∶ single int64)
    (λ m. (tt, m.value))
    (λ x. record { value = x.1 })
    (λ x. refl) (λ m. refl) refl

-- the message `UInt64Value`: 1 value
abbrev pub u_int64_value : Message UInt64Value
u_int64_value = message
    (none & 1 ∶ single uint64)
    (λ m. (tt, m.value))
    (λ x. record { value = x.1 })
    (λ x. refl) (λ m. refl) refl

-- the message `Int32Value`: 1 value
abbrev pub int32_value : Message Int32Value
int32_value = message
    (none & 1 ∶ single int32)
    (λ m. (tt, m.value))
    (λ x. record { value = x.1 })
    (λ x. refl) (λ m. refl) refl

-- the message `UInt32Value`: 1 value
abbrev pub u_int32_value : Message UInt32Value
u_int32_value = message
    (none & 1 ∶ single uint32)
    (λ m. (tt, m.value))
    (λ x. record { value = x.1 })
    (λ x. refl) (λ m. refl) refl

-- the message `BoolValue`: 1 value
abbrev pub bool_value : Message BoolValue
bool_value = message
    (none & 1 ∶ single boolean)
    (λ m. (tt, m.value))
    (λ x. record { value = x.1 })
    (λ x. refl) (λ m. refl) refl

-- the message `StringValue`: 1 value
abbrev pub string_value : Message StringValue
string_value = message
    (none & 1 ∶ single text)
    (λ m. (tt, m.value))
    (λ x. record { value = x.1 })
    (λ x. refl) (λ m. refl) refl

-- the message `BytesValue`: 1 value
abbrev pub bytes_value : Message BytesValue
bytes_value = message
    (none & 1 ∶ single bytes)
    (λ m. (tt, m.value))
    (λ x. record { value = x.1 })
    (λ x. refl) (λ m. refl) refl
