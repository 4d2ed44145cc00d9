-- Items, members and messages, each with the laws that hold of it, and what the rules of messages that may contain themselves have to want
-- of it, so that what they take reads, and what reads they take in some number of levels. A message's schema is made of these, so that its laws come with it.
use Rattle.std.specs.Prelude.{◌≡◌, ◌≢◌, ◌≤◌, ◌^◌, ◌⊎◌, ℕ, ℤ, Bool, List, [], ◌∷◌, Option, Some, None, true, refl}
use Rattle.std.proofs.Common.{sym, subst}
use Rattle.std.specs.Ordering.{nat_cmp, int_cmp, bool_cmp}
use Rattle.std.specs.Cmp.Lexicographic.{slice_cmp}
use Rattle.std.specs.declared.cmp.Ordering.{Ordering}
use Rattle.ttrpc_members.specs.Items as items
use Rattle.ttrpc_members.specs.Kinds as kinds
use Rattle.ttrpc_members.specs.Nesting.{content_of, nested_upto, within}
use Rattle.ttrpc_members.specs.declared.nesting.Content.{Content}
use Rattle.ttrpc_members.specs.declared.nesting.Content.TheVariants as content
use Rattle.ttrpc_wire.specs.Fold.{read_from}
use Rattle.ttrpc_members.specs.declared.nesting.Rule.{Rule}
use Rattle.ttrpc_members.specs.Schema as schema
use Rattle.ttrpc_members.specs.Laws.{LawfulCoding, LawfulItem, LawfulKind, LawfulPart, LawfulParts, are_valid}
use Rattle.ttrpc_members.proofs.ItemLaws as item_laws
use Rattle.ttrpc_members.proofs.KindLaws as kind_laws
use Rattle.ttrpc_members.specs.Choices as choices
use Rattle.ttrpc_members.specs.Maps as maps
use Rattle.ttrpc_members.proofs.ChoiceLaws.{LawfulChoices, no_choice_lawful, or_item_lawful, one_of_lawful}
use Rattle.ttrpc_members.proofs.MapLaws as map_laws
use Rattle.ttrpc_members.proofs.PackedLaws as packed_laws
use Rattle.ttrpc_members.proofs.PartLaws as part_laws
use Rattle.ttrpc_members.proofs.Takes as takes
use Rattle.ttrpc_members.proofs.Exact as exact

-- an item that keeps its laws
pub record Item (A : Type 0) : Type 1 where
  pub form : items.Item A
  pub laws : LawfulItem form
  pub wants : List Rule → Option Content → Type 0
  pub takes : (rules : List Rule) (k : ℕ) (c : Option Content) → k ≤ 100 → wants rules c → takes.TakesItem rules k c form
  pub exact : (rules : List Rule) (c : Option Content) → wants rules c → exact.ExactItem rules c form

-- a kind of member that keeps its laws
pub record Kind (A : Type 0) : Type 1 where
  pub kind : kinds.Kind A
  pub laws : LawfulKind kind
  pub wants : List Rule → Option Content → Type 0
  pub takes : (rules : List Rule) (k : ℕ) (c : Option Content) → k ≤ 100 → wants rules c → takes.TakesKind rules k c kind
  pub exact : (rules : List Rule) (c : Option Content) → wants rules c → exact.ExactKind rules c kind

-- parts of a message that keep their laws
pub record Parts (P : Type 0) : Type 1 where
  pub parts : schema.Parts P
  pub laws : LawfulParts parts
  pub wants : List Rule → ℕ → Type 0
  pub takes : (rules : List Rule) (k message : ℕ) → k ≤ 100 → wants rules message → takes.TakesParts rules k message parts
  pub exact : (rules : List Rule) (message : ℕ) → wants rules message → exact.ExactParts rules message parts

-- a message that keeps its laws; fields can have its members' numbers, and no two of these are equal
pub record Message (M : Type 0) : Type 1 where
  pub part : schema.Part M
  pub laws : LawfulPart part
  pub valid : are_valid part.numbers ≡ true
  pub wants : List Rule → ℕ → Type 0
  pub takes : (rules : List Rule) (k message : ℕ) → k ≤ 100 → wants rules message → takes.TakesPart rules k message part
  pub exact : (rules : List Rule) (message : ℕ) → wants rules message → exact.ExactMessage rules message part

-- ---- items

abbrev pub text : Item (List ℕ)
text = record {
  form = items.text;
  laws = item_laws.text_lawful;
  wants = λ rules c. c ≡ Some content.Text;
  takes = λ rules k c low w. subst (λ (c : Option Content). takes.TakesItem rules k c items.text) (sym w) (takes.text_takes rules k);
  exact = λ rules c w. subst (λ (c : Option Content). exact.ExactItem rules c items.text) (sym w) (exact.text_exact rules);
}

abbrev pub bytes : Item (List ℕ)
bytes = record {
  form = items.bytes;
  laws = item_laws.bytes_lawful;
  wants = λ rules c. c ≡ None;
  takes = λ rules k c low w. takes.bytes_takes rules k c;
  exact = λ rules c w. subst (λ (c : Option Content). exact.ExactItem rules c items.bytes) (sym w) (exact.free_exact rules items.bytes);
}

-- a message as an item
abbrev pub nested : {M : Type 0} → Message M → Item M
nested m = record {
  form = items.nested m.part.is_value m.part.empty m.part.step m.part.fields;
  laws = item_laws.nested_lawful m.part.is_value m.part.empty m.part.step m.part.fields (m.laws.again m.valid) (m.laws.fits m.valid);
  wants = λ rules c. (inner : ℕ) × (c ≡ Some (content.Message inner)) × m.wants rules inner;
  takes = λ rules k c low w. subst (λ (c : Option Content). takes.TakesItem rules k c (items.nested m.part.is_value m.part.empty m.part.step m.part.fields)) (sym w.1)
      (takes.nested_takes rules w.0 m.part (λ k low. m.takes rules k w.0 low w.2) k low);
  exact = λ rules c w. subst (λ (c : Option Content). exact.ExactItem rules c (items.nested m.part.is_value m.part.empty m.part.step m.part.fields)) (sym w.1)
      (exact.nested_exact rules w.0 m.part (m.exact rules w.0 w.2));
}

-- a message that may contain the one that it is in, as an item: by the rules, and its place among the messages that they are of
abbrev pub enclosed : List Rule → ℕ → Item (List ℕ)
enclosed rules message = record {
  form = items.enclosed (within rules message);
  laws = item_laws.enclosed_lawful (within rules message);
  wants = λ others c. (others ≡ rules) × (c ≡ Some (content.Message message));
  takes = λ others k c low w. subst (λ (r : List Rule). takes.TakesItem others k c (items.enclosed (within r message))) w.0
      (subst (λ (c : Option Content). takes.TakesItem others k c (items.enclosed (within others message))) (sym w.1) (takes.enclosed_takes others k low message));
  exact = λ others c w. subst (λ (r : List Rule). exact.ExactItem others c (items.enclosed (within r message))) w.0
      (subst (λ (c : Option Content). exact.ExactItem others c (items.enclosed (within others message))) (sym w.1) (exact.enclosed_exact others message));
}

-- a number that is written as a varint
abbrev as_varint : {A : Type 0} (c : items.Coding A) → LawfulCoding c (2 ^ 64) → Item A
as_varint c laws = record {
  form = items.as_varint c;
  laws = item_laws.varint_lawful c laws;
  wants = λ rules want. want ≡ None;
  takes = λ rules k want low w. takes.varint_takes rules k c want;
  exact = λ rules want w. subst (λ (want : Option Content). exact.ExactItem rules want (items.as_varint c)) (sym w) (exact.free_exact rules (items.as_varint c));
}

-- a number that is written as eight bytes
abbrev as_fixed64 : {A : Type 0} (c : items.Coding A) → LawfulCoding c (2 ^ 64) → Item A
as_fixed64 c laws = record {
  form = items.as_fixed64 c;
  laws = item_laws.fixed64_lawful c laws;
  wants = λ rules want. want ≡ None;
  takes = λ rules k want low w. takes.fixed64_takes rules k c want;
  exact = λ rules want w. subst (λ (want : Option Content). exact.ExactItem rules want (items.as_fixed64 c)) (sym w) (exact.free_exact rules (items.as_fixed64 c));
}

-- a number that is written as four bytes
abbrev as_fixed32 : {A : Type 0} (c : items.Coding A) → LawfulCoding c (2 ^ 32) → Item A
as_fixed32 c laws = record {
  form = items.as_fixed32 c;
  laws = item_laws.fixed32_lawful c laws;
  wants = λ rules want. want ≡ None;
  takes = λ rules k want low w. takes.fixed32_takes rules k c want;
  exact = λ rules want w. subst (λ (want : Option Content). exact.ExactItem rules want (items.as_fixed32 c)) (sym w) (exact.free_exact rules (items.as_fixed32 c));
}

abbrev pub int32 : Item ℤ
int32 = as_varint items.int32 item_laws.int32_codes

abbrev pub int64 : Item ℤ
int64 = as_varint items.int64 item_laws.int64_codes

abbrev pub uint32 : Item ℕ
uint32 = as_varint items.uint32 item_laws.uint32_codes

abbrev pub uint64 : Item ℕ
uint64 = as_varint items.uint64 item_laws.uint64_codes

abbrev pub sint32 : Item ℤ
sint32 = as_varint items.sint32 item_laws.sint32_codes

abbrev pub sint64 : Item ℤ
sint64 = as_varint items.sint64 item_laws.sint64_codes

abbrev pub boolean : Item Bool
boolean = as_varint items.boolean item_laws.boolean_codes

-- `fixed32` and the bits of a `float`
abbrev pub bits32 : Item ℕ
bits32 = as_fixed32 items.uint32 item_laws.uint32_codes32

-- `fixed64` and the bits of a `double`
abbrev pub bits64 : Item ℕ
bits64 = as_fixed64 items.uint64 item_laws.uint64_codes

abbrev pub signed32 : Item ℤ
signed32 = as_fixed32 items.sfixed32 item_laws.sfixed32_codes

abbrev pub signed64 : Item ℤ
signed64 = as_fixed64 items.sfixed64 item_laws.int64_codes

-- ---- kinds of members

abbrev pub single : {A : Type 0} → Item A → Kind A
single i = record {
  kind = kinds.single i.form;
  laws = kind_laws.single_lawful i.form i.laws;
  wants = i.wants;
  takes = λ rules k c low w. takes.single_takes rules k c i.form (i.takes rules k c low w);
  exact = λ rules c w. exact.single_exact rules c i.form (i.exact rules c w);
}

abbrev pub optional : {A : Type 0} → Item A → Kind (Option A)
optional i = record {
  kind = kinds.optional i.form;
  laws = kind_laws.optional_lawful i.form i.laws;
  wants = i.wants;
  takes = λ rules k c low w. takes.optional_takes rules k c i.form (i.takes rules k c low w);
  exact = λ rules c w. exact.optional_exact rules c i.form (i.exact rules c w);
}

abbrev pub repeated : {A : Type 0} → Item A → Kind (List A)
repeated i = record {
  kind = kinds.repeated i.form;
  laws = kind_laws.repeated_lawful i.form i.laws;
  wants = i.wants;
  takes = λ rules k c low w. takes.repeated_takes rules k c i.form (i.takes rules k c low w);
  exact = λ rules c w. exact.repeated_exact rules c i.form (i.exact rules c w);
}

abbrev pub packed : {A : Type 0} → Item A → Kind (List A)
packed i = record {
  kind = kinds.packed i.form;
  laws = packed_laws.packed_lawful i.form i.laws;
  wants = λ rules c. (c ≡ Some (content.Numbers i.form.wire_type)) × i.wants rules None;
  takes = λ rules k c low w. subst (λ (c : Option Content). takes.TakesKind rules k c (kinds.packed i.form)) (sym w.0)
      (takes.packed_takes i.form (λ x v. i.takes rules k None low w.1 x v refl) rules k);
  exact = λ rules c w. subst (λ (c : Option Content). exact.ExactKind rules c (kinds.packed i.form)) (sym w.0) (exact.packed_exact i.form rules);
}

-- ---- maps

-- a type of keys: its items, and the keys' order
pub record Key (K : Type 0) : Type 1 where
  pub item : Item K
  pub order : K → K → Ordering

abbrev pub text_key : Key (List ℕ)
text_key = record { item = text; order = slice_cmp nat_cmp }

-- keys that are numbers from 0 on
abbrev pub natural_key : Item ℕ → Key ℕ
natural_key i = record { item = i; order = nat_cmp }

-- keys that are signed numbers
abbrev pub signed_key : Item ℤ → Key ℤ
signed_key i = record { item = i; order = int_cmp }

abbrev pub boolean_key : Key Bool
boolean_key = record { item = boolean; order = bool_cmp }

abbrev pub map : {K V : Type 0} → Key K → Item V → Kind (List (K × V))
map key value = record {
  kind = maps.map_of key.order (maps.entry_item key.item.form value.form);
  laws = map_laws.map_lawful key.order (maps.entry_item key.item.form value.form) (map_laws.entry_item_lawful key.item.form value.form key.item.laws value.laws);
  wants = λ rules c. (entry : ℕ) × (c ≡ Some (content.Message entry)) × key.item.wants rules (content_of rules entry 1) × value.wants rules (content_of rules entry 2) × (exact.are_of rules entry (1 ∷ 2 ∷ []) ≡ true);
  takes = λ rules k c low w. subst (λ (c : Option Content). takes.TakesKind rules k c (maps.map_of key.order (maps.entry_item key.item.form value.form))) (sym w.1)
      (takes.map_takes rules w.0 key.item.form value.form (λ k low. key.item.takes rules k (content_of rules w.0 1) low w.2) (λ k low. value.takes rules k (content_of rules w.0 2) low w.3) key.order k low);
  exact = λ rules c w. subst (λ (c : Option Content). exact.ExactKind rules c (maps.map_of key.order (maps.entry_item key.item.form value.form))) (sym w.1)
      (exact.map_exact rules w.0 key.item.form value.form (key.item.exact rules (content_of rules w.0 1) w.2) (value.exact rules (content_of rules w.0 2) w.3) w.4 key.order);
}

-- ---- messages

-- no member
abbrev pub none : Parts (Unit {0})
none = record {
  parts = schema.none;
  laws = part_laws.none_lawful;
  wants = λ rules message. Unit {0};
  takes = λ rules k message low w. takes.none_takes rules k message;
  exact = λ rules message w. exact.none_exact rules message;
}

-- parts, and a member of this number behind them
infixl 5 ◌&◌∶◌
abbrev pub ◌&◌∶◌ : {P A : Type 0} → Parts P → ℕ → Kind A → Parts (P × A)
p & k ∶ q = record {
  parts = schema.with_part p.parts (schema.member k q.kind);
  laws = part_laws.with_lawful p.parts (schema.member k q.kind) p.laws (part_laws.member_lawful k q.kind q.laws);
  wants = λ rules message. p.wants rules message × q.wants rules (content_of rules message k);
  takes = λ rules l message low w. takes.with_takes rules l message p.parts (schema.member k q.kind) (p.takes rules l message low w.0)
      (takes.member_takes rules l message k q.kind (q.takes rules l (content_of rules message k) low w.1));
  exact = λ rules message w. exact.with_exact rules message p.parts (schema.member k q.kind) (p.exact rules message w.0)
      (exact.member_exact rules message k q.kind (q.exact rules (content_of rules message k) w.1));
}

-- ---- members of which at most one is set

-- members to choose from that keep their laws
pub record Choices (S : Type 0) : Type 1 where
  pub choices : choices.Choices S
  pub laws : LawfulChoices choices
  pub wants : List Rule → ℕ → Type 0
  pub takes : (rules : List Rule) (k message : ℕ) → k ≤ 100 → wants rules message → takes.TakesChoices rules k message choices
  pub exact : (rules : List Rule) (message : ℕ) → wants rules message → exact.ExactChoices rules message choices

-- none to choose from
abbrev pub no_choice : Choices ⊥
no_choice = record {
  choices = choices.no_choice;
  laws = no_choice_lawful;
  wants = λ rules message. Unit {0};
  takes = λ rules k message low w. takes.no_choice_takes rules k message;
  exact = λ rules message w. exact.no_choice_exact rules message;
}

-- members to choose from, and one of this number behind them
infixl 5 ◌or◌is◌
abbrev pub ◌or◌is◌ : {S A : Type 0} → Choices S → ℕ → Item A → Choices (S ⊎ A)
c or k is i = record {
  choices = choices.or_item c.choices k i.form;
  laws = or_item_lawful c.choices k i.form c.laws i.laws;
  wants = λ rules message. c.wants rules message × i.wants rules (content_of rules message k);
  takes = λ rules l message low w. takes.or_takes rules l message k c.choices i.form (c.takes rules l message low w.0) (i.takes rules l (content_of rules message k) low w.1);
  exact = λ rules message w. exact.or_exact rules message k c.choices i.form (c.exact rules message w.0) (i.exact rules (content_of rules message k) w.1);
}

-- one of them that is set, or none, which keeps its laws
pub record OneOf (C : Type 0) : Type 1 where
  pub part : schema.Part (Option C)
  pub laws : LawfulPart part
  pub wants : List Rule → ℕ → Type 0
  pub takes : (rules : List Rule) (k message : ℕ) → k ≤ 100 → wants rules message → takes.TakesPart rules k message part
  pub exact : (rules : List Rule) (message : ℕ) → wants rules message → exact.ExactPart rules message part

-- one of these: how the type of what is set falls into them, and is made of them
abbrev pub one_of : {S C : Type 0} (c : Choices S) (split : C → S) (join : S → C) → ((x : C) → join (split x) ≡ x) → OneOf C
one_of c split join joined = record {
  part = choices.one_of c.choices split join;
  laws = one_of_lawful c.choices split join joined c.laws;
  wants = c.wants;
  takes = λ rules k message low w. takes.one_of_takes rules k message c.choices split join (c.takes rules k message low w);
  exact = λ rules message w. exact.one_of_exact rules message c.choices split join (c.exact rules message w);
}

-- parts, and one of several members behind them
infixl 5 ◌&one◌
abbrev pub ◌&one◌ : {P C : Type 0} → Parts P → OneOf C → Parts (P × Option C)
p &one q = record {
  parts = schema.with_part p.parts q.part;
  laws = part_laws.with_lawful p.parts q.part p.laws q.laws;
  wants = λ rules message. p.wants rules message × q.wants rules message;
  takes = λ rules k message low w. takes.with_takes rules k message p.parts q.part (p.takes rules k message low w.0) (q.takes rules k message low w.1);
  exact = λ rules message w. exact.with_exact rules message p.parts q.part (p.exact rules message w.0) (q.exact rules message w.1);
}

-- ---- the message

-- the message of these parts: how it falls into them, and is made of them
abbrev pub message : {P M : Type 0} (p : Parts P) (split : M → P) (join : P → M) → ((x : P) → split (join x) ≡ x) → ((m : M) → join (split m) ≡ m)
    → are_valid p.parts.numbers ≡ true → Message M
message p split join parted joined valid = record {
  part = schema.message_of p.parts split join;
  laws = part_laws.message_lawful p.parts split join parted joined p.laws;
  valid = valid;
  wants = λ rules message. p.wants rules message × (exact.are_of rules message p.parts.numbers ≡ true);
  takes = λ rules k message low w. takes.message_takes rules k message p.parts split join (p.takes rules k message low w.0);
  exact = λ rules message w. exact.message_exact rules message p.parts split join w.1 (p.exact rules message w.0);
}

-- bytes that the rules take as this message read as it
pub reads_within : {M : Type 0} (m : Message M) (rules : List Rule) (message : ℕ) → m.wants rules message
    → (bytes : List ℕ) → within rules message bytes ≡ Some tt → read_from m.part.step m.part.empty bytes ≢ None
reads_within m rules message w bytes e = takes.within_reads rules message m.part (λ k low. m.takes rules k message low w) bytes e

-- bytes that read as this message are taken by the rules in some number of levels
pub reads_deep : {M : Type 0} (m : Message M) (rules : List Rule) (message : ℕ) → m.wants rules message
    → (bytes : List ℕ) → read_from m.part.step m.part.empty bytes ≢ None → (levels : ℕ) × (nested_upto rules levels message bytes ≡ Some tt)
reads_deep m rules message w bytes e = exact.reads_deep rules message m.part (m.exact rules message w) m.part.empty bytes e
