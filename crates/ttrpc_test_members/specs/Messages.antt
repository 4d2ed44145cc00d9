-- The messages of kinds.proto: the number, the kind and the place of each member. Written by tools/messages from kinds.proto: change that, and run the tool.
-- Source: kinds.proto.
use Rattle.std.specs.Prelude.{refl, ◌≡◌, ◌⊎◌, Bool, List, [], ℕ, ℤ, ◌∷◌}
use Rattle.std.proofs.Common.{inl, inr}
use Rattle.ttrpc_members.proofs.Proved.{Message, OneOf, bits32, bits64, boolean, boolean_key, bytes, enclosed, int32, int64, map, message, natural_key, nested, no_choice, none, one_of, optional, packed, repeated, signed32, signed64, signed_key, single, sint32, sint64, text, text_key, uint32, uint64, ◌&one◌, ◌&◌∶◌, ◌or◌is◌}
use Rattle.ttrpc_wire.specs.declared.field.WireType.TheVariants as wire
use Rattle.ttrpc_members.specs.declared.nesting.Content.TheVariants as content
use Rattle.ttrpc_members.specs.declared.nesting.Rule.{Rule}
use Rattle.ttrpc_test_members.specs.declared.messages.Timestamp.{Timestamp}
use Rattle.ttrpc_test_members.specs.declared.messages.Figures.{Figures}
use Rattle.ttrpc_test_members.specs.declared.messages.Inner.{Inner}
use Rattle.ttrpc_test_members.specs.declared.messages.Lists.{Lists}
use Rattle.ttrpc_test_members.specs.declared.messages.Options.{Options}
use Rattle.ttrpc_test_members.specs.declared.messages.Tables.{Tables}
use Rattle.ttrpc_test_members.specs.declared.messages.Choices.{Choices}
use Rattle.ttrpc_test_members.specs.declared.messages.Labelled.{Labelled}
use Rattle.ttrpc_test_members.specs.declared.messages.All.{All}
use Rattle.ttrpc_test_members.specs.declared.messages.Tree.{Tree}
use Rattle.ttrpc_test_members.specs.declared.messages.Sheet.{Sheet}
use Rattle.ttrpc_test_members.specs.declared.messages.Cell.{Cell}
use Rattle.ttrpc_test_members.specs.declared.messages.Row.{Row}
use Rattle.ttrpc_test_members.specs.declared.messages.CellKind.{CellKind}
use Rattle.ttrpc_test_members.specs.declared.messages.CellKind.TheVariants as cell_kind_variants
use Rattle.ttrpc_test_members.specs.declared.messages.ChoicesFigure.{ChoicesFigure}
use Rattle.ttrpc_test_members.specs.declared.messages.ChoicesFigure.TheVariants as choices_figure_variants
use Rattle.ttrpc_test_members.specs.declared.messages.LabelledKind.{LabelledKind}
use Rattle.ttrpc_test_members.specs.declared.messages.LabelledKind.TheVariants as labelled_kind_variants

-- what has to hold of the bytes of messages that may contain themselves, and of all that may be in them, by the place of a message's first rule:
-- 0 `test.kinds.Tree`, 6 `test.kinds.Inner`, 7 `test.kinds.Sheet`, 8 `test.kinds.Cell`, 11 `test.kinds.Row`, 12 `test.kinds.Tree.named`, 14 `test.kinds.Sheet.cells`
abbrev pub all_rules : List Rule
all_rules =
    record { message = 0; number = 1; content = content.Text } ∷
    record { message = 0; number = 2; content = content.Message 0 } ∷
    record { message = 0; number = 3; content = content.Message 0 } ∷
    record { message = 0; number = 4; content = content.Message 12 } ∷
    record { message = 0; number = 5; content = content.Message 6 } ∷
    record { message = 0; number = 6; content = content.Numbers wire.Varint } ∷
    record { message = 6; number = 1; content = content.Text } ∷
    record { message = 7; number = 1; content = content.Message 14 } ∷
    record { message = 8; number = 2; content = content.Text } ∷
    record { message = 8; number = 3; content = content.Message 7 } ∷
    record { message = 8; number = 4; content = content.Message 11 } ∷
    record { message = 11; number = 1; content = content.Message 8 } ∷
    record { message = 12; number = 1; content = content.Text } ∷
    record { message = 12; number = 2; content = content.Message 0 } ∷
    record { message = 14; number = 1; content = content.Text } ∷
    record { message = 14; number = 2; content = content.Message 8 } ∷
    []

-- the message `Timestamp`: 1 seconds, 2 nanos
abbrev pub timestamp : Message Timestamp
timestamp = message
    (none & 1 ∶ single int64 & 2 ∶ single int32)
    (λ m. ((tt, m.seconds), m.nanos))
    (λ x. record { seconds = x.0.1; nanos = x.1 })
    (λ x. refl) (λ m. refl) refl

-- the message `Figures`: 1 a, 2 b, 3 c, 4 d, 5 e, 6 f, 7 g, 8 h, 9 i, 10 j, 11 k, 12 l, 13 m, 14 n
abbrev pub figures : Message Figures
figures = message
    (none & 1 ∶ single int32 & 2 ∶ single int64 & 3 ∶ single uint32 & 4 ∶ single uint64 & 5 ∶ single sint32 & 6 ∶ single sint64 & 7 ∶ single boolean & 8 ∶ single bits32 & 9 ∶ single bits64 & 10 ∶ single signed32 & 11 ∶ single signed64 & 12 ∶ single bits32 & 13 ∶ single bits64 & 14 ∶ single int32)
    (λ m. ((((((((((((((tt, m.a), m.b), m.c), m.d), m.e), m.f), m.g), m.h), m.i), m.j), m.k), m.l), m.m), m.n))
    (λ x. record { a = x.0.0.0.0.0.0.0.0.0.0.0.0.0.1; b = x.0.0.0.0.0.0.0.0.0.0.0.0.1; c = x.0.0.0.0.0.0.0.0.0.0.0.1; d = x.0.0.0.0.0.0.0.0.0.0.1; e = x.0.0.0.0.0.0.0.0.0.1; f = x.0.0.0.0.0.0.0.0.1; g = x.0.0.0.0.0.0.0.1; h = x.0.0.0.0.0.0.1; i = x.0.0.0.0.0.1; j = x.0.0.0.0.1; k = x.0.0.0.1; l = x.0.0.1; m = x.0.1; n = x.1 })
    (λ x. refl) (λ m. refl) refl

-- the message `Inner`: 1 name, 2 data, 16 number
abbrev pub inner : Message Inner
inner = message
    (none & 1 ∶ single text & 2 ∶ single bytes & 16 ∶ single sint32)
    (λ m. (((tt, m.name), m.data), m.number))
    (λ x. record { name = x.0.0.1; «data» = x.0.1; number = x.1 })
    (λ x. refl) (λ m. refl) refl

-- the rules want of `Inner` what makes them take the bytes that read as it, and no others
pub inner_wants : inner.wants all_rules 6
inner_wants = ((((tt, refl), refl), refl), refl)

-- the message `Lists`: 1 ints, 2 zigzags, 3 doubles, 4 flags, 5 texts, 6 blobs, 7 ways, 8 inners, 9 fixeds
abbrev pub lists : Message Lists
lists = message
    (none & 1 ∶ packed int32 & 2 ∶ packed sint64 & 3 ∶ packed bits64 & 4 ∶ packed boolean & 5 ∶ repeated text & 6 ∶ repeated bytes & 7 ∶ packed int32 & 8 ∶ repeated (nested inner) & 9 ∶ packed bits32)
    (λ m. (((((((((tt, m.ints), m.zigzags), m.doubles), m.flags), m.texts), m.blobs), m.ways), m.inners), m.fixeds))
    (λ x. record { ints = x.0.0.0.0.0.0.0.0.1; zigzags = x.0.0.0.0.0.0.0.1; doubles = x.0.0.0.0.0.0.1; flags = x.0.0.0.0.0.1; texts = x.0.0.0.0.1; blobs = x.0.0.0.1; ways = x.0.0.1; inners = x.0.1; fixeds = x.1 })
    (λ x. refl) (λ m. refl) refl

-- the message `Options`: 1 number, 2 text, 3 blob, 4 inner, 6 at, 536870911 flag
abbrev pub options : Message Options
options = message
    (none & 1 ∶ optional int32 & 2 ∶ optional text & 3 ∶ optional bytes & 4 ∶ optional (nested inner) & 6 ∶ optional (nested timestamp) & 536870911 ∶ optional boolean)
    (λ m. ((((((tt, m.number), m.text), m.blob), m.inner), m.at), m.flag))
    (λ x. record { number = x.0.0.0.0.0.1; text = x.0.0.0.0.1; blob = x.0.0.0.1; inner = x.0.0.1; at = x.0.1; flag = x.1 })
    (λ x. refl) (λ m. refl) refl

-- the message `Tables`: 1 labels, 2 inners, 3 flags, 4 ways, 5 floats
abbrev pub tables : Message Tables
tables = message
    (none & 1 ∶ map text_key text & 2 ∶ map (signed_key int32) (nested inner) & 3 ∶ map boolean_key bytes & 4 ∶ map (natural_key bits64) int32 & 5 ∶ map (signed_key sint64) bits32)
    (λ m. (((((tt, m.labels), m.inners), m.flags), m.ways), m.floats))
    (λ x. record { labels = x.0.0.0.0.1; inners = x.0.0.0.1; flags = x.0.0.1; ways = x.0.1; floats = x.1 })
    (λ x. refl) (λ m. refl) refl

-- what is set of `ChoicesFigure`, as one of several
abbrev pub choices_figure_split : ChoicesFigure → ((((((⊥ ⊎ ℤ) ⊎ List ℕ) ⊎ Inner) ⊎ Bool) ⊎ ℕ) ⊎ ℤ) ⊎ List ℕ
choices_figure_split (choices_figure_variants.Number x) = inl (inl (inl (inl (inl (inl (inr x))))))
choices_figure_split (choices_figure_variants.Text x) = inl (inl (inl (inl (inl (inr x)))))
choices_figure_split (choices_figure_variants.Inner x) = inl (inl (inl (inl (inr x))))
choices_figure_split (choices_figure_variants.Flag x) = inl (inl (inl (inr x)))
choices_figure_split (choices_figure_variants.Weight x) = inl (inl (inr x))
choices_figure_split (choices_figure_variants.Way x) = inl (inr x)
choices_figure_split (choices_figure_variants.Blob x) = inr x

-- the other way round
abbrev pub choices_figure_join : ((((((⊥ ⊎ ℤ) ⊎ List ℕ) ⊎ Inner) ⊎ Bool) ⊎ ℕ) ⊎ ℤ) ⊎ List ℕ → ChoicesFigure
choices_figure_join (inl (inl (inl (inl (inl (inl (inl x))))))) = absurd x
choices_figure_join (inl (inl (inl (inl (inl (inl (inr x))))))) = choices_figure_variants.Number x
choices_figure_join (inl (inl (inl (inl (inl (inr x)))))) = choices_figure_variants.Text x
choices_figure_join (inl (inl (inl (inl (inr x))))) = choices_figure_variants.Inner x
choices_figure_join (inl (inl (inl (inr x)))) = choices_figure_variants.Flag x
choices_figure_join (inl (inl (inr x))) = choices_figure_variants.Weight x
choices_figure_join (inl (inr x)) = choices_figure_variants.Way x
choices_figure_join (inr x) = choices_figure_variants.Blob x

-- both ways give it back
pub choices_figure_joined : (x : ChoicesFigure) → choices_figure_join (choices_figure_split x) ≡ x
choices_figure_joined (choices_figure_variants.Number x) = refl
choices_figure_joined (choices_figure_variants.Text x) = refl
choices_figure_joined (choices_figure_variants.Inner x) = refl
choices_figure_joined (choices_figure_variants.Flag x) = refl
choices_figure_joined (choices_figure_variants.Weight x) = refl
choices_figure_joined (choices_figure_variants.Way x) = refl
choices_figure_joined (choices_figure_variants.Blob x) = refl

-- `ChoicesFigure`: one of 1 number, 2 text, 3 inner, 4 flag, 5 weight, 6 way, 7 blob
abbrev pub choices_figure : OneOf ChoicesFigure
choices_figure = one_of (no_choice or 1 is sint32 or 2 is text or 3 is (nested inner) or 4 is boolean or 5 is bits64 or 6 is int32 or 7 is bytes) choices_figure_split choices_figure_join choices_figure_joined

-- the message `Choices`: one of 1 number, 2 text, 3 inner, 4 flag, 5 weight, 6 way, 7 blob, 8 behind
abbrev pub choices : Message Choices
choices = message
    (none &one choices_figure & 8 ∶ single text)
    (λ m. ((tt, m.figure), m.behind))
    (λ x. record { figure = x.0.1; behind = x.1 })
    (λ x. refl) (λ m. refl) refl

-- what is set of `LabelledKind`, as one of several
abbrev pub labelled_kind_split : LabelledKind → (⊥ ⊎ List ℕ) ⊎ Inner
labelled_kind_split (labelled_kind_variants.Text x) = inl (inr x)
labelled_kind_split (labelled_kind_variants.Inner x) = inr x

-- the other way round
abbrev pub labelled_kind_join : (⊥ ⊎ List ℕ) ⊎ Inner → LabelledKind
labelled_kind_join (inl (inl x)) = absurd x
labelled_kind_join (inl (inr x)) = labelled_kind_variants.Text x
labelled_kind_join (inr x) = labelled_kind_variants.Inner x

-- both ways give it back
pub labelled_kind_joined : (x : LabelledKind) → labelled_kind_join (labelled_kind_split x) ≡ x
labelled_kind_joined (labelled_kind_variants.Text x) = refl
labelled_kind_joined (labelled_kind_variants.Inner x) = refl

-- `LabelledKind`: one of 1 text, 2 inner
abbrev pub labelled_kind : OneOf LabelledKind
labelled_kind = one_of (no_choice or 1 is text or 2 is (nested inner)) labelled_kind_split labelled_kind_join labelled_kind_joined

-- the message `Labelled`: one of 1 text, 2 inner, 3 labels
abbrev pub labelled : Message Labelled
labelled = message
    (none &one labelled_kind & 3 ∶ map text_key int32)
    (λ m. ((tt, m.kind), m.labels))
    (λ x. record { kind = x.0.1; labels = x.1 })
    (λ x. refl) (λ m. refl) refl

-- the message `All`: 1 figures, 2 lists, 3 options, 4 tables, 5 choices
abbrev pub all : Message All
all = message
    (none & 1 ∶ optional (nested figures) & 2 ∶ optional (nested lists) & 3 ∶ optional (nested options) & 4 ∶ optional (nested tables) & 5 ∶ optional (nested choices))
    (λ m. (((((tt, m.figures), m.lists), m.options), m.tables), m.choices))
    (λ x. record { figures = x.0.0.0.0.1; lists = x.0.0.0.1; options = x.0.0.1; tables = x.0.1; choices = x.1 })
    (λ x. refl) (λ m. refl) refl

-- the message `Tree`: 1 name, 2 children, 3 best, 4 named, 5 inner, 6 numbers
abbrev pub tree : Message Tree
tree = message
    (none & 1 ∶ single text & 2 ∶ repeated (enclosed all_rules 0) & 3 ∶ optional (enclosed all_rules 0) & 4 ∶ map text_key (enclosed all_rules 0) & 5 ∶ optional (nested inner) & 6 ∶ packed sint32)
    (λ m. ((((((tt, m.name), m.children), m.best), m.named), m.inner), m.numbers))
    (λ x. record { name = x.0.0.0.0.0.1; children = x.0.0.0.0.1; best = x.0.0.0.1; named = x.0.0.1; inner = x.0.1; numbers = x.1 })
    (λ x. refl) (λ m. refl) refl

-- the rules want of `Tree` what makes them take the bytes that read as it, and no others
pub tree_wants : tree.wants all_rules 0
tree_wants = (((((((tt, refl), (refl, refl)), (refl, refl)), (12, refl, refl, (refl, refl), refl)), (6, refl, inner_wants)), (refl, refl)), refl)

-- the message `Sheet`: 1 cells
abbrev pub sheet : Message Sheet
sheet = message
    (none & 1 ∶ map text_key (enclosed all_rules 8))
    (λ m. (tt, m.cells))
    (λ x. record { cells = x.1 })
    (λ x. refl) (λ m. refl) refl

-- the rules want of `Sheet` what makes them take the bytes that read as it, and no others
pub sheet_wants : sheet.wants all_rules 7
sheet_wants = ((tt, (14, refl, refl, (refl, refl), refl)), refl)

-- what is set of `CellKind`, as one of several
abbrev pub cell_kind_split : CellKind → (((⊥ ⊎ ℕ) ⊎ List ℕ) ⊎ List ℕ) ⊎ List ℕ
cell_kind_split (cell_kind_variants.Number x) = inl (inl (inl (inr x)))
cell_kind_split (cell_kind_variants.Text x) = inl (inl (inr x))
cell_kind_split (cell_kind_variants.Sheet x) = inl (inr x)
cell_kind_split (cell_kind_variants.Row x) = inr x

-- the other way round
abbrev pub cell_kind_join : (((⊥ ⊎ ℕ) ⊎ List ℕ) ⊎ List ℕ) ⊎ List ℕ → CellKind
cell_kind_join (inl (inl (inl (inl x)))) = absurd x
cell_kind_join (inl (inl (inl (inr x)))) = cell_kind_variants.Number x
cell_kind_join (inl (inl (inr x))) = cell_kind_variants.Text x
cell_kind_join (inl (inr x)) = cell_kind_variants.Sheet x
cell_kind_join (inr x) = cell_kind_variants.Row x

-- both ways give it back
pub cell_kind_joined : (x : CellKind) → cell_kind_join (cell_kind_split x) ≡ x
cell_kind_joined (cell_kind_variants.Number x) = refl
cell_kind_joined (cell_kind_variants.Text x) = refl
cell_kind_joined (cell_kind_variants.Sheet x) = refl
cell_kind_joined (cell_kind_variants.Row x) = refl

-- `CellKind`: one of 1 number, 2 text, 3 sheet, 4 row
abbrev pub cell_kind : OneOf CellKind
cell_kind = one_of (no_choice or 1 is bits64 or 2 is text or 3 is (enclosed all_rules 7) or 4 is (enclosed all_rules 11)) cell_kind_split cell_kind_join cell_kind_joined

-- the message `Cell`: one of 1 number, 2 text, 3 sheet, 4 row
abbrev pub cell : Message Cell
cell = message
    (none &one cell_kind)
    (λ m. (tt, m.kind))
    (λ x. record { kind = x.1 })
    (λ x. refl) (λ m. refl) refl

-- the rules want of `Cell` what makes them take the bytes that read as it, and no others
pub cell_wants : cell.wants all_rules 8
cell_wants = ((tt, ((((tt, refl), refl), (refl, refl)), (refl, refl))), refl)

-- the message `Row`: 1 cells
abbrev pub row : Message Row
row = message
    (none & 1 ∶ repeated (enclosed all_rules 8))
    (λ m. (tt, m.cells))
    (λ x. record { cells = x.1 })
    (λ x. refl) (λ m. refl) refl

-- the rules want of `Row` what makes them take the bytes that read as it, and no others
pub row_wants : row.wants all_rules 11
row_wants = ((tt, (refl, refl)), refl)
