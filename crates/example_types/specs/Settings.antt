-- Settings: a map with a level, an optional name, an optional limit, and other pairs.
use Rattle.std.specs.Prelude.{◌≢◌, ℕ, ℤ, pos, List, Option, Some, None, true, map, option_map, unwrap_or, refl}
use Rattle.std.specs.Ordering.{int_eq}
use Rattle.std.specs.Cmp.{signed_Decides}
use Rattle.std.proofs.Common.{rules}
use Rattle.coset_value.specs.Item.{Item, integer}
use Rattle.coset_value.specs.View.{value_item}
use Rattle.coset_value.specs.declared.value.Value.{Value}
use Rattle.coset_codec.specs.Errors.{IsUnexpected}
use Rattle.coset_codec.specs.Shape.{Shape, mapped, such_that, int64, bstr}
use Rattle.coset_codec.specs.ShapeLaws.{Lawful, mapped_laws, such_that_laws, int64_laws, bstr_laws}
use Rattle.coset_codec.specs.Maps.{MapLabels, Fields, field, no_field, optional, labelled}
use Rattle.coset_codec.specs.MapLaws.{LawfulMapLabels, LawfulFields, Flat, field_laws, no_field_laws, optional_laws, labelled_laws}
use Rattle.example_types.specs.declared.settings.Name.{Name}
use Rattle.example_types.specs.declared.settings.Settings.{Settings}
use Rattle.example_types.specs.declared.settings.PartialSettings.{PartialSettings}

-- The view of a label: its number.
abbrev pub name_view : Name → ℤ
name_view n = n.0

abbrev pub entry_view : Name × Value → ℤ × Item
entry_view e = (name_view e.0, value_item e.1)

-- The view of settings.
pub record View : Type 0 where
  pub level : ℤ
  pub name : Option (List ℕ)
  pub limit : Option ℤ
  pub rest : List (ℤ × Item)

abbrev pub view : Settings → View
view s = record { level = s.level; name = option_map (λ b. b.items) s.name; limit = s.limit; rest = map entry_view s.rest.items }

-- Every 64-bit integer is a label.
abbrev pub names : MapLabels ℤ
names = record { shape = int64; same = int_eq }

-- ? 1 => int, ? 2 => bstr, ? 4 => int
abbrev pub fields : Fields ℤ (Option ℤ × (Option (List ℕ) × (Option ℤ × Unit {0})))
fields = field names (pos 1) (optional int64) (field names (pos 2) (optional bstr) (field names (pos 4) (optional int64) no_field))

abbrev Parts : Type 0
Parts = (Option ℤ × (Option (List ℕ) × (Option ℤ × Unit {0}))) × List (ℤ × Item)

abbrev pub so_far_view : PartialSettings → Parts
so_far_view s = ((s.level, (option_map (λ b. b.items) s.name, (s.limit, tt))), map entry_view s.rest.items)

abbrev pub of_parts : Parts → View
of_parts p = record { level = unwrap_or p.0.0 (pos 0); name = p.0.1.0; limit = p.0.1.1.0; rest = p.1 }

abbrev pub parts : View → Parts
parts x = ((Some x.level, (x.name, (x.limit, tt))), x.rest)

abbrev pub HasLevel : Parts → Type 0
HasLevel p = p.0.0 ≢ None

-- {1 => int, ? 2 => bstr, ? 4 => int, * int => any}
abbrev pub settings : Shape View
settings = mapped of_parts parts (such_that IsUnexpected HasLevel (labelled names fields))

-- The laws.

pub names_laws : LawfulMapLabels ℤ names
names_laws = record { shape = int64_laws; same_is = λ l m h. (signed_Decides l m).0 h; same_self = λ l. (signed_Decides l l).1 refl }

flat_one : Flat ℤ names (pos 1)
flat_one = record { key = integer (pos 1); is_image = refl; described = (refl, search rules); is_flat = refl }

flat_two : Flat ℤ names (pos 2)
flat_two = record { key = integer (pos 2); is_image = refl; described = (refl, search rules); is_flat = refl }

flat_four : Flat ℤ names (pos 4)
flat_four = record { key = integer (pos 4); is_image = refl; described = (refl, search rules); is_flat = refl }

pub fields_laws : LawfulFields ℤ (Option ℤ × (Option (List ℕ) × (Option ℤ × Unit {0}))) names fields
fields_laws =
    field_laws names names_laws (pos 1) flat_one _ (optional_laws int64 int64_laws) _
    (field_laws names names_laws (pos 2) flat_two _ (optional_laws bstr bstr_laws) _
    (field_laws names names_laws (pos 4) flat_four _ (optional_laws int64 int64_laws) _ (no_field_laws names names_laws) refl) refl) refl

pub settings_laws : Lawful View settings
settings_laws = mapped_laws of_parts parts (λ x. refl) _ (such_that_laws _ _ _ (labelled_laws names names_laws true fields fields_laws))
