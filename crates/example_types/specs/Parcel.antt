-- A parcel: a number, a receiver, an optional note, and marks.
use Rattle.std.specs.Prelude.{ℕ, ℤ, List, Option, map, option_map, refl}
use Rattle.coset_codec.specs.Shape.{Shape, mapped, array_of, ◌then◌, end, int64, bstr, or_nil, list_of}
use Rattle.coset_codec.specs.ShapeLaws.{Lawful, bytes_no_nil, mapped_laws, array_of_laws, then_laws, end_laws, int64_laws, bstr_laws, or_nil_laws, list_of_laws}
use Rattle.example_types.specs.Reading.{mark_view}
use Rattle.example_types.specs.declared.parcel.Parcel.{Parcel}

-- The view of a parcel.
pub record View : Type 0 where
  pub number : ℤ
  pub receiver : List ℕ
  pub note : Option (List ℕ)
  pub marks : List ℤ

abbrev pub view : Parcel → View
view p = record { number = p.number; receiver = p.receiver.items; note = option_map (λ b. b.items) p.note; marks = map mark_view p.marks.items }

abbrev pub of_parts : ℤ × (List ℕ × (Option (List ℕ) × (List ℤ × Unit {0}))) → View
of_parts p = record { number = p.0; receiver = p.1.0; note = p.1.1.0; marks = p.1.1.1.0 }

abbrev pub parts : View → ℤ × (List ℕ × (Option (List ℕ) × (List ℤ × Unit {0})))
parts x = (x.number, (x.receiver, (x.note, (x.marks, tt))))

-- [int, bstr, bstr / nil, [* int]]
abbrev pub parcel : Shape View
parcel = mapped of_parts parts (array_of (int64 then bstr then or_nil bstr then list_of int64 then end))

pub parcel_laws : Lawful View parcel
parcel_laws =
    mapped_laws of_parts parts (λ x. refl) _
    (array_of_laws _
    (then_laws _ _ int64_laws
    (then_laws _ _ bstr_laws (then_laws _ _ (or_nil_laws bstr bytes_no_nil bstr_laws) (then_laws _ _ (list_of_laws int64 int64_laws) end_laws)))))
