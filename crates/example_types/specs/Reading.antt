-- A reading: a number, an optional payload, and marks.
use Rattle.std.specs.Prelude.{ℕ, ℤ, List, Option, map, option_map, refl}
use Rattle.coset_codec.specs.Shape.{Shape, mapped, array_of, ◌then◌, end, int64, bstr, or_nil, list_of}
use Rattle.coset_codec.specs.ShapeLaws.{Lawful, bytes_no_nil, mapped_laws, array_of_laws, then_laws, end_laws, int64_laws, bstr_laws, or_nil_laws, list_of_laws}
use Rattle.example_types.specs.declared.reading.Mark.{Mark}
use Rattle.example_types.specs.declared.reading.Reading.{Reading}

-- The view of a mark: its number.
abbrev pub mark_view : Mark → ℤ
mark_view m = m.0

-- The view of a reading.
pub record View : Type 0 where
  pub number : ℤ
  pub payload : Option (List ℕ)
  pub marks : List ℤ

abbrev pub view : Reading → View
view r = record { number = r.number; payload = option_map (λ b. b.items) r.payload; marks = map mark_view r.marks.items }

abbrev pub of_parts : ℤ × (Option (List ℕ) × (List ℤ × Unit {0})) → View
of_parts p = record { number = p.0; payload = p.1.0; marks = p.1.1.0 }

abbrev pub parts : View → ℤ × (Option (List ℕ) × (List ℤ × Unit {0}))
parts x = (x.number, (x.payload, (x.marks, tt)))

-- [int, bstr / nil, [* int]]
abbrev pub reading : Shape View
reading = mapped of_parts parts (array_of (int64 then or_nil bstr then list_of int64 then end))

pub reading_laws : Lawful View reading
reading_laws =
    mapped_laws of_parts parts (λ x. refl) _
    (array_of_laws _
    (then_laws _ _ int64_laws (then_laws _ _ (or_nil_laws bstr bytes_no_nil bstr_laws) (then_laws _ _ (list_of_laws int64 int64_laws) end_laws))))
