-- A report: a sender, and readings.
use Rattle.std.specs.Prelude.{ℕ, List, map, refl}
use Rattle.coset_codec.specs.Shape.{Shape, mapped, array_of, ◌then◌, end, bstr, list_of}
use Rattle.coset_codec.specs.ShapeLaws.{Lawful, mapped_laws, array_of_laws, then_laws, end_laws, bstr_laws, list_of_laws}
use Rattle.example_types.specs.Reading.{reading, reading_laws, View as ReadingView, view as reading_view}
use Rattle.example_types.specs.declared.report.Report.{Report}

-- The view of a report.
pub record View : Type 0 where
  pub sender : List ℕ
  pub readings : List ReadingView

abbrev pub view : Report → View
view r = record { sender = r.sender.items; readings = map reading_view r.readings.items }

abbrev pub of_parts : List ℕ × (List ReadingView × Unit {0}) → View
of_parts p = record { sender = p.0; readings = p.1.0 }

abbrev pub parts : View → List ℕ × (List ReadingView × Unit {0})
parts x = (x.sender, (x.readings, tt))

-- [bstr, [* reading]]
abbrev pub report : Shape View
report = mapped of_parts parts (array_of (bstr then list_of reading then end))

pub report_laws : Lawful View report
report_laws =
    mapped_laws of_parts parts (λ x. refl) _
    (array_of_laws _ (then_laws _ _ bstr_laws (then_laws _ _ (list_of_laws reading reading_laws) end_laws)))
