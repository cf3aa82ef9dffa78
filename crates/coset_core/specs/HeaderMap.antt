-- A header as the map of its fields, with signatures under labels 7 and 11: `header_map` of RFC 8152, section 3. Label
-- 7 has counter signatures (section 4.5). The countersignatures of label 11 are those of RFC 9338, section 3.1.
use Rattle.std.specs.Prelude.{List, [], ◌∷◌}
use Rattle.coset_codec.specs.Shape.{Shape, mapped}
use Rattle.coset_codec.specs.Maps.{unless_empty}
use Rattle.coset_core.specs.Fields.{FieldsView, PerVersion, map_with}
use Rattle.coset_core.specs.Headers.{HeaderView, header_of, fields_in, counter_signatures_in, countersignatures_in, Signatures, no_signatures, signature_and}
use Rattle.coset_core.specs.Headers.{SignatureView, signatures_of}

-- The signatures as a list.
abbrev pub each_of : Signatures → List SignatureView
each_of no_signatures = []
each_of (signature_and o p u s more) = record { protected = record { original = o; header = p }; unprotected = u; signature = s } ∷ each_of more

-- Makes a header of its fields and its signatures of both versions. `header_parts` is the inverse.
abbrev pub header_with : FieldsView × PerVersion (List SignatureView) → HeaderView
header_with x = header_of x.0 (signatures_of x.1.0) (signatures_of x.1.1)

abbrev pub header_parts : HeaderView → FieldsView × PerVersion (List SignatureView)
header_parts h = (fields_in h, (each_of (counter_signatures_in h), each_of (countersignatures_in h)))

-- The map of a header's fields. s is the shape of its signatures: ? 7 => s and ? 11 => s. Each is left out if there are
-- no signatures.
abbrev pub header_map : Shape (List SignatureView) → Shape HeaderView
header_map s = mapped header_with header_parts (map_with (unless_empty s) (unless_empty s))
