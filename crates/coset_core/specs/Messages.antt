-- The two headers that messages and their signatures begin with (RFC 8152, section 3).
use Rattle.std.specs.Prelude.{None}
use Rattle.coset_codec.specs.Shape.{Shape, Elements, array_of, ◌then◌}
use Rattle.coset_codec.specs.ShapeLaws.{Lawful, LawfulElements, array_of_laws, then_laws}
use Rattle.coset_core.specs.Headers.{HeaderView, ProtectedView, empty_header, header, protected}
use Rattle.coset_core.specs.HeaderLaws.{header_laws, protected_laws}

-- The two headers, and the other elements.
abbrev pub WithHeaders : Type 0 → Type 0
WithHeaders A = ProtectedView × (HeaderView × A)

-- [Headers, elements], where Headers = ( protected : empty_or_serialized_map, unprotected : header_map )
abbrev pub with_headers : {A : Type 0} → Elements A → Shape (WithHeaders A)
with_headers ps = array_of (protected then header then ps)

pub with_headers_laws : {A : Type 0} (ps : Elements A) → LawfulElements A ps → Lawful (WithHeaders A) (with_headers ps)
with_headers_laws ps l = array_of_laws _ (then_laws _ _ protected_laws (then_laws _ _ header_laws l))

-- A protected header without kept bytes.
abbrev pub unread : HeaderView → ProtectedView
unread h = record { original = None; header = h }

abbrev pub empty_protected : ProtectedView
empty_protected = unread empty_header
