-- Equality of headers, as functions that return a `Bool`: `true` exactly when the two headers are equal.
use Rattle.std.specs.Prelude.{Bool, true, false, ◌&&◌, ◌==◌}
use Rattle.std.specs.Option.{option_eq}
use Rattle.std.specs.Ordering.{is_eq}
use Rattle.std.specs.Cmp.Lexicographic.{pointwise}
use Rattle.coset_label.specs.LabelData.{LabelView, RegisteredLabelView, registered_cmp, same_label}
use Rattle.coset_label.specs.Same.{algorithm_eq, entry_eq}
use Rattle.coset_core.specs.Fields.{FieldsView}
use Rattle.coset_core.specs.Headers.{HeaderView, header_of, Signatures, no_signatures, signature_and, ProtectedView, SignatureView}

-- Returns true if the two entries of `crit` are equal.
abbrev pub critical_eq : RegisteredLabelView → RegisteredLabelView → Bool
critical_eq a b = is_eq (registered_cmp a b)

-- Returns true if the two content types are equal.
abbrev pub content_type_eq : LabelView → LabelView → Bool
content_type_eq = same_label

-- Returns true if all fields are equal. Lists are compared element by element.
abbrev pub fields_eq : FieldsView → FieldsView → Bool
fields_eq f g =
    option_eq algorithm_eq f.alg g.alg
    && (pointwise critical_eq f.crit g.crit
    && (option_eq content_type_eq f.content_type g.content_type
    && (pointwise ◌==◌ f.key_id g.key_id
    && (pointwise ◌==◌ f.iv g.iv
    && (pointwise ◌==◌ f.partial_iv g.partial_iv && (option_eq
    (pointwise ◌==◌) f.countersignature0_v2 g.countersignature0_v2 && pointwise entry_eq f.rest g.rest))))))

-- Returns true if the fields and the counter signatures of both versions are equal. Signatures are compared one by one:
-- their kept bytes, their protected and unprotected headers, and their own bytes.
abbrev mutual
  pub header_eq : HeaderView → HeaderView → Bool
  header_eq (header_of f ss ts) (header_of g us ws) = fields_eq f g && (signatures_eq ss us && signatures_eq ts ws)

  pub signatures_eq : Signatures → Signatures → Bool
  signatures_eq no_signatures no_signatures = true
  signatures_eq (signature_and o p u s more) (signature_and a q v t rest) =
      ((option_eq (pointwise ◌==◌) o a && header_eq p q) && (header_eq u v && pointwise ◌==◌ s t)) && signatures_eq more rest
  signatures_eq ss ts = false

-- Returns true if the headers are equal, and the kept bytes are equal or both absent.
abbrev pub protected_eq : ProtectedView → ProtectedView → Bool
protected_eq p q = option_eq (pointwise ◌==◌) p.original q.original && header_eq p.header q.header

-- Returns true if the headers and the signatures' bytes are equal.
abbrev pub signature_eq : SignatureView → SignatureView → Bool
signature_eq s t = protected_eq s.protected t.protected && (header_eq s.unprotected t.unprotected && pointwise ◌==◌ s.signature t.signature)
