-- The headers of one layer, side by side (RFC 9052, section 3).
use Rattle.std.specs.Prelude.{◌==◌, ◌&&◌, ◌||◌, ◌++◌, not, ℕ, ℤ, pos, List, [], ◌∷◌, length, Option, Some, None, Bool, false, is_some}
use Rattle.std.specs.List.{list_any}
use Rattle.std.specs.Map.{keys_of}
use Rattle.std.specs.Ordering.{int_eq}
use Rattle.coset.specs.Headers.{HeaderView, ProtectedView, header_of, fields_in, are_none}
use Rattle.coset.specs.LabelData.{LabelView, number, text_label, same_label}
use Rattle.coset.specs.Maps.{are_distinct}
use Rattle.cwt_keys.specs.Sealed.{first_nonempty}

-- Returns true if there is a value, and it passes the test.
abbrev pub is_there_and : {A : Type 0} → (A → Bool) → Option A → Bool
is_there_and test None = false
is_there_and test (Some x) = test x

-- The numbers of the parameters that are fields of a header, each with true if it is set.
abbrev pub parameters : HeaderView → List (ℤ × Bool)
parameters (header_of f ss ts) =
    (pos 1, is_some f.alg)
    ∷ (pos 2, not (length f.crit == 0))
    ∷ (pos 3, is_some f.content_type)
    ∷ (pos 4, not (length f.key_id == 0))
    ∷ (pos 5, not (length f.iv == 0))
    ∷ (pos 6, not (length f.partial_iv == 0)) ∷ (pos 7, not (are_none ss)) ∷ (pos 11, not (are_none ts)) ∷ (pos 12, is_some f.countersignature0_v2) ∷ []

-- Returns true if the number is that of a field of the header, and the field is set.
abbrev pub is_parameter : HeaderView → ℤ → Bool
is_parameter h i = list_any (λ p. p.1 && int_eq p.0 i) (parameters h)

-- The number of a label, or `None` if it is a text.
abbrev pub number_in : LabelView → Option ℤ
number_in (number i) = Some i
number_in (text_label s) = None

abbrev pub is_set : HeaderView → LabelView → Bool
is_set h l = is_there_and (is_parameter h) (number_in l)

-- Returns true if the header has this label.
abbrev pub has_label : HeaderView → LabelView → Bool
has_label h l = is_set h l || list_any (λ e. same_label e.0 l) (fields_in h).rest

-- ---- both headers

-- Returns true if a field is set in both headers.
abbrev pub share_parameter : HeaderView → HeaderView → Bool
share_parameter h g = list_any (λ p. p.1 && is_parameter g p.0) (parameters h)

-- Returns true if a label stands twice among the other labels of both headers.
abbrev pub repeat_label : HeaderView → HeaderView → Bool
repeat_label h g = not (are_distinct same_label (keys_of (fields_in h).rest ++ keys_of (fields_in g).rest))

-- Returns true if the headers together have an IV and a Partial IV.
abbrev pub has_both_ivs : HeaderView → HeaderView → Bool
has_both_ivs h g = (is_parameter h (pos 5) || is_parameter g (pos 5)) && (is_parameter h (pos 6) || is_parameter g (pos 6))

-- Returns true if a label is in both headers (RFC 9052, section 3), or if they have an IV and a Partial IV (section 3.1).
abbrev pub contradict : HeaderView → HeaderView → Bool
contradict h g = share_parameter h g || has_both_ivs h g || repeat_label h g

-- The key identifier of the protected header, or if that has none, of the unprotected one (RFC 8152, section 3.1).
abbrev pub named_key : ProtectedView → HeaderView → List ℕ
named_key p h = first_nonempty (fields_in p.header).key_id (fields_in h).key_id
