-- The results of a header builder's calls (RFC 8152, section 3.1). Each call sets the field that it is named for, and
-- leaves the others unchanged. Only the calls for IV and Partial IV clear each other's field.
use Rattle.std.specs.Ordering.{int_eq}
use Rattle.std.specs.Prelude.{◌≡◌, ◌&&◌, ◌||◌, not, ℕ, ℤ, pos, int_lt, Bool, true, List, [], ◌∷◌, ◌++◌, Some}
use Rattle.coset_value.specs.Item.{Item}
use Rattle.coset_label.specs.LabelData.{LabelView, RegisteredLabelView}
use Rattle.coset_core.specs.Fields.{FieldsView}
use Rattle.coset_core.specs.Headers.{HeaderView, header_of, Signatures, no_signatures, signature_and, SignatureView, and_signatures}

-- The header with its fields changed by g, and the same counter signatures.
abbrev pub with_fields : (FieldsView → FieldsView) → HeaderView → HeaderView
with_fields g (header_of f ss ts) = header_of (g f) ss ts

-- The header with this algorithm, otherwise unchanged.
abbrev pub with_algorithm : RegisteredLabelView → HeaderView → HeaderView
with_algorithm a = with_fields (λ f. record f { alg = Some a })

-- The header with one more label at the end of `crit`, otherwise unchanged.
abbrev pub push_critical : RegisteredLabelView → HeaderView → HeaderView
push_critical l = with_fields (λ f. record f { crit = f.crit ++ l ∷ [] })

-- The header with this content type, otherwise unchanged.
abbrev pub with_content_type : LabelView → HeaderView → HeaderView
with_content_type t = with_fields (λ f. record f { content_type = Some t })

-- The header with this key identifier, otherwise unchanged.
abbrev pub with_key_id : List ℕ → HeaderView → HeaderView
with_key_id b = with_fields (λ f. record f { key_id = b })

-- The header with this IV and no Partial IV, otherwise unchanged.
abbrev pub with_iv : List ℕ → HeaderView → HeaderView
with_iv b = with_fields (λ f. record f { iv = b; partial_iv = [] })

-- The header with this Partial IV and no IV, otherwise unchanged.
abbrev pub with_partial_iv : List ℕ → HeaderView → HeaderView
with_partial_iv b = with_fields (λ f. record f { iv = []; partial_iv = b })

-- The header with one more pair at the end of `rest`, otherwise unchanged.
abbrev pub push_pair : LabelView → Item → HeaderView → HeaderView
push_pair l v = with_fields (λ f. record f { rest = f.rest ++ (l, v) ∷ [] })

-- The signatures with one more at the end.
abbrev pub and_last : SignatureView → Signatures → Signatures
and_last s no_signatures = and_signatures s no_signatures
and_last s (signature_and o p u b more) = signature_and o p u b (and_last s more)

-- The header with one more counter signature at the end, otherwise unchanged.
abbrev pub push_counter_signature : SignatureView → HeaderView → HeaderView
push_counter_signature s (header_of f ss ts) = header_of f (and_last s ss) ts

-- The header with one more countersignature of version 2 at the end, otherwise unchanged.
abbrev pub push_countersignature_v2 : SignatureView → HeaderView → HeaderView
push_countersignature_v2 s (header_of f ss ts) = header_of f ss (and_last s ts)

-- The header with this abbreviated countersignature of version 2, otherwise unchanged.
abbrev pub with_countersignature0_v2 : List ℕ → HeaderView → HeaderView
with_countersignature0_v2 b = with_fields (λ f. record f { countersignature0_v2 = Some b })

-- Returns true if n is the label of no field: not 1 to 7, 11 or 12.
abbrev pub is_other_label : ℤ → Bool
is_other_label n = int_lt n (pos 1) || (int_lt (pos 7) n && not (int_eq n (pos 11) || int_eq n (pos 12)))

-- The number is the label of no field: not 1 to 7, 11 or 12.
abbrev pub IsOtherLabel : ℤ → Type 0
IsOtherLabel n = is_other_label n ≡ true
