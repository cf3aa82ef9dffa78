-- Public information for a key derivation, in addition to that about the parties (RFC 8152, section 11.2).
use Rattle.std.specs.Prelude.{◌≡◌, ℕ, ℤ, pos, List, Option, Some, None, Result, Vec, IsOkAnd, false, is_some, option_map, unsigned_abs, refl}
use Rattle.std.specs.Global.{Global}
use Rattle.std.proofs.Common.{true≢false}
use Rattle.coset_value.specs.Item.{Item, Items, no_items, item}
use Rattle.coset_value.specs.Parts.{as_array}
use Rattle.coset_codec.specs.declared.error.CoseError.{CoseError}
use Rattle.coset_codec.specs.declared.read.decoder.ArrayElements.{ArrayElements}
use Rattle.coset_codec.specs.Results.{Reads}
use Rattle.coset_codec.specs.Inputs.{State, AreWithin}
use Rattle.coset_codec.specs.Shape.{Shape, Elements, mapped, uint, bstr, present, optional_last, array_of, ◌then◌}
use Rattle.coset_codec.specs.ShapeLaws.{Lawful, mapped_laws, uint_laws, bstr_laws, present_laws, optional_last_laws, array_of_laws, then_laws}
use Rattle.coset_core.specs.Headers.{ProtectedView, protected, protected_bytes}
use Rattle.coset_core.specs.HeaderLaws.{protected_laws}
use Rattle.coset_core.specs.Kept.{KeepsOwn, first_bytes}
use Rattle.coset_core.specs.Messages.{empty_protected}
use Rattle.coset_core.specs.Views.{protected_view}
use Rattle.coset_claims.specs.declared.supp_pub.SuppPubInfo.{SuppPubInfo}

-- The view of the information.
pub record SuppPubView : Type 0 where
  pub key_data_length : ℕ
  pub protected : ProtectedView
  pub other : Option (List ℕ)

abbrev pub supp_pub_view : SuppPubInfo → SuppPubView
supp_pub_view s = record {
  key_data_length = s.key_data_length;
  protected = protected_view s.protected;
  other = option_map (λ b. b.items) s.other;
}

-- The length 0, an empty protected header, and nothing else.
abbrev pub empty_supp_pub : SuppPubView
empty_supp_pub = record { key_data_length = 0; protected = empty_protected; other = None }

abbrev SuppPubElements : Type 0
SuppPubElements = ℤ × (ProtectedView × Option (List ℕ))

abbrev pub supp_pub_of : SuppPubElements → SuppPubView
supp_pub_of p = record { key_data_length = unsigned_abs p.0; protected = p.1.0; other = p.1.1 }

abbrev pub supp_pub_elements : SuppPubView → SuppPubElements
supp_pub_elements s = (pos s.key_data_length, (s.protected, s.other))

-- ? other : bstr
abbrev pub other_place : Elements (Option (List ℕ))
other_place = optional_last None is_some (present bstr)

-- [keyDataLength : uint, protected : empty_or_serialized_map, ? other : bstr]
abbrev pub supp_pub : Shape SuppPubView
supp_pub = mapped supp_pub_of supp_pub_elements (array_of (uint then protected then other_place))

missing : (o : Option (List ℕ)) → is_some o ≡ false → o ≡ None
missing None e = refl
missing (Some b) e = absurd (true≢false e)

pub supp_pub_laws : Lawful SuppPubView supp_pub
supp_pub_laws =
    mapped_laws supp_pub_of supp_pub_elements (λ x. refl) _
    (array_of_laws _ (then_laws _ _ uint_laws (then_laws _ _ protected_laws
    (optional_last_laws None is_some refl missing (present bstr) (present_laws bstr bstr_laws)))))

-- ---- reading

-- If no element is left, the result is `None`. Otherwise the next element was read as bytes, and the others are at `t`.
abbrev pub ReadsOther : Items → State → State → ArrayElements → Result (Option (Vec ℕ Global)) CoseError → Type 0
ReadsOther no_items t z m r = AreWithin m no_items t z × IsOkAnd r (λ o. o ≡ None)
ReadsOther (item v vs) t z m r = AreWithin m vs t z × Reads (present bstr) (option_map (λ b. b.items)) v r

-- ---- as received

-- The bytes of the byte string in the second element.
abbrev pub second_bytes : Items → Option (List ℕ)
second_bytes no_items = None
second_bytes (item v vs) = first_bytes vs

-- The protected header is represented by the bytes that it was decoded from. They are the bytes of the byte string in
-- the second element of the array v.
abbrev pub KeepsSecond : Item → ProtectedView → Type 0
KeepsSecond v p = KeepsOwn p × ((vs : Items) × (as_array v ≡ Some vs) × (second_bytes vs ≡ protected_bytes p))
