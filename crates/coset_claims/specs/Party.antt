-- Parties of a key agreement, and the nonces that they contribute (RFC 8152, section 11.2).
use Rattle.std.specs.Prelude.{◌≡◌, ◌⊎◌, ℕ, ℤ, List, Option, Some, None, true, false, option_map, refl}
use Rattle.std.proofs.Common.{inl, inr, ap, sym}
use Rattle.coset_value.specs.Item.{Item, integer, bytes}
use Rattle.coset_codec.specs.Shape.{Shape, mapped, either, int64, bstr, is_nil, or_nil, array_of, ◌then◌, end}
use Rattle.coset_codec.specs.ShapeLaws.{Lawful, some-one, mapped_laws, either_laws, int64_laws, bstr_laws, bytes_no_nil, or_nil_laws, array_of_laws, then_laws}
use Rattle.coset_codec.specs.ShapeLaws.{end_laws}
use Rattle.coset_label.specs.Labels.{is_integer}
use Rattle.coset_claims.specs.declared.party.Nonce.{Nonce}
use Rattle.coset_claims.specs.declared.party.Nonce.TheVariants.{Bytes, Integer}
use Rattle.coset_claims.specs.declared.party.PartyInfo.{PartyInfo}

-- ---- nonces

-- The view of a nonce.
pub data NonceView : Type 0 where
  nonce_integer : ℤ → NonceView
  nonce_bytes : List ℕ → NonceView

abbrev pub nonce_view : Nonce → NonceView
nonce_view (Integer i) = nonce_integer i
nonce_view (Bytes b) = nonce_bytes b.items

abbrev pub nonce_of : ℤ ⊎ List ℕ → NonceView
nonce_of (inl i) = nonce_integer i
nonce_of (inr b) = nonce_bytes b

abbrev pub of_nonce : NonceView → ℤ ⊎ List ℕ
of_nonce (nonce_integer i) = inl i
of_nonce (nonce_bytes b) = inr b

-- int / bstr
abbrev pub nonce : Shape NonceView
nonce = mapped nonce_of of_nonce (either is_integer int64 bstr)

nonce-back : (x : NonceView) → nonce_of (of_nonce x) ≡ x
nonce-back (nonce_integer i) = refl
nonce-back (nonce_bytes b) = refl

-- The image of a number is an integer, and the image of a byte string isn't.
integer-told : (i : ℤ) (w : Item) → int64.image i ≡ Some w → is_integer w ≡ true
integer-told i w e = let h : integer i ≡ w = some-one refl e in ap is_integer (sym h)

bytes-told : (b : List ℕ) (w : Item) → bstr.image b ≡ Some w → is_integer w ≡ false
bytes-told b w e = let h : bytes b ≡ w = some-one refl e in ap is_integer (sym h)

pub nonce_laws : Lawful NonceView nonce
nonce_laws =
    mapped_laws nonce_of of_nonce nonce-back _
    (either_laws is_integer int64 bstr int64_laws bstr_laws (λ v i w f d e. integer-told i w e) (λ v b w f d e. bytes-told b w e))

-- A nonce is never null.
nonce-no_nil : (x : NonceView) (w : Item) → nonce.image x ≡ Some w → is_nil w ≡ false
nonce-no_nil (nonce_integer i) w e = let h : integer i ≡ w = some-one refl e in ap is_nil (sym h)
nonce-no_nil (nonce_bytes b) w e = bytes_no_nil b w e

-- int / bstr / nil
abbrev pub nonce_or_nil : Shape (Option NonceView)
nonce_or_nil = or_nil nonce

-- ---- parties

-- The view of a party.
pub record PartyView : Type 0 where
  pub identity : Option (List ℕ)
  pub nonce : Option NonceView
  pub other : Option (List ℕ)

abbrev pub party_view : PartyInfo → PartyView
party_view p = record {
  identity = option_map (λ b. b.items) p.identity;
  nonce = option_map nonce_view p.nonce;
  other = option_map (λ b. b.items) p.other;
}

-- A party without any information.
abbrev pub empty_party : PartyView
empty_party = record { identity = None; nonce = None; other = None }

abbrev PartyElements : Type 0
PartyElements = Option (List ℕ) × (Option NonceView × (Option (List ℕ) × Unit {0}))

abbrev pub party_of : PartyElements → PartyView
party_of p = record { identity = p.0; nonce = p.1.0; other = p.1.1.0 }

abbrev pub party_elements : PartyView → PartyElements
party_elements p = (p.identity, (p.nonce, (p.other, tt)))

-- [identity : bstr / nil, nonce : bstr / int / nil, other : bstr / nil]
abbrev pub party : Shape PartyView
party = mapped party_of party_elements (array_of (or_nil bstr then nonce_or_nil then or_nil bstr then end))

pub party_laws : Lawful PartyView party
party_laws =
    mapped_laws party_of party_elements (λ x. refl) _
    (array_of_laws _
    (then_laws _ _ (or_nil_laws bstr bytes_no_nil bstr_laws)
    (then_laws _ _ (or_nil_laws nonce nonce-no_nil nonce_laws) (then_laws _ _ (or_nil_laws bstr bytes_no_nil bstr_laws) end_laws))))
