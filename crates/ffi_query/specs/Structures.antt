-- The structures that are signed, authenticated, or go with a ciphertext, for a message as it was received (RFC 8152,
-- sections 4.4, 5.3 and 6.3).
use Rattle.std.specs.Prelude.{◌≡◌, ℕ, List, [], ◌∷◌, Option, Some, None, Bool, true, false, codes, option_and_then}
use Rattle.coset.specs.Item.{Item, null}
use Rattle.coset.specs.Parts.{as_bytes}
use Rattle.coset.specs.Structure.{structure}
use Rattle.ffi_query.specs.declared.kind.Kind as kinds
use Rattle.ffi_query.specs.declared.kind.Kind.TheVariants.{Sign1, Sign, Mac0, Mac, Encrypt0, Encrypt, Recipient}
use Rattle.ffi_query.specs.declared.refusal.Refusal as refusals
use Rattle.ffi_query.specs.declared.refusal.Refusal.TheVariants.{Absent, Misuse}
use Rattle.ffi_query.specs.Results.{IsEncodingOf}
use Rattle.ffi_query.specs.Parts.{content_part, place_of}
use Rattle.ffi_query.specs.Places.{bytes_in, element, member_at}

-- The content given as detached, if the payload's place is nil.
abbrev pub detached_in : Item → List ℕ → Option (List ℕ)
detached_in null d = Some d
detached_in v d = None

-- The content that is signed or authenticated, by the payload's place: its byte string, or the given content if it is
-- nil.
abbrev pub content_at : Item → Option (List ℕ) → Option (List ℕ)
content_at v None = as_bytes v
content_at v (Some d) = detached_in v d

abbrev pub content_in : Option Item → Option (List ℕ) → Option (List ℕ)
content_in o d = option_and_then (λ v. content_at v d) o

-- Enc_structure = [context : tstr, protected : bstr, external_aad : bstr], if the protected bytes are present.
abbrev pub structure_of_one : List ℕ → List ℕ → Option (List ℕ) → Option Item
structure_of_one context aad None = None
structure_of_one context aad (Some p) = Some (structure context (p ∷ aad ∷ []))

abbrev pub encryption_structure : List ℕ → List ℕ → Item → Option Item
encryption_structure context aad v = structure_of_one context aad (bytes_in 0 v)

-- MAC_structure = [context : tstr, protected : bstr, external_aad : bstr, payload : bstr], or Sig_structure without a
-- signer's header, if the protected bytes and the payload are present.
abbrev pub structure_of_two : List ℕ → List ℕ → Option (List ℕ) → Option (List ℕ) → Option Item
structure_of_two context aad (Some p) (Some c) = Some (structure context (p ∷ aad ∷ c ∷ []))
structure_of_two context aad p c = None

abbrev pub content_structure : List ℕ → List ℕ → Option (List ℕ) → Item → Option Item
content_structure context aad d v = structure_of_two context aad (bytes_in 0 v) (content_in (element 2 v) d)

-- The protected bytes of the signer at index i.
abbrev pub signer_in : kinds.Kind → ℕ → Item → Option (List ℕ)
signer_in k i v = option_and_then (bytes_in 0) (member_at k i v)

-- Sig_structure = [context : "Signature", body_protected : bstr, sign_protected : bstr,
--   external_aad : bstr, payload : bstr]
abbrev pub structure_of_three : List ℕ → Option (List ℕ) → Option (List ℕ) → Option (List ℕ) → Option Item
structure_of_three aad (Some p) (Some q) (Some c) = Some (structure (codes "Signature") (p ∷ q ∷ aad ∷ c ∷ []))
structure_of_three aad p q c = None

abbrev pub signer_structure : kinds.Kind → ℕ → List ℕ → Option (List ℕ) → Item → Option Item
signer_structure k i aad d v = structure_of_three aad (bytes_in 0 v) (signer_in k i v) (content_in (element 2 v) d)

-- The structure of the item v, of kind k. The context depends on the kind.
abbrev pub structure_in : kinds.Kind → ℕ → List ℕ → Option (List ℕ) → Item → Option Item
structure_in (Sign1 f) i aad d v = content_structure (codes "Signature1") aad d v
structure_in (Sign f) i aad d v = signer_structure (Sign f) i aad d v
structure_in (Mac0 f) i aad d v = content_structure (codes "MAC0") aad d v
structure_in (Mac f) i aad d v = content_structure (codes "MAC") aad d v
structure_in (Encrypt0 f) i aad d v = encryption_structure (codes "Encrypt0") aad v
structure_in (Encrypt f) i aad d v = encryption_structure (codes "Encrypt") aad v
structure_in k i aad d v = None

-- t is the shortest encoding of that structure.
abbrev pub IsStructure : kinds.Kind → ℕ → List ℕ → Option (List ℕ) → Item → List ℕ → Type 0
IsStructure k i aad d v t = IsEncodingOf (structure_in k i aad d v) t

-- The element is present, and isn't nil.
abbrev pub is_filled : Option Item → Bool
is_filled None = false
is_filled (Some null) = false
is_filled (Some v) = true

-- The item v carries an element other than nil at this index.
abbrev pub is_attached : Option ℕ → Item → Bool
is_attached o v = is_filled (option_and_then (λ n. element n v) o)

-- Content is given as detached, and the item v carries some at this index too.
abbrev pub is_given_at : Option ℕ → Option (List ℕ) → Item → Bool
is_given_at o None v = false
is_given_at o (Some d) v = is_attached o v

-- A payload or ciphertext is given as detached, and the item v carries one too.
abbrev pub is_given_twice : kinds.Kind → Option (List ℕ) → Item → Bool
is_given_twice k d v = is_given_at (place_of (content_part k) k) d v

-- t is the structure of the item v, and the content isn't given twice.
abbrev pub IsStructureOnce : kinds.Kind → ℕ → List ℕ → Option (List ℕ) → Item → List ℕ → Type 0
IsStructureOnce k i aad d v t = (is_given_twice k d v ≡ false) × IsStructure k i aad d v t

-- The reason why the item v has no structure. `Misuse`: a content is given, and the item carries another. `Absent`: no
-- such structure exists.
abbrev pub HasNoStructure : kinds.Kind → ℕ → List ℕ → Option (List ℕ) → Item → refusals.Refusal → Type 0
HasNoStructure k i aad d v Misuse = is_given_twice k d v ≡ true
HasNoStructure k i aad d v Absent = (is_given_twice k d v ≡ false) × ((t : List ℕ) → IsStructure k i aad d v t → ⊥)
HasNoStructure k i aad d v r = ⊥

-- The structure of the recipient v, by the kind that contains it: context : "Enc_Recipient" / "Mac_Recipient" /
-- "Rec_Recipient".
abbrev pub recipient_structure_in : kinds.Kind → List ℕ → Item → Option Item
recipient_structure_in (Encrypt f) aad v = encryption_structure (codes "Enc_Recipient") aad v
recipient_structure_in (Mac f) aad v = encryption_structure (codes "Mac_Recipient") aad v
recipient_structure_in Recipient aad v = encryption_structure (codes "Rec_Recipient") aad v
recipient_structure_in k aad v = None

-- t is the shortest encoding of the recipient's structure.
abbrev pub IsRecipientStructure : kinds.Kind → List ℕ → Item → List ℕ → Type 0
IsRecipientStructure h aad v t = IsEncodingOf (recipient_structure_in h aad v) t
