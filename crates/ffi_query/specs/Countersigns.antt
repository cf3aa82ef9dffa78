-- The structures that countersignatures sign, for a message, a signature or a recipient as it was received (RFC 8152,
-- sections 4.4 and 4.5, and appendix A.2; RFC 9338, section 3.3).
use Rattle.std.specs.Prelude.{◌≡◌, ℕ, List, [], ◌∷◌, Option, Some, None, true, false}
use Rattle.std.specs.Prelude.{codes, option_and_then, option_map, if◌then◌else◌}
use Rattle.coset.specs.Item.{Item}
use Rattle.coset.specs.Countersigned.{countersign_structure}
use Rattle.coset.specs.SignatureStructure.{signature_structure, signed_parts}
use Rattle.coset.specs.SignatureContext.TheVariants.{CounterSignature}
use Rattle.coset.specs.Structure.{structure}
use Rattle.ffi_query.specs.declared.countersign.Countersignature as countersignatures
use Rattle.ffi_query.specs.declared.countersign.Countersignature.TheVariants.{Full, FullV2, AbbreviatedV2}
use Rattle.ffi_query.specs.declared.kind.Kind as kinds
use Rattle.ffi_query.specs.declared.kind.Kind.TheVariants.{Signature}
use Rattle.ffi_query.specs.declared.refusal.Refusal as refusals
use Rattle.ffi_query.specs.declared.refusal.Refusal.TheVariants.{Absent, Misuse}
use Rattle.ffi_query.specs.Results.{IsEncodingOf}
use Rattle.ffi_query.specs.Parts.{has_headers, proof_place}
use Rattle.ffi_query.specs.Places.{bytes_in, element}
use Rattle.ffi_query.specs.Structures.{content_in, is_given_at}

-- Countersign_structure = [context : tstr, body_protected : bstr, ? sign_protected : bstr, external_aad : bstr, payload
-- : bstr, ? other_fields : [+ bstr]] (RFC 9338, section 3.3). Without other fields it is the Sig_structure of RFC 8152,
-- section 4.4. The context is then "CounterSignature", or "CounterSignature0" without the signer's header (appendix
-- A.2).
abbrev pub countersigned : List ℕ → Option (List ℕ) → List ℕ → List ℕ → List (List ℕ) → Item
countersigned body signer aad payload (o ∷ os) = countersign_structure body signer aad payload (o ∷ os)
countersigned body (Some signer) aad payload [] = signature_structure CounterSignature body (Some signer) aad payload
countersigned body None aad payload [] = structure (codes "CounterSignature0") (signed_parts body None aad payload)

-- The structure for a type of countersignature. An abbreviated one has no header of its own, so none may be given.
abbrev pub countersigned_by : countersignatures.Countersignature → List ℕ → List ℕ → List ℕ → List ℕ → List (List ℕ) → Option Item
countersigned_by Full body signer aad payload others = Some (countersigned body (Some signer) aad payload others)
countersigned_by FullV2 body signer aad payload others = Some (countersigned body (Some signer) aad payload others)
countersigned_by c body [] aad payload others = Some (countersigned body None aad payload others)
countersigned_by c body (x ∷ xs) aad payload others = None

-- The index of the second bstr field: the payload, the ciphertext, or the signature of a COSE_Signature.
abbrev pub second_place : kinds.Kind → Option ℕ
second_place k = if has_headers k then Some 2 else None

-- The index of the bstr field after the second: the signature of a COSE_Sign1, or the tag of a COSE_Mac0 or a COSE_Mac.
abbrev pub third_place : kinds.Kind → Option ℕ
third_place Signature = None
third_place k = proof_place k

-- A list of the byte string at this index. It is empty if there is no index.
abbrev pub fields_at : Option ℕ → Item → Option (List (List ℕ))
fields_at None v = Some []
fields_at (Some n) v = option_map (λ s. s ∷ []) (bytes_in n v)

-- All bstr fields after the second, for version 2. A counter signature of RFC 8152 doesn't cover them.
abbrev pub other_fields : countersignatures.Countersignature → kinds.Kind → Item → Option (List (List ℕ))
other_fields FullV2 k v = fields_at (third_place k) v
other_fields AbbreviatedV2 k v = fields_at (third_place k) v
other_fields c k v = Some []

-- The structure, if all three parts are present.
abbrev pub countersigned_of :
    countersignatures.Countersignature → List ℕ → List ℕ → Option (List ℕ) → Option (List ℕ) → Option (List (List ℕ)) → Option Item
countersigned_of c signer aad (Some body) (Some payload) (Some others) = countersigned_by c body signer aad payload others
countersigned_of c signer aad body payload others = None

-- The payload: the content of the second field, or d if that field is nil.
abbrev pub second_field : kinds.Kind → Option (List ℕ) → Item → Option (List ℕ)
second_field k d v = content_in (option_and_then (λ n. element n v) (second_place k)) d

-- The structure that a countersignature of the item v, of kind k, signs.
abbrev pub countersigned_in : kinds.Kind → countersignatures.Countersignature → List ℕ → List ℕ → Option (List ℕ) → Item → Option Item
countersigned_in k c signer aad d v = countersigned_of c signer aad (bytes_in 0 v) (second_field k d v) (other_fields c k v)

-- t is the shortest encoding of that structure.
abbrev pub IsCountersigned : kinds.Kind → countersignatures.Countersignature → List ℕ → List ℕ → Option (List ℕ) → Item → List ℕ → Type 0
IsCountersigned k c signer aad d v t = IsEncodingOf (countersigned_in k c signer aad d v) t

-- The reason why there is no structure. `Misuse`: content is given as detached, and the item v carries some too.
-- `Absent`: no such structure exists.
abbrev pub HasNoCountersigned :
    kinds.Kind → countersignatures.Countersignature → List ℕ → List ℕ → Option (List ℕ) → Item → refusals.Refusal → Type 0
HasNoCountersigned k c signer aad d v Misuse = is_given_at (second_place k) d v ≡ true
HasNoCountersigned k c signer aad d v Absent =
    (is_given_at (second_place k) d v ≡ false) × ((t : List ℕ) → IsCountersigned k c signer aad d v t → ⊥)
HasNoCountersigned k c signer aad d v r = ⊥
