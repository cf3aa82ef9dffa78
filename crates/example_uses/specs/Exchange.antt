-- A message on its way from the signer to the verifier.
use Rattle.std.specs.Prelude.{◌≡◌, ℕ, List, Some}
use Rattle.coset_value.specs.Item.{Item}
use Rattle.coset_cbor.specs.Grammar.{IsItem}
use Rattle.coset_codec.specs.Results.{Describes}
use Rattle.coset_codec.specs.ReadAgain.{IsWritten}
use Rattle.coset_codec.specs.Shape.{Shape}
use Rattle.coset_claims.specs.Claims.{ClaimsView, claims}
use Rattle.coset_core.specs.Calls.{IsStructure}
use Rattle.coset_sign.specs.Sign1.{Sign1View, sign1, sign1_attached}

-- The bytes are encodings of the same item (RFC 8949, section 3).
abbrev pub IsSpelling : List ℕ → List ℕ → Type 0
IsSpelling a b = (v : Item) × IsItem a v × IsItem b v

-- If a encodes an item, b encodes the same item.
abbrev pub Respells : List ℕ → List ℕ → Type 0
Respells a b = (v : Item) → IsItem a v → IsItem b v

-- R relates a message that is written to the one that is read, in whatever spelling it arrives.
abbrev pub Arrives : {A : Type 0} → Shape A → (A → A → Type 0) → Type 0
Arrives {A} s R = (b t : List ℕ) (m n : A) → IsWritten s m b → IsSpelling b t → Describes s t n → R m n

-- P holds of every message that is read.
abbrev pub IsReceived : {A : Type 0} → Shape A → (A → Type 0) → Type 0
IsReceived {A} s P = (b : List ℕ) (m : A) → Describes s b m → P m

-- The bytes are the encoding of a message with one signature, and are read as a message. It has this payload, and its
-- signature is one of its structure with `external_aad` (RFC 8152, section 4.4). `signs t s`: s is a signature of t.
pub record IsSent (signs : List ℕ → List ℕ → Type 0) (external_aad payload b : List ℕ) : Type 0 where
  pub message : Sign1View
  pub written : IsWritten sign1 message b
  pub read : (n : Sign1View) × Describes sign1 b n
  pub carried : message.payload ≡ Some payload
  pub signed : (t : List ℕ) × IsStructure (sign1_attached message external_aad) t × signs t message.signature

-- n has the payload and the signature of m, and its structure is the same with every `external_aad`.
pub record CarriesSame (n m : Sign1View) : Type 0 where
  pub payload : n.payload ≡ m.payload
  pub signature : n.signature ≡ m.signature
  pub structure : (external_aad : List ℕ) → sign1_attached n external_aad ≡ sign1_attached m external_aad

-- The bytes are a message whose signature is accepted for its structure with `external_aad`.
pub record IsVerified (accepts : List ℕ → List ℕ → Type 0) (external_aad b : List ℕ) (n : Sign1View) : Type 0 where
  pub read : Describes sign1 b n
  pub signed : (t : List ℕ) × IsStructure (sign1_attached n external_aad) t × accepts t n.signature

-- A token whose payload is these claims, which can be read (RFC 8392, section 7.1).
abbrev pub IsIssued : (List ℕ → List ℕ → Type 0) → List ℕ → ClaimsView → List ℕ → Type 0
IsIssued signs external_aad c b =
    (payload : List ℕ) × IsWritten claims c payload × ((n : ClaimsView) × Describes claims payload n) × IsSent signs external_aad payload b

-- The claims in the payload of a verified token.
pub record AreVerified (accepts : List ℕ → List ℕ → Type 0) (external_aad b : List ℕ) (c : ClaimsView) : Type 0 where
  pub message : Sign1View
  pub verified : IsVerified accepts external_aad b message
  pub payload : List ℕ
  pub carried : message.payload ≡ Some payload
  pub described : Describes claims payload c
