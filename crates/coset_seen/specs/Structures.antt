-- The structures over the bytes of a message (RFC 8152, sections 4.4, 5.3 and 6.3).
use Rattle.std.specs.Prelude.{◌≡◌, ℕ, List, [], ◌∷◌, ◌++◌, codes, Some, None, Result, Ok, Err}
use Rattle.coset.specs.EncStructure.{enc_item}
use Rattle.coset.specs.Headers.{ProtectedView}
use Rattle.coset.specs.Item.{Item}
use Rattle.coset.specs.MacStructure.{mac_item}
use Rattle.coset.specs.Signed.{signed_item}
use Rattle.coset.specs.Structure.{structure}
use Rattle.coset.specs.CoseError.{CoseError}
use Rattle.coset.specs.SignatureContext.TheVariants.{CoseSign1}
use Rattle.coset.specs.MacContext.TheVariants.{CoseMac, CoseMac0}
use Rattle.coset.specs.EncryptionContext.TheVariants.{CoseEncrypt, CoseEncrypt0}
use Rattle.coset_cbor.specs.Least.{least_head}
use Rattle.coset.specs.Shortest.{IsShortest}
use Rattle.coset_seen.specs.declared.kind.Kind as kinds
use Rattle.coset_seen.specs.declared.kind.Kind.TheVariants.{Sign1, Mac0, Encrypt0, Mac, Encrypt}
use Rattle.coset_seen.specs.declared.structure.ByteString.{ByteString}
use Rattle.coset_seen.specs.declared.structure.StructureError as errors
use Rattle.coset_seen.specs.declared.structure.StructureError.TheVariants.{OutOfMemory}
use Rattle.coset_seen.specs.Puts.{PutsTexts}

-- The structure's context.
abbrev pub context_of : kinds.Kind → List ℕ
context_of Sign1 = codes "Signature1"
context_of Mac0 = codes "MAC0"
context_of Encrypt0 = codes "Encrypt0"
context_of Mac = codes "MAC"
context_of Encrypt = codes "Encrypt"

-- The structure's byte strings, from the protected bytes p and the content c.
abbrev pub parts_of : kinds.Kind → List ℕ → List ℕ → List ℕ → List (List ℕ)
parts_of Sign1 p aad c = p ∷ aad ∷ c ∷ []
parts_of Mac0 p aad c = p ∷ aad ∷ c ∷ []
parts_of Encrypt0 p aad c = p ∷ aad ∷ []
parts_of Mac p aad c = p ∷ aad ∷ c ∷ []
parts_of Encrypt p aad c = p ∷ aad ∷ []

-- The structure of a message of this kind.
abbrev pub structure_of : kinds.Kind → List ℕ → List ℕ → List ℕ → Item
structure_of k p aad c = structure (context_of k) (parts_of k p aad c)

-- The front of the structure's shortest encoding, up to its context.
abbrev pub front_of : kinds.Kind → List ℕ
front_of Sign1 = least_head 4 4 ++ (least_head 3 10 ++ codes "Signature1")
front_of Mac0 = least_head 4 4 ++ (least_head 3 4 ++ codes "MAC0")
front_of Encrypt0 = least_head 4 3 ++ (least_head 3 8 ++ codes "Encrypt0")
front_of Mac = least_head 4 4 ++ (least_head 3 3 ++ codes "MAC")
front_of Encrypt = least_head 4 3 ++ (least_head 3 7 ++ codes "Encrypt")

-- The encoding of the byte string.
abbrev pub encoded : ByteString → List ℕ
encoded s = s.head.now ++ s.content.now

-- Writing the shortest encoding of the item w to the front of the memory.
abbrev pub PutsItem : Item → List ℕ → List ℕ → Result ℕ errors.StructureError → Type 0
PutsItem w old new r = (t : List ℕ) × IsShortest t w × PutsTexts t old new r

-- Making the shortest encoding of the item w. `OutOfMemory` says nothing of w.
abbrev pub MakesItem : {V : Type 0} → (V → List ℕ) → Item → Result V errors.StructureError → Type 0
MakesItem items w (Ok v) = IsShortest (items v) w
MakesItem items w (Err e) = e ≡ OutOfMemory

-- Any error becomes `OutOfMemory`.
abbrev pub or_out_of_memory : {V : Type 0} → Result V CoseError → Result V errors.StructureError
or_out_of_memory (Ok v) = Ok v
or_out_of_memory (Err e) = Err OutOfMemory

-- w is the structure of a message of kind k, as the facade makes it of the protected header p.
abbrev pub IsStructureOf : kinds.Kind → ProtectedView → List ℕ → List ℕ → Item → Type 0
IsStructureOf Sign1 p aad c w = signed_item CoseSign1 p None aad c ≡ Some w
IsStructureOf Mac0 p aad c w = mac_item CoseMac0 p aad c ≡ Some w
IsStructureOf Encrypt0 p aad c w = enc_item CoseEncrypt0 p aad ≡ Some w
IsStructureOf Mac p aad c w = mac_item CoseMac p aad c ≡ Some w
IsStructureOf Encrypt p aad c w = enc_item CoseEncrypt p aad ≡ Some w
