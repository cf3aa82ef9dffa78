-- The structures that signatures and MACs cover, and those that go with ciphertexts (RFC 8152, sections 4.4, 5.3 and
-- 6.3).
use Rattle.std.specs.Prelude.{◌≡◌, ℕ, List, ◌++◌, Option, Some, true, false, option_and_then}
use Rattle.std.specs.List.{slice_get}
use Rattle.coset.specs.Results.{Describes}
use Rattle.coset.specs.Encrypt.{encrypt, encrypt_structure_of}
use Rattle.coset.specs.Encrypt0.{encrypt0, encrypt0_structure}
use Rattle.coset.specs.Item.{Item}
use Rattle.coset.specs.Mac.{mac, mac_structure_of}
use Rattle.coset.specs.Mac0.{mac0, mac0_structure}
use Rattle.coset.specs.PerhapsTagged.{perhaps_tagged}
use Rattle.coset.specs.Shape.{Shape}
use Rattle.coset.specs.Shortest.{IsShortest}
use Rattle.coset.specs.Sign.{sign, signer_structure}
use Rattle.coset.specs.Sign1.{sign1, sign1_structure}
use Rattle.tool_explain.specs.Kind.{is_by_tag}
use Rattle.tool_explain.specs.declared.kind.Kind.{Kind}
use Rattle.tool_explain.specs.declared.kind.Kind.TheVariants as kinds

-- The structure over the payload, or `None` if the payload is detached.
abbrev pub over_payload : (List ℕ → Option Item) → Option (List ℕ) → Option Item
over_payload structure payload = option_and_then structure payload

-- The bytes describe a value of the shape, and t is the shortest encoding of that value's structure.
abbrev pub IsOver : {A : Type 0} → Shape A → (A → Option Item) → List ℕ → List ℕ → Type 0
IsOver {A} shape structure bytes t = (x : A) × Describes shape bytes x × (v : Item) × (structure x ≡ Some v) × IsShortest t v

-- t is the structure of the message: it is signed, authenticated, or goes with the ciphertext. The kind is taken by
-- name, so `Auto` and `Cwt` have none. `aad` is `external_aad`, and i chooses one of several signatures.
abbrev pub IsStructureOfNamed : Kind → List ℕ → ℕ → List ℕ → List ℕ → Type 0
IsStructureOfNamed kinds.Sign1 aad i bytes t = IsOver (perhaps_tagged 18 sign1) (λ m. over_payload (sign1_structure m aad) m.payload) bytes t
IsStructureOfNamed kinds.Sign aad i bytes t =
    IsOver (perhaps_tagged 98 sign) (λ m. option_and_then (λ s. over_payload (signer_structure m s aad) m.payload) (slice_get m.signatures i)) bytes t
IsStructureOfNamed kinds.Mac aad i bytes t = IsOver (perhaps_tagged 97 mac) (λ m. over_payload (mac_structure_of m aad) m.payload) bytes t
IsStructureOfNamed kinds.Mac0 aad i bytes t = IsOver (perhaps_tagged 17 mac0) (λ m. over_payload (mac0_structure m aad) m.payload) bytes t
IsStructureOfNamed kinds.Encrypt aad i bytes t = IsOver (perhaps_tagged 96 encrypt) (λ m. encrypt_structure_of m aad) bytes t
IsStructureOfNamed kinds.Encrypt0 aad i bytes t = IsOver (perhaps_tagged 16 encrypt0) (λ m. encrypt0_structure m aad) bytes t
IsStructureOfNamed k aad i bytes t = ⊥

-- t is the structure for some kind, over the bytes or a suffix of them.
pub record IsStructureOfSome (aad : List ℕ) (i : ℕ) (bytes t : List ℕ) : Type 0 where
  pub kind : Kind
  pub front : List ℕ
  pub rest : List ℕ
  pub parts : bytes ≡ front ++ rest
  pub over : IsStructureOfNamed kind aad i rest t

-- t is the structure for any kind. If the tag chooses the type, this doesn't say which type it is.
pub record IsStructure (kind : Kind) (aad : List ℕ) (i : ℕ) (bytes t : List ℕ) : Type 0 where
  pub by_tag : is_by_tag kind ≡ true → IsStructureOfSome aad i bytes t
  pub named : is_by_tag kind ≡ false → IsStructureOfNamed kind aad i bytes t
