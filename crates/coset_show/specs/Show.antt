-- The output for bytes that should describe a value of some type.
use Rattle.std.specs.Prelude.{◌≡◌, Bool, true, false, ℕ, List, [], ◌∷◌, ◌++◌, ◌/◌, ◌==◌, Option, Some, Result, MatchResult, codes}
use Rattle.hex.specs.Hex.{encode_lower}
use Rattle.coset.specs.Item.{Item}
use Rattle.coset.specs.Shortest.{IsShortest}
use Rattle.coset.specs.CoseError.{CoseError}
use Rattle.coset.specs.CoseError.TheVariants.{OutOfMemory}
use Rattle.coset.specs.Results.{Describes, SliceFaults, DescribesNothing}
use Rattle.coset.specs.Errors.{UnlessMemory}
use Rattle.coset.specs.Shape.{Shape, tagged}
use Rattle.coset.specs.Headers.{SignatureView, signature}
use Rattle.coset.specs.Sign1.{Sign1View, sign1, sign1_attached}
use Rattle.coset.specs.Sign.{SignView, sign}
use Rattle.coset.specs.Mac.{MacView, mac}
use Rattle.coset.specs.Mac0.{Mac0View, mac0}
use Rattle.coset.specs.Encrypt.{EncryptView, encrypt}
use Rattle.coset.specs.Encrypt0.{Encrypt0View, encrypt0}
use Rattle.coset_show.specs.declared.refusal.Refusal.{Refusal}
use Rattle.coset_show.specs.declared.refusal.Refusal.TheVariants.{Unreadable, NotHexadecimal, Cose}

-- The text as a line.
abbrev pub line : List ℕ → List ℕ
line text = text ++ 10 ∷ []

-- There is an image, and the line is its shortest encoding in lower-case hexadecimal.
pub record IsLineOf (image : Option Item) (shown : List ℕ) : Type 0 where
  pub item : Item
  pub encoding : List ℕ
  pub is_image : image ≡ Some item
  pub is_shortest : IsShortest encoding item
  pub is_line : shown ≡ line (encode_lower encoding)

-- b describes a value, and the line is that of the value's image.
pub record ShowsType {A : Type 0} (shape : Shape A) (b lines : List ℕ) : Type 0 where
  pub value : A
  pub described : Describes shape b value
  pub is_line : IsLineOf (shape.image value) lines

-- The error names a fault in b, and b describes no value. Otherwise an allocation failed.
abbrev pub RefusesType : {A : Type 0} → Shape A → List ℕ → Refusal → Type 0
RefusesType shape b (Cose error) = UnlessMemory error (λ e. SliceFaults shape b e × DescribesNothing shape b)
RefusesType shape b Unreadable = ⊥
RefusesType shape b NotHexadecimal = ⊥

-- ---- messages, tagged if the bytes begin with a tag (RFC 8152, section 2)

-- The first byte is of major type 6.
abbrev pub is_tagged : List ℕ → Bool
is_tagged [] = false
is_tagged (c ∷ b) = c / 32 == 6

abbrev pub tagged_if : {A : Type 0} → Bool → ℕ → Shape A → Shape A
tagged_if true number s = tagged number s
tagged_if false number s = s

-- The shape of a message in b, given its tag number and its plain shape.
abbrev pub message_in : {A : Type 0} → List ℕ → ℕ → Shape A → Shape A
message_in b number s = tagged_if (is_tagged b) number s

-- The shape of each type of message in b.
abbrev pub sign1_in : List ℕ → Shape Sign1View
sign1_in b = message_in b 18 sign1

abbrev pub sign_in : List ℕ → Shape SignView
sign_in b = message_in b 98 sign

abbrev pub mac_in : List ℕ → Shape MacView
mac_in b = message_in b 97 mac

abbrev pub mac0_in : List ℕ → Shape Mac0View
mac0_in b = message_in b 17 mac0

abbrev pub encrypt_in : List ℕ → Shape EncryptView
encrypt_in b = message_in b 96 encrypt

abbrev pub encrypt0_in : List ℕ → Shape Encrypt0View
encrypt0_in b = message_in b 16 encrypt0

abbrev pub countersignature_in : List ℕ → Shape SignatureView
countersignature_in b = message_in b 19 signature

-- b describes a message. The first line is that of its image. The second, after `tbs `, is that of the structure to be
-- signed with an empty `external_aad`.
pub record ShowsSign1 (b lines : List ℕ) : Type 0 where
  pub message : Sign1View
  pub described : Describes (sign1_in b) b message
  pub first : List ℕ
  pub second : List ℕ
  pub is_message : IsLineOf ((sign1_in b).image message) first
  pub is_signed : IsLineOf (sign1_attached message []) second
  pub are_lines : lines ≡ first ++ codes "tbs " ++ second

-- ---- values that were read, written

-- If bytes describe x, the result is the line of its image, or `OutOfMemory`.
abbrev pub WritesRead : {S A : Type 0} → Shape A → A → (S → List ℕ) → Result S CoseError → Type 0
WritesRead shape x text_of result = (b : List ℕ) → Describes shape b x → MatchResult result (λ s. IsLineOf (shape.image x) (text_of s)) (λ e. e ≡ OutOfMemory)
