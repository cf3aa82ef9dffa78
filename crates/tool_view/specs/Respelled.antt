-- An input's bytes in another spelling (RFC 4648, sections 4 and 8).
use Rattle.std.specs.Prelude.{◌≡◌, ℕ, Bool, List, [], ◌∷◌, ◌++◌}
use Rattle.base64.specs.Engines.{standard}
use Rattle.base64.specs.GeneralPurpose.{encode_of}
use Rattle.hex.specs.Hex.{encode_lower}
use Rattle.tool_view.specs.Meaning.{Means}
use Rattle.tool_view.specs.declared.respelled.To.{To}
use Rattle.tool_view.specs.declared.respelled.To.TheVariants as targets

-- The output is the bytes: in a line of lower-case hexadecimal, as they are, or in a line of base64.
abbrev pub IsSpelling : To → List ℕ → List ℕ → Type 0
IsSpelling targets.Hexadecimal bytes output = output ≡ encode_lower bytes ++ 10 ∷ []
IsSpelling targets.Binary bytes output = output ≡ bytes
IsSpelling targets.Base64 bytes output = output ≡ encode_of standard bytes ++ 10 ∷ []

-- The output is the bytes of the input in another spelling.
pub record IsRespelled (is_notation : Bool) (to : To) (input output : List ℕ) : Type 0 where
  pub bytes : List ℕ
  pub means : Means is_notation input bytes
  pub is_spelling : IsSpelling to bytes output
