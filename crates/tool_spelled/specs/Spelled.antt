-- The bytes that a text spells.
use Rattle.std.specs.Prelude.{◌≡◌, ◌≤◌, ◌⊎◌, ℕ, List, Some, length}
use Rattle.tool_spelled.specs.Base45.{base45}
use Rattle.tool_spelled.specs.Base64.{IsBase64}
use Rattle.tool_spelled.specs.Comments.{without_comments}
use Rattle.tool_spelled.specs.Dump.{IsDump}
use Rattle.tool_spelled.specs.Framed.{IsPart}
use Rattle.tool_spelled.specs.Pieces.{ArePieces}
use Rattle.tool_spelled.specs.Utf16.{IsUtf16}
use Rattle.tool_spelled.specs.declared.comments.Place.TheVariants.{Outside}
use Rattle.tool_spelled.specs.declared.framed.Spelling.{Spelling}
use Rattle.tool_spelled.specs.declared.framed.Spelling.TheVariants as spellings
use Rattle.tool_spelled.specs.declared.pieces.Format.TheVariants as formats
use Rattle.tool_spelled.specs.declared.read.Misspelled.{Misspelled}

-- The text spells the bytes in this spelling.
abbrev pub Spells : Spelling → List ℕ → List ℕ → Type 0
Spells spellings.Binary text bytes = bytes ≡ text
Spells spellings.Hexadecimal text bytes = ArePieces formats.Hexadecimal text bytes
Spells spellings.Base64 text bytes = IsBase64 text bytes
Spells spellings.Commented text bytes = ArePieces formats.Hexadecimal (without_comments Outside text) bytes
Spells spellings.Array text bytes = ArePieces formats.Array (without_comments Outside text) bytes
Spells spellings.Literal text bytes = ArePieces formats.Literal text bytes
Spells spellings.Dump text bytes = (radix : ℕ) × (first : ℕ) × IsDump radix first text bytes
Spells spellings.Percent text bytes = ArePieces formats.Percent text bytes
Spells spellings.Base45 text bytes = base45 text ≡ Some bytes

-- A part of a text spells the bytes.
pub record SpellsIn (spelling : Spelling) (input bytes : List ℕ) : Type 0 where
  pub offset : ℕ
  pub text : List ℕ
  pub part : IsPart input offset text
  pub spells : Spells spelling text bytes

-- A part of the input spells the bytes, or a part of the text that the input is in UTF-16.
abbrev pub Reads : Spelling → List ℕ → List ℕ → Type 0
Reads spelling input bytes = SpellsIn spelling input bytes ⊎ ((text : List ℕ) × IsUtf16 input text × SpellsIn spelling text bytes)

-- The offset is in the text, or at its end.
abbrev pub IsWithin : List ℕ → Misspelled → Type 0
IsWithin text m = m.0 ≤ length text
