-- Text in UTF-16 with a byte order mark (RFC 2781, section 3.2), if all its characters are ASCII.
use Rattle.std.specs.Prelude.{◌≡◌, ◌<◌, ℕ, List, [], ◌∷◌, Bool, true, false}

-- The two bytes of a character, in big-endian or little-endian order.
abbrev pub IsCharacter : Bool → ℕ → ℕ → ℕ → Type 0
IsCharacter true first second c = (first ≡ 0) × (second ≡ c) × (c < 128)
IsCharacter false first second c = (second ≡ 0) × (first ≡ c) × (c < 128)

-- The characters of the bytes, two bytes each.
pub data AreCharacters (is_big : Bool) : List ℕ → List ℕ → Type 0 where
  ends : AreCharacters is_big [] []
  character :
      (first second c : ℕ) (bytes text : List ℕ) → IsCharacter is_big first second c → AreCharacters is_big bytes text
      → AreCharacters is_big (first ∷ second ∷ bytes) (c ∷ text)

-- The input is the text in UTF-16, after its byte order mark.
pub data IsUtf16 : List ℕ → List ℕ → Type 0 where
  little : (bytes text : List ℕ) → AreCharacters false bytes text → IsUtf16 (255 ∷ 254 ∷ bytes) text
  big : (bytes text : List ℕ) → AreCharacters true bytes text → IsUtf16 (254 ∷ 255 ∷ bytes) text
