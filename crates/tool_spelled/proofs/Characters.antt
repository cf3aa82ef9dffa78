-- Reading text in UTF-16, one character at a time.
use Rattle.std.proofs.Common.{◌≡◌, ℕ, List, [], ◌∷◌, ◌++◌, ◌∙◌, Bool, length, sym, ap, subst, append_assoc}
use Rattle.std.proofs.lemmas.List.{append-nil, nil_from_length}
use Rattle.tool_spelled.specs.Utf16.{AreCharacters, IsCharacter}
use Rattle.tool_spelled.specs.Utf16 as utf16

-- The text has one more character.
pub one_character :
    (is_big : Bool) (bytes left rest so_far pushed : List ℕ) (a b c : ℕ) → left ≡ a ∷ b ∷ rest → IsCharacter is_big a b c → pushed ≡ so_far ++ (c ∷ [])
    → ((t : List ℕ) → AreCharacters is_big left t → AreCharacters is_big bytes (so_far ++ t))
    → (t : List ℕ) → AreCharacters is_big rest t → AreCharacters is_big bytes (pushed ++ t)
one_character is_big bytes left rest so_far pushed a b c parts is push before t h =
    subst (λ (x : List ℕ). AreCharacters is_big bytes x) (sym (ap (λ x. x ++ t) push ∙ append_assoc so_far (c ∷ []) t))
    (before (c ∷ t) (subst (λ (x : List ℕ). AreCharacters is_big x (c ∷ t)) (sym parts) (utf16.character a b c rest t is h)))

-- At the end of the bytes.
pub characters_to_end :
    (is_big : Bool) (bytes left text : List ℕ) → length left ≡ 0
    → ((t : List ℕ) → AreCharacters is_big left t → AreCharacters is_big bytes (text ++ t)) → AreCharacters is_big bytes text
characters_to_end is_big bytes left text none before =
    subst (λ (x : List ℕ). AreCharacters is_big bytes x) (append-nil text)
    (before [] (subst (λ (x : List ℕ). AreCharacters is_big x []) (sym (nil_from_length left none)) utf16.ends))
