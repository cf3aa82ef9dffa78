-- Reading a text in base64, one character at a time.
use Rattle.std.proofs.Common.{◌≡◌, ℕ, List, [], ◌∷◌, ◌++◌, ◌∙◌, true, Some, length, sym, ap, subst, append_assoc}
use Rattle.std.proofs.lemmas.List.{append-nil, nil_from_length}
use Rattle.tool_spelled.specs.Base64.{AreDigits, IsPadding, is_break, digit_number}
use Rattle.tool_spelled.specs.Base64 as base64

pub without_signs : (text : List ℕ) → (p : List ℕ) × (text ≡ text ++ p) × IsPadding p
without_signs text = ([], sym (append-nil text), base64.none)

pub without_sign : (text digits : List ℕ) → text ≡ digits ++ (61 ∷ []) → (p : List ℕ) × (text ≡ digits ++ p) × IsPadding p
without_sign text digits is = (61 ∷ [], is, base64.one)

pub without_both :
    (text rest digits : List ℕ) → text ≡ rest ++ (61 ∷ []) → rest ≡ digits ++ (61 ∷ []) → (p : List ℕ) × (text ≡ digits ++ p) × IsPadding p
without_both text rest digits outer inner =
    (61 ∷ 61 ∷ [], outer ∙ ap (λ t. t ++ (61 ∷ [])) inner ∙ append_assoc digits (61 ∷ []) (61 ∷ []), base64.two)

-- The text has one more digit.
pub one_digit :
    (digits left rest numbers pushed : List ℕ) (c v : ℕ) → left ≡ c ∷ rest → digit_number c ≡ Some v
    → pushed ≡ numbers ++ (v ∷ []) → ((n : List ℕ) → AreDigits left n → AreDigits digits (numbers ++ n)) → (n : List ℕ) → AreDigits rest n → AreDigits digits (pushed ++ n)
one_digit digits left rest numbers pushed c v parts is push so_far n h =
    subst (λ (b : List ℕ). AreDigits digits b) (sym (ap (λ p. p ++ n) push ∙ append_assoc numbers (v ∷ []) n))
    (so_far (v ∷ n) (subst (λ (t : List ℕ). AreDigits t (v ∷ n)) (sym parts) (base64.digit c v rest n is h)))

-- The text has one more character of white space, which is no digit.
pub one_break :
    (digits left rest numbers : List ℕ) (c : ℕ) → left ≡ c ∷ rest → is_break c ≡ true
    → ((n : List ℕ) → AreDigits left n → AreDigits digits (numbers ++ n)) → (n : List ℕ) → AreDigits rest n → AreDigits digits (numbers ++ n)
one_break digits left rest numbers c parts is so_far n h =
    so_far n (subst (λ (t : List ℕ). AreDigits t n) (sym parts) (base64.between c rest n is h))

-- At the end of the digits.
pub digits_to_end :
    (digits left numbers : List ℕ) → length left ≡ 0 → ((n : List ℕ) → AreDigits left n → AreDigits digits (numbers ++ n)) → AreDigits digits numbers
digits_to_end digits left numbers none so_far =
    subst (λ (b : List ℕ). AreDigits digits b) (append-nil numbers)
    (so_far [] (subst (λ (t : List ℕ). AreDigits t []) (sym (nil_from_length left none)) base64.ends))
