-- Parts of inputs.
use Rattle.std.proofs.Common.{◌≡◌, ◌+◌, ◌-◌, ℕ, List, [], ◌∷◌, ◌++◌, ◌∙◌, length, take, drop, sym, ap, refl, arith, append_assoc}
use Rattle.std.proofs.lemmas.List.{append-nil, length-append, length-take-le, take-append-drop}
use Rattle.std.proofs.Math.Seq.{take-append_seam}
use Rattle.tool_spelled.specs.Framed.{IsPart}

-- The whole input is a part of itself.
pub whole : (text : List ℕ) → IsPart text 0 text
whole text = record { front = []; back = []; parts = sym (append-nil text); place = refl }

-- The text between n characters at the front and others at the end.
pub between : (text inner found : List ℕ) (n m : ℕ) → inner ≡ drop n text → length inner + n ≡ length text → found ≡ take m inner → IsPart text n found
between text inner found n m behind count before =
    record {
      front = take n text;
      back = drop m inner;
      parts =
          sym (take-append-drop n text)
          ∙ ap (λ t. take n text ++ t) (sym behind ∙ sym (take-append-drop m inner) ∙ ap (λ t. t ++ drop m inner) (sym before));
      place = length-take-le n text (omega (arith, count));
    }

-- The text after others.
pub behind : (text front found : List ℕ) → text ≡ front ++ found → IsPart text (length text - length found) found
behind text front found is =
    let count : length text ≡ length front + length found = ap length is ∙ length-append front found in
    record { front = front; back = []; parts = is ∙ ap (λ t. front ++ t) (sym (append-nil found)); place = omega (arith, count) }

-- A part of a part is a part.
pub inner :
    (input trimmed text found front back : List ℕ) (n : ℕ) → input ≡ trimmed ++ back → trimmed ≡ front ++ text → IsPart text n found
    → IsPart input (length trimmed - length text + n) found
inner input trimmed text found front back n ends begins is =
    let count : length trimmed ≡ length front + length text = ap length begins ∙ length-append front text in
    let both = length-append front is.front in
    let place = is.place in
    record {
      front = front ++ is.front;
      back = is.back ++ back;
      parts =
          ends ∙ ap (λ t. t ++ back) (begins ∙ ap (λ t. front ++ t) is.parts) ∙ append_assoc front (is.front ++ (found ++ is.back)) back
          ∙ ap (λ t. front ++ t) (append_assoc is.front (found ++ is.back) back)
          ∙ ap (λ t. front ++ (is.front ++ t)) (append_assoc found is.back back) ∙ sym (append_assoc front is.front (found ++ (is.back ++ back)));
      place = omega (arith, count, both, place);
    }

-- A suffix of a suffix is a suffix.
pub behind_both :
    (text rest found : List ℕ) → (front : List ℕ) × (text ≡ front ++ rest) → (front : List ℕ) × (rest ≡ front ++ found)
    → (front : List ℕ) × (text ≡ front ++ found)
behind_both text rest found outer inner = (outer.0 ++ inner.0, outer.1 ∙ ap (λ t. outer.0 ++ t) inner.1 ∙ sym (append_assoc outer.0 inner.0 found))

-- A suffix without its first element is a suffix.
pub behind_first :
    (text left rest : List ℕ) (c : ℕ) → (front : List ℕ) × (text ≡ front ++ left) → left ≡ c ∷ rest → (front : List ℕ) × (text ≡ front ++ rest)
behind_first text left rest c outer is = behind_both text left rest outer (c ∷ [], is)

-- The text before its end.
pub front_of : (text front found : List ℕ) → text ≡ front ++ found → text ≡ take (length text - length found) text ++ found
front_of text front found is =
    let count : length text ≡ length front + length found = ap length is ∙ length-append front found in
    let less : length text - length found ≡ length front = omega (arith, count) in
    let same : take (length text - length found) text ≡ front =
    ap (λ n. take n text) less ∙ ap (λ t. take (length front) t) is ∙ take-append_seam front found in
    is ∙ ap (λ t. t ++ found) (sym same)
