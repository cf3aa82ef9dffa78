-- Reading a text that consists of pieces, one piece at a time.
use Rattle.std.proofs.Common.{◌≡◌, ◌≤◌, ◌+◌, ◌<◌, inl, inr, ℕ, List, [], ◌∷◌, ◌++◌, ◌∙◌, true, Some, length}
use Rattle.std.proofs.Common.{sym, ap, subst, arith, lit<, append_assoc, length-append}
use Rattle.std.proofs.lemmas.List.{append-nil}
use Rattle.tool_spelled.specs.Hexadecimal.{BeginsWithByte, IsBehindPrefix, IsByte, IsHexadecimal, is_prefix}
use Rattle.tool_spelled.specs.Hexadecimal as hexadecimal
use Rattle.tool_spelled.specs.Pieces.{ArePieces, IsElement, IsEscape, IsFirstPiece, IsGap, IsLiteral, IsPercent, IsPiece}
use Rattle.tool_spelled.specs.Pieces.{begins_with_gap, escape, is_of_url, is_plain}
use Rattle.tool_spelled.specs.Pieces as pieces
use Rattle.tool_spelled.specs.declared.pieces.Format.{Format}
use Rattle.tool_spelled.specs.declared.pieces.Format.TheVariants.{Hexadecimal, Percent}
use Rattle.tool_spelled.specs.declared.pieces.Next.{Next}
use Rattle.tool_spelled.specs.declared.pieces.Next.TheVariants.{End, Between, Byte, Misspelled}

-- The text has one more gap.
pub one_gap :
    (f : Format) (text left rest so_far : List ℕ) (c : ℕ) → left ≡ c ∷ rest → IsGap f c
    → ((b : List ℕ) → ArePieces f left b → ArePieces f text (so_far ++ b)) → (b : List ℕ) → ArePieces f rest b → ArePieces f text (so_far ++ b)
one_gap f text left rest so_far c parts is before b h =
    before b (subst (λ (t : List ℕ). ArePieces f t b) (sym parts) (pieces.gap c rest b is h))

-- The text has one more piece.
pub one_piece :
    (f : Format) (text left rest so_far pushed p : List ℕ) (v : ℕ) → left ≡ p ++ rest → IsPiece f p v rest → pushed ≡ so_far ++ (v ∷ [])
    → ((b : List ℕ) → ArePieces f left b → ArePieces f text (so_far ++ b)) → (b : List ℕ) → ArePieces f rest b → ArePieces f text (pushed ++ b)
one_piece f text left rest so_far pushed p v parts is push before b h =
    subst (λ (x : List ℕ). ArePieces f text x) (sym (ap (λ x. x ++ b) push ∙ append_assoc so_far (v ∷ []) b))
    (before (v ∷ b) (subst (λ (t : List ℕ). ArePieces f t (v ∷ b)) (sym parts) (pieces.piece p rest b v is h)))

-- At the end of the text.
pub pieces_to_end :
    (f : Format) (text left bytes : List ℕ) → left ≡ [] → ((b : List ℕ) → ArePieces f left b → ArePieces f text (bytes ++ b)) → ArePieces f text bytes
pieces_to_end f text left bytes none before =
    subst (λ (b : List ℕ). ArePieces f text b) (append-nil bytes)
    (before [] (subst (λ (t : List ℕ). ArePieces f t []) (sym none) pieces.ends))

-- ---- the pieces of hexadecimal

digits_alone :
    (text rest : List ℕ) (x y v : ℕ) → text ≡ x ∷ y ∷ rest → IsByte x y v
    → (p : List ℕ) × (text ≡ p ++ rest) × IsHexadecimal p v × (0 < length p)
digits_alone text rest x y v parts is = (x ∷ y ∷ [], parts, hexadecimal.digits x y v is, lit< tt)

prefixed_digits :
    (text rest : List ℕ) (c m x y v : ℕ) → text ≡ c ∷ m ∷ x ∷ y ∷ rest → is_prefix c m ≡ true → IsByte x y v
    → (p : List ℕ) × (text ≡ p ++ rest) × IsHexadecimal p v × (0 < length p)
prefixed_digits text rest c m x y v parts prefix is = (c ∷ m ∷ x ∷ y ∷ [], parts, hexadecimal.prefixed c m x y v prefix is, lit< tt)

-- The byte behind a prefix or without one, or the fault in its digits.
pub behind_prefix : (text digits : List ℕ) (n : Next) → IsBehindPrefix text digits → BeginsWithByte digits n → IsFirstPiece Hexadecimal text n
behind_prefix text digits End w n = absurd n
behind_prefix text digits (Between rest) w n = absurd n
behind_prefix text digits (Byte v rest) w n =
    elim w [
      | inl same ↦ digits_alone text rest.now n.0 n.1 v (sym same ∙ n.2) n.3
      | inr p ↦ prefixed_digits text rest.now p.0 p.1 n.0 n.1 v (p.2 ∙ ap (λ t. p.0 ∷ p.1 ∷ t) n.2) p.3 n.3
    ]
behind_prefix text digits (Misspelled n) w h =
    elim w [
      | inl same ↦ subst (λ (t : List ℕ). n ≤ length t) same h
      | inr p ↦ let e = ap length p.2 in grind (arith, e, h)
    ]

-- ---- the pieces of a literal

pub coded_literal :
    (text rest : List ℕ) (x y v : ℕ) → text ≡ 92 ∷ 120 ∷ x ∷ y ∷ rest → IsByte x y v
    → (p : List ℕ) × (text ≡ p ++ rest) × IsLiteral p v × (0 < length p)
coded_literal text rest x y v parts is = (92 ∷ 120 ∷ x ∷ y ∷ [], parts, pieces.coded x y v is, lit< tt)

-- The byte of `\x`, or the fault in its digits.
pub coded_escape : (text digits : List ℕ) (n : Next) → text ≡ 120 ∷ digits → BeginsWithByte digits n → IsEscape text n
coded_escape text digits End x n = absurd n
coded_escape text digits (Between rest) x n = absurd n
coded_escape text digits (Byte v rest) x n = coded_literal (92 ∷ text) rest.now n.0 n.1 v (ap (λ t. 92 ∷ t) (x ∙ ap (λ t. 120 ∷ t) n.2)) n.3
coded_escape text digits (Misspelled n) x h = let e = ap length x in grind (arith, e, h)

pub escaped_literal :
    (text rest : List ℕ) (c v : ℕ) → text ≡ 92 ∷ c ∷ rest → escape c ≡ Some v → (p : List ℕ) × (text ≡ p ++ rest) × IsLiteral p v × (0 < length p)
escaped_literal text rest c v parts is = (92 ∷ c ∷ [], parts, pieces.escaped c v is, lit< tt)

pub plain_literal : (text rest : List ℕ) (c : ℕ) → text ≡ c ∷ rest → is_plain c ≡ true → (p : List ℕ) × (text ≡ p ++ rest) × IsLiteral p c × (0 < length p)
plain_literal text rest c parts is = (c ∷ [], parts, pieces.plain c is, lit< tt)

-- ---- the pieces of percent-encoding

pub coded_percent :
    (text rest : List ℕ) (x y v : ℕ) → text ≡ 37 ∷ x ∷ y ∷ rest → IsByte x y v → (p : List ℕ) × (text ≡ p ++ rest) × IsPercent p v × (0 < length p)
coded_percent text rest x y v parts is = (37 ∷ x ∷ y ∷ [], parts, pieces.percent x y v is, lit< tt)

-- The byte of `%`, or the fault in its digits.
pub coded_byte : (text digits : List ℕ) (n : Next) → text ≡ 37 ∷ digits → BeginsWithByte digits n → IsFirstPiece Percent text n
coded_byte text digits End x n = absurd n
coded_byte text digits (Between rest) x n = absurd n
coded_byte text digits (Byte v rest) x n = coded_percent text rest.now n.0 n.1 v (x ∙ ap (λ t. 37 ∷ t) n.2) n.3
coded_byte text digits (Misspelled n) x h = let e = ap length x in grind (arith, e, h)

pub plain_percent : (text rest : List ℕ) (c : ℕ) → text ≡ c ∷ rest → is_of_url c ≡ true → (p : List ℕ) × (text ≡ p ++ rest) × IsPercent p c × (0 < length p)
plain_percent text rest c parts is = (c ∷ [], parts, pieces.unescaped c is, lit< tt)

-- ---- the elements of an array

-- The word is the text before the gap. It begins with the text's first character.
pub element_piece :
    (text rest behind word : List ℕ) (c v : ℕ) → text ≡ c ∷ rest → (front : List ℕ) × (rest ≡ front ++ behind) → text ≡ word ++ behind
    → begins_with_gap behind ≡ true → IsElement word v
    → (p : List ℕ) × (text ≡ p ++ behind) × (IsElement p v × (begins_with_gap behind ≡ true)) × (0 < length p)
element_piece text rest behind word c v first front parts gap is =
    let whole = ap length first in
    let after : length rest ≡ length front.0 + length behind = ap length front.1 ∙ length-append front.0 behind in
    let cut : length text ≡ length word + length behind = ap length parts ∙ length-append word behind in
    (word, parts, (is, gap), grind (arith, whole, after, cut))
