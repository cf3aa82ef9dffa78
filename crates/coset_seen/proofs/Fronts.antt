-- Items at the front of bytes.
use mir.Syntax.{w64}
use mir.Val.{SFits}
use Rattle.std.proofs.Common.{◌-ℤ◌, arith, to_z, of_z, ◌≡◌, ◌++◌, ◌∷◌, ◌≤◌, ℕ, ℤ, pos, negsuc, List, Some, length, take, drop, sym, ap, subst, refl, ◌∙◌, inl}
use Rattle.std.proofs.lemmas.Int.{to_z-of_z}
use Rattle.std.proofs.lemmas.List.{take-append-drop, append_assoc, length-take-le}
use Rattle.coset.specs.Item.{bytes, integer}
use Rattle.coset.specs.Grammar.{IsHead, IsHeaded, IsIntegerEncoding}
use Rattle.coset.specs.ReadHeads.{BeginsWithHead, IsHeadOf, head_number, initial_byte}
use Rattle.coset.specs.Heads.{major_type_number}
use Rattle.coset.specs.Head.{Head}
use Rattle.coset.specs.MajorType.TheVariants.{Negative, Unsigned}
use Rattle.coset_seen.specs.declared.forward.Ahead.{Ahead}
use Rattle.coset_seen.specs.Begins.{Begins, IsAhead}

length_take : (n : ℕ) (r : List ℕ) → n ≤ length r → n ≡ length (take n r)
length_take n r l = sym (length-take-le n r l)

pub string_at :
    (b : List ℕ) (n : ℕ) (r front back : List ℕ) → IsHeaded 2 n r b → front ≡ take n r → back ≡ drop n r → n ≤ length r → Begins (bytes front) back b
string_at b n r front back h f k l =
    let whole : front ++ back ≡ r = ap (λ x. x ++ back) f ∙ (ap (λ x. take n r ++ x) k ∙ take-append-drop n r) in
    let size : n ≡ length front = length_take n r l ∙ ap length (sym f) in (
      h.head ++ front,
      inl (tt, record { head = h.head; is_head = subst (λ m. IsHead 2 m h.head) size h.is_head; parts = refl }),
      h.parts ∙ (ap (λ x. h.head ++ x) (sym whole) ∙ sym (append_assoc h.head front back)),
    )

pub ahead_at :
    (b : List ℕ) (n : ℕ) (r : List ℕ) (t : Ahead) → IsHeaded 2 n r b → t.bytes.now ≡ take n r → t.behind.now ≡ drop n r → IsAhead b t
ahead_at b n r t h f k = record {
  before = h.head;
  parts = h.parts ∙ ap (λ x. h.head ++ x) (sym (ap (λ x. x ++ t.behind.now) f ∙ (ap (λ x. take n r ++ x) k ∙ take-append-drop n r)));
}

-- The integer of a head of type 0 or 1.
pub unsigned_at :
    (b : List ℕ) (h : Head) (r : List ℕ) (u : ℕ) (z : ℤ) → BeginsWithHead b h r → h.major_type ≡ Unsigned → Some u ≡ head_number h → z ≡ pos u
    → Begins (integer z) r b
unsigned_at b h r u z at type number is =
    let f = initial_byte h ∷ at.argument in
    let head : IsHead 0 u f = subst (λ o. IsHeadOf 0 o f) (sym number) (subst (λ t. IsHeadOf (major_type_number t) (head_number h) f) type at.is_head) in
    (f, subst (λ y. IsIntegerEncoding y f) (sym is) head, at.parts)

pub negative_at :
    (b : List ℕ) (h : Head) (r : List ℕ) (u : ℕ) (z : ℤ) → BeginsWithHead b h r → h.major_type ≡ Negative → Some u ≡ head_number h → z ≡ negsuc u
    → Begins (integer z) r b
negative_at b h r u z at type number is =
    let f = initial_byte h ∷ at.argument in
    let head : IsHead 1 u f = subst (λ o. IsHeadOf 1 o f) (sym number) (subst (λ t. IsHeadOf (major_type_number t) (head_number h) f) type at.is_head) in
    (f, subst (λ y. IsIntegerEncoding y f) (sym is) head, at.parts)

-- -1 minus a number that fits in an `i64`.
pub negated : (z : ℤ) (u : ℕ) → SFits w64 (pos u) → z ≡ pos u → to_z w64 (of_z w64 (negsuc 0 -ℤ to_z w64 (of_z w64 z))) ≡ negsuc u
negated z u fits is =
    let same : to_z w64 (of_z w64 z) ≡ pos u = ap (λ y. to_z w64 (of_z w64 y)) is ∙ to_z-of_z w64 (pos u) fits in
    let minus : negsuc 0 -ℤ to_z w64 (of_z w64 z) ≡ negsuc u = grind (arith, same) in
    ap (λ y. to_z w64 (of_z w64 y)) minus ∙ to_z-of_z w64 (negsuc u) (below fits)
  where
    below : SFits w64 (pos u) → SFits w64 (negsuc u)
    below f = record { sfits = f.sfits }

-- What is ahead of a later part of b is ahead of b.
pub ahead_in : (b x s : List ℕ) (t : Ahead) → b ≡ x ++ s → IsAhead s t → IsAhead b t
ahead_in b x s t e a = record {
  before = x ++ a.before;
  parts = e ∙ (ap (λ y. x ++ y) a.parts ∙ sym (append_assoc x a.before _));
}
