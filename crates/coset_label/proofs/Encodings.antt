-- The orders of labels, by their shortest encodings.
use Rattle.std.proofs.Common.{◌≡◌, ◌<◌, ◌^◌, ℕ, List, Ordering, sym, ◌∙◌, ap, arith}
use Rattle.std.specs.Prelude.{pos, negsuc, length}
use Rattle.coset_value.specs.Item.{Item}
use Rattle.coset_value.specs.Range.{IsInRange}
use Rattle.coset_cbor.specs.Grammar.{HeadWidth, within, one, two, four, eight, Holds}
use Rattle.coset_cbor.specs.Least.{least_encoding}
use Rattle.coset_cbor.specs.Shortest.{IsShortest}
use Rattle.coset_label.specs.LabelData.{LabelView, number, text_label, label_item, ArgumentFits, ComparesEncodings}

-- The argument of a head is below 2 ^ 64.
holds-below : (p : HeadWidth) (n : ℕ) → Holds p n → n < 2 ^ 64
holds-below within n h = omega (arith, h)
holds-below one n h = omega (arith, h)
holds-below two n h = omega (arith, h)
holds-below four n h = omega (arith, h)
holds-below eight n h = h

-- A label with an encoding is within CBOR's range.
in-range : (a : LabelView) (s : List ℕ) → IsShortest s (label_item a) → IsInRange (label_item a)
in-range (number (pos n)) s h = holds-below h.definite.width n h.definite.holds
in-range (number (negsuc n)) s h = holds-below h.definite.width n h.definite.holds
in-range (text_label b) s h = (holds-below h.definite.1.is_head.width (length b) h.definite.1.is_head.holds, h.definite.0)

named : (a : LabelView) → IsInRange (label_item a) → ArgumentFits a
named (number (pos n)) h = h
named (number (negsuc n)) h = h
named (text_label b) h = h.0

abbrev pub OneShortest : Type 0
OneShortest = (v : Item) (b : List ℕ) → IsInRange v → IsShortest b v → b ≡ least_encoding v

-- If an order R agrees on `least_encoding`s with an order C of labels, then it agrees with C on all shortest encodings.
pub by-encodings : OneShortest → (R : List ℕ → List ℕ → Ordering) (C : LabelView → LabelView → Ordering)
    → ((a b : LabelView) → ArgumentFits a → ArgumentFits b → R (least_encoding (label_item a)) (least_encoding (label_item b)) ≡ C a b) → (a b : LabelView)
    → ComparesEncodings R a b (C a b)
by-encodings law R C agree a b s t p q =
    let r = in-range a s p in
    let w = in-range b t q in
    sym (agree a b (named a r) (named b w)) ∙ (ap (λ x. R x (least_encoding (label_item b))) (sym (law (label_item a) s r p))
    ∙ ap (R s) (sym (law (label_item b) t w q)))
