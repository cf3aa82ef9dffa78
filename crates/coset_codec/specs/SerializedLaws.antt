-- Laws of byte strings that contain an encoded item, from the laws of that item's shape.
use Rattle.std.proofs.Common.{◌≡◌, ℕ, List, [], ◌∷◌, Option, Some, Bool, option_map, refl, sym, ◌∙◌, ap, subst, inl, inr, arith}
use Rattle.coset_value.specs.Item.{Item, bytes}
use Rattle.coset_cbor.specs.Grammar.{IsItem}
use Rattle.coset_cbor.proofs.Again.{encodings_differ}
use Rattle.coset_codec.specs.declared.error.CoseError.{CoseError}
use Rattle.coset_codec.specs.Shape.{Shape}
use Rattle.coset_codec.specs.ShapeLaws.{Again, Lawful, some-one, some-none}
use Rattle.coset_codec.specs.Serialized.{ContentDescribes, ContentFaults, content_bytes, serialized_or_empty}

-- Bytes are at most one item.
same_item : (s : List ℕ) (v w : Item) → IsItem s v → IsItem s w → v ≡ w
same_item s v w p q = (encodings_differ v w s s [] [] p.0 q.0 refl).0

module _ {A : Type 0} (empty : A) (s : Shape A) (l : Lawful A s) where
  content_unique : (b : List ℕ) (x y : A) → ContentDescribes empty s b x → ContentDescribes empty s b y → x ≡ y
  content_unique [] x y p q = p ∙ sym q
  content_unique (c ∷ b) x y p q = l.unique q.0 x y (subst (λ v. s.describes v x) (same_item (c ∷ b) p.0 q.0 p.1 q.1) p.2) q.2

  content_sound : (b : List ℕ) (x : A) (e : CoseError) → ContentDescribes empty s b x → ContentFaults s b e → ⊥
  content_sound [] x e p f = absurd f
  content_sound (c ∷ b) x e p (inl f) = f.1 p.0 p.1
  content_sound (c ∷ b) x e p (inr f) = l.sound p.0 x e p.2 (subst (λ v. s.faults v e) (same_item (c ∷ b) f.0 p.0 f.1 p.1) f.2)

module _ {A : Type 0} (empty : A) (is_empty : A → Bool) (s : Shape A) (l : Lawful A s) where
  abbrev it : Shape (Option (List ℕ) × A)
  it = serialized_or_empty empty is_empty s

  serialized_unique : (v : Item) (x y : Option (List ℕ) × A) → it.describes v x → it.describes v y → x ≡ y
  serialized_unique v x y p q =
      let same : p.0 ≡ q.0 = some-one p.1 q.1 in
      let kept_same : x.0 ≡ y.0 = p.2 ∙ (ap Some same ∙ sym q.2) in
      let held_same : x.1 ≡ y.1 = content_unique empty s l q.0 x.1 y.1 (subst (λ b. ContentDescribes empty s b x.1) same p.3) q.3 in
      λ i. (kept_same i, held_same i)

  serialized_again : (v : Item) (x : Option (List ℕ) × A) → it.describes v x → Again (Option (List ℕ) × A) it v x
  serialized_again v x p =
      record {
        image = bytes p.0;
        is_image = ap (λ o. option_map bytes (content_bytes is_empty s.image o x.1)) p.2;
        described = (p.0, refl, p.2, p.3);
        shallow = omega arith;
      }

  serialized_sound : (v : Item) (x : Option (List ℕ) × A) (e : CoseError) → it.describes v x → it.faults v e → ⊥
  serialized_sound v x e p (inl f) = some-none p.1 f.0
  serialized_sound v x e p (inr f) = content_sound empty s l p.0 x.1 e p.3 (subst (λ b. ContentFaults s b e) (some-one f.1 p.1) f.2)

  pub serialized_laws : Lawful (Option (List ℕ) × A) (serialized_or_empty empty is_empty s)
  serialized_laws = record { unique = serialized_unique; again = serialized_again; sound = serialized_sound }
