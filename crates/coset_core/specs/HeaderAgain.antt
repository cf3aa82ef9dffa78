-- A decoded header has an image, which describes the same header and nests no deeper than the decoded item.
use Rattle.std.proofs.Common.{◌≡◌, ℕ, zero, suc, List, Option, Some, None, option_map, refl, sym, ap, ◌∙◌, subst, arith}
use Rattle.coset_value.specs.Item.{Item, bytes, array, Items, no_items, item, depth, items_count}
use Rattle.coset_value.specs.Parts.{as_bytes, as_array}
use Rattle.coset_codec.specs.declared.error.CoseError.{CoseError}
use Rattle.coset_codec.specs.Shape.{Shape, Elements, fixed, bstr, ◌then◌, end, one_or_more, one_or_array, one_or_many}
use Rattle.coset_codec.specs.ShapeLaws.{Again, AgainElements, Lawful, LawfulElements, some-one, both-some, array_of_laws, then_laws, bstr_laws, end_laws}
use Rattle.coset_codec.specs.ShapeLaws.{one_or_many_laws}
use Rattle.coset_codec.specs.Maps.{FieldShape}
use Rattle.coset_codec.specs.MapLaws.{AgainFieldShape, LawfulFieldShape, Within}
use Rattle.coset_core.specs.Fields.{FieldsView, PerVersion, map_with}
use Rattle.coset_core.specs.FieldLaws.{map_with_laws, split, join, image_with}
use Rattle.coset_core.specs.Headers.{HeaderView, header_of, Signatures, no_signatures, signature_and, CounterSignaturesAre, IsHeader, AreSignatures}
use Rattle.coset_core.specs.Headers.{signed_array, described_by, counter_signatures_item, header_item, protected_item, signatures_image, header_image}
use Rattle.coset_core.specs.HeaderReads.{ProtectedOf}

-- The shape of a single value, from the items that describe it and its image.
abbrev pub described_as : (Item → Type 0) → Option Item → Shape (Unit {0})
described_as P o = fixed P o (λ v e. ⊥)

abbrev pub known_elements : ℕ → Signatures → Elements (Unit {0})
known_elements k ss = record { describes = λ vs x. AreSignatures ss k vs; image = λ x. signatures_image ss; wrong_length = λ vs. ⊥; faults = λ vs e. ⊥ }

-- If an item describes the header, the image of the header also does and is no deeper.
abbrev pub IsAgain : ℕ → HeaderView → Type 0
IsAgain k h = (v : Item) → IsHeader h k v → Again (Unit {0}) (described_as (IsHeader h k) (header_image h)) v tt

abbrev pub AreAgain : ℕ → Signatures → Type 0
AreAgain k ss = (vs : Items) → AreSignatures ss k vs → AgainElements (Unit {0}) (known_elements k ss) vs tt

-- ---- the signatures under labels 7 and 11

pub never_none : (w : Item) → one_or_more w ≡ Some no_items → ⊥
never_none (array (item (bytes b) vs)) p = cc
never_none (array (item v vs)) p = cc
never_none _ p = cc

-- Items that describe the same signatures are equally many.
same_count : (ss : Signatures) (k : ℕ) (vs ws : Items) → AreSignatures ss k vs → AreSignatures ss k ws → items_count ws ≡ items_count vs
same_count no_signatures k vs ws a b = ap items_count (b ∙ sym a)
same_count (signature_and o p u s more) k no_items ws a b = absurd a
same_count (signature_and o p u s more) k (item v vs) no_items a b = absurd b
same_count (signature_and o p u s more) k (item v vs) (item w ws) a b = ap suc (same_count more k vs ws a.1 b.1)

pub array-is : (v : Item) (vs : Items) → as_array v ≡ Some vs → v ≡ array vs
array-is (array ws) vs p = ap array (some-one refl p)
array-is _ vs p = absurd (cc)

pub bytes-is : (v : Item) (b : List ℕ) → as_bytes v ≡ Some b → v ≡ bytes b
bytes-is (bytes c) b p = ap bytes (some-one refl p)
bytes-is _ b p = absurd (cc)

-- An item that describes a protected header is a byte string with the kept bytes.
protected_is_bytes : (o : Option (List ℕ)) (h : HeaderView) (k : ℕ) (v : Item) → ProtectedOf o h k v → (b : List ℕ) × (v ≡ bytes b) × (o ≡ Some b)
protected_is_bytes o h zero v p = absurd p
protected_is_bytes o h (suc k) v p = (p.0, bytes-is v p.0 p.1, p.2)

-- The item is an array that begins with a byte string, as each signature is.
pub record Begins (v : Item) : Type 0 where
  pub first : List ℕ
  pub others : Items
  pub is : v ≡ array (item (bytes first) others)

elements_begin :
    (o : Option (List ℕ)) (p : HeaderView) (k : ℕ) (R : Item → Type 0) (s : List ℕ) (v : Item) (vs : Items) → v ≡ array vs
    → (described_by (ProtectedOf o p k) then described_by R then bstr then end).describes vs (tt, (tt, (s, tt))) → Begins v
elements_begin o p k R s v no_items e h = absurd h
elements_begin o p k R s v (item x vs) e h =
    let b = protected_is_bytes o p k x h.0 in
    record { first = b.0; others = vs; is = e ∙ ap (λ y. array (item y vs)) b.1 }

-- So `one_or_more` distinguishes one signature from several.
pub one_or_array_begins : (v : Item) (vs : Items) → Begins v → one_or_more (one_or_array (item v vs)) ≡ Some (item v vs)
one_or_array_begins v no_items h = rw h.is refl
one_or_array_begins v (item w vs) h = rw h.is refl

one_or_array_told :
    (o : Option (List ℕ)) (p u : HeaderView) (s : List ℕ) (more : Signatures) (k : ℕ) (vs : Items) → AreSignatures (signature_and o p u s more) k vs
    → one_or_more (one_or_array vs) ≡ Some vs
one_or_array_told o p u s more k no_items a = absurd a
one_or_array_told o p u s more k (item v vs) a = one_or_array_begins v vs (elements_begin o p k (IsHeader u k) s v a.0.0 (array-is v a.0.0 a.0.1) a.0.2)

-- The shape of the value of label 7 or 11, for these signatures.
abbrev known : ℕ → Signatures → FieldShape (Unit {0})
known k ss = record {
  describes = λ o x. CounterSignaturesAre (AreSignatures ss k) (ss ≡ no_signatures) o;
  image =
      λ x. counter_signatures_item ss (signatures_image ss);
  faults = λ v e. ⊥;
}

known_elements_laws : (k : ℕ) (ss : Signatures) → AreAgain k ss → LawfulElements (Unit {0}) (known_elements k ss)
known_elements_laws k ss again = record { unique = λ vs x y p q. refl; again = λ vs x p. again vs p; fits = λ vs x p m. m; sound = λ vs x e p f. f }

known_decides : (k : ℕ) (ss : Signatures) (v : Item) → CounterSignaturesAre (AreSignatures ss k) (ss ≡ no_signatures) (Some v) → ss ≡ no_signatures → ⊥
known_decides k ss v h e = let none : h.0 ≡ no_items = subst (λ ts. AreSignatures ts k h.0) e h.2 in never_none v (h.1 ∙ ap Some none)

mapped_twice : (o : Option Items) (w : Item) → option_map one_or_array o ≡ Some w → option_map (λ vs. Some (one_or_array vs)) o ≡ Some (Some w)
mapped_twice (Some vs) w p = ap Some p
mapped_twice None w p = absurd (cc)

known_again : (k : ℕ) (ss : Signatures) → AreAgain k ss → (d : ℕ) (o : Option Item) (x : Unit {0}) → Within d o → (known k ss).describes o x
    → AgainFieldShape (Unit {0}) (known k ss) d x
known_again k no_signatures again d None x w h = record { value = None; is_image = refl; described = refl; shallow = tt }
known_again k no_signatures again d (Some v) x w h = absurd (known_decides k no_signatures v h refl)
known_again k (signature_and o p u s more) again d None x w h = absurd (cc)
known_again k (signature_and o p u s more) again d (Some v) x w h =
    let ss : Signatures = signature_and o p u s more in
    let l : Lawful (Unit {0}) (one_or_many (known_elements k ss)) =
    one_or_many_laws (known_elements k ss) (λ vs ws y a b e. (one_or_array_told o p u s more k ws b, same_count ss k vs ws a b))
    (known_elements_laws k ss again) in
    let a : Again (Unit {0}) (one_or_many (known_elements k ss)) v x = l.again v x h in
    record {
      value = Some a.image;
      is_image = mapped_twice (signatures_image ss) a.image a.is_image;
      described = a.described;
      shallow =
          omega (arith, a.shallow, w);
    }

known_laws : (k : ℕ) (ss : Signatures) → AreAgain k ss → LawfulFieldShape (Unit {0}) (known k ss)
known_laws k ss again = record {
  unique = λ o x y p q. refl;
  again = known_again k ss again;
  sound = λ v x e p f. f;
  apart = λ v x p q. known_decides k ss v p q;
}

-- ---- headers

-- Every value is within some depth.
within : (o : Option Item) → (d : ℕ) × Within d o
within (Some v) = (depth v, omega arith)
within None = (0, tt)

-- If the images of a header's signatures describe these again, the image of the header does so too.
map_again : (f : FieldsView) (ss ts : Signatures) (k : ℕ) → AreAgain k ss → AreAgain k ts → IsAgain k (header_of f ss ts)
map_again f ss ts k again again_v2 v h =
    let two : PerVersion (Unit {0}) = (tt, tt) in
    let a : Again (FieldsView × PerVersion (Unit {0})) (map_with (known k ss) (known k ts)) v (f, two) =
    (map_with_laws (known k ss) (known k ts) (known_laws k ss again) (known_laws k ts again_v2)).again v (f, two)
    (join (known k ss) (known k ts) v f h.0 two h.1 h.2 h.3) in
    let d = within h.0.0 in
    let c : AgainFieldShape (Unit {0}) (known k ss) d.0 tt = known_again k ss again d.0 h.0.0 tt d.1 h.2 in
    let e = within h.0.1 in
    let g : AgainFieldShape (Unit {0}) (known k ts) e.0 tt = known_again k ts again_v2 e.0 h.0.1 tt e.1 h.3 in
    record {
      image = a.image;
      is_image = (λ i. header_item f (c.is_image i) (g.is_image i))
          ∙ (image_with (known k ss) (known k ts) f two c.value g.value c.is_image g.is_image ∙ a.is_image);
      described = split (known k ss) (known k ts) a.image f two a.described;
      shallow = a.shallow;
    }

-- ---- signatures

-- The image of a protected header is the byte string that it was decoded from.
pub protected_again : (k : ℕ) (o : Option (List ℕ)) (h : HeaderView) (v : Item) → ProtectedOf o h k v
    → Again (Unit {0}) (described_as (ProtectedOf o h k) (protected_item o h (header_image h))) v tt
protected_again k o h v p =
    let b = protected_is_bytes o h k v p in
    record { image = v; is_image = ap (λ q. protected_item q h (header_image h)) b.2 ∙ ap Some (sym b.1); described = p; shallow = omega arith }

-- The laws of the shape of a single value, from its image and its faults. `signed_laws` are those of an array of three,
-- from its elements.
pub fixed_laws :
    (P : Item → Type 0) (o : Option Item) (F : Item → CoseError → Type 0) → ((v : Item) → P v → Again (Unit {0}) (described_as P o) v tt)
    → ((v : Item) (e : CoseError) → P v → F v e → ⊥)
    → Lawful (Unit {0}) (fixed P o F)
fixed_laws P o F again sound =
    record {
      unique = λ v x y p q. refl;
      again = λ v x p. let a = again v p in record { image = a.image; is_image = a.is_image; described = a.described; shallow = a.shallow };
      sound = λ v x e p f. sound v e p f;
    }

pub signed_laws : {A B : Type 0} (p : Shape A) (u : Shape B) → Lawful A p → Lawful B u → Lawful (A × (B × (List ℕ × Unit {0}))) (signed_array p u)
signed_laws p u lp lu = array_of_laws _ (then_laws p _ lp (then_laws u _ lu (then_laws bstr end bstr_laws end_laws)))

-- The image of each header describes this header again, and so do the images of signatures.
mutual
  pub header_again : (h : HeaderView) (k : ℕ) → IsAgain k h
  header_again (header_of f ss ts) k v h = map_again f ss ts k (λ vs x. signatures_again ss k vs x) (λ vs x. signatures_again ts k vs x) v h

  pub signatures_again : (ss : Signatures) (k : ℕ) → AreAgain k ss
  signatures_again no_signatures k vs h = record { image = no_items; is_image = refl; described = refl; shallow = omega arith }
  signatures_again (signature_and o p u s more) k no_items h = absurd h
  signatures_again (signature_and o p u s more) k (item v vs) h =
      let covered = fixed_laws (ProtectedOf o p k) (protected_item o p (header_image p)) (λ w e. ⊥) (protected_again k o p) (λ w e x f. f) in
      let other = fixed_laws (IsHeader u k) (header_image u) (λ w e. ⊥) (λ w x. header_again u k w x) (λ w e x f. f) in
      let a = (signed_laws _ _ covered other).again v (tt, (tt, (s, tt))) h.0 in
      let b = signatures_again more k vs h.1 in
      record {
        image = item a.image b.image;
        is_image = both-some item _ _ _ _ a.is_image b.is_image;
        described = (a.described, b.described);
        shallow =
            omega (arith, a.shallow, b.shallow);
      }
