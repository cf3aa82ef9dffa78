-- The structure of a message's parts is the structure of the message that is made from them.
use Rattle.std.proofs.Common.{◌≡◌, ◌∙◌, ℕ, List, [], ◌∷◌, Option, Some, None, cond, ap, sym, refl}
use Rattle.std.specs.Prelude.{codes, option_and_then}
use Rattle.std.specs.Cmp.{unsigned_Decides}
use Rattle.coset.specs.Item.{Item, array, tag, Items}
use Rattle.coset.specs.PerhapsTagged.{untagged}
use Rattle.coset.specs.ShapeLaws.{some-none, some-one}
use Rattle.ffi_query.specs.declared.kind.Form as forms
use Rattle.ffi_query.specs.declared.kind.Form.TheVariants.{Plain, Tagged, Either}
use Rattle.ffi_query.specs.declared.kind.Kind as kinds
use Rattle.ffi_query.specs.declared.kind.Kind.TheVariants.{Sign1, Sign, Mac0, Mac, Encrypt0, Encrypt, Signature, Recipient}
use Rattle.ffi_query.specs.declared.kind.Kind.TheVariants.{Header, Key, KeySet, Claims, Any, KdfContext}
use Rattle.ffi_query.specs.Places.{bytes_in, nth}
use Rattle.ffi_query.specs.Structures.{content_at, structure_in, structure_of_three, structure_of_two}
use Rattle.ffi_make.specs.Laws.{MadeUnsigned, SignatureAdded, StructureOfMade, StructureOfSigner, inside}
use Rattle.ffi_make.specs.Messages.{content_item, in_tag, places, tag_in_form}

-- An array that is written in a form, without its tag.
without_tag_again : (f : forms.Form) (n : ℕ) (vs : Items) → untagged n (in_tag (tag_in_form f (Some n)) (array vs)) ≡ array vs
without_tag_again Plain n vs = refl
without_tag_again Tagged n vs = ap (λ b. cond b (array vs) (tag n (array vs))) ((unsigned_Decides n n).1 refl)
without_tag_again Either n vs = refl

pub none_is : {A : Type 0} {x : A} → None ≡ Some x → ⊥
none_is p = some-none refl (sym p)

module _ (i : ℕ) (p : List ℕ) (u : Item) (c d : Option (List ℕ)) (x aad : List ℕ) (w y : Item) where
  -- A payload is signed or authenticated.
  over :
      (k : kinds.Kind) (f : forms.Form) (n : ℕ) (context : List ℕ) (vs : Items) → inside k w ≡ untagged n w
      → Some (in_tag (tag_in_form f (Some n)) (array vs)) ≡ Some w
      → structure_in k i aad d (array vs) ≡ structure_of_two context aad (Some p) (content_at (content_item c) d)
      → content_at (content_item c) d ≡ Some x
      → structure_of_two context aad (Some p) (Some x) ≡ Some y
      → structure_in k i aad d (inside k w) ≡ Some y
  over k f n context vs is m s o st =
      let made : inside k w ≡ array vs = is ∙ (ap (untagged n) (some-one m refl) ∙ without_tag_again f n vs) in
      ap (structure_in k i aad d) made ∙ (s ∙ (ap (structure_of_two context aad (Some p)) o ∙ st))

  -- A ciphertext is not.
  beside :
      (k : kinds.Kind) (f : forms.Form) (n : ℕ) (vs : Items) → inside k w ≡ untagged n w → Some (in_tag (tag_in_form f (Some n)) (array vs)) ≡ Some w
      → structure_in k i aad d (array vs) ≡ Some y
      → structure_in k i aad d (inside k w) ≡ Some y
  beside k f n vs is m s =
      let made : inside k w ≡ array vs = is ∙ (ap (untagged n) (some-one m refl) ∙ without_tag_again f n vs) in
      ap (structure_in k i aad d) made ∙ s

pub structure_of_made : StructureOfMade
structure_of_made (Sign1 f) i p u c d s x aad w y m o st =
    over i p u c d x aad w y (Sign1 f) f 18 (codes "Signature1") (places (Sign1 f) p u c s) refl m refl o st
structure_of_made (Sign f) i p u c d s x aad w y m o st = absurd o
structure_of_made (Mac0 f) i p u c d s x aad w y m o st =
    over i p u c d x aad w y (Mac0 f) f 17 (codes "MAC0") (places (Mac0 f) p u c s) refl m refl o st
structure_of_made (Mac f) i p u c d s x aad w y m o st =
    over i p u c d x aad w y (Mac f) f 97 (codes "MAC") (places (Mac f) p u c s) refl m refl o st
structure_of_made (Encrypt0 f) i p u c d [] [] aad w y m o st =
    beside i p u c d [] aad w y (Encrypt0 f) f 16 (places (Encrypt0 f) p u c []) refl m st
structure_of_made (Encrypt0 f) i p u c d [] (z ∷ zs) aad w y m o st = absurd (none_is st)
structure_of_made (Encrypt0 f) i p u c d (z ∷ zs) x aad w y m o st = absurd (none_is m)
structure_of_made (Encrypt f) i p u c d [] [] aad w y m o st =
    beside i p u c d [] aad w y (Encrypt f) f 96 (places (Encrypt f) p u c []) refl m st
structure_of_made (Encrypt f) i p u c d [] (z ∷ zs) aad w y m o st = absurd (none_is st)
structure_of_made (Encrypt f) i p u c d (z ∷ zs) x aad w y m o st = absurd (none_is m)
structure_of_made Signature i p u c d s x aad w y m o st = absurd (none_is st)
structure_of_made Recipient i p u c d s x aad w y m o st = absurd (none_is st)
structure_of_made Header i p u c d s x aad w y m o st = absurd (none_is st)
structure_of_made Key i p u c d s x aad w y m o st = absurd (none_is st)
structure_of_made KeySet i p u c d s x aad w y m o st = absurd (none_is st)
structure_of_made Claims i p u c d s x aad w y m o st = absurd (none_is st)
structure_of_made Any i p u c d s x aad w y m o st = absurd (none_is st)
structure_of_made KdfContext i p u c d s x aad w y m o st = absurd (none_is st)

pub made_unsigned : MadeUnsigned
made_unsigned f p u c [] w m = ap (untagged 98) (some-one m refl) ∙ without_tag_again f 98 (places (Sign f) p u c [])
made_unsigned f p u c (z ∷ zs) w m = absurd (none_is m)

pub signature_added : SignatureAdded
signature_added f p u m c ms = refl

pub structure_of_signer : StructureOfSigner
structure_of_signer f i p q x aad u m c d ms at is o =
    let signer : option_and_then (bytes_in 0) (nth i ms) ≡ Some q = ap (option_and_then (bytes_in 0)) at ∙ is in
    ap (λ s. structure_of_three aad (Some p) s (content_at (content_item c) d)) signer ∙ ap (structure_of_three aad (Some p) (Some q)) o
