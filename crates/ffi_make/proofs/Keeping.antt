-- The parts of an item that stay when elements are added to it.
use Rattle.std.proofs.Common.{◌≡◌, ◌∙◌, ◌⊎◌, ◌==◌, ℕ, zero, suc, List, [], ◌∷◌, Option, Some, None, Bool, true, false, cond}
use Rattle.std.proofs.Common.{option_map, ap, sym, refl, inl, inr}
use Rattle.std.specs.Prelude.{codes, option_and_then}
use Rattle.coset.specs.Item.{Item, integer, bytes, float, text, boolean, null, tag, array, dict, Items, no_items, item}
use Rattle.coset.specs.Parts.{as_array, as_bytes}
use Rattle.coset.specs.PerhapsTagged.{untagged}
use Rattle.coset.specs.ShapeLaws.{some-none, some-one}
use Rattle.ffi_query.specs.declared.kind.Form as forms
use Rattle.ffi_query.specs.declared.kind.Kind as kinds
use Rattle.ffi_query.specs.declared.kind.Kind.TheVariants.{Sign1, Sign, Mac0, Mac, Encrypt0, Encrypt, Signature, Recipient}
use Rattle.ffi_query.specs.declared.kind.Kind.TheVariants.{Header, Key, KeySet, Claims, Any, KdfContext}
use Rattle.ffi_query.specs.Places.{bytes_in, element, nth}
use Rattle.ffi_query.specs.Structures.{content_at, content_in, recipient_structure_in, signer_in, structure_in}
use Rattle.ffi_query.specs.Structures.{structure_of_one, structure_of_three, structure_of_two}
use Rattle.ffi_make.specs.Laws.{RecipientStructureKept, RecipientStructureOfMade, StructureKept}
use Rattle.ffi_make.specs.Members.{in_last, member_in, places_with, with_member, within_tag}
use Rattle.ffi_make.specs.Messages.{and_item, places}
use Rattle.ffi_make.specs.StructuresMade.{recipient_structure_made}
use Rattle.ffi_make.proofs.Agreeing.{none_is}

mapped : {A B : Type 0} (f : A → B) (o : Option A) (y : B) → option_map f o ≡ Some y → (x : A) × (o ≡ Some x) × (y ≡ f x)
mapped f None y h = absurd (none_is h)
mapped f (Some x) y h = (x, refl, some-one h refl)

-- ---- the last element

-- The last element was a list, and has one more element at its end. Or it stays, and something follows it.
abbrev Last : Item → Item → Items → Type 0
Last m a us = ((ws : Items) × (a ≡ array ws) × (us ≡ item (array (and_item ws m)) no_items)) ⊎ ((ws : Items) × (us ≡ item a ws))

last_is : (b : Bool) (m a : Item) (us : Items) → member_in b m a ≡ Some us → Last m a us
last_is true m (array ws) us h = inl (ws, refl, some-one h refl)
last_is false m (array ws) us h = inl (ws, refl, some-one h refl)
last_is true m (integer z) us h = inr (_, some-one h refl)
last_is false m (integer z) us h = absurd (none_is h)
last_is true m (bytes s) us h = inr (_, some-one h refl)
last_is false m (bytes s) us h = absurd (none_is h)
last_is true m (float x) us h = inr (_, some-one h refl)
last_is false m (float x) us h = absurd (none_is h)
last_is true m (text s) us h = inr (_, some-one h refl)
last_is false m (text s) us h = absurd (none_is h)
last_is true m (boolean c) us h = inr (_, some-one h refl)
last_is false m (boolean c) us h = absurd (none_is h)
last_is true m null us h = inr (_, some-one h refl)
last_is false m null us h = absurd (none_is h)
last_is true m (tag t v) us h = inr (_, some-one h refl)
last_is false m (tag t v) us h = absurd (none_is h)
last_is true m (dict ps) us h = inr (_, some-one h refl)
last_is false m (dict ps) us h = absurd (none_is h)

-- A result of g for the last element is also the result of g for the element that replaces it.
abbrev Keeps : {A : Type 0} → (Item → Option Items) → (Item → Option A) → Type 0
Keeps {A} f g = (a : Item) (us : Items) (x : A) → f a ≡ Some us → g a ≡ Some x → option_and_then g (nth 0 us) ≡ Some x

keeps_other : {A : Type 0} (b : Bool) (m : Item) (g : Item → Option A) → ((ws : Items) → g (array ws) ≡ None) → Keeps (member_in b m) g
keeps_other b m g none a us x h e =
    elim (last_is b m a us h) [
      | inl l ↦ absurd (some-none (ap g (sym l.1) ∙ e) (none l.0))
      | inr l ↦ ap (λ ws. option_and_then g (nth 0 ws)) l.1 ∙ e
    ]

more_behind :
    {A : Type 0} (g : Item → Option A) (m : Item) (i : ℕ) (ws : Items) (x : A) → option_and_then g (nth i ws) ≡ Some x
    → option_and_then g (nth i (and_item ws m)) ≡ Some x
more_behind g m i no_items x e = absurd (none_is e)
more_behind g m zero (item v vs) x e = e
more_behind g m (suc i) (item v vs) x e = more_behind g m i vs x e

-- The protected bytes of the element at this index of a list.
abbrev header_of : ℕ → Item → Option (List ℕ)
header_of i a = option_and_then (bytes_in 0) (option_and_then (nth i) (as_array a))

keeps_header : (b : Bool) (m : Item) (i : ℕ) → Keeps (member_in b m) (header_of i)
keeps_header b m i a us x h e =
    elim (last_is b m a us h) [
      | inl l ↦
          ap (λ ws. option_and_then (header_of i) (nth 0 ws)) l.2 ∙ more_behind (bytes_in 0) m i l.0 x (ap (header_of i) (sym l.1) ∙ e)
      | inr l ↦ ap (λ ws. option_and_then (header_of i) (nth 0 ws)) l.1 ∙ e
    ]

-- A result of g for an element stays when the last element is replaced.
kept :
    {A : Type 0} (f : Item → Option Items) (g : Item → Option A) → Keeps f g → (j : ℕ) (vs us : Items) (x : A) → in_last f vs ≡ Some us
    → option_and_then g (nth j vs) ≡ Some x
    → option_and_then g (nth j us) ≡ Some x
kept f g k j no_items us x l e = absurd (none_is l)
kept f g k zero (item a no_items) us x l e = k a us x l e
kept f g k (suc j) (item a no_items) us x l e = absurd (none_is e)
kept f g k zero (item a (item b vs)) us x l e =
    let p = mapped (item a) (in_last f (item b vs)) us l in ap (λ ws. option_and_then g (nth 0 ws)) p.2 ∙ e
kept f g k (suc j) (item a (item b vs)) us x l e =
    let p = mapped (item a) (in_last f (item b vs)) us l in
    ap (λ ws. option_and_then g (nth (suc j) ws)) p.2 ∙ kept f g k j (item b vs) p.0 x p.1 e

-- ---- the parts of structures

no_content : (d : Option (List ℕ)) (ws : Items) → content_at (array ws) d ≡ None
no_content None ws = refl
no_content (Some d) ws = refl

module _ (b : Bool) (m : Item) (vs us : Items) (l : in_last (member_in b m) vs ≡ Some us) where
  protected_kept : (p : List ℕ) → bytes_in 0 (array vs) ≡ Some p → bytes_in 0 (array us) ≡ Some p
  protected_kept p e = kept (member_in b m) as_bytes (keeps_other b m as_bytes (λ ws. refl)) 0 vs us p l e

  content_kept : (d : Option (List ℕ)) (c : List ℕ) → content_in (element 2 (array vs)) d ≡ Some c → content_in (element 2 (array us)) d ≡ Some c
  content_kept d c e = kept (member_in b m) (λ v. content_at v d) (keeps_other b m (λ v. content_at v d) (no_content d)) 2 vs us c l e

header_is :
    (i : ℕ) (o : Option Item)
    → option_and_then (bytes_in 0) (option_and_then (nth i) (option_and_then as_array o)) ≡ option_and_then (header_of i) o
header_is i None = refl
header_is i (Some a) = refl

signer_kept :
    (f : forms.Form) (i : ℕ) (m : Item) (vs us : Items) → in_last (member_in false m) vs ≡ Some us → (p : List ℕ)
    → signer_in (Sign f) i (array vs) ≡ Some p
    → signer_in (Sign f) i (array us) ≡ Some p
signer_kept f i m vs us l p e =
    header_is i (nth 3 us) ∙ kept (member_in false m) (header_of i) (keeps_header false m i) 3 vs us p l (sym (header_is i (nth 3 vs)) ∙ e)

-- If the first is present, the second is the same.
abbrev Stays : Option (List ℕ) → Option (List ℕ) → Type 0
Stays o q = (p : List ℕ) → o ≡ Some p → q ≡ Some p

one_stays :
    (context aad : List ℕ) (o q : Option (List ℕ)) (y : Item) → Stays o q → structure_of_one context aad o ≡ Some y
    → structure_of_one context aad q ≡ Some y
one_stays context aad None q y h e = absurd (none_is e)
one_stays context aad (Some p) q y h e = ap (structure_of_one context aad) (h p refl) ∙ e

two_stay :
    (context aad : List ℕ) (o q r s : Option (List ℕ)) (y : Item) → Stays o q → Stays r s → structure_of_two context aad o r ≡ Some y
    → structure_of_two context aad q s ≡ Some y
two_stay context aad None q r s y h g e = absurd (none_is e)
two_stay context aad (Some p) q None s y h g e = absurd (none_is e)
two_stay context aad (Some p) q (Some c) s y h g e =
    ap (λ z. structure_of_two context aad z s) (h p refl) ∙ (ap (structure_of_two context aad (Some p)) (g c refl) ∙ e)

three_stay :
    (aad : List ℕ) (o q r s t u : Option (List ℕ)) (y : Item) → Stays o q → Stays r s → Stays t u → structure_of_three aad o r t ≡ Some y
    → structure_of_three aad q s u ≡ Some y
three_stay aad None q r s t u y h g k e = absurd (none_is e)
three_stay aad (Some p) q None s t u y h g k e = absurd (none_is e)
three_stay aad (Some p) q (Some x) s None u y h g k e = absurd (none_is e)
three_stay aad (Some p) q (Some x) s (Some c) u y h g k e =
    ap (λ z. structure_of_three aad z s u) (h p refl)
    ∙ (ap (λ z. structure_of_three aad (Some p) z u) (g x refl) ∙ (ap (structure_of_three aad (Some p) (Some x)) (k c refl) ∙ e))

-- ---- items with a tag, and without one

module _
    (k : kinds.Kind) (m y : Item) (S : Item → Option Item)
    (stays : (vs us : Items) → places_with k m vs ≡ Some us → S (array vs) ≡ Some y → S (array us) ≡ Some y)
    (no_tag : (t : ℕ) (v : Item) → S (tag t v) ≡ None) where
  in_array : (v x : Item) → with_member k m v ≡ Some x → S v ≡ Some y → S x ≡ Some y
  in_array (array vs) x h e = let p = mapped array (places_with k m vs) x h in ap S p.2 ∙ stays vs p.0 p.1 e
  in_array (tag t v) x h e = absurd (none_is h)
  in_array (integer z) x h e = absurd (none_is h)
  in_array (bytes s) x h e = absurd (none_is h)
  in_array (float f) x h e = absurd (none_is h)
  in_array (text s) x h e = absurd (none_is h)
  in_array (boolean b) x h e = absurd (none_is h)
  in_array null x h e = absurd (none_is h)
  in_array (dict ps) x h e = absurd (none_is h)

  in_tag : (b : Bool) (t : ℕ) (v x : Item) → with_member k m v ≡ Some x → S (cond b v (tag t v)) ≡ Some y → S (cond b x (tag t x)) ≡ Some y
  in_tag true t v x h e = in_array v x h e
  in_tag false t v x h e = absurd (some-none e (no_tag t v))

  -- With a tag of this number removed.
  in_either : (n : ℕ) (w x : Item) → within_tag (with_member k m) w ≡ Some x → S (untagged n w) ≡ Some y → S (untagged n x) ≡ Some y
  in_either n (array vs) x h e =
      let p = mapped array (places_with k m vs) x h in ap (λ z. S (untagged n z)) p.2 ∙ stays vs p.0 p.1 e
  in_either n (tag t v) x h e =
      let p = mapped (tag t) (with_member k m v) x h in ap (λ z. S (untagged n z)) p.2 ∙ in_tag (t == n) t v p.0 p.1 e
  in_either n (integer z) x h e = absurd (none_is h)
  in_either n (bytes s) x h e = absurd (none_is h)
  in_either n (float f) x h e = absurd (none_is h)
  in_either n (text s) x h e = absurd (none_is h)
  in_either n (boolean b) x h e = absurd (none_is h)
  in_either n null x h e = absurd (none_is h)
  in_either n (dict ps) x h e = absurd (none_is h)

  -- Without a tag.
  in_neither : (w x : Item) → within_tag (with_member k m) w ≡ Some x → S w ≡ Some y → S x ≡ Some y
  in_neither (array vs) x h e = in_array (array vs) x h e
  in_neither (tag t v) x h e = absurd (some-none e (no_tag t v))
  in_neither (integer z) x h e = absurd (none_is h)
  in_neither (bytes s) x h e = absurd (none_is h)
  in_neither (float f) x h e = absurd (none_is h)
  in_neither (text s) x h e = absurd (none_is h)
  in_neither (boolean b) x h e = absurd (none_is h)
  in_neither null x h e = absurd (none_is h)
  in_neither (dict ps) x h e = absurd (none_is h)

-- ---- the laws

pub structure_kept : StructureKept
structure_kept (Sign1 f) i m w x y aad d h e =
    in_either (Sign1 f) m y (structure_in (Sign1 f) i aad d) (λ vs us l s. absurd (none_is l)) (λ t v. refl) 18 w x h e
structure_kept (Sign f) i m w x y aad d h e =
    in_either (Sign f) m y (structure_in (Sign f) i aad d)
    (λ vs us l s.
    three_stay aad (bytes_in 0 (array vs)) (bytes_in 0 (array us)) (signer_in (Sign f) i (array vs)) (signer_in (Sign f) i (array us))
    (content_in (element 2 (array vs)) d) (content_in (element 2 (array us)) d) y (protected_kept false m vs us l) (signer_kept f i m vs us l)
    (content_kept false m vs us l d) s)
    (λ t v. refl) 98 w x h e
structure_kept (Mac0 f) i m w x y aad d h e =
    in_either (Mac0 f) m y (structure_in (Mac0 f) i aad d) (λ vs us l s. absurd (none_is l)) (λ t v. refl) 17 w x h e
structure_kept (Mac f) i m w x y aad d h e =
    in_either (Mac f) m y (structure_in (Mac f) i aad d)
    (λ vs us l s.
    two_stay (codes "MAC") aad (bytes_in 0 (array vs)) (bytes_in 0 (array us)) (content_in (element 2 (array vs)) d) (content_in (element 2 (array us)) d) y
    (protected_kept false m vs us l) (content_kept false m vs us l d) s)
    (λ t v. refl) 97 w x h e
structure_kept (Encrypt0 f) i m w x y aad d h e =
    in_either (Encrypt0 f) m y (structure_in (Encrypt0 f) i aad d) (λ vs us l s. absurd (none_is l)) (λ t v. refl) 16 w x h e
structure_kept (Encrypt f) i m w x y aad d h e =
    in_either (Encrypt f) m y (structure_in (Encrypt f) i aad d)
    (λ vs us l s. one_stays (codes "Encrypt") aad (bytes_in 0 (array vs)) (bytes_in 0 (array us)) y (protected_kept false m vs us l) s)
    (λ t v. refl) 96 w x h e
structure_kept Signature i m w x y aad d h e = absurd (none_is e)
structure_kept Recipient i m w x y aad d h e = absurd (none_is e)
structure_kept Header i m w x y aad d h e = absurd (none_is e)
structure_kept Key i m w x y aad d h e = absurd (none_is e)
structure_kept KeySet i m w x y aad d h e = absurd (none_is e)
structure_kept Claims i m w x y aad d h e = absurd (none_is e)
structure_kept Any i m w x y aad d h e = absurd (none_is e)
structure_kept KdfContext i m w x y aad d h e = absurd (none_is e)

recipient_kept :
    (k : kinds.Kind) (context : List ℕ) (m w x y : Item) (aad : List ℕ)
    → ((v : Item) → recipient_structure_in k aad v ≡ structure_of_one context aad (bytes_in 0 v))
    → within_tag (with_member Recipient m) w ≡ Some x
    → recipient_structure_in k aad w ≡ Some y
    → recipient_structure_in k aad x ≡ Some y
recipient_kept k context m w x y aad is h e =
    is x
    ∙ in_neither Recipient m y (λ v. structure_of_one context aad (bytes_in 0 v))
    (λ vs us l s. one_stays context aad (bytes_in 0 (array vs)) (bytes_in 0 (array us)) y (protected_kept true m vs us l) s) (λ t v. refl) w x h
    (sym (is w) ∙ e)

pub recipient_structure_kept : RecipientStructureKept
recipient_structure_kept (Encrypt f) m w x y aad h e = recipient_kept (Encrypt f) (codes "Enc_Recipient") m w x y aad (λ v. refl) h e
recipient_structure_kept (Mac f) m w x y aad h e = recipient_kept (Mac f) (codes "Mac_Recipient") m w x y aad (λ v. refl) h e
recipient_structure_kept Recipient m w x y aad h e = recipient_kept Recipient (codes "Rec_Recipient") m w x y aad (λ v. refl) h e
recipient_structure_kept (Sign1 f) m w x y aad h e = absurd (none_is e)
recipient_structure_kept (Sign f) m w x y aad h e = absurd (none_is e)
recipient_structure_kept (Mac0 f) m w x y aad h e = absurd (none_is e)
recipient_structure_kept (Encrypt0 f) m w x y aad h e = absurd (none_is e)
recipient_structure_kept Signature m w x y aad h e = absurd (none_is e)
recipient_structure_kept Header m w x y aad h e = absurd (none_is e)
recipient_structure_kept Key m w x y aad h e = absurd (none_is e)
recipient_structure_kept KeySet m w x y aad h e = absurd (none_is e)
recipient_structure_kept Claims m w x y aad h e = absurd (none_is e)
recipient_structure_kept Any m w x y aad h e = absurd (none_is e)
recipient_structure_kept KdfContext m w x y aad h e = absurd (none_is e)

-- A recipient that was made.
recipient_made :
    (h : kinds.Kind) (p : List ℕ) (u : Item) (c : Option (List ℕ)) (aad : List ℕ)
    → recipient_structure_in h aad (array (places Recipient p u c [])) ≡ recipient_structure_made h p aad
recipient_made (Encrypt f) p u c aad = refl
recipient_made (Mac f) p u c aad = refl
recipient_made Recipient p u c aad = refl
recipient_made (Sign1 f) p u c aad = refl
recipient_made (Sign f) p u c aad = refl
recipient_made (Mac0 f) p u c aad = refl
recipient_made (Encrypt0 f) p u c aad = refl
recipient_made Signature p u c aad = refl
recipient_made Header p u c aad = refl
recipient_made Key p u c aad = refl
recipient_made KeySet p u c aad = refl
recipient_made Claims p u c aad = refl
recipient_made Any p u c aad = refl
recipient_made KdfContext p u c aad = refl

pub recipient_structure_of_made : RecipientStructureOfMade
recipient_structure_of_made h p u c [] aad w m = ap (recipient_structure_in h aad) (some-one m refl) ∙ recipient_made h p u c aad
recipient_structure_of_made h p u c (z ∷ zs) aad w m = absurd (none_is m)
