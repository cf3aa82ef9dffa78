-- Items that are found to be messages.
use Rattle.std.proofs.Common.{◌≡◌, ◌∙◌, ℕ, List, Option, Some, None, Bool, false, true, cond, ap, sym, subst, refl}
use Rattle.coset.specs.Elements.{items_left}
use Rattle.coset.specs.Encrypt0.{encrypt0, encrypt0_of}
use Rattle.coset.specs.Headers.{HeaderView, ProtectedView}
use Rattle.coset.specs.Item.{Item, integer, bytes, float, text, boolean, null, tag, array, dict, Items, item}
use Rattle.coset.specs.Mac0.{mac0, mac0_of}
use Rattle.coset.specs.Messages.{with_headers}
use Rattle.coset.specs.Parts.{as_bytes, as_tag}
use Rattle.coset.specs.PerhapsTagged.{untagged}
use Rattle.coset.specs.Results.{Describes, IsOnlyItem}
use Rattle.coset.specs.Shape.{◌then◌, Elements, Shape, bstr, end, is_nil, or_nil}
use Rattle.coset.specs.ShapeLaws.{some-none}
use Rattle.coset.specs.Sign1.{sign1, sign1_of}
use Rattle.ffi_query.specs.declared.fits.Three.{Three}
use Rattle.ffi_query.specs.declared.kind.Form as forms
use Rattle.ffi_query.specs.declared.kind.Form.TheVariants.{Plain, Tagged, Either}
use Rattle.ffi_query.specs.declared.kind.Kind as kinds
use Rattle.ffi_query.specs.declared.kind.Kind.TheVariants.{Sign1, Sign, Mac0, Mac, Encrypt0, Encrypt, Signature, Recipient}
use Rattle.ffi_query.specs.declared.kind.Kind.TheVariants.{Header, Key, KeySet, Claims, Any, KdfContext}
use Rattle.ffi_query.specs.Fits.{Fits, FitsElements, FitsForm, FitsKind, FitsThree, IsThree}
use Rattle.ffi_query.specs.Kinds.{HoldsOf, IsOf, in_form, is_under}
use Rattle.ffi_query.specs.Seen.{IsAllowed}
use Rattle.ffi_query.proofs.Viewed.{same_number, under_some}

none_is : {A : Type 0} {x : A} → None ≡ Some x → ⊥
none_is p = some-none refl (sym p)

-- A byte string isn't nil.
pub not_nil : (v : Item) (s : List ℕ) → as_bytes v ≡ Some s → is_nil v ≡ false
not_nil (bytes t) s e = refl
not_nil (integer n) s e = refl
not_nil (float x) s e = refl
not_nil (text t) s e = refl
not_nil (boolean b) s e = refl
not_nil null s e = absurd (none_is e)
not_nil (tag t v) s e = refl
not_nil (array vs) s e = refl
not_nil (dict ps) s e = refl

-- The first three elements, and the elements after them.
pub begins :
    {A : Type 0} (ps : Elements A) (v : Item) (t : Three) (b : Bool) → b ≡ true → IsThree v t → FitsThree t b
    → (x : A) × ps.describes (items_left t.behind) x
    → (x : ProtectedView × (HeaderView × (Option (List ℕ) × A))) × (with_headers (or_nil bstr then ps)).describes v x
begins ps v t b e is f x =
    let p = f.0 e in
    let u = f.1 e in
    let o = f.2 e in
    ((p.0, (u.0, (o.0, x.0))), (_, is, (p.1, (u.1, (o.1, x.1)))))

-- A byte string, and no element after it.
pub one_string :
    (v : Item) (vs ws : Items) (a b : Bool) → vs ≡ item v ws → a ≡ true → Fits bstr v a → FitsElements end ws b
    → FitsElements (bstr then end) vs b
one_string v vs ws a b is e f g =
    λ t.
    let s = f e in
    let x = g t in ((s.0, x.0), subst (λ us. (bstr then end).describes us (s.0, x.0)) (sym is) (s.1, x.1))

-- ---- the form

not_under : (n : ℕ) (v : Item) → is_under n v ≡ false → untagged n v ≡ v
not_under n (tag t w) e = ap (λ b. cond b w (tag t w)) e
not_under n (integer z) e = refl
not_under n (bytes s) e = refl
not_under n (float x) e = refl
not_under n (text s) e = refl
not_under n (boolean b) e = refl
not_under n null e = refl
not_under n (array vs) e = refl
not_under n (dict ps) e = refl

under : (n : ℕ) (v : Item) → is_under n v ≡ true → as_tag v ≡ Some (n, untagged n v)
under n v e =
    let u = under_some n v e in
    let inside = ap (untagged n) u.1 ∙ ap (λ b. cond b u.0 (tag n u.0)) (same_number n) in
    ap as_tag u.1 ∙ ap (λ x. Some (n, x)) (sym inside)

-- A message in its form. It is in the item v, and w without its tag.
in_its_form :
    {A : Type 0} (s : Shape A) (f : forms.Form) (n : ℕ) (v w : Item) (t : Bool) → w ≡ untagged n v → t ≡ is_under n v
    → IsAllowed f t × ((x : A) × s.describes w x) → (x : A) × (in_form f n s).describes v x
in_its_form s Plain n v w t same is d = (d.1.0, subst (λ u. s.describes u d.1.0) (same ∙ not_under n v (sym is ∙ d.0)) d.1.1)
in_its_form s Tagged n v w t same is d = (d.1.0, (w, under n v (sym is ∙ d.0) ∙ ap (λ u. Some (n, u)) (sym same), d.1.1))
in_its_form s Either n v w t same is d = (d.1.0, subst (λ u. s.describes u d.1.0) same d.1.1)

-- ---- the three kinds

pub fits_sign1 :
    (k : kinds.Kind) (f : forms.Form) (v w : Item) (t b : Bool) → k ≡ Sign1 f → w ≡ untagged 18 v → t ≡ is_under 18 v
    → FitsForm f t (with_headers (or_nil bstr then bstr then end)) w b → b ≡ true → FitsKind k v
fits_sign1 k f v w t b e same is fits found =
    let d = fits found in subst (λ j. FitsKind j v) (sym e) (in_its_form sign1 f 18 v w t same is (d.0, (sign1_of d.1.0, d.1.1)))

pub fits_mac0 :
    (k : kinds.Kind) (f : forms.Form) (v w : Item) (t b : Bool) → k ≡ Mac0 f → w ≡ untagged 17 v → t ≡ is_under 17 v
    → FitsForm f t (with_headers (or_nil bstr then bstr then end)) w b → b ≡ true → FitsKind k v
fits_mac0 k f v w t b e same is fits found =
    let d = fits found in subst (λ j. FitsKind j v) (sym e) (in_its_form mac0 f 17 v w t same is (d.0, (mac0_of d.1.0, d.1.1)))

pub fits_encrypt0 :
    (k : kinds.Kind) (f : forms.Form) (v w : Item) (t b : Bool) → k ≡ Encrypt0 f → w ≡ untagged 16 v → t ≡ is_under 16 v
    → FitsForm f t (with_headers (or_nil bstr then end)) w b → b ≡ true → FitsKind k v
fits_encrypt0 k f v w t b e same is fits found =
    let d = fits found in subst (λ j. FitsKind j v) (sym e) (in_its_form encrypt0 f 16 v w t same is (d.0, (encrypt0_of d.1.0, d.1.1)))

-- ---- consequences for each shape

follows :
    (k : kinds.Kind) (P Q : (A : Type 0) → Shape A → Type 0) → ((A : Type 0) (s : Shape A) → P A s → Q A s) → HoldsOf k P → HoldsOf k Q
follows (Sign1 f) P Q h p = h _ _ p
follows (Sign f) P Q h p = h _ _ p
follows (Mac0 f) P Q h p = h _ _ p
follows (Mac f) P Q h p = h _ _ p
follows (Encrypt0 f) P Q h p = h _ _ p
follows (Encrypt f) P Q h p = h _ _ p
follows Signature P Q h p = h _ _ p
follows Recipient P Q h p = h _ _ p
follows Header P Q h p = h _ _ p
follows Key P Q h p = h _ _ p
follows KeySet P Q h p = h _ _ p
follows Claims P Q h p = h _ _ p
follows Any P Q h p = h _ _ p
follows KdfContext P Q h p = h _ _ p

-- Bytes that encode an item of a kind are of that kind.
pub of_kind : (k : kinds.Kind) (b : List ℕ) (w : Item) → IsOnlyItem b w → FitsKind k w → IsOf k b
of_kind k b w is =
    follows k (λ A s. (x : A) × s.describes w x) (λ A s. (x : A) × Describes s b x) (λ A s d. (d.0, (w, is.0, d.1)))
