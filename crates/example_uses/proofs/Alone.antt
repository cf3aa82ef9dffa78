-- Messages with a MAC, and encrypted messages, for receivers that know the key.
use Rattle.std.proofs.Common.{◌≡◌, ◌∙◌, ℕ, ℤ, List, [], ◌∷◌, Some, None, Ok, Err, Vec, ap, inr, refl, subst}
use Rattle.std.specs.Prelude.{IfSome}
use Rattle.std.specs.Global.{Global}
use Rattle.coset_codec.specs.Results.{Describes}
use Rattle.coset_codec.specs.AsWritten.{WhenRead}
use Rattle.coset_codec.specs.ReadAgain.{IsWritten}
use Rattle.coset_codec.specs.declared.error.CallError.{CallError}
use Rattle.coset_codec.specs.declared.error.CallError.TheVariants.{Coset, Caller}
use Rattle.coset_label.specs.LabelData.{RegisteredLabelView, assigned}
use Rattle.coset_label.specs.Labels.{algorithm}
use Rattle.coset_core.specs.Calls.{IsStructure}
use Rattle.coset_core.specs.Fields.{partial_header}
use Rattle.coset_core.specs.Headers.{layered_header, layered_protected}
use Rattle.coset_msg.specs.Encrypt0.{Encrypt0View, encrypt0, encrypt0_structure, with_ciphertext}
use Rattle.coset_msg.specs.Mac0.{Mac0View, mac0, mac0_structure, with_tag}
use Rattle.coset_msg.specs.MacStructure.{Authenticates}
use Rattle.coset_msg.specs.declared.mac_structure.MacContext.TheVariants.{CoseMac0}
use Rattle.example_uses.specs.Asked.{Asker, Maker}
use Rattle.example_uses.specs.Encrypt0.{EncryptsAlone, unsealed}
use Rattle.example_uses.specs.Mac0.{IsMacAlone, MacsAlone, VerifiesAlone, untagged}
use Rattle.example_uses.proofs.Calls.{Made, NotMade, NotSaid}
use Rattle.example_uses.proofs.Spellings.{only_memory}
use Rattle.example_uses.proofs.Unwrapping.{MadeOf}

-- ---- making a MAC

-- A structure exists.
has_tagged : (n : ℤ) (external_aad payload : List ℕ) → mac0_structure (untagged (assigned n) payload) external_aad payload ≡ None → ⊥
unfolding partial_header algorithm
has_tagged n external_aad payload e = absurd (cc)

-- The message always has an encoding.
pub mac0-has : (n : ℤ) (payload t : List ℕ) → mac0.image (with_tag t (untagged (assigned n) payload)) ≡ None → ⊥
unfolding layered_header layered_protected partial_header algorithm
mac0-has n payload t e = absurd (cc)

-- The MAC that the closure made from the structure.
pub tagged :
    {F E : Type 0} (g : Maker F E) (f : F) (a : RegisteredLabelView) (external_aad payload : List ℕ) (empty built : Mac0View) → empty ≡ untagged a payload
    → IfSome empty.payload (λ p. Made g f (mac0_structure empty external_aad p) (λ t. built ≡ with_tag t.items empty))
    → Made g f (mac0_structure (untagged a payload) external_aad payload) (λ t. built ≡ with_tag t.items (untagged a payload))
tagged g f a x p empty built is made =
    subst (λ u. IfSome u.payload (λ q. Made g f (mac0_structure u x q) (λ t. built ≡ with_tag t.items u))) is made

pub is_mac_alone :
    {F E : Type 0} (g : Maker F E) (f : F) (a : RegisteredLabelView) (external_aad payload b : List ℕ) (empty built : Mac0View) → empty ≡ untagged a payload
    → IfSome empty.payload (λ p. Made g f (mac0_structure empty external_aad p) (λ t. built ≡ with_tag t.items empty)) → IsWritten mac0 built b
    → IsMacAlone g f a external_aad payload b
is_mac_alone g f a x p b empty built is made w =
    let m = tagged g f a x p empty built is made in (m.1.items, subst (λ n. IsWritten mac0 n b) m.4 w, (m.0, m.1, m.2, m.3, refl))

-- No message is made if the closure refuses, or an allocation fails.
pub no_mac_alone :
    {F E : Type 0} (g : Maker F E) (f : F) (n : ℤ) (external_aad payload : List ℕ) (empty : Mac0View) → empty ≡ untagged (assigned n) payload
    → (e : CallError E) → IfSome empty.payload (λ p. NotMade g f (mac0_structure empty external_aad p) e)
    → MacsAlone g f (assigned n) external_aad payload (Err e)
no_mac_alone g f n x p empty is (Coset e) tried =
    let t = subst (λ u. IfSome u.payload (λ q. NotMade g f (mac0_structure u x q) (Coset e))) is tried in only_memory e (λ other. has_tagged n x p (t other).1)
no_mac_alone g f n x p empty is (Caller e) tried = subst (λ u. IfSome u.payload (λ q. NotMade g f (mac0_structure u x q) (Caller e))) is tried

-- ---- verifying a message

pub not_verified_alone :
    {F E : Type 0} (g : Asker F (Unit {0}) E) (f : F) → WhenRead mac0 (λ m. Authenticates m.protected) → (external_aad b : List ℕ) (absent : E)
    (m : Mac0View) (p : List ℕ) → Describes mac0 b m → m.payload ≡ Some p → (e : CallError E) → NotSaid g f m.tag (mac0_structure m external_aad p) e
    → VerifiesAlone g f external_aad absent b (Err e)
not_verified_alone g f law x b absent m p d carried (Coset e) asked =
    λ other. absurd (law _ m d.2 CoseMac0 x p (asked other).1)
not_verified_alone g f law x b absent m p d carried (Caller e) asked = (m, d, inr (p, carried, asked))

-- ---- encrypting

-- A structure exists.
has_sealed : (n : ℤ) (iv external_aad : List ℕ) → encrypt0_structure (unsealed (assigned n) iv) external_aad ≡ None → ⊥
unfolding partial_header algorithm
has_sealed n iv external_aad e = absurd (cc)

-- The message always has an encoding.
pub encrypt0-has : (n : ℤ) (iv c : List ℕ) → encrypt0.image (with_ciphertext c (unsealed (assigned n) iv)) ≡ None → ⊥
unfolding layered_header layered_protected partial_header algorithm
encrypt0-has n [] c e = absurd (cc)
encrypt0-has n (b ∷ iv) c e = absurd (cc)

pub is_sealed_alone :
    {F E : Type 0} (g : Asker F (Vec ℕ Global) E) (f : F) (a : RegisteredLabelView) (iv external_aad plaintext : List ℕ) (b : Vec ℕ Global)
    (empty built : Encrypt0View) → empty ≡ unsealed a iv
    → MadeOf g f plaintext (encrypt0_structure empty external_aad) (λ c. built ≡ with_ciphertext c.items empty) → IsWritten encrypt0 built b.items
    → EncryptsAlone g f a iv external_aad plaintext (Ok b)
is_sealed_alone g f a iv x p b empty built is m w = (
  m.1.items,
  subst (λ n. IsWritten encrypt0 n b.items) (m.4 ∙ ap (with_ciphertext m.1.items) is) w,
  (m.1, (m.0, subst (λ n. IsStructure (encrypt0_structure n x) m.0) is m.2, m.3), refl),
)

pub not_sealed_alone :
    {F E : Type 0} (g : Asker F (Vec ℕ Global) E) (f : F) (n : ℤ) (iv external_aad plaintext : List ℕ) (empty : Encrypt0View)
    → empty ≡ unsealed (assigned n) iv → (e : CallError E) → NotSaid g f plaintext (encrypt0_structure empty external_aad) e
    → EncryptsAlone g f (assigned n) iv external_aad plaintext (Err e)
not_sealed_alone g f n iv x p empty is (Coset e) asked =
    only_memory e (λ other. has_sealed n iv x (subst (λ m. encrypt0_structure m x ≡ None) is (asked other).1))
not_sealed_alone g f n iv x p empty is (Caller e) asked = (asked.0, subst (λ m. IsStructure (encrypt0_structure m x) asked.0) is asked.1, asked.2)
