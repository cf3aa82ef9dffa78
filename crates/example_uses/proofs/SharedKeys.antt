-- Messages with a MAC by a shared key.
use Rattle.std.proofs.Common.{◌≡◌, ℕ, ℤ, List, [], ◌∷◌, Some, None, Err, inr, refl, subst, true}
use Rattle.std.specs.List.{list_any}
use Rattle.std.specs.Prelude.{IfSome}
use Rattle.coset_codec.specs.Results.{Describes}
use Rattle.coset_codec.specs.AsWritten.{WhenRead}
use Rattle.coset_codec.specs.ReadAgain.{IsWritten}
use Rattle.coset_codec.specs.declared.error.CallError.{CallError}
use Rattle.coset_codec.specs.declared.error.CallError.TheVariants.{Coset, Caller}
use Rattle.coset_label.specs.LabelData.{RegisteredLabelView, assigned}
use Rattle.coset_label.specs.Labels.{algorithm}
use Rattle.coset_core.specs.Fields.{partial_header}
use Rattle.coset_core.specs.Headers.{layered_header, layered_protected}
use Rattle.coset_msg.specs.declared.mac_structure.MacContext.TheVariants.{CoseMac}
use Rattle.coset_recipient.specs.Mac.{MacView, mac, mac_structure_of, with_tag}
use Rattle.coset_recipient.specs.Recipient.{recipient}
use Rattle.coset_recipient.specs.Structures.{Macs}
use Rattle.example_uses.specs.Asked.{Asker, Maker}
use Rattle.example_uses.specs.SharedKey.{IsMacFor, MacsFor, VerifiesFor, is_direct_to, shared_with}
use Rattle.example_uses.proofs.Calls.{Made, NotMade, NotSaid}
use Rattle.example_uses.proofs.Spellings.{only_memory}

-- ---- making a message

-- The MAC that the closure made from the structure.
pub tagged :
    {F E : Type 0} (g : Maker F E) (f : F) (a : RegisteredLabelView) (key_id external_aad payload : List ℕ) (untagged built : MacView)
    → untagged ≡ shared_with a key_id payload
    → IfSome untagged.payload (λ p. Made g f (mac_structure_of untagged external_aad p) (λ t. built ≡ with_tag t.items untagged))
    → Made g f (mac_structure_of (shared_with a key_id payload) external_aad payload) (λ t. built ≡ with_tag t.items (shared_with a key_id payload))
tagged g f a k x p untagged built is made =
    subst (λ u. IfSome u.payload (λ q. Made g f (mac_structure_of u x q) (λ t. built ≡ with_tag t.items u))) is made

pub is_mac_for :
    {F E : Type 0} (g : Maker F E) (f : F) (a : RegisteredLabelView) (key_id external_aad payload b : List ℕ) (untagged built : MacView)
    → untagged ≡ shared_with a key_id payload
    → IfSome untagged.payload (λ p. Made g f (mac_structure_of untagged external_aad p) (λ t. built ≡ with_tag t.items untagged)) → IsWritten mac built b
    → IsMacFor g f a key_id external_aad payload b
is_mac_for g f a k x p b untagged built is made w =
    let m = tagged g f a k x p untagged built is made in (m.1.items, subst (λ n. IsWritten mac n b) m.4 w, (m.0, m.1, m.2, m.3, refl))

-- A structure exists.
has_tagged : (n : ℤ) (key_id external_aad payload : List ℕ) → mac_structure_of (shared_with (assigned n) key_id payload) external_aad payload ≡ None → ⊥
unfolding partial_header algorithm
has_tagged n key_id external_aad payload e = absurd (cc)

-- The message always has an encoding.
pub mac-has : (n : ℤ) (key_id payload t : List ℕ) → mac.image (with_tag t (shared_with (assigned n) key_id payload)) ≡ None → ⊥
unfolding layered_header layered_protected partial_header algorithm recipient
mac-has n [] payload t e = absurd (cc)
mac-has n (c ∷ key_id) payload t e = absurd (cc)

-- No message is made if the closure refuses, or an allocation fails.
pub no_mac_for :
    {F E : Type 0} (g : Maker F E) (f : F) (n : ℤ) (key_id external_aad payload : List ℕ) (untagged : MacView)
    → untagged ≡ shared_with (assigned n) key_id payload → (e : CallError E)
    → IfSome untagged.payload (λ p. NotMade g f (mac_structure_of untagged external_aad p) e)
    → MacsFor g f (assigned n) key_id external_aad payload (Err e)
no_mac_for g f n k x p untagged is (Coset e) tried =
    let t = subst (λ u. IfSome u.payload (λ q. NotMade g f (mac_structure_of u x q) (Coset e))) is tried in
    only_memory e (λ other. has_tagged n k x p (t other).1)
no_mac_for g f n k x p untagged is (Caller e) tried =
    subst (λ u. IfSome u.payload (λ q. NotMade g f (mac_structure_of u x q) (Caller e))) is tried

-- ---- verifying a message

pub not_verified_for :
    {F E : Type 0} (g : Asker F (Unit {0}) E) (f : F) → WhenRead mac Macs → (key_id external_aad b : List ℕ) (absent : E) (m : MacView) (p : List ℕ)
    → Describes mac b m → m.payload ≡ Some p → list_any (is_direct_to key_id) m.recipients ≡ true → (e : CallError E)
    → NotSaid g f m.tag (mac_structure_of m external_aad p) e → VerifiesFor g f key_id external_aad absent b (Err e)
not_verified_for g f law k x b absent m p d carried direct (Coset e) asked =
    λ other. absurd ((law _ m d.2).0 CoseMac x p (asked other).1)
not_verified_for g f law k x b absent m p d carried direct (Caller e) asked = (m, d, inr (p, carried, direct, asked))
