-- Countersignatures in a message, and their structures.
use Rattle.std.proofs.Common.{◌≡◌, ◌∙◌, ℕ, List, [], ◌∷◌, Option, Some, None, Err, map, option_map, ap, inl, inr, refl, subst, sym}
use Rattle.std.specs.Borrow.{Bor}
use Rattle.coset_codec.specs.Results.{Describes}
use Rattle.coset_codec.specs.AsWritten.{WhenRead}
use Rattle.coset_codec.specs.declared.error.CallError.{CallError}
use Rattle.coset_codec.specs.declared.error.CallError.TheVariants.{Coset, Caller}
use Rattle.coset_core.specs.HeaderMap.{each_of}
use Rattle.coset_core.specs.Headers.{ProtectedView, SignatureView, signatures_of, countersignatures_in}
use Rattle.coset_core.specs.ViewLaws.{header-opened}
use Rattle.coset_core.specs.Views.{countersignature_view, header_view}
use Rattle.coset_core.specs.declared.countersignature.CoseCountersignature.{CoseCountersignature}
use Rattle.coset_core.specs.declared.header.Header.{Header, out-Header}
use Rattle.coset_sign.specs.Countersigned as countersigning
use Rattle.coset_sign.specs.Countersigned.{EachCountersigns, countersigned_item}
use Rattle.coset_sign.specs.Sign1.{Sign1View, sign1}
use Rattle.example_uses.specs.Asked.{Asker, Maker}
use Rattle.example_uses.specs.Countersigning.{Countersigns, MakesCountersignature, VerifiesCountersigned, countersignature_by, countersigned}
use Rattle.example_uses.specs.Signers.{is_by, signature_by}
use Rattle.example_uses.proofs.Calls.{NotSaid}
use Rattle.example_uses.proofs.Signing.{of_found}

-- ---- lists of signatures

pub listed : (ss : List SignatureView) → each_of (signatures_of ss) ≡ ss
listed [] = refl
listed (s ∷ ss) = ap (λ ts. s ∷ ts) (listed ss)

-- ---- their structures

-- Each countersignature in a message that was read has a structure.
abbrev pub AlwaysCountersigned : Type 0
AlwaysCountersigned = WhenRead sign1 (λ m. EachCountersigns m.protected m.unprotected)

has_countersigned :
    AlwaysCountersigned → (b : List ℕ) (m : Sign1View) → Describes sign1 b m → (key_id : List ℕ) (c : SignatureView) → countersignature_by key_id m ≡ Some c
    → (external_aad p : List ℕ) → countersigned m c external_aad p ≡ None → ⊥
has_countersigned law b m d key_id c found x p =
    let each = (law d.0 m d.2).1.1 in
    let own = of_found (is_by key_id) (λ s. countersigning.Countersigns m.protected s.protected) (each_of (countersignatures_in m.unprotected)) c each found in
    own.second_version x p (m.signature ∷ [])

-- The structure of parts that are those of the message and of the countersignature.
pub same_structure :
    (m : Sign1View) (c : SignatureView) (external_aad : List ℕ) (body own : ProtectedView) (given p : List ℕ) (others : List (List ℕ))
    → body ≡ m.protected → own ≡ c.protected → given ≡ p → others ≡ m.signature ∷ []
    → countersigned_item body (Some own) external_aad given others ≡ countersigned m c external_aad p
same_structure m c x body own given p others b o g r = λ i. countersigned_item (b i) (Some (o i)) x (g i) (r i)

-- ---- making a countersignature

-- The result if the closure made no countersignature with the headers of c.
pub not_countersigned :
    {F E : Type 0} (g : Maker F E) (f : F) (m : Sign1View) (c : SignatureView) (external_aad b : List ℕ) → Describes sign1 b m → (e : CallError E)
    → MakesCountersignature g f m c external_aad (Err e) → Countersigns g f c external_aad b (Err e)
not_countersigned g f m c x b d (Coset e) none = inr (m, [], d, inl none)
not_countersigned g f m c x b d (Caller e) refused = (m, d, refused)

-- ---- verifying a countersignature

-- The countersignatures in a header.
pub held : (h : Header) → each_of (countersignatures_in (header_view h)) ≡ map countersignature_view (out-Header h).countersignatures_v2.items
held h =
    ap (λ x. each_of (countersignatures_in x)) (header-opened h) ∙ listed (map countersignature_view (out-Header h).countersignatures_v2.items)

-- The first of them that names the key.
pub sought :
    (key_id : List ℕ) (h : Header) (o : Option (Bor CoseCountersignature)) (given : List CoseCountersignature)
    → given ≡ (out-Header h).countersignatures_v2.items
    → option_map (λ x. countersignature_view x.now) o ≡ signature_by key_id (map countersignature_view given)
    → signature_by key_id (each_of (countersignatures_in (header_view h))) ≡ option_map (λ x. countersignature_view x.now) o
sought key_id h o given same e =
    ap (signature_by key_id) (held h)
    ∙ sym (subst (λ xs. option_map (λ x. countersignature_view x.now) o ≡ signature_by key_id (map countersignature_view xs)) same e)

pub not_verified :
    {F E : Type 0} (g : Asker F (Unit {0}) E) (f : F) → AlwaysCountersigned → (key_id external_aad b : List ℕ) (absent : E) (m : Sign1View) (c : SignatureView)
    (p : List ℕ) → Describes sign1 b m → countersignature_by key_id m ≡ Some c → m.payload ≡ Some p → (e : CallError E)
    → NotSaid g f c.signature (countersigned m c external_aad p) e → VerifiesCountersigned g f key_id external_aad absent b (Err e)
not_verified g f law k x b absent m c p d found carried (Coset e) asked = inl (λ other. absurd (has_countersigned law b m d k c found x p (asked other).1))
not_verified g f law k x b absent m c p d found carried (Caller e) asked = (m, d, inr (c, p, found, carried, asked))
