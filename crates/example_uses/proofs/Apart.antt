-- Messages with a detached payload.
use Rattle.std.proofs.Common.{◌≡◌, ◌∙◌, ℕ, ℤ, List, Bool, true, false, Option, Some, None, Err, Vec, Global, ap, inl, is_some, option_map, refl, subst}
use Rattle.std.proofs.Common.{sym, true≢false}
use Rattle.std.specs.Prelude.{◌≢◌}
use Rattle.coset_codec.specs.Results.{Describes}
use Rattle.coset_codec.specs.AsWritten.{WhenRead}
use Rattle.coset_codec.specs.ReadAgain.{IsWritten}
use Rattle.coset_codec.specs.declared.error.CallError.{CallError}
use Rattle.coset_codec.specs.declared.error.CallError.TheVariants.{Coset, Caller}
use Rattle.coset_label.specs.LabelData.{RegisteredLabelView, assigned}
use Rattle.coset_label.specs.Labels.{algorithm}
use Rattle.coset_core.specs.Calls.{IsStructure}
use Rattle.coset_core.specs.Fields.{partial_header}
use Rattle.coset_core.specs.Headers.{layered_header, layered_protected}
use Rattle.coset_sign.specs.Sign1.{Sign1View, sign1, sign1_structure, with_signature}
use Rattle.example_uses.specs.Asked.{Asker, Maker}
use Rattle.example_uses.specs.Detached.{IsSignedApart, SignsApart, VerifiesApart, apart}
use Rattle.example_uses.proofs.Calls.{Made, NotMade, NotSaid}
use Rattle.example_uses.proofs.NamedAlgorithm.{has_signed}
use Rattle.example_uses.proofs.Spellings.{only_memory}

-- ---- making a message

pub signed_apart :
    {F E : Type 0} (g : Maker F E) (f : F) (a : RegisteredLabelView) (external_aad payload b : List ℕ) (unsigned built : Sign1View) → unsigned ≡ apart a
    → Made g f (sign1_structure unsigned external_aad payload) (λ s. built ≡ with_signature s.items unsigned) → IsWritten sign1 built b
    → IsSignedApart g f a external_aad payload b
signed_apart g f a x p b unsigned built is m w =
    let s = m.1.items in
    (s, subst (λ n. IsWritten sign1 n b) (m.4 ∙ ap (with_signature s) is) w, (m.0, m.1, subst (λ n. IsStructure (sign1_structure n x p) m.0) is m.2, m.3, refl))

-- No message is made if the closure refuses, or an allocation fails.
pub not_signed_apart :
    {F E : Type 0} (g : Maker F E) (f : F) (n : ℤ) (external_aad payload : List ℕ) (unsigned : Sign1View) → unsigned ≡ apart (assigned n)
    → (e : CallError E) → NotMade g f (sign1_structure unsigned external_aad payload) e → SignsApart g f (assigned n) external_aad payload (Err e)
not_signed_apart g f n x p unsigned is (Coset e) tried =
    only_memory e (λ other. has_signed n p x (subst (λ m. sign1_structure m x p ≡ None) is (tried other).1))
not_signed_apart g f n x p unsigned is (Caller e) tried = (tried.0, subst (λ m. IsStructure (sign1_structure m x p) tried.0) is tried.1, tried.2)

-- The message always has an encoding.
pub apart-has : (n : ℤ) (s : List ℕ) → sign1.image (with_signature s (apart (assigned n))) ≡ None → ⊥
unfolding layered_header layered_protected partial_header algorithm
apart-has n s e = absurd (cc)

-- ---- verifying a message

-- An optional vector that is present has a view that is present.
pub carries : (o : Option (Vec ℕ Global)) {b : Bool} → b ≡ is_some o → b ≡ true → option_map (λ x. x.items) o ≢ None
carries None is there none = true≢false (sym there ∙ is)
carries (Some x) is there none = absurd (cc)

pub carries_none : (o : Option (Vec ℕ Global)) {b : Bool} → b ≡ is_some o → b ≡ false → option_map (λ x. x.items) o ≡ None
carries_none None is no_bytes = refl
carries_none (Some x) is no_bytes = absurd (true≢false (sym is ∙ no_bytes))

pub not_verified_apart :
    {F E : Type 0} (g : Asker F (Unit {0}) E) (f : F)
    → ((external_aad payload : List ℕ) → WhenRead sign1 (λ m. sign1_structure m external_aad payload ≡ None → ⊥))
    → (external_aad payload b : List ℕ) (m : Sign1View) → Describes sign1 b m → m.payload ≡ None → (e : CallError E)
    → NotSaid g f m.signature (sign1_structure m external_aad payload) e → VerifiesApart g f external_aad payload b (Err e)
not_verified_apart g f law x p b m d none (Coset e) asked = inl (λ other. absurd (law x p _ m d.2 (asked other).1))
not_verified_apart g f law x p b m d none (Caller e) asked = (m, d, (none, asked))
