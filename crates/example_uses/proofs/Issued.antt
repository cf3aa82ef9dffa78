-- Why a message isn't sent, and a token of claims isn't issued.
use Rattle.std.proofs.Common.{◌≡◌, ℕ, ℤ, List, [], ◌∷◌, ◌++◌, Option, Some, None, Result, Ok, Err, true, option_map, refl, subst, inl, inr, Vec}
use Rattle.std.specs.Global.{Global}
use Rattle.std.specs.Prelude.{IfErr, IfOk}
use Rattle.coset_value.specs.Item.{Item, Items, array, bytes, dict, item}
use Rattle.coset_codec.specs.Maps.{entries_image, labelled_image}
use Rattle.coset_codec.specs.ReadAgain.{IsWritten}
use Rattle.coset_codec.specs.Results.{Describes}
use Rattle.coset_codec.specs.Shape.{both, bstr, tstr}
use Rattle.coset_codec.specs.declared.error.CallError.{CallError}
use Rattle.coset_codec.specs.declared.error.CallError.TheVariants.{Coset, Caller}
use Rattle.coset_label.specs.LabelData.{RegisteredLabelView, assigned, private_use, text_name}
use Rattle.coset_core.specs.Built.{with_algorithm}
use Rattle.coset_core.specs.Fields.{partial_header}
use Rattle.coset_core.specs.Headers.{HeaderView, empty_header, layered_header, layered_protected, protected_bytes}
use Rattle.coset_core.specs.Messages.{unread}
use Rattle.coset_claims.specs.Claims.{ClaimsView, FieldTuple, claim_name, claims, fields, names, parts_of}
use Rattle.coset_claims.specs.Timestamp.{TimestampView, fractional_seconds, timestamp, whole_seconds}
use Rattle.coset_codec.proofs.EncodingMaps.{optional-has}
use Rattle.coset_sign.specs.SignatureStructure.{signature_structure}
use Rattle.coset_sign.specs.Sign1.{sign1, sign1_attached, with_signature}
use Rattle.coset_sign.specs.declared.signature.SignatureContext.TheVariants.{CoseSign1}
use Rattle.example_uses.specs.Exchange.{IsIssued, IsSent}
use Rattle.example_uses.specs.Refusals.{IsNotIssued, IsNotSent, unsigned}
use Rattle.example_uses.specs.declared.cipher.Refused.{Refused}
use Rattle.example_uses.proofs.NamedAlgorithm.{IsAlgorithm, has_signed, is_read}
use Rattle.example_uses.proofs.Spellings.{only_memory}

-- ---- a message without an image

unwritten : {A : Type 0} (f : List ℕ → A) (o : Option (List ℕ)) (vs : Items) → option_map array (both item (option_map bytes o) (Some vs)) ≡ None
    → option_map f o ≡ None
unwritten f None vs e = refl
unwritten f (Some b) vs e = absurd (cc)

-- A message without an image has no structure either.
pub unsigned_unwritten : (h : HeaderView) (payload s external_aad : List ℕ) → sign1.image (with_signature s (unsigned h payload)) ≡ None
    → sign1_attached (unsigned h payload) external_aad ≡ None
unfolding layered_protected layered_header partial_header
unsigned_unwritten h payload s a e = unwritten (λ p. signature_structure CoseSign1 p None a payload) (protected_bytes (unread h)) _ e

-- ---- claims are always written

pub both-has : {A B C : Type 0} (f : A → B → C) (a : Option A) (b : Option B) → (a ≡ None → ⊥) → (b ≡ None → ⊥) → both f a b ≡ None → ⊥
both-has f (Some a) (Some b) p q e = absurd (cc)
both-has f (Some a) None p q e = q refl
both-has f None b p q e = p refl

mapped-has : {A B : Type 0} (f : A → B) (o : Option A) → (o ≡ None → ⊥) → option_map f o ≡ None → ⊥
mapped-has f (Some x) h e = absurd (cc)
mapped-has f None h e = h refl

text-has : (s : List ℕ) → tstr.image s ≡ None → ⊥
text-has s e = absurd (cc)

bytes-have : (s : List ℕ) → bstr.image s ≡ None → ⊥
bytes-have s e = absurd (cc)

moment-has : (t : TimestampView) → timestamp.image t ≡ None → ⊥
unfolding timestamp
moment-has (whole_seconds i) e = absurd (cc)
moment-has (fractional_seconds x) e = absurd (cc)

fields-have : (x : FieldTuple) → fields.image x ≡ None → ⊥
fields-have x =
    both-has _ _ _ (optional-has _ text-has x.0)
    (both-has _ _ _ (optional-has _ text-has x.1.0)
    (both-has _ _ _ (optional-has _ text-has x.1.1.0)
    (both-has _ _ _ (optional-has _ moment-has x.1.1.1.0)
    (both-has _ _ _ (optional-has _ moment-has x.1.1.1.1.0)
    (both-has _ _ _ (optional-has _ moment-has x.1.1.1.1.1.0) (both-has _ _ _ (optional-has _ bytes-have x.1.1.1.1.1.1.0) (λ e. absurd (cc))))))))

name-has : (l : RegisteredLabelView) → claim_name.image l ≡ None → ⊥
unfolding claim_name
name-has (assigned i) e = absurd (cc)
name-has (private_use i) e = absurd (cc)
name-has (text_name s) e = absurd (cc)

rest-has : (es : List (RegisteredLabelView × Item)) → labelled_image claim_name.image es ≡ None → ⊥
rest-has [] e = absurd (cc)
rest-has (x ∷ es) e = both-has _ _ _ (name-has x.0) (rest-has es) e

entries-have : (rest : List (RegisteredLabelView × Item)) (o : Option (List (RegisteredLabelView × Item))) → (o ≡ None → ⊥) → entries_image names true rest o
    ≡ None → ⊥
entries-have rest None h e = h refl
entries-have rest (Some es) h e = mapped-has dict (labelled_image claim_name.image (es ++ rest)) (rest-has (es ++ rest)) e

pub claims-have : (c : ClaimsView) → claims.image c ≡ None → ⊥
unfolding claims
claims-have c e = entries-have c.rest (fields.image (parts_of c).0) (fields-have (parts_of c).0) e

-- ---- a token

-- Why a message isn't sent, if its header names an algorithm.
not_issued :
    (refuses : List ℕ → Refused → Type 0) (external_aad payload : List ℕ) (n : ℤ) → IsAlgorithm n → (c : ClaimsView) → IsWritten claims c payload
    → (e : CallError Refused)
    → IsNotSent refuses external_aad (with_algorithm (assigned n) empty_header) payload e → IsNotIssued refuses external_aad (assigned n) c e
not_issued refuses a payload n is c w (Coset e) (inl none) = inl (only_memory e (λ other. has_signed n payload a (none other).1))
not_issued refuses a payload n is c w (Coset e) (inr h) = inl (only_memory e (λ other. (h.3 other).1 _ (is_read n is payload h.0 h.1 h.2)))
not_issued refuses a payload n is c w (Caller r) h = (payload, h.0, w, h.1, h.2)

pub none_issued :
    {T : Type 0} (refuses : List ℕ → Refused → Type 0) (external_aad payload : List ℕ) (n : ℤ) → IsAlgorithm n → (c : ClaimsView) → IsWritten claims c payload
    → (h : HeaderView) → h ≡ with_algorithm (assigned n) empty_header
    → (r : Result T (CallError Refused)) → IfErr r (λ e. IsNotSent refuses external_aad h payload e)
    → IfErr r (λ e. IsNotIssued refuses external_aad (assigned n) c e)
none_issued refuses a payload n is c w h names (Ok x) k = tt
none_issued refuses a payload n is c w h names (Err e) k = not_issued refuses a payload n is c w e (subst (λ x. IsNotSent refuses a x payload e) names k)

pub issued :
    {R : Type 0} (signs : List ℕ → List ℕ → Type 0) (external_aad : List ℕ) (c : ClaimsView) (payload : List ℕ) (n : ClaimsView)
    → IsWritten claims c payload → Describes claims payload n
    → (r : Result (Vec ℕ Global) R) → IfOk r (λ b. IsSent signs external_aad payload b.items) → IfOk r (λ b. IsIssued signs external_aad c b.items)
issued signs a c payload n w read (Ok b) sent = (payload, w, (n, read), sent)
issued signs a c payload n w read (Err e) sent = tt
