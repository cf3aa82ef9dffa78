-- Messages after reading, and after writing and reading.
use Rattle.std.proofs.Common.{◌≡◌, ℕ, List, [], ◌∷◌, Some, None, option_map, ap}
use Rattle.std.specs.Prelude.{⊤}
use Rattle.coset_codec.proofs.AsWritten.{bstr_as_written, list_as_written, list_when_read, or_nil_as_written, then_as_written, then_when_read}
use Rattle.coset_codec.specs.AsWritten.{AsWritten, WhenRead}
use Rattle.coset_codec.specs.Lists.{EachHas, EachWith}
use Rattle.coset_codec.specs.Shape.{both, ◌then◌, end, bstr, or_nil, list_of}
use Rattle.coset_codec.specs.ShapeLaws.{some-none}
use Rattle.coset_core.specs.Headers.{ProtectedView, SignatureView, protected_bytes, elements_of}
use Rattle.coset_core.proofs.Messages.{HasBytes, KeepsBytes, KeptAsWritten, has_bytes, header_as_written, header_when_read, message_as_written}
use Rattle.coset_core.proofs.Messages.{message_when_read, elements_as_written}
use Rattle.coset_sign.specs.SignatureStructure.{signature_structure}
use Rattle.coset_sign.specs.Signed.{SignsSame}
use Rattle.coset_sign.specs.Sign1.{SamePayloadAndSignature, sign1, sign1_fields, sign1_elements, sign1_structure}
use Rattle.coset_sign.specs.Sign.{SignView, sign, sign_fields, sign_elements, masked_signature, signer_structure, EachSigns, EachSignsSame}
use Rattle.coset_sign.specs.declared.signature.SignatureContext.TheVariants.{CoseSign1, CoseSignature}

-- ---- protected headers

pub sign1_kept : KeptAsWritten → AsWritten sign1 (λ m n. KeepsBytes m.protected n.protected)
sign1_kept kept v m n e d = header_as_written sign1_elements KeepsBytes kept v (sign1_fields m) (sign1_fields n) e d

pub sign_kept : KeptAsWritten → AsWritten sign (λ m n. KeepsBytes m.protected n.protected)
sign_kept kept v m n e d = header_as_written sign_elements KeepsBytes kept v (sign_fields m) (sign_fields n) e d

-- ---- messages with one signature

signs_same : (p q : ProtectedView) → KeepsBytes p q → SignsSame q p
signs_same p q e context None a l = ap (option_map (λ b. signature_structure context b None a l)) e
signs_same p q e context (Some s) a l = ap (λ o. both (λ b c. signature_structure context b (Some c) a l) o (protected_bytes s)) e

pub signs_as_written : KeptAsWritten → AsWritten sign1 (λ m n. SignsSame n.protected m.protected)
signs_as_written kept v m n e d = signs_same m.protected n.protected (sign1_kept kept v m n e d)

pub carries_as_written : AsWritten sign1 SamePayloadAndSignature
carries_as_written v m n e d =
    let elements = elements_as_written sign1_elements _ (then_as_written (or_nil bstr) (bstr then end) (λ p q. q ≡ p) _ or_nil_as_written
    (then_as_written bstr end (λ s t. t ≡ s) (λ x y. ⊤) bstr_as_written (λ vs x y f g. tt))) in
    let both_same = elements v (sign1_fields m) (sign1_fields n) e d in
    (both_same.0, both_same.1.0)

pub has_signed : (external_aad payload : List ℕ) → WhenRead sign1 (λ m. sign1_structure m external_aad payload ≡ None → ⊥)
has_signed external_aad payload v m d none =
    let header = header_when_read sign1_elements HasBytes has_bytes v (sign1_fields m) d in
    some-none (ap (option_map (λ p. signature_structure CoseSign1 p None external_aad payload)) header.1) none

-- ---- messages with any number of signatures

-- Both signatures have the same protected bytes.
abbrev KeepsSame : SignatureView → SignatureView → Type 0
KeepsSame s t = KeepsBytes s.protected t.protected

signer_as_written : KeptAsWritten → AsWritten masked_signature KeepsSame
signer_as_written kept v s t e d = header_as_written (bstr then end) KeepsBytes kept v (elements_of s) (elements_of t) e d

each_signs_same : (m n : SignView) → KeepsBytes m.protected n.protected → (ss ts : List SignatureView) → EachWith KeepsSame ss ts
    → EachWith (λ s t. (a l : List ℕ) → signer_structure n s a l ≡ signer_structure m t a l) ts ss
each_signs_same m n e [] [] h = tt
each_signs_same m n e (s ∷ ss) (t ∷ ts) h = (
  λ a l i. both (λ b c. signature_structure CoseSignature b (Some c) a l) (e i) (h.0 i),
  each_signs_same m n e ss ts h.1,
)
each_signs_same m n e [] (t ∷ ts) h = absurd h
each_signs_same m n e (s ∷ ss) [] h = absurd h

pub each_signs_as_written : KeptAsWritten → AsWritten sign (λ m n. EachSignsSame n m)
each_signs_as_written kept v m n e d =
    let lists = then_as_written (list_of masked_signature) end (EachWith KeepsSame) (λ x y. ⊤)
    (list_as_written masked_signature KeepsSame (signer_as_written kept))
    (λ vs x y f g. tt) in
    let elements = then_as_written (or_nil bstr) (list_of masked_signature then end) (λ p q. ⊤) _ (λ w p q f g. tt) lists in
    let all = message_as_written sign_elements KeepsBytes _ kept elements v (sign_fields m) (sign_fields n) e d in
    each_signs_same m n all.0 m.signatures n.signatures all.1.1.1.0

-- The signature's own protected header has protected bytes.
abbrev HasOwnBytes : SignatureView → Type 0
HasOwnBytes s = HasBytes s.protected

signer_when_read : WhenRead masked_signature HasOwnBytes
signer_when_read v s d = header_when_read (bstr then end) HasBytes has_bytes v (elements_of s) d

has_structure : (m : SignView) → HasBytes m.protected → (s : SignatureView) → HasOwnBytes s → (a l : List ℕ) → signer_structure m s a l ≡ None → ⊥
has_structure m h s g a l none = some-none (λ i. both (λ b c. signature_structure CoseSignature b (Some c) a l) (h.1 i) (g.1 i)) none

each_has_structure : (m : SignView) → HasBytes m.protected → (ss : List SignatureView) → EachHas HasOwnBytes ss
    → EachHas (λ s. (a l : List ℕ) → signer_structure m s a l ≡ None → ⊥) ss
each_has_structure m h [] g = tt
each_has_structure m h (s ∷ ss) g = (has_structure m h s g.0, each_has_structure m h ss g.1)

pub each_signs_when_read : WhenRead sign EachSigns
each_signs_when_read v m d =
    let lists = then_when_read (list_of masked_signature) end (EachHas HasOwnBytes) (λ x. ⊤) (list_when_read masked_signature HasOwnBytes signer_when_read)
    (λ vs x f. tt) in
    let elements = then_when_read (or_nil bstr) (list_of masked_signature then end) (λ p. ⊤) _ (λ w p f. tt) lists in
    let all = message_when_read sign_elements HasBytes _ has_bytes elements v (sign_fields m) d in
    each_has_structure m all.0 m.signatures all.1.1.1.0
