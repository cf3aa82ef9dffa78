-- A token that arrives in another spelling than the one that was sent.
use Rattle.std.proofs.Common.{◌≡◌, ℕ, List, [], Option, Some, None, Result, Ok, Err, refl, sym, ap, subst, ◌∙◌}
use Rattle.std.specs.Prelude.{IfErr, IsErrAnd}
use Rattle.coset_value.specs.Item.{Item}
use Rattle.coset_value.specs.Range.{IsInRange}
use Rattle.coset_cbor.specs.Grammar.{IsEncoding}
use Rattle.coset_cbor.specs.Least.{least_encoding}
use Rattle.coset_cbor.specs.Shortest.{IsShortest}
use Rattle.coset_codec.specs.Results.{Describes}
use Rattle.coset_codec.specs.AsWritten.{AsWritten}
use Rattle.coset_codec.specs.ReadAgain.{IsWritten}
use Rattle.coset_codec.specs.Shape.{Shape}
use Rattle.coset_codec.specs.declared.error.CallError.{CallError}
use Rattle.coset_codec.specs.declared.error.CallError.TheVariants.{Coset}
use Rattle.coset_codec.specs.declared.error.CoseError.{CoseError}
use Rattle.coset_codec.specs.declared.error.CoseError.TheVariants.{DecodeFailed, DuplicateMapKey, EncodeFailed, ExtraneousData, OutOfRangeIntegerValue}
use Rattle.coset_codec.specs.declared.error.CoseError.TheVariants.{UnexpectedItem, UnregisteredIanaValue, UnregisteredIanaNonPrivateValue, OutOfMemory}
use Rattle.coset_codec.proofs.Whole.{OneItem, one_of}
use Rattle.coset_codec.specs.ShapeLaws.{some-none, some-one}
use Rattle.coset_core.specs.Calls.{IsStructure}
use Rattle.coset_sign.specs.Sign1.{Sign1View, sign1, sign1_attached, sign1_structure}
use Rattle.coset_sign.specs.Signed.{SignsSame, or_empty}
use Rattle.coset_sign.specs.declared.signature.SignatureContext.TheVariants.{CoseSign1}
use Rattle.example_uses.specs.Exchange.{Arrives, CarriesSame, IsSent, IsSpelling, Respells}
use Rattle.example_uses.specs.declared.exchange.Lost.TheVariants.{NotVerified}
use Rattle.example_uses.specs.declared.cipher.Refused.{Refused}

-- If an error can be nothing other than `OutOfMemory`, it is `OutOfMemory`.
pub only_memory : (e : CoseError) → ((e ≡ OutOfMemory → ⊥) → ⊥) → e ≡ OutOfMemory
only_memory (DecodeFailed x) h = absurd (h (λ q. cc))
only_memory DuplicateMapKey h = absurd (h (λ q. cc))
only_memory EncodeFailed h = absurd (h (λ q. cc))
only_memory ExtraneousData h = absurd (h (λ q. cc))
only_memory OutOfRangeIntegerValue h = absurd (h (λ q. cc))
only_memory (UnexpectedItem got want) h = absurd (h (λ q. cc))
only_memory UnregisteredIanaValue h = absurd (h (λ q. cc))
only_memory UnregisteredIanaNonPrivateValue h = absurd (h (λ q. cc))
only_memory OutOfMemory h = refl

-- Such an error of the library is passed on.
pub passed_on : {T E : Type 0} (e : CoseError) (r : Result T (CallError E)) → IsErrAnd r (λ x. x ≡ Coset e) → ((e ≡ OutOfMemory → ⊥) → ⊥)
    → IfErr r (λ x. x ≡ Coset OutOfMemory)
passed_on e (Ok x) is h = absurd is
passed_on e (Err x) is h = is ∙ ap Coset (only_memory e h)

-- The structure and the payload stay the same.
abbrev pub SignedAsWritten : Type 0
SignedAsWritten = (v : Item) (m n : Sign1View) → sign1.image m ≡ Some v → sign1.describes v n → SignsSame n.protected m.protected

abbrev pub AttachedAsWritten : Type 0
AttachedAsWritten = (v : Item) (m n : Sign1View) → sign1.image m ≡ Some v → sign1.describes v n → (n.payload ≡ m.payload) × (n.signature ≡ m.signature)

abbrev pub ShortestIsEncoding : Type 0
ShortestIsEncoding = (v : Item) (b : List ℕ) → IsShortest b v → IsEncoding v b

-- The item that was written is the one that is read.
same_item :
    {A : Type 0} (shape : Shape A) → OneItem → ShortestIsEncoding → (b t : List ℕ) (m n : A) (w : IsWritten shape m b) → IsSpelling b t → Describes shape t n
    → shape.describes w.0 n
same_item shape one encoding b t m n w s d =
    let arrived : d.0 ≡ s.0 = one_of one t d.0 s.0 d.1 s.2 in
    let sent : s.0 ≡ w.0 = (one s.0 w.0 b b [] [] s.1.0 (encoding w.0 b w.2) refl).0 in
    subst (λ v. shape.describes v n) (arrived ∙ sent) d.2

pub arrives : {A : Type 0} (shape : Shape A) (R : A → A → Type 0) → OneItem → ShortestIsEncoding → AsWritten shape R → Arrives shape R
arrives shape R one encoding law b t m n w s d = law w.0 m n w.1 (same_item shape one encoding b t m n w s d)

pub carries_same :
    OneItem → ShortestIsEncoding → SignedAsWritten → AttachedAsWritten → (b t : List ℕ) (m n : Sign1View) → IsWritten sign1 m b → IsSpelling b t
    → Describes sign1 t n → CarriesSame n m
carries_same one encoding signs carries b t m n w s d =
    let read = same_item sign1 one encoding b t m n w s d in
    let both = carries w.0 m n w.1 read in
    record {
      payload = both.0;
      signature = both.1;
      structure = λ a. signs w.0 m n w.1 read CoseSign1 None a (or_empty n.payload) ∙ ap (λ p. sign1_structure m a (or_empty p)) both.0;
    }

-- There is one structure, and its shortest encoding is unique.
abbrev pub ShortestIsInRange : Type 0
ShortestIsInRange = (v : Item) (b : List ℕ) → IsShortest b v → IsInRange v

abbrev pub LeastIsShortest : Type 0
LeastIsShortest = (v : Item) (b : List ℕ) → IsInRange v → IsShortest b v → b ≡ least_encoding v

same_bytes : ShortestIsInRange → LeastIsShortest → (o p : Option Item) (b c : List ℕ) → o ≡ p → IsStructure o b → IsStructure p c → b ≡ c
same_bytes in_range least o p b c e h k =
    let same : h.0 ≡ k.0 = some-one h.1 (e ∙ k.1) in
    least h.0 b (in_range h.0 b h.2) h.2 ∙ (ap least_encoding same ∙ sym (least k.0 c (in_range k.0 c k.2) k.2))

-- A message that was sent has a structure.
pub has_structure : {accepts : List ℕ → List ℕ → Type 0} {a payload b : List ℕ} (s : IsSent accepts a payload b) (n : Sign1View) → CarriesSame n s.message
    → sign1_attached n a ≡ None → ⊥
has_structure {a = a} s n same e = some-none s.signed.1.1 (sym (same.structure a) ∙ e)

-- The signature that was sent is accepted for the message that arrives.
pub is_accepted :
    ShortestIsInRange → LeastIsShortest → {accepts : List ℕ → List ℕ → Type 0} {a payload b : List ℕ} (s : IsSent accepts a payload b) (n : Sign1View)
    → CarriesSame n s.message
    → (t : List ℕ) → IsStructure (sign1_attached n a) t → accepts t n.signature
is_accepted in_range least {accepts} {a} s n same t h =
    let same_tbs : s.signed.0 ≡ t = same_bytes in_range least (sign1_attached s.message a) (sign1_attached n a) s.signed.0 t
    (sym (same.structure a)) s.signed.1 h in
    subst (λ x. accepts t x) (sym same.signature) (subst (λ x. accepts x s.message.signature) same_tbs s.signed.2)

-- A message signed with one key is sent for every key that accepts its signatures.
pub sent_to : {signs accepts : List ℕ → List ℕ → Type 0} {a payload b : List ℕ} → ((t s : List ℕ) → signs t s → accepts t s) → IsSent signs a payload b
    → IsSent accepts a payload b
sent_to matches s =
    record {
      message = s.message;
      written = s.written;
      read = s.read;
      carried = s.carried;
      signed =
          (s.signed.0, s.signed.1, matches s.signed.0 s.message.signature s.signed.2);
    }

-- The bytes that arrive, for the bytes that were sent.
pub arrived_of : (sent b c : List ℕ) → b ≡ sent → Respells b c → Respells sent c
arrived_of sent b c e s = subst (λ x. Respells x c) e s

pub respelled : {signs : List ℕ → List ℕ → Type 0} {a payload b c : List ℕ} → IsSent signs a payload b → Respells b c → IsSpelling b c
respelled s r = (s.read.1.0, s.read.1.1, r s.read.1.0 s.read.1.1)

pub arrives_at : (b c d : List ℕ) → d ≡ c → IsSpelling b c → IsSpelling b d
arrives_at b c d e s = subst (IsSpelling b) (sym e) s

pub not_verified : {e f : CallError Refused} → NotVerified e ≡ NotVerified f → e ≡ f
not_verified h = cc
