-- The protected bytes of body and signer determine what a countersignature signs, and are the same after writing and
-- reading.
use Rattle.std.proofs.Common.{◌≡◌, ℕ, List, [], ◌∷◌, Some, None, option_map, sym, ap}
use Rattle.coset_value.specs.Item.{Item}
use Rattle.coset_codec.specs.AsWritten.{AsWritten, WhenRead}
use Rattle.coset_codec.specs.Lists.{EachHas, EachWith}
use Rattle.coset_codec.specs.Shape.{Elements, both}
use Rattle.coset_codec.specs.ShapeLaws.{some-none}
use Rattle.coset_label.specs.LabelData.{LabelView}
use Rattle.coset_core.specs.HeaderMap.{each_of}
use Rattle.coset_core.specs.Headers.{HeaderView, ProtectedView, SignatureView, counter_signatures_in, countersignatures_in, fields_in}
use Rattle.coset_core.specs.Headers.{LAYERS, layered_header, layered_signature, protected_bytes}
use Rattle.coset_core.specs.Kept.{EachReadAs, EachSignature, KeepsReceived, KeepsSignature, KeepsSignatures, SignaturesReadAs}
use Rattle.coset_core.specs.FieldLabels as labels
use Rattle.coset_core.specs.Messages.{with_headers}
use Rattle.coset_core.proofs.Messages.{HasBytes, KeepsBytes, KeptAsWritten, has_bytes, headers_as_written, headers_when_read}
use Rattle.coset_sign.specs.Countersigned.{Abbreviates, AbbreviatesSame, CountersignsSame, Countersigns, EachCountersigns, EachCountersignsSame}
use Rattle.coset_sign.specs.Countersigned.{countersign_structure}
use Rattle.coset_sign.specs.Sign.{sign, sign_elements, sign_fields}
use Rattle.coset_sign.specs.Sign1.{sign1, sign1_elements, sign1_fields}
use Rattle.coset_sign.specs.SignatureStructure.{signature_structure}
use Rattle.coset_sign.specs.declared.signature.SignatureContext.TheVariants.{CounterSignature}

-- ---- structures from protected bytes

pub countersigns_same : (p s q t : ProtectedView) → protected_bytes p ≡ protected_bytes q → protected_bytes s ≡ protected_bytes t → CountersignsSame p s q t
countersigns_same p s q t e f =
    record {
      first_version = λ a l i. both (λ b c. signature_structure CounterSignature b (Some c) a l) (e i) (f i);
      second_version = λ a l others i. both (λ b c. countersign_structure b (Some c) a l others) (e i) (f i);
    }

pub abbreviates_same : (p q : ProtectedView) → protected_bytes p ≡ protected_bytes q → AbbreviatesSame p q
abbreviates_same p q e a l others = ap (option_map (λ b. countersign_structure b None a l others)) e

pub countersigns : (p s : ProtectedView) → HasBytes p → HasBytes s → Countersigns p s
countersigns p s h g =
    record {
      first_version = λ a l none. some-none (λ i. both (λ b c. signature_structure CounterSignature b (Some c) a l) (h.1 i) (g.1 i)) none;
      second_version = λ a l others none. some-none (λ i. both (λ b c. countersign_structure b (Some c) a l others) (h.1 i) (g.1 i)) none;
    }

abbreviates : (p : ProtectedView) → HasBytes p → Abbreviates p
abbreviates p h a l others none = some-none (ap (option_map (λ b. countersign_structure b None a l others)) h.1) none

-- ---- countersignatures in a header

module _ {R Q : SignatureView → SignatureView → Type 0} (f : (s t : SignatureView) → R s t → Q s t) where
  each_with : (ss ts : List SignatureView) → EachWith R ss ts → EachWith Q ss ts
  each_with [] [] h = tt
  each_with (s ∷ ss) (t ∷ ts) h = (f s t h.0, each_with ss ts h.1)
  each_with [] (t ∷ ts) h = absurd h
  each_with (s ∷ ss) [] h = absurd h

  each_read_as : (l : LabelView) (rest : List (LabelView × Item)) (ss ts : List SignatureView) → EachReadAs R l rest ss ts → EachReadAs Q l rest ss ts
  each_read_as l rest [] ts k = k
  each_read_as l rest (s ∷ ss) ts k = each_with (s ∷ ss) ts k

  all_read_as : (h g : HeaderView) → SignaturesReadAs R h g → SignaturesReadAs Q h g
  all_read_as h g k = (
    each_read_as labels.counter_signature (fields_in h).rest (each_of (counter_signatures_in h)) (each_of (counter_signatures_in g)) k.0,
    each_read_as labels.countersignature_v2 (fields_in h).rest (each_of (countersignatures_in h)) (each_of (countersignatures_in g)) k.1,
  )

module _ {P Q : SignatureView → Type 0} (f : (s : SignatureView) → P s → Q s) where
  each_has : (ss : List SignatureView) → EachHas P ss → EachHas Q ss
  each_has [] h = tt
  each_has (s ∷ ss) h = (f s h.0, each_has ss h.1)

  each_signature : (h : HeaderView) → EachSignature P h → EachSignature Q h
  each_signature h k = (each_has (each_of (counter_signatures_in h)) k.0, each_has (each_of (countersignatures_in h)) k.1)

-- The laws of `coset_core` on the signatures in headers, written and read.
abbrev pub SignaturesKeptAsWritten : Type 0
SignaturesKeptAsWritten = (k : ℕ) → AsWritten (layered_header k) (SignaturesReadAs KeepsSignature)

abbrev pub SignaturesKeptAsReceived : Type 0
SignaturesKeptAsReceived = (k : ℕ) → WhenRead (layered_header k) KeepsSignatures

-- Therefore countersignatures in such headers have the same structures.
in_headers : (p q : ProtectedView) (h g : HeaderView) → KeepsBytes p q → SignaturesReadAs KeepsSignature h g → EachCountersignsSame p h q g
in_headers p q h g e k = (abbreviates_same p q (sym e), all_read_as (λ s t f. countersigns_same p s.protected q t.protected (sym e) (sym f.0)) h g k)

pub within_as_written :
    SignaturesKeptAsWritten → (k : ℕ) (p q : ProtectedView) → KeepsBytes p q → AsWritten (layered_header k) (λ h g. EachCountersignsSame p h q g)
within_as_written kept k p q e v h g f d = in_headers p q h g e (kept k v h g f d)

pub apart_as_written :
    ((k : ℕ) → AsWritten (layered_signature k) KeepsSignature) → (k : ℕ) (p q : ProtectedView) → KeepsBytes p q
    → AsWritten (layered_signature k) (λ s t. CountersignsSame p s.protected q t.protected)
apart_as_written kept k p q e v s t f d = countersigns_same p s.protected q t.protected (sym e) (sym (kept k v s t f d).0)

in_header : (p : ProtectedView) (h : HeaderView) → HasBytes p → KeepsSignatures h → EachCountersigns p h
in_header p h b k = (abbreviates p b, each_signature (λ s own. countersigns p s.protected b (own.0, own.2)) h k)

pub within_when_read : SignaturesKeptAsReceived → (k : ℕ) (p : ProtectedView) → HasBytes p → WhenRead (layered_header k) (EachCountersigns p)
within_when_read kept k p b v h d = in_header p h b (kept k v h d)

-- The law of `coset_core` on a signature that was read.
abbrev pub KeptAsReceived : Type 0
KeptAsReceived = (k : ℕ) (v : Item) (s : SignatureView) → (layered_signature k).describes v s → KeepsReceived v s

pub apart_when_read : KeptAsReceived → (k : ℕ) (p : ProtectedView) → HasBytes p → WhenRead (layered_signature k) (λ s. Countersigns p s.protected)
apart_when_read kept k p b v s d = let own = (kept k v s d).0 in countersigns p s.protected b (own.0, own.2)

-- ---- countersignatures in the unprotected header of a message

module _ {A : Type 0} (ps : Elements A) where
  pub countersigned_as_written :
      KeptAsWritten → SignaturesKeptAsWritten → AsWritten (with_headers ps) (λ x y. EachCountersignsSame x.0 x.1.0 y.0 y.1.0)
  countersigned_as_written kept signatures v x y e d =
      let two = headers_as_written ps KeepsBytes (SignaturesReadAs KeepsSignature) kept (signatures LAYERS) v x y e d in
      in_headers x.0 y.0 x.1.0 y.1.0 two.0 two.1

  pub countersigned_when_read : SignaturesKeptAsReceived → WhenRead (with_headers ps) (λ x. EachCountersigns x.0 x.1.0)
  countersigned_when_read signatures v x d =
      let two = headers_when_read ps HasBytes KeepsSignatures has_bytes (signatures LAYERS) v x d in
      in_header x.0 x.1.0 two.0 two.1

pub sign1_countersigned :
    KeptAsWritten → SignaturesKeptAsWritten → AsWritten sign1 (λ m n. EachCountersignsSame m.protected m.unprotected n.protected n.unprotected)
sign1_countersigned kept signatures v m n = countersigned_as_written sign1_elements kept signatures v (sign1_fields m) (sign1_fields n)

pub sign_countersigned :
    KeptAsWritten → SignaturesKeptAsWritten → AsWritten sign (λ m n. EachCountersignsSame m.protected m.unprotected n.protected n.unprotected)
sign_countersigned kept signatures v m n = countersigned_as_written sign_elements kept signatures v (sign_fields m) (sign_fields n)

pub sign1_countersigns : SignaturesKeptAsReceived → WhenRead sign1 (λ m. EachCountersigns m.protected m.unprotected)
sign1_countersigns signatures v m = countersigned_when_read sign1_elements signatures v (sign1_fields m)

pub sign_countersigns : SignaturesKeptAsReceived → WhenRead sign (λ m. EachCountersigns m.protected m.unprotected)
sign_countersigns signatures v m = countersigned_when_read sign_elements signatures v (sign_fields m)
