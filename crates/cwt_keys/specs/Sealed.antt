-- One layer of a token, as keys receive it.
use Rattle.std.specs.Prelude.{ℕ, ℤ, List, [], ◌∷◌, Option, Some, None, option_map}
use Rattle.coset.specs.Headers.{HeaderView, ProtectedView, fields_in}
use Rattle.coset.specs.LabelData.{RegisteredLabelView, assigned}
use Rattle.coset.specs.Views.{header_view, protected_view}
use Rattle.cwt_keys.specs.declared.form.Form.{Form}
use Rattle.cwt_keys.specs.declared.sealed.Sealed.{Sealed}

-- The view of the parts that keys receive: the form, both headers, the signature, MAC or ciphertext, its structure, and
-- the unprotected header of the recipient. The protected header has the bytes as they were received. The headers of a
-- COSE_Sign are those of one signature.
pub record SealView : Type 0 where
  pub form : Form
  pub protected : ProtectedView
  pub unprotected : HeaderView
  pub proof : List ℕ
  pub structure : List ℕ
  pub recipient : Option HeaderView

-- These parts. The recipient is its unprotected header, if the layer's form has one.
abbrev pub parts : Form → ProtectedView → HeaderView → List ℕ → List ℕ → Option HeaderView → SealView
parts form protected unprotected proof structure recipient = record {
  form = form;
  protected = protected;
  unprotected = unprotected;
  proof = proof;
  structure = structure;
  recipient = recipient;
}

abbrev pub seal_view : Sealed → SealView
seal_view s = record {
  form = s.form;
  protected = protected_view s.protected.now;
  unprotected = header_view s.unprotected.now;
  proof = s.proof.now;
  structure = s.structure.now;
  recipient = option_map (λ h. header_view h.now) s.recipient;
}

-- The number of an algorithm that IANA assigned.
abbrev pub assigned_in : Option RegisteredLabelView → Option ℤ
assigned_in (Some (assigned i)) = Some i
assigned_in a = None

-- The number of the algorithm that the protected header names, if IANA assigned it.
abbrev pub algorithm_of : SealView → Option ℤ
algorithm_of s = assigned_in (fields_in s.protected.header).alg

-- The first list, or the second one if the first is empty.
abbrev pub first_nonempty : List ℕ → List ℕ → List ℕ
first_nonempty [] others = others
first_nonempty (b ∷ bs) others = b ∷ bs

-- The key identifier of the recipient. If there is none, that of the protected header, or if that has none, of the
-- unprotected one (RFC 8152, section 3.1).
abbrev pub key_id_by : Option HeaderView → SealView → List ℕ
key_id_by (Some recipient) s = (fields_in recipient).key_id
key_id_by None s = first_nonempty (fields_in s.protected.header).key_id (fields_in s.unprotected).key_id

abbrev pub key_id_of : SealView → List ℕ
key_id_of s = key_id_by s.recipient s

-- The IV and the Partial IV of the protected header, or if that has none, of the unprotected one (RFC 8152, section 3.1).

abbrev pub iv_of : SealView → List ℕ
iv_of s = first_nonempty (fields_in s.protected.header).iv (fields_in s.unprotected).iv

abbrev pub partial_iv_of : SealView → List ℕ
partial_iv_of s = first_nonempty (fields_in s.protected.header).partial_iv (fields_in s.unprotected).partial_iv
