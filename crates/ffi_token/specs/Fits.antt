-- Which key fits a layer, by the layer's parts.
use Rattle.std.specs.Prelude.{◌≡◌, ℕ, ℤ, List, [], Option, Some, None, Result, Ok, Err}
use Rattle.coset.specs.Fields.{empty_fields}
use Rattle.coset.specs.Headers.{HeaderView, empty_header, header_of, no_signatures}
use Rattle.coset.specs.Keys.{KeyView, key}
use Rattle.coset.specs.Results.{Describes, IsRefused}
use Rattle.cwt_keys.specs.Sealed.{SealView}
use Rattle.cwt_keys.specs.declared.form.Form.{Form}
use Rattle.cwt_ring.specs.Fits.{fits}
use Rattle.ffi_query.specs.Results.{Puts}
use Rattle.ffi_query.specs.declared.refusal.Refusal as refusals
use Rattle.ffi_query.specs.declared.refusal.Refusal.TheVariants.{Short, Cose}
use Rattle.ffi_token.specs.Rules.{algorithm_named}
use Rattle.ffi_token.specs.declared.fit.Parts.{Parts}

-- The view of a layer's parts.
pub record PartsView : Type 0 where
  pub form : Form
  pub algorithm : ℤ
  pub key_id : List ℕ
  pub iv : List ℕ
  pub partial_iv : List ℕ
  pub proof : List ℕ

abbrev pub parts_view : Parts → PartsView
parts_view p = record {
  form = p.form;
  algorithm = p.algorithm;
  key_id = p.key_id.now;
  iv = p.iv.now;
  partial_iv = p.partial_iv.now;
  proof = p.proof.now;
}

-- The header that has these parts, and nothing else.
abbrev pub header_with : PartsView → HeaderView
header_with p = header_of (record empty_fields {
  alg = Some (algorithm_named p.algorithm);
  key_id = p.key_id;
  iv = p.iv;
  partial_iv = p.partial_iv;
}) no_signatures no_signatures

-- A layer that has these parts, and nothing else.
abbrev pub layer_with : PartsView → SealView
layer_with p = record {
  form = p.form;
  protected = record { original = None; header = header_with p };
  unprotected = empty_header;
  proof = p.proof;
  structure = [];
  recipient = None;
}

-- The nonce by which the key fits such a layer, or `None` if it doesn't fit.
abbrev pub nonce_for : KeyView → PartsView → Option (List ℕ)
nonce_for k p = fits k (layer_with p)

-- The result of the question whether the bytes b are a key that fits such a layer. The nonce is at the front of the
-- memory, or it doesn't fit into it; or the key doesn't fit the layer; or the bytes are no key.
abbrev pub ReturnsFit : List ℕ → PartsView → List ℕ → List ℕ → Result (Option ℕ) refusals.Refusal → Type 0
ReturnsFit b p old new (Ok (Some n)) = (k : KeyView) × Describes key b k × ((t : List ℕ) × (nonce_for k p ≡ Some t) × Puts t old new (Ok n))
ReturnsFit b p old new (Ok None) = (k : KeyView) × Describes key b k × (nonce_for k p ≡ None) × (new ≡ old)
ReturnsFit b p old new (Err (Short n)) =
    (k : KeyView) × Describes key b k × ((t : List ℕ) × (nonce_for k p ≡ Some t) × Puts t old new (Err (Short n)))
ReturnsFit b p old new (Err (Cose e)) = IsRefused key b e × (new ≡ old)
ReturnsFit b p old new (Err r) = ⊥
