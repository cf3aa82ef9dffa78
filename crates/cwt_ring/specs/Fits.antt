-- Which key fits a layer, and by which nonce.
use Rattle.std.specs.Prelude.{◌==◌, ◌&&◌, ◌||◌, ℕ, ℤ, nat_le, List, [], ◌∷◌, length, Option, Some, None, Bool, false, take, if◌then◌else◌}
use Rattle.std.specs.Cmp.Lexicographic.{pointwise}
use Rattle.std.specs.List.{list_any}
use Rattle.std.specs.Option.{option_and_then, option_map_or}
use Rattle.std.specs.Ordering.{int_eq}
use Rattle.coset.specs.CoseKey.{CoseKey}
use Rattle.coset.specs.Keys.{KeyView, key_view}
use Rattle.coset.specs.LabelData.{LabelView, number, same_label, RegisteredLabelView}
use Rattle.coset.specs.Registry.{first_numbered}
use Rattle.coset_iana.specs.Algorithm as algorithms
use Rattle.coset_iana.specs.KeyOperation as operations
use Rattle.coset_iana.specs.declared.algorithms.TheConstants.{ALGORITHMS}
use Rattle.coset_iana.specs.declared.keys.KeyOperation.{KeyOperation}
use Rattle.coset_iana.specs.declared.keys.KeyOperation.TheVariants.{Verify, MacVerify, Decrypt, UnwrapKey}
use Rattle.cwt_keys.specs.Sealed.{SealView, algorithm_of, assigned_in, iv_of, key_id_of, partial_iv_of}
use Rattle.cwt_keys.specs.Table.{of_form, row_for}
use Rattle.cwt_keys.specs.declared.form.Form.{Form}
use Rattle.cwt_keys.specs.declared.form.Form.TheVariants.{Sign1, Mac0, Encrypt0, Sign, Mac, Encrypt}
use Rattle.cwt_keys.specs.declared.table.Row.{Row}
use Rattle.cwt_ring.specs.Kinds.{is_of_kind}
use Rattle.cwt_ring.specs.Nonce.{nonce_of}
use Rattle.cwt_ring.specs.Signatures.{has_signature_length}
use Rattle.cwt_ring.specs.declared.nonce.Nonce.{Nonce}

-- The row of the algorithm with this number, if it has one.
abbrev pub row_numbered : ℤ → Option Row
row_numbered a = option_and_then row_for (first_numbered algorithms.number ALGORITHMS a)

-- The key is for this algorithm alone (RFC 8725, section 3.1; RFC 9052, section 7.1, "alg").
abbrev pub is_key_for : ℤ → Option RegisteredLabelView → Bool
is_key_for a alg = option_map_or (int_eq a) (assigned_in alg) false

-- The operations for which a layer needs the key (RFC 9053, sections 2.1, 3.1 and 4.1).
abbrev pub operations_for : Form → List KeyOperation
operations_for Sign1 = Verify ∷ []
operations_for Mac0 = MacVerify ∷ []
operations_for Encrypt0 = Decrypt ∷ UnwrapKey ∷ []
operations_for Sign = Verify ∷ []
operations_for Mac = MacVerify ∷ []
operations_for Encrypt = Decrypt ∷ UnwrapKey ∷ []

-- The operation is one of these.
abbrev pub has_operation : List LabelView → KeyOperation → Bool
has_operation ops o = list_any (same_label (number (operations.number o))) ops

-- The key lists no operations, or one of those (RFC 9052, section 7.1, "key_ops").
abbrev pub permits : Form → List LabelView → Bool
permits f ops = length ops == 0 || list_any (has_operation ops) (operations_for f)

-- A signature has a length that the key gives. A MAC has exactly the row's length (RFC 9053, sections 3.1 and 3.2), and a
-- ciphertext ends with a tag of that length (section 4).
abbrev pub has_proof_length : Form → Row → KeyView → List ℕ → Bool
has_proof_length Sign1 r k proof = has_signature_length r.keys k proof
has_proof_length Mac0 r k proof = length proof == r.tag
has_proof_length Encrypt0 r k proof = nat_le r.tag (length proof)
has_proof_length Sign r k proof = has_signature_length r.keys k proof
has_proof_length Mac r k proof = length proof == r.tag
has_proof_length Encrypt r k proof = nat_le r.tag (length proof)

-- The layer names no key, or the one with this identifier (RFC 9052, section 3.1, "kid").
abbrev pub may_be : List ℕ → List ℕ → Bool
may_be named id = length named == 0 || pointwise ◌==◌ id named

-- The key and the layer are as the row requires.
abbrev pub suits : Row → KeyView → SealView → Bool
suits r k s = is_of_kind r.keys k && permits r.form k.key_ops && has_proof_length r.form r k s.proof

-- The nonce by which the key opens the layer. A signature and a MAC have an empty one.
abbrev pub nonce_by : Form → ℕ → KeyView → SealView → Option (List ℕ)
nonce_by Encrypt0 n k s = nonce_of (iv_of s) (partial_iv_of s) k.base_iv n
nonce_by Encrypt n k s = nonce_of (iv_of s) (partial_iv_of s) k.base_iv n
nonce_by f n k s = Some []

-- The same, if the key and the layer are for this algorithm and as its row requires.
abbrev pub fits_by : ℤ → Row → KeyView → SealView → Option (List ℕ)
fits_by a r k s = if is_key_for a k.alg && suits r k s then nonce_by r.form r.nonce k s else None

-- The same for the layer's algorithm. It must have a row, of the layer's form.
abbrev pub fits_algorithm : KeyView → SealView → Option (List ℕ)
fits_algorithm k s = option_and_then (λ a. option_and_then (λ r. fits_by a r k s) (of_form s.form (row_numbered a))) (algorithm_of s)

-- The nonce by which the key fits the layer, or `None` if it doesn't fit, or if the layer names another key.
abbrev pub fits : KeyView → SealView → Option (List ℕ)
fits k s = if may_be (key_id_of s) k.key_id then fits_algorithm k s else None

abbrev pub nonce_view : Nonce → List ℕ
nonce_view n = take n.len n.bytes

-- A key that fits, and the nonce by which it does.
pub record Fitted : Type 0 where
  pub key : KeyView
  pub nonce : List ℕ

abbrev pub fitted : CoseKey → Nonce → Fitted
fitted k n = record { key = key_view k; nonce = nonce_view n }
