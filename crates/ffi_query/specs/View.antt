-- The result of a call that says everything about a message (RFC 8152, sections 3.1 and 4 to 6).
use Rattle.std.specs.Prelude.{◌≡◌, ◌⊎◌, ℕ, ℤ, pos, List, [], ◌++◌, length, Option, Some, None, true, false}
use Rattle.coset.specs.Item.{Item}
use Rattle.coset.specs.LabelData.{LabelView, number}
use Rattle.ffi_query.specs.declared.kind.Kind as kinds
use Rattle.ffi_query.specs.declared.kind.Kind.TheVariants.{Sign, Signature}
use Rattle.ffi_query.specs.declared.label.Map as maps
use Rattle.ffi_query.specs.declared.label.Map.TheVariants as of
use Rattle.ffi_query.specs.declared.part.Part.TheVariants.{Proof}
use Rattle.ffi_query.specs.declared.refusal.Refusal as refusals
use Rattle.ffi_query.specs.declared.refusal.Refusal.TheVariants.{Absent, Misuse}
use Rattle.ffi_query.specs.declared.view.Algorithm as algorithms
use Rattle.ffi_query.specs.declared.view.Algorithm.TheVariants as named
use Rattle.ffi_query.specs.declared.view.KeyIdPlace as places
use Rattle.ffi_query.specs.declared.view.KeyIdPlace.TheVariants as found
use Rattle.ffi_query.specs.declared.view.MessageView.{MessageView}
use Rattle.ffi_query.specs.Critical.{IsCriticalOf}
use Rattle.ffi_query.specs.Kinds.{TellsTagOf, tag_of}
use Rattle.ffi_query.specs.Labels.{IsNumber, IsNumberOf, IsStringOf, IsUnder}
use Rattle.ffi_query.specs.Parts.{IsPart, content_part, place_of}
use Rattle.ffi_query.specs.Places.{bytes_in, member_at}
use Rattle.ffi_query.specs.Structures.{IsStructure, is_given_twice}

-- The labels alg and kid (section 3.1, table 2).
abbrev pub alg_label : LabelView
alg_label = number (pos 1)

abbrev pub kid_label : LabelView
kid_label = number (pos 4)

-- The algorithm that w, the value of alg, names. It is a number if w is an integer in the range of `i64`, else a text.
abbrev pub IsAlgorithm : Item → algorithms.Algorithm → Type 0
IsAlgorithm w named.Absent = ⊥
IsAlgorithm w (named.Number n) = IsNumber w n
IsAlgorithm w named.Text = (n : ℤ) → IsNumber w n → ⊥

-- The algorithm that the protected header of the item v names. `Absent`: the header has no alg.
abbrev pub HasAlgorithm : kinds.Kind → Item → algorithms.Algorithm → Type 0
HasAlgorithm k v named.Absent = (w : Item) → IsUnder k of.Protected alg_label v w → ⊥
HasAlgorithm k v (named.Number n) = IsNumberOf k of.Protected alg_label v n
HasAlgorithm k v named.Text = (w : Item) × IsUnder k of.Protected alg_label v w × IsAlgorithm w named.Text

-- That header of the item v has no string under kid.
abbrev pub HasNoKeyId : kinds.Kind → maps.Map → Item → Type 0
HasNoKeyId k m v = (t : List ℕ) → IsStringOf k m kid_label v t → ⊥

-- The header that has the key identifier. t is the identifier's content: from the protected header, else from the
-- unprotected header, else empty.
abbrev pub IsKeyId : kinds.Kind → Item → places.KeyIdPlace → List ℕ → Type 0
IsKeyId k v found.Absent t = HasNoKeyId k of.Protected v × HasNoKeyId k of.Unprotected v × (t ≡ [])
IsKeyId k v found.Protected t = IsStringOf k of.Protected kid_label v t
IsKeyId k v found.Unprotected t = HasNoKeyId k of.Protected v × IsStringOf k of.Unprotected kid_label v t

-- The item that names the algorithm and the key: the signer at index i, or the message v itself if it has no signers.
abbrev pub bearer : kinds.Kind → ℕ → Item → Option Item
bearer (Sign f) i v = member_at (Sign f) i v
bearer k i v = Some v

abbrev pub kind_of_bearer : kinds.Kind → kinds.Kind
kind_of_bearer (Sign f) = Signature
kind_of_bearer k = k

-- The signature or the tag. It is empty for items of a kind without either.
abbrev pub proof_at : Option ℕ → Item → Option (List ℕ)
proof_at None v = Some []
proof_at (Some n) v = bytes_in n v

abbrev pub proof_in : kinds.Kind → Item → Option (List ℕ)
proof_in k v = proof_at (place_of Proof k) v

-- t is the content that the item v carries, or empty if it carries none.
abbrev pub IsContent : kinds.Kind → Item → List ℕ → Type 0
IsContent k v t = IsPart k (content_part k) v t ⊎ (((s : List ℕ) → IsPart k (content_part k) v s → ⊥) × (t ≡ []))

-- n is the view of the item v, of kind k. t has its four texts, one after another. ns are the labels that the caller
-- understands.
-- - The structure that is signed by the signer at index i, authenticated, or goes with the ciphertext. It is over aad,
--   and over d if the payload is detached.
-- - The signature or the tag.
-- - The content that the item carries.
-- - The key identifier.
pub record IsViewOf (k : kinds.Kind) (i : ℕ) (aad : List ℕ) (d : Option (List ℕ)) (ns : List ℤ) (v : Item) (n : MessageView)
    (t : List ℕ) : Type 0 where
  pub signer : Item
  pub signed : List ℕ
  pub proof : List ℕ
  pub content : List ℕ
  pub key_id : List ℕ
  pub is_signed : IsStructure k i aad d v signed
  pub is_signer : bearer k i v ≡ Some signer
  pub is_proof : proof_in (kind_of_bearer k) signer ≡ Some proof
  pub is_content : IsContent k v content
  pub is_key_id : IsKeyId (kind_of_bearer k) signer n.key_id_place key_id
  pub is_text : t ≡ signed ++ (proof ++ (content ++ key_id))
  pub is_algorithm : HasAlgorithm (kind_of_bearer k) signer n.algorithm
  pub is_critical : IsCriticalOf k ns v signer n.has_critical n.is_understood
  pub structure_len : n.structure_len ≡ length signed
  pub proof_len : n.proof_len ≡ length proof
  pub content_len : n.content_len ≡ length content
  pub key_id_len : n.key_id_len ≡ length key_id
  pub len : n.len ≡ length t

-- The result of `message_view` for the bytes b, which are the message v of kind k. It is the view, which says whether
-- the bytes are under the message's tag (section 2, table 1), and the texts. The content isn't given twice.
abbrev pub IsMessageView :
    kinds.Kind → ℕ → List ℕ → Option (List ℕ) → List ℤ → List ℕ → Item → MessageView → List ℕ → Type 0
IsMessageView k i aad d ns b v n t = IsViewOf k i aad d ns v n t × TellsTagOf (tag_of k) b n.is_tagged × (is_given_twice k d v ≡ false)

-- The reason why there is no view. `Misuse`: a content is given, and the message carries another. `Absent`: the message
-- has no structure, no such signer, or no signature or tag.
abbrev pub HasNoView : kinds.Kind → ℕ → List ℕ → Option (List ℕ) → List ℤ → Item → refusals.Refusal → Type 0
HasNoView k i aad d ns v Misuse = is_given_twice k d v ≡ true
HasNoView k i aad d ns v Absent = (is_given_twice k d v ≡ false) × ((n : MessageView) (t : List ℕ) → IsViewOf k i aad d ns v n t → ⊥)
HasNoView k i aad d ns v r = ⊥
