-- The parts borrowed from the input b to verify or decrypt a message.
use Rattle.std.specs.Prelude.{◌≡◌, ◌⊎◌, ◌++◌, ℕ, ℤ, List, [], Option, Some, None, false, codes, ⊤}
use Rattle.std.specs.Option.{option_copied}
use Rattle.coset.specs.Results.{IsOnlyItem}
use Rattle.coset.specs.Grammar.{IsItem}
use Rattle.coset.specs.Item.{Item, item, null}
use Rattle.coset.specs.Parts.{as_bytes}
use Rattle.ffi_query.specs.declared.kind.Kind as kinds
use Rattle.ffi_query.specs.declared.kind.Kind.TheVariants.{Sign1, Mac0, Mac, Encrypt0, Encrypt}
use Rattle.ffi_query.specs.declared.borrowed.Borrowed as declared
use Rattle.ffi_query.specs.declared.borrowed.Texts.{Texts}
use Rattle.ffi_query.specs.declared.located.Located.{Located}
use Rattle.ffi_query.specs.declared.located.Text.{Text}
use Rattle.ffi_query.specs.declared.view.Algorithm as algorithms
use Rattle.ffi_query.specs.declared.view.Algorithm.TheVariants as named
use Rattle.ffi_query.specs.declared.view.KeyIdPlace as places
use Rattle.ffi_query.specs.declared.view.KeyIdPlace.TheVariants as found
use Rattle.ffi_query.specs.declared.view.MessageView.{MessageView}
use Rattle.ffi_query.specs.Critical.{crit_label}
use Rattle.ffi_query.specs.Kinds.{IsItemOf, TellsTagOf, tag_of}
use Rattle.ffi_query.specs.Labels.{IsNumber, IsProtected, unprotected_value}
use Rattle.ffi_query.specs.Located.{IsTextIn, located_item}
use Rattle.ffi_query.specs.Places.{bytes_in, element}
use Rattle.ffi_query.specs.Structures.{content_at, is_given_twice, structure_of_one, structure_of_two}
use Rattle.ffi_query.specs.View.{IsViewOf, alg_label, kid_label, proof_in}

-- `Some`: the bytes are exactly this item. `None`: they are no item.
abbrev pub IsMapOf : List ℕ → Option Located → Type 0
IsMapOf p None = (m : Item) → IsItem p m → ⊥
IsMapOf p (Some l) = IsOnlyItem p (located_item l)

-- The algorithm of an item that begins with two headers.
abbrev pub KnowsAlgorithm : Item → algorithms.Algorithm → Type 0
KnowsAlgorithm v named.Absent = (w : Item) → IsProtected alg_label (bytes_in 0 v) w → ⊥
KnowsAlgorithm v (named.Number n) = (w : Item) × IsProtected alg_label (bytes_in 0 v) w × IsNumber w n
KnowsAlgorithm v named.Text = (w : Item) × IsProtected alg_label (bytes_in 0 v) w × ((n : ℤ) → IsNumber w n → ⊥)

-- The header of the item v that has the key identifier. t is the identifier's content.
abbrev pub KnowsKeyId : Item → places.KeyIdPlace → List ℕ → Type 0
KnowsKeyId v found.Absent t = ((w : Item) → IsProtected kid_label (bytes_in 0 v) w → ⊥) × (unprotected_value kid_label v ≡ None) × (t ≡ [])
KnowsKeyId v found.Protected t = (w : Item) × IsProtected kid_label (bytes_in 0 v) w × (as_bytes w ≡ Some t)
KnowsKeyId v found.Unprotected t =
    ((w : Item) → IsProtected kid_label (bytes_in 0 v) w → ⊥) × ((w : Item) × (unprotected_value kid_label v ≡ Some w) × (as_bytes w ≡ Some t))

-- The item has no critical labels.
abbrev pub HasNoCritical : Item → Type 0
HasNoCritical v = ((w : Item) → IsProtected crit_label (bytes_in 0 v) w → ⊥) × (unprotected_value crit_label v ≡ None)

-- t is the content of the byte string in the content's place v, or empty if v is nil.
abbrev pub IsAttached : Item → List ℕ → Type 0
IsAttached v t = (as_bytes v ≡ Some t) ⊎ ((v ≡ null) × (t ≡ []))

-- The structure of a message without signers, from its protected bytes and its content.
abbrev pub structure_by : kinds.Kind → List ℕ → List ℕ → Option (List ℕ) → Option Item
structure_by (Sign1 f) aad p c = structure_of_two (codes "Signature1") aad (Some p) c
structure_by (Mac0 f) aad p c = structure_of_two (codes "MAC0") aad (Some p) c
structure_by (Mac f) aad p c = structure_of_two (codes "MAC") aad (Some p) c
structure_by (Encrypt0 f) aad p c = structure_of_one (codes "Encrypt0") aad (Some p)
structure_by (Encrypt f) aad p c = structure_of_one (codes "Encrypt") aad (Some p)
structure_by k aad p c = None

-- If there is content, it is the content that is signed or authenticated.
abbrev pub IsSigned : Item → Option (List ℕ) → Option (List ℕ) → Type 0
IsSigned place d None = ⊤
IsSigned place d (Some c) = content_at place d ≡ Some c

-- The texts are those of the item v.
pub record AreTexts (k : kinds.Kind) (d : Option (List ℕ)) (b : List ℕ) (v : Item) (x : Texts) : Type 0 where
  pub place : Item
  pub is_protected : bytes_in 0 v ≡ Some x.protected.now
  pub is_algorithm : KnowsAlgorithm v x.algorithm
  pub is_place : element 2 v ≡ Some place
  pub is_uncritical : HasNoCritical v
  pub is_proof : proof_in k v ≡ Some x.proof.bytes.now
  pub proof_in_b : IsTextIn b x.proof
  pub is_content : IsAttached place x.content.bytes.now
  pub content_in_b : IsTextIn b x.content
  pub is_key_id : KnowsKeyId v x.key_id.place x.key_id.text.bytes.now
  pub key_id_in_b : IsTextIn b x.key_id.text
  pub is_signed : IsSigned place d (option_copied x.signed)

-- n is the view of the item v, of kind k, with these four texts.
pub record Says (k : kinds.Kind) (i : ℕ) (aad : List ℕ) (d : Option (List ℕ)) (ns : List ℤ) (v : Item) (n : MessageView)
    (s p c t : List ℕ) : Type 0 where
  pub text : List ℕ
  pub view : IsViewOf k i aad d ns v n text
  pub is_signed : view.signed ≡ s
  pub is_proof : view.proof ≡ p
  pub is_content : view.content ≡ c
  pub is_key_id : view.key_id ≡ t

-- x has the view of the item v. Its texts are in b, except for the structure.
pub record IsBorrowed (k : kinds.Kind) (i : ℕ) (aad : List ℕ) (d : Option (List ℕ)) (ns : List ℤ) (b : List ℕ) (v : Item)
    (x : declared.Borrowed) : Type 0 where
  pub says :
      Says k i aad d ns v x.view (x.structure.front.items ++ x.structure.end.now) x.proof.bytes.now x.content.bytes.now x.key_id.bytes.now
  pub proof_in_b : IsTextIn b x.proof
  pub content_in_b : IsTextIn b x.content
  pub key_id_in_b : IsTextIn b x.key_id

-- The bytes b are an item of kind k. x has the item's view, which says whether it is under the message's tag. The content
-- isn't given twice.
pub record IsBorrowedOf (k : kinds.Kind) (i : ℕ) (aad : List ℕ) (d : Option (List ℕ)) (ns : List ℤ) (b : List ℕ) (x : declared.Borrowed) : Type 0 where
  pub item : Item
  pub is_item : IsItemOf k b item
  pub lent : IsBorrowed k i aad d ns b item x
  pub is_tagged : TellsTagOf (tag_of k) b x.view.is_tagged
  pub is_once : is_given_twice k d item ≡ false

-- The four texts, one after another.
abbrev pub borrowed_text : declared.Borrowed → List ℕ
borrowed_text x = (x.structure.front.items ++ x.structure.end.now) ++ (x.proof.bytes.now ++ (x.content.bytes.now ++ x.key_id.bytes.now))
