-- Messages, as `coset_seen` lays them out.
use Rattle.std.specs.Prelude.{◌≡◌, ℕ, ℤ, List, [], Option, Some, None, Bool, true, false, ⊤}
use Rattle.coset_seen.specs.declared.kind.Kind as seen
use Rattle.coset_seen.specs.declared.kind.Kind.TheVariants as plain
use Rattle.coset_seen.specs.declared.message.Layout.{Layout}
use Rattle.coset_seen.specs.declared.message.KeyId.{KeyId}
use Rattle.coset_seen.specs.Elements.{laid_items}
use Rattle.coset_seen.specs.Layout.{IsLayout}
use Rattle.coset_seen.specs.Seen.{bytes_of}
use Rattle.coset.specs.Item.{Item, array}
use Rattle.ffi_query.specs.declared.view.Algorithm as algorithms
use Rattle.ffi_query.specs.declared.view.Algorithm.TheVariants as named
use Rattle.ffi_query.specs.declared.view.KeyIdPlace as places
use Rattle.ffi_query.specs.declared.view.KeyIdPlace.TheVariants as found
use Rattle.ffi_query.specs.declared.kind.Form as forms
use Rattle.ffi_query.specs.declared.kind.Form.TheVariants.{Plain, Tagged, Either}
use Rattle.ffi_query.specs.declared.kind.Kind as kinds
use Rattle.ffi_query.specs.declared.kind.Kind.TheVariants.{Sign1, Mac0, Mac, Encrypt0, Encrypt}
use Rattle.ffi_query.specs.Kinds.{IsOf}

-- The kind and the form of a message without a list of signatures.
abbrev pub kind_in : kinds.Kind → Option (seen.Kind × forms.Form)
kind_in (Sign1 f) = Some (plain.Sign1, f)
kind_in (Mac0 f) = Some (plain.Mac0, f)
kind_in (Encrypt0 f) = Some (plain.Encrypt0, f)
kind_in (Mac f) = Some (plain.Mac, f)
kind_in (Encrypt f) = Some (plain.Encrypt, f)
kind_in k = None

-- The form allows a message that is or isn't under its tag.
abbrev pub IsAllowed : forms.Form → Bool → Type 0
IsAllowed Plain t = t ≡ false
IsAllowed Tagged t = t ≡ true
IsAllowed Either t = ⊤

-- The bytes b may describe the message x, of kind k: its headers and its recipients may be invalid.
pub record IsLaidOf (k : kinds.Kind) (b : List ℕ) (x : Layout) : Type 0 where
  pub kind : seen.Kind
  pub form : forms.Form
  pub is_kind : kind_in k ≡ Some (kind, form)
  pub allowed : IsAllowed form x.seen.is_tagged
  pub lies : IsLayout kind b x

-- The bytes b describe the message x, of kind k. It has no crit.
pub record IsSeenOf (k : kinds.Kind) (b : List ℕ) (x : Layout) : Type 0 where
  pub laid : IsLaidOf k b x
  pub is_of : IsOf k b
  pub is_uncritical : x.is_critical ≡ false

-- The message without its tag.
abbrev pub seen_item : {k : kinds.Kind} {b : List ℕ} {x : Layout} → IsSeenOf k b x → Item
seen_item {x = x} h =
    let l = h.laid.lies in array (laid_items h.laid.kind x.seen.protected.bytes.now l.second (bytes_of x.seen.content) x.seen.proof.bytes.now l.recipients)

-- The algorithm of that number, if there is one. Otherwise it is a text if the bool is true.
abbrev pub algorithm_of : Option ℤ → Bool → algorithms.Algorithm
algorithm_of (Some n) t = named.Number n
algorithm_of None true = named.Text
algorithm_of None false = named.Absent

-- The header that has the key identifier, and its content. The content is empty if there is none.
abbrev pub place_by : Bool → places.KeyIdPlace
place_by true = found.Protected
place_by false = found.Unprotected

abbrev pub key_id_place : Option KeyId → places.KeyIdPlace
key_id_place None = found.Absent
key_id_place (Some i) = place_by i.is_protected

abbrev pub or_nothing : Option (List ℕ) → List ℕ
or_nothing None = []
or_nothing (Some t) = t

abbrev pub key_id_bytes : Option KeyId → List ℕ
key_id_bytes None = []
key_id_bytes (Some i) = i.part.bytes.now

-- The content that is signed or authenticated, from the carried one and the given one.
abbrev pub signed_of : Option (List ℕ) → Option (List ℕ) → Option (List ℕ)
signed_of (Some c) None = Some c
signed_of None (Some d) = Some d
signed_of (Some c) (Some d) = None
signed_of None None = None

-- The message carries a content, and another one is given.
abbrev pub both_given : Option (List ℕ) → Option (List ℕ) → Bool
both_given (Some c) (Some d) = true
both_given c d = false
