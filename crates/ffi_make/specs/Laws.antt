-- The structure of a message's parts stays the same after the message is made, and after elements are added.
use Rattle.std.specs.Prelude.{◌≡◌, ⊤, ℕ, List, [], Option, Some}
use Rattle.coset.specs.Item.{Item, bytes, array, Items, no_items, item}
use Rattle.ffi_query.specs.declared.kind.Form as forms
use Rattle.ffi_query.specs.declared.kind.Kind as kinds
use Rattle.ffi_query.specs.declared.kind.Kind.TheVariants.{Sign, Encrypt0, Encrypt, Recipient}
use Rattle.ffi_query.specs.Kinds.{tag_of, without_tag}
use Rattle.ffi_query.specs.Places.{bytes_in, nth}
use Rattle.ffi_query.specs.Structures.{content_at, recipient_structure_in, structure_in}
use Rattle.ffi_make.specs.Members.{with_member, within_tag}
use Rattle.ffi_make.specs.Messages.{and_item, content_item, message}
use Rattle.ffi_make.specs.StructuresMade.{recipient_structure_made, structure_made}

-- The item without the tag of a message of this kind.
abbrev pub inside : kinds.Kind → Item → Item
inside k w = without_tag (tag_of k) w

-- x is the signed or authenticated payload: the content c that the message carries, or d if the payload is detached.
-- The structure of a ciphertext has no payload. A message with signers is left out, because each of its signers signs.
abbrev pub IsOver : kinds.Kind → Option (List ℕ) → Option (List ℕ) → List ℕ → Type 0
IsOver (Sign f) c d x = ⊥
IsOver (Encrypt0 f) c d x = ⊤
IsOver (Encrypt f) c d x = ⊤
IsOver k c d x = content_at (content_item c) d ≡ Some x

-- The structure y of the parts is the structure of the message w that is made from them.
abbrev pub StructureOfMade : Type 0
StructureOfMade =
    (k : kinds.Kind) (i : ℕ) (p : List ℕ) (u : Item) (c d : Option (List ℕ)) (s x aad : List ℕ) (w y : Item) → message k p u c s ≡ Some w → IsOver k c d x
    → structure_made k p [] aad x ≡ Some y
    → structure_in k i aad d (inside k w) ≡ Some y

-- COSE_Sign = [protected : bstr, unprotected, payload : bstr / nil, signatures]
abbrev pub signed_by : List ℕ → Item → Option (List ℕ) → Items → Item
signed_by p u c ms = array (item (bytes p) (item u (item (content_item c) (item (array ms) no_items))))

-- A message with signers is made without signatures.
abbrev pub MadeUnsigned : Type 0
MadeUnsigned =
    (f : forms.Form) (p : List ℕ) (u : Item) (c : Option (List ℕ)) (s : List ℕ) (w : Item) → message (Sign f) p u c s ≡ Some w
    → inside (Sign f) w ≡ signed_by p u c no_items

-- An added signature follows the others.
abbrev pub SignatureAdded : Type 0
SignatureAdded =
    (f : forms.Form) (p : List ℕ) (u m : Item) (c : Option (List ℕ)) (ms : Items)
    → with_member (Sign f) m (signed_by p u c ms) ≡ Some (signed_by p u c (and_item ms m))

-- A signer with the protected header q signs the structure of these parts.
abbrev pub StructureOfSigner : Type 0
StructureOfSigner =
    (f : forms.Form) (i : ℕ) (p q x aad : List ℕ) (u m : Item) (c d : Option (List ℕ)) (ms : Items) → nth i ms ≡ Some m → bytes_in 0 m ≡ Some q
    → content_at (content_item c) d ≡ Some x
    → structure_in (Sign f) i aad d (signed_by p u c ms) ≡ structure_made (Sign f) p q aad x

-- The structure of a recipient's header is the structure of the recipient w that is made from it.
abbrev pub RecipientStructureOfMade : Type 0
RecipientStructureOfMade =
    (h : kinds.Kind) (p : List ℕ) (u : Item) (c : Option (List ℕ)) (s aad : List ℕ) (w : Item) → message Recipient p u c s ≡ Some w
    → recipient_structure_in h aad (inside Recipient w) ≡ recipient_structure_made h p aad

-- An item w of any kind keeps its structure when an element is added.
abbrev pub StructureKept : Type 0
StructureKept =
    (k : kinds.Kind) (i : ℕ) (m w x y : Item) (aad : List ℕ) (d : Option (List ℕ)) → within_tag (with_member k m) w ≡ Some x
    → structure_in k i aad d (inside k w) ≡ Some y
    → structure_in k i aad d (inside k x) ≡ Some y

-- A recipient w keeps its structure when a nested recipient is added, whichever kind contains it.
abbrev pub RecipientStructureKept : Type 0
RecipientStructureKept =
    (h : kinds.Kind) (m w x y : Item) (aad : List ℕ) → within_tag (with_member Recipient m) w ≡ Some x
    → recipient_structure_in h aad (inside Recipient w) ≡ Some y
    → recipient_structure_in h aad (inside Recipient x) ≡ Some y
