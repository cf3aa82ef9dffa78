-- Messages, signatures and recipients, made from their parts (RFC 8152, sections 4.1, 4.2, 5.1, 5.2, 6.1 and 6.2).
use Rattle.std.specs.Prelude.{ℕ, List, [], ◌∷◌, Option, Some, None, Bool, true, false, if◌then◌else◌, Result}
use Rattle.coset.specs.Item.{Item, bytes, null, tag, array, dict, Items, no_items, item, no_pairs}
use Rattle.ffi_query.specs.declared.kind.Form as forms
use Rattle.ffi_query.specs.declared.kind.Form.TheVariants.{Plain, Tagged}
use Rattle.ffi_query.specs.declared.kind.Kind as kinds
use Rattle.ffi_query.specs.declared.kind.Kind.TheVariants.{Sign1, Sign, Mac0, Mac, Encrypt0, Encrypt, Signature}
use Rattle.ffi_query.specs.declared.refusal.Refusal as refusals
use Rattle.ffi_query.specs.Kinds.{tag_of}
use Rattle.ffi_query.specs.Parts.{has_headers}
use Rattle.ffi_make.specs.Given.{AnyFaults, IsAny}
use Rattle.ffi_make.specs.Makes.{MakesOf}

-- The kind has payload : bstr / nil, or ciphertext : bstr / nil.
abbrev pub has_content : kinds.Kind → Bool
has_content Signature = false
has_content k = has_headers k

-- The kind has signature : bstr, or tag : bstr.
abbrev pub has_proof : kinds.Kind → Bool
has_proof (Sign1 f) = true
has_proof (Mac0 f) = true
has_proof (Mac f) = true
has_proof Signature = true
has_proof k = false

-- The kind has signatures : [+ COSE_Signature], or recipients : [+ COSE_recipient], as its last element.
abbrev pub has_list : kinds.Kind → Bool
has_list (Sign f) = true
has_list (Mac f) = true
has_list (Encrypt f) = true
has_list k = false

abbrev pub is_given : {A : Type 0} → Option A → Bool
is_given None = false
is_given (Some x) = true

abbrev pub is_filled : List ℕ → Bool
is_filled [] = false
is_filled (x ∷ xs) = true

-- A part that is given has a place.
abbrev pub has_place : (is_there is_asked : Bool) → Bool
has_place true b = true
has_place false true = false
has_place false false = true

-- Items of kind k have two headers, and a place for the content c and the proof s if these are given.
abbrev pub has_places : kinds.Kind → Option (List ℕ) → List ℕ → Bool
has_places k c s =
    if has_place (has_content k) (is_given c) then (if has_place (has_proof k) (is_filled s) then has_headers k else false) else false

-- bstr / nil
abbrev pub content_item : Option (List ℕ) → Item
content_item None = null
content_item (Some c) = bytes c

-- One list of items after the other.
abbrev pub items_and : Items → Items → Items
items_and no_items ws = ws
items_and (item v vs) ws = item v (items_and vs ws)

-- The items with one more at the end.
abbrev pub and_item : Items → Item → Items
and_item vs v = items_and vs (item v no_items)

-- The same, if the bool is true.
abbrev pub and_place : Bool → Item → Items → Items
and_place b v vs = if b then and_item vs v else vs

-- [protected : bstr, unprotected, ? content : bstr / nil, ? proof : bstr, ? list : []], by the kind.
abbrev pub places : kinds.Kind → List ℕ → Item → Option (List ℕ) → List ℕ → Items
places k p u c s =
    and_place (has_list k) (array no_items)
    (and_place (has_proof k) (bytes s) (and_place (has_content k) (content_item c) (item (bytes p) (item u no_items))))

-- The tag that a message is written under.
abbrev pub tag_in_form : forms.Form → Option ℕ → Option ℕ
tag_in_form Tagged o = o
tag_in_form f o = None

abbrev pub form_of : kinds.Kind → forms.Form
form_of (Sign1 f) = f
form_of (Sign f) = f
form_of (Mac0 f) = f
form_of (Mac f) = f
form_of (Encrypt0 f) = f
form_of (Encrypt f) = f
form_of k = Plain

abbrev pub tag_written : kinds.Kind → Option ℕ
tag_written k = tag_in_form (form_of k) (tag_of k)

-- The item under a tag of this number.
abbrev pub in_tag : Option ℕ → Item → Item
in_tag None v = v
in_tag (Some n) v = tag n v

-- The item of kind k with this protected header, unprotected header, content and proof.
abbrev pub message : kinds.Kind → List ℕ → Item → Option (List ℕ) → List ℕ → Option Item
message k p u c s = if has_places k c s then Some (in_tag (tag_written k) (array (places k p u c s))) else None

-- The result of `make`: that item. The unprotected header is an empty map if there are no bytes.
abbrev pub MakesMessage : kinds.Kind → List ℕ → List ℕ → Option (List ℕ) → List ℕ → List ℕ → List ℕ → Result ℕ refusals.Refusal → Type 0
MakesMessage k p b c s old new r = MakesOf k (IsAny (dict no_pairs) b) (AnyFaults b) (λ u. message k p u c s) old new r
