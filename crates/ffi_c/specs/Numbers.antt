-- The kinds, parts and maps that numbers name.
use Rattle.std.specs.Prelude.{◌==◌, ◌%◌, ◌-◌, ℕ, ℤ, pos, List, [], ◌∷◌, Option, Some, None, Bool, true, false, if◌then◌else◌}
use Rattle.std.specs.Ordering.{int_eq}
use Rattle.coset.specs.Shape.{both}
use Rattle.coset_label.specs.declared.ordering.CborOrdering.{CborOrdering}
use Rattle.coset_label.specs.declared.ordering.CborOrdering.TheVariants.{Lexicographic, LengthFirstLexicographic}
use Rattle.ffi_query.specs.declared.countersign.Countersignature as countersignatures
use Rattle.ffi_query.specs.declared.countersign.Countersignature.TheVariants.{Full, Abbreviated, FullV2, AbbreviatedV2}
use Rattle.ffi_query.specs.declared.kind.Form as forms
use Rattle.ffi_query.specs.declared.kind.Form.TheVariants.{Plain, Tagged, Either}
use Rattle.ffi_query.specs.declared.kind.Kind as kinds
use Rattle.ffi_query.specs.declared.kind.Kind.TheVariants.{Sign1, Sign, Mac0, Mac, Encrypt0, Encrypt, Signature, Recipient}
use Rattle.ffi_query.specs.declared.kind.Kind.TheVariants.{Header, Key, KeySet, Claims, Any, KdfContext}
use Rattle.ffi_query.specs.declared.label.Map as maps
use Rattle.ffi_query.specs.declared.label.Map.TheVariants as of
use Rattle.ffi_query.specs.declared.part.Part as parts
use Rattle.ffi_query.specs.declared.part.Part.TheVariants.{Protected, Payload, Ciphertext, Proof}

-- The form of a message, by the number added to its kind.
abbrev pub form_of : ℕ → Option forms.Form
form_of n = if n == 0 then Some Plain else (if n == 0x100 then Some Tagged else (if n == 0x200 then Some Either else None))

-- The message with this number and form.
abbrev pub message_of : ℕ → forms.Form → Option kinds.Kind
message_of n f =
    if n == 1 then Some (Sign1 f) else
    (if n == 2 then Some (Sign f) else
    (if n == 3 then Some (Mac0 f) else
    (if n == 4 then Some (Mac f) else
    (if n == 5 then Some (Encrypt0 f) else
    (if n == 6 then Some (Encrypt f) else None)))))

-- The kind with this number, other than a message.
abbrev pub other_of : ℕ → Option kinds.Kind
other_of n =
    if n == 7 then Some Signature else
    (if n == 8 then Some Recipient else
    (if n == 9 then Some Header else
    (if n == 10 then Some Key else
    (if n == 11 then Some KeySet else
    (if n == 12 then Some Claims else
    (if n == 13 then Some Any else
    (if n == 14 then Some KdfContext else None)))))))

-- The message with this number, if there is a form.
abbrev pub message_in : ℕ → Option forms.Form → Option kinds.Kind
message_in n None = None
message_in n (Some f) = message_of n f

-- The first option if it is some, else the second.
abbrev pub or_else : {A : Type 0} → Option A → Option A → Option A
or_else (Some x) o = Some x
or_else None o = o

-- The kind with this number. The lowest 8 bits of a message's number are its kind, and the others its form.
abbrev pub kind_of : ℕ → Option kinds.Kind
kind_of n = or_else (other_of n) (message_in (n % 0x100) (form_of (n - n % 0x100)))

-- The kind, if it is a message with one signature.
abbrev pub only_sign1 : Option kinds.Kind → Option kinds.Kind
only_sign1 (Some (Sign1 f)) = Some (Sign1 f)
only_sign1 o = None

-- The same, by the kind's number.
abbrev pub sign1_of : ℕ → Option kinds.Kind
sign1_of n = only_sign1 (kind_of n)

-- Bytes are given, although the flag n is 0.
abbrev pub is_some : List ℕ → Bool
is_some [] = false
is_some (x ∷ xs) = true

abbrev pub is_unflagged : ℕ → List ℕ → Bool
is_unflagged n b = if n == 0 then is_some b else false

-- The kind with this number, unless content is given although the flag n is 0.
abbrev pub content_query : ℕ → ℕ → List ℕ → Option kinds.Kind
content_query k n b = if is_unflagged n b then None else kind_of k

abbrev pub sign1_query : ℕ → ℕ → List ℕ → Option kinds.Kind
sign1_query k n b = if is_unflagged n b then None else sign1_of k

-- The kind, if it is a message with signers, in any form.
abbrev pub only_sign : Option kinds.Kind → Option kinds.Kind
only_sign (Some (Sign f)) = Some (Sign f)
only_sign o = None

-- The kind with this number, unless content is given although the flag n is 0. An index i other than 0 has no meaning
-- for a kind without signers.
abbrev pub signer_query : ℕ → ℕ → ℕ → List ℕ → Option kinds.Kind
signer_query k i n b = if i == 0 then content_query k n b else only_sign (content_query k n b)

-- The countersignature with this label (RFC 8152, section 4.5 and appendix A.2; RFC 9338, section 2).
abbrev pub countersignature_of : ℤ → Option countersignatures.Countersignature
countersignature_of l =
    if int_eq l (pos 7) then Some Full else
    (if int_eq l (pos 9) then Some Abbreviated else
    (if int_eq l (pos 11) then Some FullV2 else
    (if int_eq l (pos 12) then Some AbbreviatedV2 else None)))

-- The kind and the countersignature, if both are valid.
abbrev pub countersign_query : ℕ → ℤ → ℕ → List ℕ → Option (kinds.Kind × countersignatures.Countersignature)
countersign_query k l n b = both (λ x y. (x, y)) (content_query k n b) (countersignature_of l)

-- The part with this number.
abbrev pub part_of : ℕ → Option parts.Part
part_of n =
    if n == 1 then Some Protected else
    (if n == 2 then Some Payload else
    (if n == 3 then Some Ciphertext else
    (if n == 4 then Some Proof else None)))

-- The map with this number.
abbrev pub map_of : ℕ → Option maps.Map
map_of n = if n == 1 then Some of.Protected else (if n == 2 then Some of.Unprotected else (if n == 3 then Some of.Item else None))

-- The kind and the part, or the kind and the map, if both numbers are valid.
abbrev pub part_query : ℕ → ℕ → Option (kinds.Kind × parts.Part)
part_query k p = both (λ x y. (x, y)) (kind_of k) (part_of p)

abbrev pub map_query : ℕ → ℕ → Option (kinds.Kind × maps.Map)
map_query k m = both (λ x y. (x, y)) (kind_of k) (map_of m)

-- The bytes, if the flag n isn't 0.
abbrev pub bytes_if : ℕ → List ℕ → Option (List ℕ)
bytes_if n b = if n == 0 then None else Some b

-- The order of labels with this number.
abbrev pub order_of : ℕ → Option CborOrdering
order_of n = if n == 1 then Some Lexicographic else (if n == 2 then Some LengthFirstLexicographic else None)
