-- Messages with a list whose elements are read each by itself.
use Rattle.std.specs.Prelude.{◌≡◌, ℕ, List, [], ◌∷◌, Option, Result, Vec, map, option_map}
use Rattle.std.specs.Global.{Global}
use Rattle.coset_value.specs.Item.{Item}
use Rattle.coset_value.specs.View.{value_item}
use Rattle.coset_value.specs.declared.value.Value.{Value}
use Rattle.coset_codec.specs.Alone.{IsReadAlone}
use Rattle.coset_codec.specs.Errors.{UnlessMemory}
use Rattle.coset_codec.specs.Results.{Describes, SliceFaults}
use Rattle.coset_codec.specs.Shape.{Shape, any, bstr, end, list_of, or_nil, ◌then◌}
use Rattle.coset_codec.specs.declared.error.CoseError.{CoseError}
use Rattle.coset_core.specs.Messages.{WithHeaders, with_headers}
use Rattle.coset_core.specs.Views.{header_view, protected_view}
use Rattle.coset_core.specs.declared.header.Header.{Header}
use Rattle.coset_core.specs.declared.protected_bstr.ProtectedBstr.{ProtectedBstr}
use Rattle.coset_recipient.specs.Encrypt.{EncryptView}
use Rattle.coset_sign.specs.Sign.{SignView}

-- content : bstr / nil, list : [* any]
abbrev pub WithList : Type 0
WithList = WithHeaders (Option (List ℕ) × (List Item × Unit {0}))

-- [Headers, content : bstr / nil, list : [* any]]
abbrev pub with_list : Shape WithList
with_list = with_headers (or_nil bstr then list_of any then end)

-- The results of reading the items, each by itself.
abbrev pub EachIsRead : {T A : Type 0} → Shape A → (T → A) → List Item → List (Result T CoseError) → Type 0
EachIsRead s view [] rs = rs ≡ []
EachIsRead {T} s view (v ∷ vs) rs =
    (r : Result T CoseError) × (qs : List (Result T CoseError)) × (rs ≡ r ∷ qs) × IsReadAlone s view v r × EachIsRead s view vs qs

-- The bytes are a message with a list. The parts besides the list are these, for any list, and rs are the results of
-- reading its elements.
abbrev pub AreRead : {T A : Type 0} → Shape A → (T → A) → List ℕ → (List Item → WithList) → List (Result T CoseError) → Type 0
AreRead s view b parts rs = (vs : List Item) × Describes with_list b (parts vs) × EachIsRead s view vs rs

-- The error names a fault in bytes that aren't a message with a list.
abbrev pub IsNoList : List ℕ → CoseError → Type 0
IsNoList b e = UnlessMemory e (SliceFaults with_list b)

-- The parts of a message besides its list.
abbrev pub sign_without : SignView → List Item → WithList
sign_without m vs = (m.protected, (m.unprotected, (m.payload, (vs, tt))))

abbrev pub encrypt_without : EncryptView → List Item → WithList
encrypt_without m vs = (m.protected, (m.unprotected, (m.ciphertext, (vs, tt))))

-- The view of the parts of a message with a list, as they are read.
abbrev pub list_view : ProtectedBstr × (Header × (Option (Vec ℕ Global) × (Vec Value Global × Unit {0}))) → WithList
list_view p = (protected_view p.0.0, (header_view p.1.0, (option_map (λ b. b.items) p.1.1.0, (map value_item p.1.1.1.0.items, tt))))
