-- Kinds of items, and which bytes are an item of one.
use Rattle.std.specs.Prelude.{◌≡◌, ◌==◌, ℕ, List, Option, Some, None, Bool, false, true, Result, Ok, Err}
use Rattle.coset.specs.Item.{Item, tag}
use Rattle.coset.specs.Grammar.{IsItem}
use Rattle.coset.specs.CoseError.{CoseError}
use Rattle.coset.specs.Results.{Describes, DescribesNothing, SliceFaults}
use Rattle.coset.specs.Errors.{UnlessMemory}
use Rattle.coset.specs.Shape.{Shape, any, tagged}
use Rattle.coset.specs.PerhapsTagged.{perhaps_tagged, untagged}
use Rattle.coset.specs.Headers.{HeaderView, SignatureView, header, signature}
use Rattle.coset.specs.Sign1.{Sign1View, sign1}
use Rattle.coset.specs.Sign.{SignView, sign}
use Rattle.coset.specs.Mac0.{Mac0View, mac0}
use Rattle.coset.specs.Mac.{MacView, mac}
use Rattle.coset.specs.Encrypt0.{Encrypt0View, encrypt0}
use Rattle.coset.specs.Encrypt.{EncryptView, encrypt}
use Rattle.coset.specs.Recipient.{RecipientView, recipient}
use Rattle.coset.specs.Keys.{KeyView, key, key_set}
use Rattle.coset.specs.Claims.{ClaimsView, claims}
use Rattle.coset.specs.Context.{ContextView, context}
use Rattle.ffi_query.specs.declared.kind.Form as forms
use Rattle.ffi_query.specs.declared.kind.Form.TheVariants.{Plain, Tagged, Either}
use Rattle.ffi_query.specs.declared.kind.Kind as kinds
use Rattle.ffi_query.specs.declared.kind.Kind.TheVariants.{Sign1, Sign, Mac0, Mac, Encrypt0, Encrypt, Signature, Recipient}
use Rattle.ffi_query.specs.declared.kind.Kind.TheVariants.{Header, Key, KeySet, Claims, Any, KdfContext}

-- The shape of messages in a form. n is the number of their tag, and s their shape without it (RFC 8152, section 2).
abbrev pub in_form : {A : Type 0} → forms.Form → ℕ → Shape A → Shape A
in_form Plain n s = s
in_form Tagged n s = tagged n s
in_form Either n s = perhaps_tagged n s

-- P holds for the shape of items of this kind.
abbrev pub HoldsOf : kinds.Kind → ((A : Type 0) → Shape A → Type 0) → Type 0
HoldsOf (Sign1 f) P = P Sign1View (in_form f 18 sign1)
HoldsOf (Sign f) P = P SignView (in_form f 98 sign)
HoldsOf (Mac0 f) P = P Mac0View (in_form f 17 mac0)
HoldsOf (Mac f) P = P MacView (in_form f 97 mac)
HoldsOf (Encrypt0 f) P = P Encrypt0View (in_form f 16 encrypt0)
HoldsOf (Encrypt f) P = P EncryptView (in_form f 96 encrypt)
HoldsOf Signature P = P SignatureView signature
HoldsOf Recipient P = P RecipientView recipient
HoldsOf Header P = P HeaderView header
HoldsOf Key P = P KeyView key
HoldsOf KeySet P = P (List KeyView) key_set
HoldsOf Claims P = P ClaimsView claims
HoldsOf Any P = P Item any
HoldsOf KdfContext P = P ContextView context

-- `Ok`: the bytes describe a value. `Err`: they describe none and the fault is in them, unless it is `OutOfMemory`.
abbrev pub ChecksAs : {A : Type 0} → Shape A → List ℕ → Result (Unit {0}) CoseError → Type 0
ChecksAs {A} s b (Ok x) = (x : A) × Describes s b x
ChecksAs s b (Err e) = UnlessMemory e (λ f. SliceFaults s b f × DescribesNothing s b)

-- The same for the shape of a kind.
abbrev pub Checks : kinds.Kind → List ℕ → Result (Unit {0}) CoseError → Type 0
Checks k b r = HoldsOf k (λ A s. ChecksAs s b r)

-- The bytes are an item of kind k.
abbrev pub IsOf : kinds.Kind → List ℕ → Type 0
IsOf k b = HoldsOf k (λ A s. (x : A) × Describes s b x)

-- The bytes are refused as an item of kind k. They are none and the fault is in them, unless it is `OutOfMemory`.
abbrev pub IsRefused : kinds.Kind → List ℕ → CoseError → Type 0
IsRefused k b e = HoldsOf k (λ A s. UnlessMemory e (λ f. SliceFaults s b f × DescribesNothing s b))

-- The item is a tag of this number.
abbrev pub is_under : ℕ → Item → Bool
is_under n (tag t v) = t == n
is_under n v = false

-- The item is a tag of this number, if there is a number.
abbrev pub is_under_some : Option ℕ → Item → Bool
is_under_some None w = false
is_under_some (Some n) w = is_under n w

-- The bytes are an item under a tag of this number.
abbrev pub IsTagged : ℕ → List ℕ → Type 0
IsTagged n b = (w : Item) × IsItem b (tag n w)

-- The bool says whether the bytes are an item under a tag of this number.
abbrev pub TellsTag : ℕ → List ℕ → Bool → Type 0
TellsTag n b true = IsTagged n b
TellsTag n b false = IsTagged n b → ⊥

-- The same for a number that may be missing. The bool is then false.
abbrev pub TellsTagOf : Option ℕ → List ℕ → Bool → Type 0
TellsTagOf None b x = x ≡ false
TellsTagOf (Some n) b x = TellsTag n b x

-- The number of a message's tag (RFC 8152, section 2, table 1).
abbrev pub tag_of : kinds.Kind → Option ℕ
tag_of (Sign1 f) = Some 18
tag_of (Sign f) = Some 98
tag_of (Mac0 f) = Some 17
tag_of (Mac f) = Some 97
tag_of (Encrypt0 f) = Some 16
tag_of (Encrypt f) = Some 96
tag_of k = None

-- The item without a tag of this number.
abbrev pub without_tag : Option ℕ → Item → Item
without_tag None v = v
without_tag (Some n) v = untagged n v

-- The bytes b are an item of kind k. v is that item, without the tag of a message.
pub record IsItemOf (k : kinds.Kind) (b : List ℕ) (v : Item) : Type 0 where
  pub whole : Item
  pub is_item : IsItem b whole
  pub is_of : IsOf k b
  pub is_inside : v ≡ without_tag (tag_of k) whole
