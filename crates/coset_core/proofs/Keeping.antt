-- The bytes that represent a protected header.
use Rattle.std.specs.Prelude.{Vec, Result, Ok, Err, IsErrAnd}
use Rattle.std.proofs.Common.{◌≡◌, ℕ, List, Option, Some, None, option_map, sym, ◌∙◌, ap, subst}
use Rattle.std.specs.Global.{Global}
use Rattle.coset_value.specs.Item.{Item, bytes}
use Rattle.coset_value.specs.View.{value_item, value_step}
use Rattle.coset_value.specs.declared.value.Value.{Value}
use Rattle.coset_value.specs.declared.value.Value.TheVariants.{Bytes, rolls-Bytes}
use Rattle.coset_value.specs.declared.value.Value.TheOpen.{Value-F}
use Rattle.coset_value.specs.declared.value.Value.TheFolds.{fold-roll-Value}
use Rattle.coset_codec.specs.declared.error.CoseError.{CoseError}
use Rattle.coset_codec.specs.declared.error.CoseError.TheVariants.{DuplicateMapKey}
use Rattle.coset_codec.specs.Results.{Images}
use Rattle.coset_codec.specs.Errors.{UnlessMemory}
use Rattle.coset_codec.specs.Serialized.{content_bytes, fresh_bytes}
use Rattle.coset_core.specs.Headers.{HeaderView, ProtectedView, is_empty_header, header_image, protected_bytes, protected, LAYERS}
use Rattle.coset_core.specs.HeaderWrites.{protected_image_is}
use Rattle.coset_core.specs.Written.{AreShortest, HoldsShortest}

-- If bytes were kept, they represent the header.
pub protected_bytes-read : (p : ProtectedView) (b : List ℕ) → p.original ≡ Some b → protected_bytes p ≡ Some b
protected_bytes-read p b e = ap (λ o. content_bytes is_empty_header header_image o p.header) e

-- Otherwise, the bytes are encoded from the header.
pub protected_bytes-fresh : (p : ProtectedView) (h : HeaderView) → p.original ≡ None → p.header ≡ h
    → protected_bytes p ≡ fresh_bytes (is_empty_header h) (header_image h)
protected_bytes-fresh p h e same = (λ i. content_bytes is_empty_header header_image (e i) (same i))

pub shortest-fresh_bytes : (p : ProtectedView) (h : HeaderView) (b : List ℕ) → p.original ≡ None → p.header ≡ h → AreShortest None h b
    → AreShortest p.original p.header b
shortest-fresh_bytes p h b e same least_encoding = subst (λ o. AreShortest o p.header b) (sym e) (subst (λ g. AreShortest None g b) (sym same) least_encoding)

-- The image is the byte string of these bytes.
string-of : (p : ProtectedView) (o : Option (List ℕ)) → protected_bytes p ≡ o → protected.image p ≡ option_map bytes o
string-of p o e = protected_image_is LAYERS p ∙ ap (option_map bytes) e

as_string : (b : Vec ℕ Global) → value_item (Bytes b) ≡ bytes b.items
as_string b = ap value_item (sym (rolls-Bytes b)) ∙ fold-roll-Value Item value_step (Value-F.Bytes b)

pub string-made : (p : ProtectedView) (b : Vec ℕ Global) → protected_bytes p ≡ Some b.items → protected.image p ≡ Some (value_item (Bytes b))
string-made p b e = string-of p (Some b.items) e ∙ ap Some (sym (as_string b))

pub string-holds : (p : ProtectedView) (b : Vec ℕ Global) → AreShortest p.original p.header b.items → HoldsShortest p.original p.header (value_item (Bytes b))
string-holds p b least_encoding = subst (HoldsShortest p.original p.header) (sym (as_string b)) least_encoding

-- An error that is passed on: there are no such bytes.
pub no-string :
    (r : Result Value CoseError) (f : CoseError) (p : ProtectedView) (o : Option (List ℕ)) → IsErrAnd r (λ e. e ≡ f) → protected_bytes p ≡ o
    → UnlessMemory f (λ g. (g ≡ DuplicateMapKey) × (o ≡ None))
    → Images (protected.image p) value_item r
no-string (Ok x) f p o same e tells = absurd same
no-string (Err d) f p o same e tells = λ other. let told = tells (λ m. other (same ∙ m)) in (same ∙ told.0, string-of p None (e ∙ told.1))
