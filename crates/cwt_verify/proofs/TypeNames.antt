-- The type that an item names.
use Rattle.std.proofs.Common.{◌≡◌, ℕ, ℤ, List, Option, Some, None, ap, arith, option_map, refl, subst}
use Rattle.std.specs.Int.{w64}
use Rattle.std.specs.Prelude.{FitsSigned}
use Rattle.coset.specs.Item.{Item, array, boolean, bytes, dict, float, integer, null, tag, text}
use Rattle.coset.specs.Parts.{as_integer}
use Rattle.coset.specs.Registry.{number-first_numbered}
use Rattle.coset_iana.specs.CoapContentFormat as formats
use Rattle.coset_iana.specs.declared.content_formats.CoapContentFormat.{CoapContentFormat}
use Rattle.coset_iana.specs.declared.content_formats.CoapContentFormat.TheVariants.{TextPlainUtf8}
use Rattle.coset_iana.specs.declared.content_formats.TheConstants.{COAP_CONTENT_FORMATS}
use Rattle.cwt_verify.specs.Types.{format_of, type_name}

fits : (x : CoapContentFormat) → FitsSigned w64 (formats.number x)
fits = elim [ TextPlainUtf8 ↦ omega arith | _ ↦ omega arith ]

-- The name of the content format with this number.
abbrev named : Option ℤ → Option (List ℕ)
named None = None
named (Some i) = option_map formats.name (format_of i)

found-fits : (i : ℤ) (o : Option CoapContentFormat) → format_of i ≡ o → (FitsSigned w64 i → ⊥) → o ≡ None
unfolding format_of
found-fits i None e not = refl
found-fits i (Some x) e not = absurd (not (subst (FitsSigned w64) (number-first_numbered formats.number COAP_CONTENT_FORMATS i x e) (fits x)))

-- No content format has a number beyond 64 bits.
pub no_format : (i : ℤ) → (FitsSigned w64 i → ⊥) → format_of i ≡ None
no_format i not = found-fits i (format_of i) refl not

-- An integer names the content format with its number.
pub of_integer : (v : Item) (i : ℤ) → as_integer v ≡ Some i → type_name v ≡ option_map formats.name (format_of i)
of_integer (integer n) i e = ap named e
of_integer (text s) i e = absurd (cc)
of_integer (bytes s) i e = absurd (cc)
of_integer (float x) i e = absurd (cc)
of_integer (boolean b) i e = absurd (cc)
of_integer null i e = absurd (cc)
of_integer (tag t v) i e = absurd (cc)
of_integer (array vs) i e = absurd (cc)
of_integer (dict ps) i e = absurd (cc)
