-- Kinds and their names.
use Rattle.std.specs.Prelude.{◌≡◌, ◌++◌, ℕ, List, Bool, true, false, codes}
use Rattle.tool_explain.specs.declared.kind.Kind.{Kind}
use Rattle.tool_explain.specs.declared.kind.Kind.TheVariants as kinds

-- The name of a kind.
abbrev pub kind_name : Kind → List ℕ
kind_name kinds.Auto = codes "auto"
kind_name kinds.Cwt = codes "cwt"
kind_name kinds.Value = codes "value"
kind_name kinds.Sign1 = codes "sign1"
kind_name kinds.Sign = codes "sign"
kind_name kinds.Mac = codes "mac"
kind_name kinds.Mac0 = codes "mac0"
kind_name kinds.Encrypt = codes "encrypt"
kind_name kinds.Encrypt0 = codes "encrypt0"
kind_name kinds.Countersignature = codes "countersignature"
kind_name kinds.Key = codes "key"
kind_name kinds.Keyset = codes "keyset"
kind_name kinds.Claims = codes "claims"
kind_name kinds.Kdf = codes "kdf"

-- Whether the tag chooses the type.
abbrev pub is_by_tag : Kind → Bool
is_by_tag kinds.Auto = true
is_by_tag kinds.Cwt = true
is_by_tag _ = false

-- `named` is the kind, and `rest` are the bytes. If the tag chooses the type, `named` is some kind, and `rest` is a
-- suffix of the bytes.
pub record Names (kind : Kind) (bytes : List ℕ) (named : Kind) (rest : List ℕ) : Type 0 where
  pub behind : (front : List ℕ) × (bytes ≡ front ++ rest)
  pub same : is_by_tag kind ≡ false → (named ≡ kind) × (rest ≡ bytes)
