-- The output for the bytes of an input, by its kind.
use Rattle.std.specs.Prelude.{ℕ, List, codes}
use Rattle.coset.specs.Claims.{claims}
use Rattle.coset.specs.Context.{context}
use Rattle.coset.specs.Keys.{key, key_set}
use Rattle.coset.specs.Shape.{any}
use Rattle.coset_show.specs.declared.kind.Kind.{Kind}
use Rattle.coset_show.specs.declared.kind.Kind.TheVariants.{Value, Sign1, Sign, Mac, Mac0, Encrypt, Encrypt0, Countersignature, Key, Keyset, Claims, Kdf}
use Rattle.coset_show.specs.declared.refusal.Refusal.{Refusal}
use Rattle.coset_show.specs.Show.{ShowsType, RefusesType, ShowsSign1, sign1_in, sign_in, mac_in, mac0_in, encrypt_in, encrypt0_in, countersignature_in}

-- The name of a kind, as the program's argument has it.
abbrev pub kind_name : Kind → List ℕ
kind_name Value = codes "value"
kind_name Sign1 = codes "sign1"
kind_name Sign = codes "sign"
kind_name Mac = codes "mac"
kind_name Mac0 = codes "mac0"
kind_name Encrypt = codes "encrypt"
kind_name Encrypt0 = codes "encrypt0"
kind_name Countersignature = codes "countersignature"
kind_name Key = codes "key"
kind_name Keyset = codes "keyset"
kind_name Claims = codes "claims"
kind_name Kdf = codes "kdf"

-- The lines show the bytes, read as this kind.
abbrev pub ShowsBytes : Kind → List ℕ → List ℕ → Type 0
ShowsBytes Value = ShowsType any
ShowsBytes Sign1 = ShowsSign1
ShowsBytes Sign = λ b. ShowsType (sign_in b) b
ShowsBytes Mac = λ b. ShowsType (mac_in b) b
ShowsBytes Mac0 = λ b. ShowsType (mac0_in b) b
ShowsBytes Encrypt = λ b. ShowsType (encrypt_in b) b
ShowsBytes Encrypt0 = λ b. ShowsType (encrypt0_in b) b
ShowsBytes Countersignature = λ b. ShowsType (countersignature_in b) b
ShowsBytes Key = ShowsType key
ShowsBytes Keyset = ShowsType key_set
ShowsBytes Claims = ShowsType claims
ShowsBytes Kdf = ShowsType context

-- The refusal is true of the bytes, read as this kind.
abbrev pub RefusesBytes : Kind → List ℕ → Refusal → Type 0
RefusesBytes Value b = RefusesType any b
RefusesBytes Sign1 b = RefusesType (sign1_in b) b
RefusesBytes Sign b = RefusesType (sign_in b) b
RefusesBytes Mac b = RefusesType (mac_in b) b
RefusesBytes Mac0 b = RefusesType (mac0_in b) b
RefusesBytes Encrypt b = RefusesType (encrypt_in b) b
RefusesBytes Encrypt0 b = RefusesType (encrypt0_in b) b
RefusesBytes Countersignature b = RefusesType (countersignature_in b) b
RefusesBytes Key b = RefusesType key b
RefusesBytes Keyset b = RefusesType key_set b
RefusesBytes Claims b = RefusesType claims b
RefusesBytes Kdf b = RefusesType context b
