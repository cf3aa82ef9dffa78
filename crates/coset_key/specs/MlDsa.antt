-- The variants of ML-DSA (FIPS 204) among IANA's algorithms.
use Rattle.std.specs.Prelude.{◌≡◌, Result, Ok, Err}
use Rattle.coset_iana.specs.declared.algorithms.Algorithm.{Algorithm}
use Rattle.coset_iana.specs.declared.algorithms.Algorithm.TheVariants.{ML_DSA_44, ML_DSA_65, ML_DSA_87}
use Rattle.coset_codec.specs.declared.error.CoseError.{CoseError}
use Rattle.coset_codec.specs.declared.error.CoseError.TheVariants.{OutOfRangeIntegerValue}
use Rattle.coset_key.specs.declared.ml_dsa.MlDsaVariant.{MlDsaVariant}
use Rattle.coset_key.specs.declared.ml_dsa.MlDsaVariant.TheVariants.{MlDsa44, MlDsa65, MlDsa87}

-- The algorithm of a variant of ML-DSA.
abbrev pub algorithm_of : MlDsaVariant → Algorithm
algorithm_of MlDsa44 = ML_DSA_44
algorithm_of MlDsa65 = ML_DSA_65
algorithm_of MlDsa87 = ML_DSA_87

-- The result is the variant with this algorithm, or `OutOfRangeIntegerValue` if there is none.
abbrev pub IsVariant : Algorithm → Result MlDsaVariant CoseError → Type 0
IsVariant a (Ok v) = algorithm_of v ≡ a
IsVariant a (Err e) = (e ≡ OutOfRangeIntegerValue) × ((v : MlDsaVariant) → algorithm_of v ≡ a → ⊥)
