-- Calls that can fail only with `OutOfMemory`.
use Rattle.std.proofs.Common.{◌≡◌, Option, Some, None, Result, Ok, Err, refl, ◌∙◌}
use Rattle.std.specs.Prelude.{IfErr, IsErrAnd}
use Rattle.coset_codec.specs.Encoding.{HasNoImage}
use Rattle.coset_codec.specs.ShapeLaws.{some-none}
use Rattle.coset_codec.specs.declared.error.CoseError.{CoseError}
use Rattle.coset_codec.specs.declared.error.CoseError.TheVariants.{DecodeFailed, DuplicateMapKey, EncodeFailed, ExtraneousData, OutOfRangeIntegerValue}
use Rattle.coset_codec.specs.declared.error.CoseError.TheVariants.{UnexpectedItem, UnregisteredIanaValue, UnregisteredIanaNonPrivateValue, OutOfMemory}

only_memory : (e : CoseError) → ((e ≡ OutOfMemory → ⊥) → ⊥) → e ≡ OutOfMemory
only_memory OutOfMemory h = refl
only_memory (DecodeFailed d) h = absurd (h (λ q. absurd (cc)))
only_memory DuplicateMapKey h = absurd (h (λ q. absurd (cc)))
only_memory EncodeFailed h = absurd (h (λ q. absurd (cc)))
only_memory ExtraneousData h = absurd (h (λ q. absurd (cc)))
only_memory OutOfRangeIntegerValue h = absurd (h (λ q. absurd (cc)))
only_memory (UnexpectedItem got want) h = absurd (h (λ q. absurd (cc)))
only_memory UnregisteredIanaValue h = absurd (h (λ q. absurd (cc)))
only_memory UnregisteredIanaNonPrivateValue h = absurd (h (λ q. absurd (cc)))

-- Writing a value that has an image can fail only with `OutOfMemory`.
pub never_none : {T A : Type 0} (r : Result T CoseError) (o : Option A) → (o ≡ None → ⊥) → IfErr r (HasNoImage o) → IfErr r (λ e. e ≡ OutOfMemory)
never_none (Ok t) o has h = tt
never_none (Err e) o has h = only_memory e (λ n. has (h n).1)

pub refused_memory : {T A : Type 0} (r : Result T CoseError) (o : Option A) (x : A) → o ≡ Some x → IfErr r (HasNoImage o) → IfErr r (λ e. e ≡ OutOfMemory)
refused_memory r o x is h = never_none r o (some-none is) h

-- The same holds for an error that is passed on.
pub passed_memory : {T A : Type 0} (r : Result T CoseError) (f : CoseError) (o : Option A) → IsErrAnd r (λ e. e ≡ f) → (o ≡ None → ⊥) → HasNoImage o f
    → IfErr r (λ e. e ≡ OutOfMemory)
passed_memory (Ok t) f o same has h = tt
passed_memory (Err e) f o same has h = same ∙ only_memory f (λ n. has (h n).1)
