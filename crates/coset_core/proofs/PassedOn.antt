-- Errors that are passed on.
use Rattle.std.specs.Prelude.{Result, Ok, Err, IfErr, OnOk, OnErr, IsErrAnd}
use Rattle.std.proofs.Common.{◌≡◌, ℕ, List, Option, ◌∙◌}
use Rattle.coset_value.specs.Item.{Item}
use Rattle.coset_codec.specs.declared.error.CoseError.{CoseError}
use Rattle.coset_codec.specs.declared.error.CoseError.TheVariants.{OutOfMemory}
use Rattle.coset_codec.specs.Encoding.{Encodes, HasNoImage}

-- An error tells nothing of a success.
pub no_success : {T E : Type 0} (r : Result T E) (f : E) (Q : Type 0) → IsErrAnd r (λ e. e ≡ f) → OnOk r Q
no_success (Ok x) f Q same = absurd same
no_success (Err e) f Q same = tt

-- What holds in any case holds of an error.
pub on_error : {T E : Type 0} (r : Result T E) (Q : Type 0) → Q → OnErr r Q
on_error (Ok x) Q q = tt
on_error (Err e) Q q = q

-- Memory ran out, which tells nothing of an image.
pub memory_encodes : {T : Type 0} (r : Result T CoseError) (f : CoseError) (o : Option Item) (old new : List ℕ) → IsErrAnd r (λ e. e ≡ f) → f ≡ OutOfMemory
    → Encodes o old new r
memory_encodes (Ok x) f o old new same memory = absurd same
memory_encodes (Err e) f o old new same memory = λ other. absurd (other (same ∙ memory))

pub memory_refuses : {T A : Type 0} (r : Result T CoseError) (o : Option A) → IsErrAnd r (λ e. e ≡ OutOfMemory) → IfErr r (HasNoImage o)
memory_refuses (Ok x) o same = tt
memory_refuses (Err e) o same = λ other. absurd (other same)
