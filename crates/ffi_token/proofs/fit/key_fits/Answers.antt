use Rattle.std.proofs.Common.{refl}
use Rattle.ffi_token.proofs.fit.key_fits.Goals as goal

pub returns-in-Err : goal.returns-in-Err
returns-in-Err c = (λ n. (c.in-Err.ensures.read n, c.in-Err.ensures.refused n), refl)
