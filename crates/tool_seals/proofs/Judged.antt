-- Verdicts against keys.
use Rattle.std.proofs.Common.{◌≡◌, ◌∙◌, Bool, false, Result, Ok, Err}
use Rattle.std.specs.Prelude.{IfOk}
use Rattle.tool_seals.specs.Verdicts.{is_fits}
use Rattle.tool_seals.specs.declared.verdict.Verdict.{Verdict}

pub unfit : {E : Type 0} (r : Result Verdict E) (b : Bool) → IfOk r (λ v. is_fits v ≡ false) → false ≡ b → IfOk r (λ v. is_fits v ≡ b)
unfit (Ok v) b h e = h ∙ e
unfit (Err f) b h e = tt
