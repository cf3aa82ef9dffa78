-- The texts of the reasons.
use Rattle.std.specs.Prelude.{ℕ, List, codes, Option, Some}
use Rattle.std.specs.Fmt.{◌++?◌}
use Rattle.coset.specs.Errors.{error_text}
use Rattle.cwt_gate.specs.declared.error.GateError.{GateError}
use Rattle.cwt_gate.specs.declared.error.GateError.TheVariants.{Token, NoPayload, Caller, Claims, FractionalTime, Expired, NotYetValid}

-- The text of a reason. For the caller's own error, `text` gives it.
abbrev pub gate_error_text : {E : Type 0} → (E → Option (List ℕ)) → GateError E → Option (List ℕ)
gate_error_text text (Token e) = Some (codes "not a token: ") ++? error_text e
gate_error_text text NoPayload = Some (codes "no payload")
gate_error_text text (Caller e) = text e
gate_error_text text (Claims e) = Some (codes "not a claims set: ") ++? error_text e
gate_error_text text FractionalTime = Some (codes "a time is no whole number of seconds")
gate_error_text text Expired = Some (codes "expired")
gate_error_text text NotYetValid = Some (codes "not yet valid")
