-- What a policy requires of the headers of a layer, or of one signature (RFC 9052, sections 3 and 3.1).
use Rattle.std.specs.Prelude.{◌≡◌, Bool, true, false, Option, Some, None, Result, Ok, Err}
use Rattle.coset.specs.CoseError.TheVariants.{OutOfMemory}
use Rattle.coset.specs.Headers.{HeaderView, SignatureView}
use Rattle.coset.specs.Views.{header_view}
use Rattle.cwt_keys.specs.declared.form.Form.{Form}
use Rattle.cwt_keys.specs.declared.form.Form.TheVariants.{Sign}
use Rattle.cwt_verify.specs.Headers.{contradict}
use Rattle.cwt_verify.specs.Policy.{PolicyView, allows, named_number, understands}
use Rattle.cwt_verify.specs.declared.admission.Headers as declared
use Rattle.cwt_verify.specs.declared.error.LayerError.{LayerError}
use Rattle.cwt_verify.specs.declared.error.LayerError.TheVariants.{Message, Headers, Algorithm, Critical}

-- Two headers, and the form of layers that the algorithm in the protected one must be for. `None` means that no
-- algorithm is needed.
pub record HeadersView : Type 0 where
  pub form : Option Form
  pub protected : HeaderView
  pub unprotected : HeaderView

abbrev pub headers_view : declared.Headers → HeadersView
headers_view h = record { form = h.form; protected = header_view h.protected.now; unprotected = header_view h.unprotected.now }

-- The headers of a signature, which names its own algorithm (RFC 9052, section 4.1).
abbrev pub signature_headers : SignatureView → HeadersView
signature_headers s = record { form = Some Sign; protected = s.protected.header; unprotected = s.unprotected }

-- Returns true if the headers contradict each other.
abbrev pub is_torn : HeadersView → Bool
is_torn h = contradict h.protected h.unprotected

-- Returns true if the policy allows the algorithm in the protected header, or if none is needed.
abbrev pub allows_for : PolicyView → Option Form → HeaderView → Bool
allows_for p None h = true
allows_for p (Some form) h = allows p form h

abbrev pub is_allowed : PolicyView → HeadersView → Bool
is_allowed p h = allows_for p h.form h.protected

-- Returns true if each critical label is understood.
abbrev pub is_clear : PolicyView → HeadersView → Bool
is_clear p h = understands p h.protected h.unprotected

-- The policy admits the headers.
abbrev pub IsAdmitted : PolicyView → HeadersView → Type 0
IsAdmitted p h = (is_torn h ≡ false) × (is_allowed p h ≡ true) × (is_clear p h ≡ true)

-- The policy's first reason against the headers.
abbrev pub RefusesHeaders : {E : Type 0} → PolicyView → HeadersView → LayerError E → Type 0
RefusesHeaders p h Headers = is_torn h ≡ true
RefusesHeaders p h (Algorithm a) = (is_torn h ≡ false) × (is_allowed p h ≡ false) × (a ≡ named_number h.protected)
RefusesHeaders p h Critical = (is_torn h ≡ false) × (is_allowed p h ≡ true) × (is_clear p h ≡ false)
RefusesHeaders p h e = ⊥

-- The result of checking the headers. An allocation may fail.
abbrev pub ChecksHeaders : {E : Type 0} → PolicyView → HeadersView → Result (Unit {0}) (LayerError E) → Type 0
ChecksHeaders p h (Ok u) = IsAdmitted p h
ChecksHeaders p h (Err (Message e)) = e ≡ OutOfMemory
ChecksHeaders p h (Err e) = RefusesHeaders p h e
