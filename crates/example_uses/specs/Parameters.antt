-- Private header parameters, and content types (RFC 8152, sections 3.1 and 16.2).
use Rattle.std.specs.Prelude.{ℕ, List, Bool}
use Rattle.coset_value.specs.Item.{bytes}
use Rattle.coset_iana.specs.CoapContentFormat as formats
use Rattle.coset_iana.specs.declared.content_formats.CoapContentFormat.TheVariants.{Cwt}
use Rattle.coset_label.specs.LabelData.{LabelView, RegisteredLabelView, number, private_use, same_label}
use Rattle.coset_core.specs.Built.{push_critical, push_pair, with_algorithm, with_content_type}
use Rattle.coset_core.specs.Headers.{HeaderView, empty_header, fields_in}
use Rattle.example_uses.specs.HeaderParts.{is_there_and}
use Rattle.example_uses.specs.declared.parameters.TheConstants.{TRACE}

-- The content type "application/cwt".
abbrev pub of_token : LabelView
of_token = number (formats.number Cwt)

-- {1: a, 2: [-70002], 3: application/cwt, -70002: trace}
abbrev pub traced : RegisteredLabelView → List ℕ → HeaderView
traced a trace = push_critical (private_use TRACE) (push_pair (number TRACE) (bytes trace) (with_content_type of_token (with_algorithm a empty_header)))

-- The header names the content type of web tokens.
abbrev pub is_of_token : HeaderView → Bool
is_of_token h = is_there_and (λ t. same_label t of_token) (fields_in h).content_type
