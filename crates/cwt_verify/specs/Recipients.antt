-- A list of recipients, which must have exactly one, with the mode `direct` (RFC 9052, section 8.5.1).
use Rattle.std.specs.Prelude.{◌==◌, ◌&&◌, not, ℕ, List, [], ◌∷◌, length, Bool, false, Option, Some, None, if◌then◌else◌}
use Rattle.std.specs.Ordering.{int_eq}
use Rattle.coset.specs.Headers.{HeaderView, ProtectedView, fields_in}
use Rattle.coset.specs.LabelData.{RegisteredLabelView, assigned}
use Rattle.coset.specs.Recipient.{RecipientView, are_none}
use Rattle.coset_iana.specs.Algorithm as algorithms
use Rattle.coset_iana.specs.declared.algorithms.Algorithm.TheVariants.{Direct}

-- Returns true if the algorithm is `direct` (RFC 9053, section 6.1.1).
abbrev pub names_direct : Option RegisteredLabelView → Bool
names_direct (Some (assigned i)) = int_eq i (algorithms.number Direct)
names_direct a = false

-- Returns true if the byte string of the protected header has no bytes (RFC 9053, section 6.1.1).
abbrev pub is_empty_string : Option (List ℕ) → Bool
is_empty_string None = false
is_empty_string (Some b) = length b == 0

abbrev pub has_zero_length : ProtectedView → Bool
has_zero_length p = is_empty_string p.original

-- Returns true if there is an encrypted key. A ciphertext without bytes is none.
abbrev pub holds_key : Option (List ℕ) → Bool
holds_key None = false
holds_key (Some b) = not (length b == 0)

-- Returns true if the unprotected header of a recipient names `direct` and a key, and lists no critical labels.
abbrev pub names_key : HeaderView → Bool
names_key h = names_direct (fields_in h).alg && length (fields_in h).crit == 0 && not (length (fields_in h).key_id == 0)

-- Returns true if the recipient is `direct`, names its key, and has neither an encrypted key nor recipients inside.
abbrev pub is_direct : RecipientView → Bool
is_direct r = has_zero_length r.protected && names_key r.unprotected && not (holds_key r.ciphertext) && are_none r.recipients

-- The recipient, if there is exactly one, and if it is `direct`.
abbrev pub only_direct : List RecipientView → Option RecipientView
only_direct [] = None
only_direct (r ∷ []) = if is_direct r then Some r else None
only_direct (r ∷ s ∷ rs) = None
