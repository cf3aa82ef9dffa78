-- Facts in a header: a certificate, the algorithm, and the key.
use Rattle.std.specs.Prelude.{◌==◌, ◌&&◌, not, if◌then◌else◌, ℕ, List, length, Bool, false, Option, Some, None}
use Rattle.std.specs.Cmp.Lexicographic.{pointwise}
use Rattle.std.specs.List.{list_all, list_any}
use Rattle.coset_value.specs.Item.{Item, bytes, array, item}
use Rattle.coset_label.specs.LabelData as label
use Rattle.coset_label.specs.LabelData.{RegisteredLabelView, as_label}
use Rattle.coset_claims.specs.Claims.{same_label}
use Rattle.coset_core.specs.Headers.{HeaderView, ProtectedView, fields_in}

-- There is a value, and it passes the test.
abbrev pub is_there_and : {A : Type 0} → (A → Bool) → Option A → Bool
is_there_and test None = false
is_there_and test (Some x) = test x

-- The label is one of these.
abbrev pub is_one_of : List RegisteredLabelView → RegisteredLabelView → Bool
is_one_of labels l = list_any (λ m. same_label m l) labels

-- The header has a parameter with this label that isn't a field.
abbrev pub has_parameter : HeaderView → RegisteredLabelView → Bool
has_parameter h l = list_any (λ e. label.same_label e.0 (as_label l)) (fields_in h).rest

-- The label is one of these, and a parameter of the header that isn't a field.
abbrev pub is_met : List RegisteredLabelView → HeaderView → RegisteredLabelView → Bool
is_met labels h l = is_one_of labels l && has_parameter h l

-- The header lists the label `m` as critical.
abbrev pub is_listed : HeaderView → RegisteredLabelView → Bool
is_listed h m = list_any (λ l. same_label m l) (fields_in h).crit

-- The header lists the label `m` as critical, and has no such parameter.
abbrev pub is_missing : HeaderView → RegisteredLabelView → Bool
is_missing h m = is_listed h m && not (has_parameter h m)

-- Each critical label is one of these and in the protected header `h`, and the unprotected header `u` lists none (RFC 8152,
-- section 3.1).
abbrev pub is_understood : List RegisteredLabelView → HeaderView → HeaderView → Bool
is_understood labels h u = list_all (is_met labels h) (fields_in h).crit && length (fields_in u).crit == 0

-- The end entity's certificate of COSE_X509 = bstr / [2*certs: bstr] (RFC 9360, section 2).
abbrev pub leaf : Item → Option (List ℕ)
leaf (bytes b) = Some b
leaf (array (item (bytes b) vs)) = Some b
leaf v = None

-- The header names this algorithm.
abbrev pub has_algorithm : RegisteredLabelView → HeaderView → Bool
has_algorithm a h = is_there_and (λ b. same_label b a) (fields_in h).alg

-- The header names this key.
abbrev pub names_key : List ℕ → HeaderView → Bool
names_key key_id h = pointwise ◌==◌ (fields_in h).key_id key_id

-- The header with the key identifier (`kid`): the protected header if it has one, else the unprotected header (RFC 8152,
-- section 3).
abbrev pub identifying : ProtectedView → HeaderView → HeaderView
identifying p u = if length (fields_in p.header).key_id == 0 then u else p.header

-- The two headers name this key.
abbrev pub one_names_key : List ℕ → ProtectedView → HeaderView → Bool
one_names_key key_id p u = names_key key_id (identifying p u)
