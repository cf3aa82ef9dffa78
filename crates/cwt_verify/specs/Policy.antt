-- A verifier's requirements for a token, in addition to acceptance by its keys.
use Rattle.std.specs.Prelude.{◌==◌, ◌&&◌, ◌||◌, ◌++◌, not, ℕ, ℤ, pos, List, [], ◌∷◌, length, map, Option, Some, None, Bool, true, false, is_some}
use Rattle.std.specs.List.{list_any, list_all}
use Rattle.std.specs.Ordering.{int_eq}
use Rattle.coset.specs.Claims as claims
use Rattle.coset.specs.Headers.{HeaderView, fields_in}
use Rattle.coset.specs.LabelData.{RegisteredLabelView, assigned, private_use, text_name, as_label}
use Rattle.coset.specs.Views.{critical_view}
use Rattle.coset_iana.specs.Algorithm as algorithms
use Rattle.coset_iana.specs.declared.algorithms.Algorithm.{Algorithm}
use Rattle.coset_iana.specs.declared.claims.CwtClaimName.{CwtClaimName}
use Rattle.cwt_keys.specs.Table.{of_form, row_for}
use Rattle.cwt_keys.specs.declared.form.Form.{Form}
use Rattle.cwt_keys.specs.declared.form.Form.TheVariants.{Sign1, Mac0, Encrypt0, Sign, Mac, Encrypt}
use Rattle.cwt_verify.specs.Headers.{has_label}
use Rattle.cwt_verify.specs.declared.policy.Audience.{Audience}
use Rattle.cwt_verify.specs.declared.policy.Audience.TheVariants.{Absent, OneOf, Unchecked}
use Rattle.cwt_verify.specs.declared.policy.Authentication.{Authentication}
use Rattle.cwt_verify.specs.declared.policy.Authentication.TheVariants.{Signature, SignatureOrMac, AnyLayer}
use Rattle.cwt_verify.specs.declared.policy.Policy.{Policy}

-- The view of the audiences that are accepted.
pub data AudienceView : Type 0 where
  absent : AudienceView
  one_of : List (List ℕ) → AudienceView
  unchecked : AudienceView

abbrev pub audience_view : Audience → AudienceView
audience_view Absent = absent
audience_view (OneOf names) = one_of (map (λ s. s.now) names.now)
audience_view Unchecked = unchecked

-- The view of a policy.
pub record PolicyView : Type 0 where
  pub algorithms : List Algorithm
  pub audience : AudienceView
  pub types : List (List ℕ)
  pub required : List CwtClaimName
  pub critical : List RegisteredLabelView
  pub untagged_form : Form
  pub accept_lists : Bool
  pub authenticated_by : Authentication
  pub require_exp : Bool
  pub refuse_future_iat : Bool
  pub max_age : Option ℕ
  pub leeway : ℕ

abbrev pub policy_view : Policy → PolicyView
policy_view p = record {
  algorithms = p.algorithms.now;
  audience = audience_view p.audience;
  types = map (λ s. s.now) p.types.now;
  required = p.required.now;
  critical = map critical_view p.critical.now;
  untagged_form = p.untagged_form;
  accept_lists = p.accept_lists;
  authenticated_by = p.authenticated_by;
  require_exp = p.require_exp;
  refuse_future_iat = p.refuse_future_iat;
  max_age = p.max_age;
  leeway = p.leeway;
}

-- The policy that allows no algorithm, refuses an audience and forms with a list, and requires an expiration time.
abbrev pub strict : PolicyView
strict = record {
  algorithms = [];
  audience = absent;
  types = [];
  required = [];
  critical = [];
  untagged_form = Sign1;
  accept_lists = false;
  authenticated_by = SignatureOrMac;
  require_exp = true;
  refuse_future_iat = true;
  max_age = None;
  leeway = 0;
}

-- ---- algorithms

-- The number of an algorithm, or `None` if it is a text.
abbrev pub number_of : RegisteredLabelView → Option ℤ
number_of (assigned i) = Some i
number_of (private_use i) = Some i
number_of (text_name s) = None

abbrev pub number_in : Option RegisteredLabelView → Option ℤ
number_in None = None
number_in (Some a) = number_of a

-- The number of the algorithm that the header names.
abbrev pub named_number : HeaderView → Option ℤ
named_number h = number_in (fields_in h).alg

-- Returns true if the label is this algorithm.
abbrev pub is_named : Option RegisteredLabelView → Algorithm → Bool
is_named (Some (assigned i)) a = int_eq i (algorithms.number a)
is_named o a = false

-- Returns true if the header names an algorithm that the policy allows, and that is for layers of this form.
abbrev pub allows : PolicyView → Form → HeaderView → Bool
allows p form h = list_any (λ a. is_named (fields_in h).alg a && is_some (of_form form (row_for a))) p.algorithms

-- ---- labels that must be understood (RFC 9052, section 3.1, "crit")

-- Returns true if the label is one of these.
abbrev pub is_one_of : List RegisteredLabelView → RegisteredLabelView → Bool
is_one_of labels l = list_any (λ m. claims.same_label m l) labels

-- The labels that are always understood: 1, 2 and 4 to 6 (RFC 9052, section 3.1), and 15 (RFC 9597).
abbrev pub known_labels : List ℤ
known_labels = pos 1 ∷ pos 2 ∷ pos 4 ∷ pos 5 ∷ pos 6 ∷ pos 15 ∷ []

abbrev pub is_known : RegisteredLabelView → Bool
is_known (assigned i) = list_any (λ n. int_eq i n) known_labels
is_known l = false

-- Returns true if the label is 16, which is that of the type of a whole message (RFC 9596).
abbrev pub is_type : RegisteredLabelView → Bool
is_type (assigned i) = int_eq i (pos 16)
is_type l = false

-- Returns true if this crate understands the label: the type only if the policy has types.
abbrev pub knows : PolicyView → RegisteredLabelView → Bool
knows p l = is_known l || (is_type l && not (length p.types == 0))

-- Returns true if the caller or this crate understands the label.
abbrev pub has_meaning : PolicyView → RegisteredLabelView → Bool
has_meaning p l = knows p l || is_one_of p.critical l

-- Returns true if the label is understood and the header contains it.
abbrev pub is_understood : PolicyView → HeaderView → RegisteredLabelView → Bool
is_understood p h l = has_meaning p l && has_label h (as_label l)

-- The labels that this crate understands under some policy.
abbrev pub own_labels : List RegisteredLabelView
own_labels = map assigned (known_labels ++ pos 16 ∷ [])

-- Returns true if the header lists no critical label.
abbrev pub lists_none : HeaderView → Bool
lists_none h = length (fields_in h).crit == 0

-- Returns true if the header lists the label `m` as critical.
abbrev pub is_listed : HeaderView → RegisteredLabelView → Bool
is_listed h m = list_any (λ l. claims.same_label m l) (fields_in h).crit

-- Returns true if the header lists the label `m` as critical, and doesn't have it.
abbrev pub is_missing : HeaderView → RegisteredLabelView → Bool
is_missing h m = is_listed h m && not (has_label h (as_label m))

-- Returns true if each critical label of the protected header `h` is understood, and the unprotected header lists none.
abbrev pub understands : PolicyView → HeaderView → HeaderView → Bool
understands p h unprotected = list_all (is_understood p h) (fields_in h).crit && lists_none unprotected

-- ---- layers that authenticate the sender

abbrev pub authenticates : Authentication → Form → Bool
authenticates Signature Sign1 = true
authenticates Signature Mac0 = false
authenticates Signature Encrypt0 = false
authenticates Signature Sign = true
authenticates Signature Mac = false
authenticates Signature Encrypt = false
authenticates SignatureOrMac Sign1 = true
authenticates SignatureOrMac Mac0 = true
authenticates SignatureOrMac Encrypt0 = false
authenticates SignatureOrMac Sign = true
authenticates SignatureOrMac Mac = true
authenticates SignatureOrMac Encrypt = false
authenticates AnyLayer form = true
