-- A verifier's requirements for a token, with algorithms, labels and claims as numbers.
use Rattle.std.specs.Prelude.{◌≡◌, ◌&&◌, ◌||◌, not, ℕ, ℤ, List, [], ◌∷◌, filter_map, map, Bool, true, false, is_some, Option, Some, None, if◌then◌else◌}
use Rattle.std.specs.List.{list_all}
use Rattle.coset.specs.LabelData.{RegisteredLabelView, assigned, private_use}
use Rattle.coset.specs.Registry.{first_numbered}
use Rattle.coset.specs.Views.{critical_view}
use Rattle.coset_iana.specs.Algorithm as algorithms
use Rattle.coset_iana.specs.CwtClaimName as claim_names
use Rattle.coset_iana.specs.HeaderParameter as parameters
use Rattle.coset_iana.specs.declared.algorithms.Algorithm.{Algorithm}
use Rattle.coset_iana.specs.declared.algorithms.TheConstants.{ALGORITHMS}
use Rattle.coset_iana.specs.declared.claims.CwtClaimName.{CwtClaimName}
use Rattle.coset_iana.specs.declared.claims.TheConstants.{CWT_CLAIM_NAMES}
use Rattle.coset_iana.specs.declared.headers.TheConstants.{HEADER_PARAMETERS}
use Rattle.cwt_keys.specs.declared.form.Form.{Form}
use Rattle.cwt_verify.specs.Policy.{AudienceView, PolicyView, absent, one_of, unchecked}
use Rattle.cwt_verify.specs.declared.policy.Authentication.{Authentication}
use Rattle.ffi_token.specs.Texts.{are_texts, text_in, texts_view}
use Rattle.ffi_token.specs.declared.rules.Lists.{Lists}
use Rattle.ffi_token.specs.declared.rules.Rules.{Rules}

-- The view of rules: the texts are bytes, which may not be UTF-8.
pub record RulesView : Type 0 where
  pub algorithms : List ℤ
  pub critical : List ℤ
  pub required : List ℤ
  pub audiences : List (List ℕ)
  pub types : List (List ℕ)
  pub any_audience : Bool
  pub untagged_form : Form
  pub authenticated_by : Authentication
  pub require_exp : Bool
  pub refuse_future_iat : Bool
  pub max_age : Option ℕ
  pub leeway : ℕ

abbrev pub rules_view : Rules → RulesView
rules_view r = record {
  algorithms = r.algorithms.now;
  critical = r.critical.now;
  required = r.required.now;
  audiences = texts_view r.audiences.now;
  types = texts_view r.types.now;
  any_audience = r.any_audience;
  untagged_form = r.untagged_form;
  authenticated_by = r.authenticated_by;
  require_exp = r.require_exp;
  refuse_future_iat = r.refuse_future_iat;
  max_age = r.max_age;
  leeway = r.leeway;
}

-- ---- numbers

-- The label with the number i: a value of the registry if i is assigned, else a private-use number.
abbrev pub named_as : {T : Type 0} → ℤ → Option T → RegisteredLabelView
named_as i (Some x) = assigned i
named_as i None = private_use i

abbrev pub named : {T : Type 0} → (ℤ → Option T) → ℤ → RegisteredLabelView
named value_of i = named_as i (value_of i)

abbrev pub algorithm_named : ℤ → RegisteredLabelView
algorithm_named = named (first_numbered algorithms.number ALGORITHMS)

abbrev pub parameter_named : ℤ → RegisteredLabelView
parameter_named = named (first_numbered parameters.number HEADER_PARAMETERS)

-- The algorithm or the claim that IANA assigned to the number.
abbrev pub algorithm_of : ℤ → Option Algorithm
algorithm_of = first_numbered algorithms.number ALGORITHMS

abbrev pub claim_of : ℤ → Option CwtClaimName
claim_of = first_numbered claim_names.number CWT_CLAIM_NAMES

-- Each number is assigned.
abbrev pub are_assigned : {T : Type 0} → (ℤ → Option T) → List ℤ → Bool
are_assigned value_of is = list_all (λ i. is_some (value_of i)) is

-- ---- the policy

-- No audiences are given, or the audience is checked.
abbrev pub is_consistent : Bool → List (List ℕ) → Bool
is_consistent any [] = true
is_consistent any (t ∷ ts) = not any

-- The rules have a meaning: IANA assigned the numbers of algorithms and of claims, and the texts are UTF-8.
abbrev pub has_meaning : RulesView → Bool
has_meaning r =
    is_consistent r.any_audience r.audiences
    && (are_assigned algorithm_of r.algorithms && (are_assigned claim_of r.required && (are_texts r.audiences && are_texts r.types)))

-- The audiences that are accepted: those with these names. If no texts are given, a token with an audience is refused.
abbrev pub audience_of : Bool → List (List ℕ) → List (List ℕ) → AudienceView
audience_of true ts names = unchecked
audience_of false [] names = absent
audience_of false (t ∷ ts) names = one_of names

-- The policy that rules with a meaning describe. Numbers and texts without one are left out.
abbrev pub policy_with : RulesView → PolicyView
policy_with r = record {
  algorithms = filter_map algorithm_of r.algorithms;
  audience = audience_of r.any_audience r.audiences (filter_map text_in r.audiences);
  types = filter_map text_in r.types;
  required = filter_map claim_of r.required;
  critical = map parameter_named r.critical;
  untagged_form = r.untagged_form;
  accept_lists = false;
  authenticated_by = r.authenticated_by;
  require_exp = r.require_exp;
  refuse_future_iat = r.refuse_future_iat;
  max_age = r.max_age;
  leeway = r.leeway;
}

-- The policy that the rules describe, if they have a meaning.
abbrev pub policy_in : RulesView → Option PolicyView
policy_in r = if has_meaning r then Some (policy_with r) else None

-- The lists are those of the policy.
pub record ListsOf (r : RulesView) (l : Lists) : Type 0 where
  pub algorithms : l.algorithms.items ≡ filter_map algorithm_of r.algorithms
  pub critical : map critical_view l.critical.items ≡ map parameter_named r.critical
  pub required : l.required.items ≡ filter_map claim_of r.required
  pub audiences : map (λ s. s.now) l.audiences.items ≡ filter_map text_in r.audiences
  pub types : map (λ s. s.now) l.types.items ≡ filter_map text_in r.types
