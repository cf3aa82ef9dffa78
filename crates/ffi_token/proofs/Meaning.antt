-- The policy of rules that have a meaning.
use Rattle.std.proofs.Common.{◌≡◌, ◌∙◌, ℕ, List, Bool, true, Option, Some, None, if◌then◌else◌, ap}
use Rattle.std.specs.List.{list_all}
use Rattle.ffi_token.specs.Opened.{has_text}
use Rattle.ffi_token.specs.Rules.{RulesView, has_meaning, policy_in, policy_with}
use Rattle.ffi_token.specs.Tokens.{policy_for}
use Rattle.ffi_token.specs.declared.opened.Opened.{Opened}

pub is_policy : (b : List ℕ) (os : List Opened) (r : RulesView) → has_meaning r ≡ true → list_all (has_text b) os ≡ true
    → policy_for b os (policy_in r) ≡ Some (policy_with r)
is_policy b os r means texts =
    ap (λ (x : Bool). policy_for b os (if x then Some (policy_with r) else None)) means ∙ ap (λ (x : Bool). if x then Some (policy_with r) else None) texts
