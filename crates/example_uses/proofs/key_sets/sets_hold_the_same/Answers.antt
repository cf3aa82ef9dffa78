use Rattle.std.proofs.Common.{◌≡◌, ◌⊎◌, map, inl, inr, subst}
use Rattle.coset_codec.specs.Results.{DescribesNothing}
use Rattle.coset_codec.specs.Errors.{UnlessMemory}
use Rattle.coset_codec.specs.Lists.{EachWith}
use Rattle.coset_codec.specs.declared.error.CoseError.{CoseError}
use Rattle.coset_codec.proofs.Lists.{on_err}
use Rattle.coset_label.specs.declared.ordering.CborOrdering.TheVariants.{Lexicographic}
use Rattle.coset_key.specs.Keys.{KeyView, key_set}
use Rattle.example_uses.specs.KeySets.{IsHeldOf}
use Rattle.example_uses.proofs.KeySets.{are_same, each_apart}
use Rattle.example_uses.proofs.key_sets.sets_hold_the_same.Goals as goal

pub returns-in_err-one-clause-refused : goal.returns-in_err-one-clause-refused
returns-in_err-one-clause-refused c =
    let stands = λ (e : CoseError). DescribesNothing key_set c.args.one.now ⊎ DescribesNothing key_set c.args.other.now in
    on_err c.from_residual.result _ (λ e. UnlessMemory e stands) c.from_residual.ensures.1 (λ n. inl (c.in_err-one.ensures.refused n))

pub returns-in_err-other-clause-refused : goal.returns-in_err-other-clause-refused
returns-in_err-other-clause-refused c =
    let stands = λ (e : CoseError). DescribesNothing key_set c.args.one.now ⊎ DescribesNothing key_set c.args.other.now in
    let is = c.from_residual-in_err-other.ensures.1 in
    on_err c.from_residual-in_err-other.result _ (λ e. UnlessMemory e stands) is (λ n. inr (c.in_err-other.ensures.refused n))

pub returns-clause-same : goal.returns-clause-same
returns-clause-same c = λ ks ls read_one read_other.
    let one = c.in_ok-one.ensures.ok in
    let other = c.in_ok-other.ensures.ok in
    let of_one : one.read ≡ ks = c.one_value.ensures.plain c.args.one.now one.read ks one.is_read read_one in
    let of_other : other.read ≡ ls = c.one_value.ensures.plain c.args.other.now other.read ls other.is_read read_other in
    let held_of_one = subst (λ x. EachWith (IsHeldOf Lexicographic) x (map (λ b. b.items) c.in_ok-one.one.items)) of_one one.each in
    let held_of_other = subst (λ x. EachWith (IsHeldOf Lexicographic) x (map (λ b. b.items) c.in_ok-other.other.items)) of_other other.each in
    let keys_of_one = λ (k : KeyView). c.keys_of_a_set.ensures c.args.one.now ks k read_one in
    let keys_of_other = λ (k : KeyView). c.keys_of_a_set.ensures c.args.other.now ls k read_other in
    let law = c.canonical_keys_injective.ensures Lexicographic in
    let apart = each_apart Lexicographic law ks ls _ _ keys_of_one keys_of_other held_of_one held_of_other in
    let same = are_same c.in_ok-one.one.items c.in_ok-other.other.items c.eq.result c.eq.ensures in
    (λ h. apart.0 (same.0 h), λ a. same.1 (apart.1 a))
