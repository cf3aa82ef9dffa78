use Rattle.std.proofs.Common.{◌≡◌, ◌∙◌, ◌⊎◌, inr, sym, subst}
use Rattle.std.specs.Cmp.Lexicographic.{bytes_decides}
use Rattle.coset_key.specs.Canonical.{IsCanonicalOf}
use Rattle.coset_key.specs.Keys.{key}
use Rattle.coset_label.specs.declared.ordering.CborOrdering.TheVariants.{Lexicographic}
use Rattle.coset_codec.specs.Results.{IsRefused}
use Rattle.example_uses.proofs.Refusing.{passed}
use Rattle.example_uses.proofs.store.hold_the_same.Goals as goal

pub returns-clause-same : goal.returns-clause-same
returns-clause-same c = λ k l read_one read_other.
    let one = c.in_ok-one.ensures.held in
    let other = c.in_ok-other.ensures.held in
    let of_one : one.read ≡ k = c.one_value.ensures.plain c.args.one.now one.read k one.is_read read_one in
    let of_other : other.read ≡ l = c.one_value.ensures.plain c.args.other.now other.read l other.is_read read_other in
    let apart = c.canonical_keys_injective.ensures Lexicographic read_one.0 read_other.0 c.in_ok-one.one.items c.in_ok-other.other.items k l one.ordered
    other.ordered read_one.2 read_other.2 (subst (λ x. IsCanonicalOf Lexicographic x one.ordered) of_one one.is_ordered)
    (subst (λ x. IsCanonicalOf Lexicographic x other.ordered) of_other other.is_ordered) one.is_written other.is_written in
    let same = bytes_decides c.in_ok-one.one.items c.in_ok-other.other.items in
    (λ h. apart.0 (same.0 (sym c.eq.ensures ∙ h)), λ h. c.eq.ensures ∙ same.1 (apart.1 h))

pub returns-in_err-other-clause-refused : goal.returns-in_err-other-clause-refused
returns-in_err-other-clause-refused c = passed (λ e. IsRefused key c.args.one.now e
    ⊎ IsRefused key c.args.other.now e) _ _ c.from_residual-in_err-other.ensures.1 (inr c.in_err-other.ensures.refused)
