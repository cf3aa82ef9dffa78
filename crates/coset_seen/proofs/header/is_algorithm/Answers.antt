use mir.Syntax.{w64}
use Rattle.std.proofs.Common.{◌∙◌, ap, sym}
use Rattle.std.proofs.lemmas.Int.{to_z-of_z}
use Rattle.std.specs.Prelude.{is_some}
use Rattle.coset.specs.WithPrivateRange.{is_private_use}
use Rattle.coset_seen.proofs.Ascending.{known_algorithm}
use Rattle.coset_seen.proofs.Values.{algorithm_value, private_value}
use Rattle.coset_seen.proofs.header.is_algorithm.Goals as goal

pub returns-then-is_some : goal.returns-then-is_some
returns-then-is_some c =
    let n = c.args.number in
    let same = sym (to_z-of_z w64 n c.ranges.number) in
    λ t. algorithm_value n c.ranges.number (ap known_algorithm same ∙ (sym (ap is_some c.from_i64.ensures) ∙ (sym c.is_some.ensures ∙ t)))

pub returns-else-is_some : goal.returns-else-is_some
returns-else-is_some c =
    let n = c.args.number in
    let same = sym (to_z-of_z w64 n c.ranges.number) in
    λ t.
    private_value n c.ranges.number (ap known_algorithm same ∙ (sym (ap is_some c.from_i64.ensures) ∙ (sym c.is_some.ensures ∙ c.if-is_some.false)))
    (ap is_private_use same ∙ (sym c.is_private.ensures ∙ t))
