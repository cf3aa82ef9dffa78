use mir.Syntax.{w64}
use Rattle.std.proofs.Common.{◌∙◌, ap, sym}
use Rattle.std.proofs.lemmas.Int.{to_z-of_z}
use Rattle.std.specs.Prelude.{is_some}
use Rattle.coset_seen.proofs.Ascending.{known_format}
use Rattle.coset_seen.proofs.Values.{format_value}
use Rattle.coset_seen.proofs.header.is_content_format.Goals as goal

pub returns : goal.returns
returns c =
    let n = c.args.number in
    let same = sym (to_z-of_z w64 n c.ranges.number) in
    λ t. format_value n c.ranges.number (ap known_format same ∙ (sym (ap is_some c.from_i64.ensures) ∙ (sym c.is_some.ensures ∙ t)))
