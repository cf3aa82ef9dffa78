use mir.Syntax.{w64}
use Rattle.std.proofs.Common.{◌∙◌, Some, ap, option_map, sym}
use Rattle.std.proofs.lemmas.Int.{to_z-of_z}
use Rattle.coset_iana.specs.CoapContentFormat as formats
use Rattle.cwt_verify.specs.Types.{format_of}
use Rattle.cwt_verify.proofs.types.named_by.Goals as goal

pub returns-in-Some : goal.returns-in-Some
unfolding format_of
returns-in-Some c =
    ap Some c.name.ensures
    ∙ (ap (option_map formats.name) (sym c.in-Some.is ∙ c.from_i64.ensures)
    ∙ ap (λ i. option_map formats.name (format_of i)) (to_z-of_z w64 c.args.number c.ranges.number))

pub returns-in-None : goal.returns-in-None
unfolding format_of
returns-in-None c =
    ap (option_map formats.name) (sym c.in-None.is ∙ c.from_i64.ensures)
    ∙ ap (λ i. option_map formats.name (format_of i)) (to_z-of_z w64 c.args.number c.ranges.number)
