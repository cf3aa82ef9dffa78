use mir.Syntax.{w64}
use Rattle.std.specs.Prelude.{FitsSigned}
use Rattle.std.proofs.Common.{◌∙◌, ap, option_map, subst, sym}
use Rattle.std.proofs.lemmas.Int.{to_z-of_z}
use Rattle.coset_iana.specs.CoapContentFormat as formats
use Rattle.cwt_verify.specs.Types.{format_of}
use Rattle.cwt_verify.proofs.TypeNames.{no_format}
use Rattle.cwt_verify.proofs.types.format_name.Goals as goal

pub returns-in-Ok : goal.returns-in-Ok
returns-in-Ok c =
    let fits = subst (FitsSigned w64) (sym c.in-Ok.ensures.1) c.in-Ok.ensures.0 in
    c.named_by.ensures
    ∙ ap (λ i. option_map formats.name (format_of i)) (to_z-of_z w64 c.in-Ok.number fits ∙ c.in-Ok.ensures.1)

pub returns-in-Err : goal.returns-in-Err
returns-in-Err c = sym (ap (option_map formats.name) (no_format c.args.number c.in-Err.ensures))
