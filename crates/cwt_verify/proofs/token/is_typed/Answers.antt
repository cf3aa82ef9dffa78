use Rattle.std.proofs.Common.{◌==◌, ◌∙◌, map, sym, ap}
use Rattle.std.proofs.lemmas.List.{length-map}
use Rattle.cwt_verify.specs.Opening.{verified_view}
use Rattle.cwt_verify.specs.Types.{has_type}
use Rattle.cwt_verify.proofs.Innermost.{if_types, last_is}
use Rattle.cwt_verify.proofs.Opened.{protected_opened}
use Rattle.cwt_verify.proofs.token.is_typed.Goals as goal

pub returns-in-Some : goal.returns-in-Some
returns-in-Some c =
    let types = map (λ s. s.now) c.args.types.now in
    let v = c.in-Some.innermost.now in
    let filled = ap (λ n. n == 0) (length-map c.args.types.now (λ s. s.now)) ∙ (sym c.is_empty.ensures ∙ c.if-is_empty.false) in
    sym (if_types types (map verified_view c.args.layers.now) c.has_type.result filled
    (last_is types c.args.layers.now v c.in-Some.ensures.value ∙ (ap (has_type types) (protected_opened v.protected) ∙ sym c.has_type.ensures)))
