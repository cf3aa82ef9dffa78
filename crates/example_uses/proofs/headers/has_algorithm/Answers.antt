use Rattle.std.proofs.Common.{◌∙◌, ap, sym, option_map}
use Rattle.coset_iana.specs.Algorithm as algorithms
use Rattle.coset_label.specs.LabelData.{assigned}
use Rattle.coset_label.specs.Views.{algorithm_view}
use Rattle.coset_core.specs.Fields.{FieldsView}
use Rattle.coset_claims.specs.Claims.{same_label}
use Rattle.example_uses.specs.HeaderParts.{is_there_and}
use Rattle.example_uses.proofs.Opened.{opened}
use Rattle.example_uses.proofs.headers.has_algorithm.Goals as goal

pub returns-in-Some : goal.returns-in-Some
returns-in-Some c =
    let a = assigned (algorithms.number c.args.algorithm) in
    c.eq.ensures.matches_cmp
    ∙ sym (ap (λ (f : FieldsView). is_there_and (λ b. same_label b a) f.alg) (opened c.args.header.now)
    ∙ ap (λ o. is_there_and (λ b. same_label b a) (option_map algorithm_view o)) c.in-Some.is)

pub returns-in-None : goal.returns-in-None
returns-in-None c =
    let a = assigned (algorithms.number c.args.algorithm) in
    sym (ap (λ (f : FieldsView). is_there_and (λ b. same_label b a) f.alg) (opened c.args.header.now)
    ∙ ap (λ o. is_there_and (λ b. same_label b a) (option_map algorithm_view o)) c.in-None.is)
