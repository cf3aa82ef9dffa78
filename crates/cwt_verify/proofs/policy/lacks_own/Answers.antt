use Rattle.std.proofs.Common.{rules, tests}
use Rattle.std.proofs.lemmas.Iterator.{YieldsList-from_slice}
use Rattle.std.proofs.lemmas.Iterator.Search.{any_from_yields_List}
use Rattle.coset.specs.LabelData.{assigned}
use Rattle.coset.specs.Views.{header_view}
use Rattle.coset_iana.specs.HeaderParameter as parameters
use Rattle.cwt_verify.specs.Policy.{is_missing}
use Rattle.cwt_verify.specs.declared.policy.TheConstants.{OWN_LABELS}
use Rattle.cwt_verify.proofs.policy.lacks_own.Goals as goal

pub returns : goal.returns
returns c =
    any_from_yields_List (λ p. is_missing (header_view c.args.header.now) (assigned (parameters.number p))) _ _ _ c.any.ensures.ran
    (YieldsList-from_slice OWN_LABELS cc) (λ x b q k. search (rules, tests))
