use Rattle.std.proofs.Common.{inl}
use Rattle.coset_codec.proofs.Placed.{passed_on}
use Rattle.coset_core.specs.Fields.{content_type}
use Rattle.coset_core.specs.Views.{content_type_view}
use Rattle.coset_core.proofs.content_type.read_content_type.Goals as goal

pub returns-in_err-content_type-clause-reads : goal.returns-in_err-content_type-clause-reads
unfolding content_type
returns-in_err-content_type-clause-reads c = λ v z stands.
    let here = c.in_err-content_type.ensures.forward.reads v z stands in
    (here.0, passed_on content_type content_type_view v c.from_residual.result c.in_err-content_type.field-0.0 c.from_residual.ensures.1 (λ n. inl (here.1 n)))
