use Rattle.std.proofs.Common.{ap, sym, subst}
use Rattle.coset_codec.specs.Errors.{stored}
use Rattle.coset_codec.specs.InPlace.{Fills}
use Rattle.coset_core.specs.HeaderAgain.{bytes-is}
use Rattle.coset_core.specs.Headers.{protected}
use Rattle.coset_core.specs.ViewLaws.{protected-made}
use Rattle.coset_core.specs.Views.{protected_view}
use Rattle.coset_core.proofs.Reading.{no_string}
use Rattle.coset_codec.proofs.InPlace.{not_filled}
use Rattle.coset_core.proofs.protected.fill_bstr.Goals as goal

pub returns-in_err-bytes-clause-fills : goal.returns-in_err-bytes-clause-fills
returns-in_err-bytes-clause-fills c = λ v z stands.
    let here = c.in_err-bytes.ensures.forward.reads v z stands in (
      here.0,
      not_filled protected _ v c.from_residual.result c.string_bytes.new.error c.in_err-bytes.field-0.0 c.from_residual.ensures.1
          (λ n. no_string 16 v c.string_bytes.new.error (here.1 n)),
    )

pub returns-clause-fills : goal.returns-clause-fills
returns-clause-fills c = λ v z stands.
    let here = c.in_ok-bytes.ensures.forward.reads v z stands in
    let b = c.in_ok-bytes.bytes.items in (
      here.0,
      subst (λ w. Fills protected w (protected_view c.fill_protected.new.protected) (stored c.fill_protected.new.error c.fill_protected.result))
          (sym (bytes-is v b here.1))
          (c.fill_protected.ensures b (ap (λ p. p.original) (protected-made _))),
    )
