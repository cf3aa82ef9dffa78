use Rattle.std.proofs.Common.{inr}
use Rattle.coset_codec.specs.Errors.{IsUnexpected}
use Rattle.coset_codec.proofs.Lists.{each_masked}
use Rattle.coset_core.specs.Headers.{signature}
use Rattle.coset_core.proofs.signature.read_signatures.Goals as goal

pub returns-clause-reads : goal.returns-clause-reads
returns-clause-reads c = λ v z stands.
    let here = c.in_ok-elements.ensures.enters v z stands in
    let read = c.in-Err.ensures.fills here.0 z here.2 in (
      c.finish.ensures.passes read.0.0 z read.0.1,
      λ other.
          let told = c.masked_error.ensures.blames (λ e. other (c.masked_error.ensures.memory e)) in
          inr (
            here.0,
            here.1,
            inr (
              λ m. m,
              each_masked signature IsUnexpected here.0 c.fill_signature_list-filled.new.error c.masked_error.result told.0
                  (read.1 (λ e. other (c.masked_error.ensures.memory e))),
            ),
          ),
    )
