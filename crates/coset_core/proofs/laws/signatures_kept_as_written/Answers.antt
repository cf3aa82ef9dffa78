use Rattle.coset_codec.proofs.AsWritten.{tagged_as_written}
use Rattle.coset_core.specs.Headers.{layered_signature}
use Rattle.coset_core.specs.Kept.{KeepsSignature}
use Rattle.coset_core.proofs.Kept.{built_as_written, header_as_written, signature_as_written}
use Rattle.coset_core.proofs.laws.signatures_kept_as_written.Goals as goal

pub returns-clause-signature : goal.returns-clause-signature
returns-clause-signature c = signature_as_written

pub returns-clause-tagged_signature : goal.returns-clause-tagged_signature
returns-clause-tagged_signature c = λ n k. tagged_as_written n (layered_signature k) KeepsSignature (signature_as_written k)

pub returns-clause-header : goal.returns-clause-header
returns-clause-header c = λ k v h g e d. (header_as_written k v h g e d).0

pub returns-clause-abbreviated : goal.returns-clause-abbreviated
returns-clause-abbreviated c = λ k v h g e d. (header_as_written k v h g e d).1

pub returns-clause-built : goal.returns-clause-built
returns-clause-built c = built_as_written
