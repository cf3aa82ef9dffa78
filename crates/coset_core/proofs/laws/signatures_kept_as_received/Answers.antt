use Rattle.coset_codec.proofs.AsWritten.{tagged_when_read}
use Rattle.coset_core.specs.Headers.{layered_signature}
use Rattle.coset_core.proofs.Kept.{header_when_read, held_when_read, keeps_own, signature_when_read}
use Rattle.coset_core.proofs.laws.signatures_kept_as_received.Goals as goal

pub returns-clause-signature : goal.returns-clause-signature
returns-clause-signature c = signature_when_read

pub returns-clause-tagged_signature : goal.returns-clause-tagged_signature
returns-clause-tagged_signature c = λ n k. tagged_when_read n (layered_signature k) _ (keeps_own k)

pub returns-clause-header : goal.returns-clause-header
returns-clause-header c = header_when_read

pub returns-clause-protected : goal.returns-clause-protected
returns-clause-protected c = held_when_read
