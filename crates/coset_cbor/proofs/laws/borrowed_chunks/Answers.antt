use Rattle.std.proofs.Common.{true, false}
use Rattle.coset_cbor.proofs.Chunking.{chunks_alone}
use Rattle.coset_cbor.proofs.laws.borrowed_chunks.Goals as goal

pub returns-clause-bytes : goal.returns-clause-bytes
returns-clause-bytes c = λ it. chunks_alone false it.bytes.now it.checked

pub returns-clause-text : goal.returns-clause-text
returns-clause-text c = λ it. chunks_alone true it.bytes.now it.checked
