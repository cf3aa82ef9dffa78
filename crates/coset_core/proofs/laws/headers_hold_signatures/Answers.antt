use Rattle.coset_core.proofs.HeaderMap.{header_decides, header_told_so, header_written, header_faulty, header_faulty_so}
use Rattle.coset_core.proofs.laws.headers_hold_signatures.Goals as goal

pub returns-clause-describes : goal.returns-clause-describes
returns-clause-describes c = λ n v h. (header_decides n v h, header_told_so n v h)

pub returns-clause-image : goal.returns-clause-image
returns-clause-image c = header_written

pub returns-clause-faults : goal.returns-clause-faults
returns-clause-faults c = λ n v e. (header_faulty n v e, header_faulty_so n v e)
