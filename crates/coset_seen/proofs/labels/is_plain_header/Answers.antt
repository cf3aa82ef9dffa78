use Rattle.coset_seen.proofs.Seeing.{plain_header_found}
use Rattle.coset_seen.proofs.labels.is_plain_header.Goals as goal

pub returns-in-Some : goal.returns-in-Some
returns-in-Some c = λ t k. plain_header_found c.args.input.now c.in-Some.header c.in-Some.ensures t k
