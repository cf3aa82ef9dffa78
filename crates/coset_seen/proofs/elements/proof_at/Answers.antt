use Rattle.coset_seen.proofs.Messages.{no_proof, proof_and_recipients, proof_of_two}
use Rattle.coset_seen.proofs.elements.proof_at.Goals as goal

pub returns-in_ok-proof-in-Sign1 : goal.returns-in_ok-proof-in-Sign1
returns-in_ok-proof-in-Sign1 c =
    let p = c.in_ok-proof-in-Sign1 in
    proof_of_two c.args.kind c.args.input.now p.proof c.in-Sign1.is p.ensures.begins p.ensures.ahead

pub returns-in-Encrypt0 : goal.returns-in-Encrypt0
returns-in-Encrypt0 c = rw c.in-Encrypt0.is (no_proof c.args.input.now c.empty_at.result c.empty_at.ensures.bytes c.empty_at.ensures.behind)

pub returns-in_ok-rest-in-Mac : goal.returns-in_ok-rest-in-Mac
returns-in_ok-rest-in-Mac c =
    let p = c.in_ok-proof-in-Mac in
    let w = c.in_ok-rest-in-Mac.ensures in
    rw c.in-Mac.is
    (proof_and_recipients c.args.input.now p.proof w.0 c.in_ok-rest-in-Mac.rest.now p.ensures.begins p.ensures.ahead w.1)
