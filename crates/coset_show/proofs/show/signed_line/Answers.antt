use Rattle.std.proofs.Common.{rules}
use Rattle.coset.specs.Sign1.{sign1_view}
use Rattle.coset_show.proofs.Showing.{read_is_signed}
use Rattle.coset_show.proofs.show.signed_line.Goals as goal

pub returns-in_err-signed : goal.returns-in_err-signed
returns-in_err-signed c = λ v described.
    let there = read_is_signed v (sign1_view c.args.message.now) described in
    search rules
