use Rattle.std.proofs.Common.{arith}
use Rattle.coset_seen.proofs.Fronts.{ahead_at, string_at}
use Rattle.coset_seen.proofs.forward.bytes_at.Goals as goal

pub returns-clause-begins : goal.returns-clause-begins
returns-clause-begins c =
    string_at c.args.input.now c.in_ok-len.len c.in_ok-len.rest.now c.split_at.result.0.now c.split_at.result.1.now c.in_ok-len.ensures
    c.split_at.ensures.front c.split_at.ensures.back (omega (arith, c.if-rest-len.false))

pub returns-clause-ahead : goal.returns-clause-ahead
returns-clause-ahead c =
    ahead_at c.args.input.now c.in_ok-len.len c.in_ok-len.rest.now (record { bytes = c.split_at.result.0; behind = c.split_at.result.1 })
    c.in_ok-len.ensures c.split_at.ensures.front c.split_at.ensures.back
