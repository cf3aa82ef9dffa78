use Rattle.std.proofs.Common.{Some, None}
use Rattle.coset_seen.proofs.Labelling.{header_found}
use Rattle.coset_seen.proofs.labels.header_at.Goals as goal

pub returns-in-Some : goal.returns-in-Some
returns-in-Some c =
    header_found (Some c.in-Some.count) c.args.input.now c.in_ok-count.rest.now c.pairs_at.result (rw c.in-Some.is at c.in_ok-count.ensures)
    c.pairs_at.ensures

pub returns-in-None : goal.returns-in-None
returns-in-None c =
    header_found None c.args.input.now c.in_ok-count.rest.now c.unbounded_at.result (rw c.in-None.is at c.in_ok-count.ensures) c.unbounded_at.ensures
