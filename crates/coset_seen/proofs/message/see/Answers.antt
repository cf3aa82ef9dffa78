use Rattle.std.proofs.Common.{◌∙◌, sym}
use Rattle.coset_seen.proofs.Found.{lies_in, seen_is}
use Rattle.coset_seen.proofs.message.see.Goals as goal

pub returns-clause-describes : goal.returns-clause-describes
returns-clause-describes c =
    let e = c.in_ok-is_tagged in
    seen_is c.args.kind c.args.input.now e.is_tagged e.elements c.taken_from.result e.ensures c.taken_from.ensures
    (sym c.has_recipients.ensures ∙ c.if-has_recipients.false) c.if-not-elements.false

pub returns-clause-lies : goal.returns-clause-lies
returns-clause-lies c =
    let e = c.in_ok-is_tagged in
    lies_in c.args.kind c.args.input.now e.is_tagged e.elements c.taken_from.result e.ensures c.taken_from.ensures
    (sym c.has_recipients.ensures ∙ c.if-has_recipients.false) c.if-not-elements.false
