use Rattle.std.proofs.Common.{◌∙◌}
use Rattle.coset_cbor.specs.Cursors.{bytes_left}
use Rattle.coset_cbor.proofs.Cursors.{close_counted, close_dropped, close_no_break}
use Rattle.coset_cbor.proofs.cursor.Cursor.close.Goals as goal

pub returns-in-Some-clause-passes : goal.returns-in-Some-clause-passes
returns-in-Some-clause-passes c = λ a w. close_counted c.args.places c.in-Some.field-0 (bytes_left c.args.self.now) a c.in-Some.is w

pub returns-in-Some-after_break-clause-passes : goal.returns-in-Some-after_break-clause-passes
returns-in-Some-after_break-clause-passes c = λ a w. c.in-Some-after_break.ensures.1 ∙ close_dropped c.args.places (bytes_left c.args.self.now) a c.in-None.is w

pub returns-in_default-clause-passes : goal.returns-in_default-clause-passes
returns-in_default-clause-passes c = λ a w. absurd (close_no_break c.args.places (bytes_left c.args.self.now) a c.in-None.is c.in_default.ensures w)
