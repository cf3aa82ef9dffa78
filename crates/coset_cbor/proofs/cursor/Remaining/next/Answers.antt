use Rattle.std.proofs.Common.{sym, ◌∙◌}
use Rattle.coset_cbor.specs.Cursors.{bytes_left}
use Rattle.coset_cbor.proofs.Cursors.{next_none, next_counted, next_more, next_end}
use Rattle.coset_cbor.proofs.cursor.Remaining.next.Goals as goal

pub returns-in-Some-eq0 : goal.returns-in-Some-eq0
returns-in-Some-eq0 c = λ vs a w. next_none vs (bytes_left c.args.cursor.now) a c.args.self.now c.in-Some-eq0.field-0 c.in-Some-eq0.is
    (sym c.in-Some-eq0.field-0-is ∙ c.in-Some-eq0.field-0-test) w

pub returns-in-Some : goal.returns-in-Some
returns-in-Some c = λ vs a w.
    let some = rw c.in-Some.is at c.in-Some.n-test.1 in
    next_counted vs (bytes_left c.args.cursor.now) a c.args.self.now c.in-Some.n c.in-Some.is some w

pub returns-in-Some-after_break : goal.returns-in-Some-after_break
returns-in-Some-after_break c = λ vs a w. next_end vs (bytes_left c.args.cursor.now) a c.args.self.now c.in-None.is c.in-Some-after_break.ensures.0 w

pub returns-in-None-after_break : goal.returns-in-None-after_break
returns-in-None-after_break c = λ vs a w. next_more vs (bytes_left c.args.cursor.now) a c.args.self.now c.in-None.is c.in-None-after_break.ensures w
