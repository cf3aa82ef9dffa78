use Rattle.std.proofs.Common.{refl, ap, ◌∷◌, ◌∙◌, arith}
use Rattle.coset_cbor.specs.Cursors.{bytes_left}
use Rattle.coset_cbor.proofs.Cursors.{stands_shorter}
use Rattle.coset_cbor.proofs.ReadThere.{null_read, no_null}
use Rattle.coset_cbor.proofs.cursor.Cursor.null.Goals as goal

pub returns-in_default-clause-reads : goal.returns-in_default-clause-reads
returns-in_default-clause-reads c = λ v a is. (
  λ _. let some = stands_shorter v (bytes_left c.args.self.now) a is in let none = c.in_default.ensures.cases in
      absurd (omega (arith, some, none)),
  refl,
)

pub returns-then-first-clause-reads : goal.returns-then-first-clause-reads
returns-then-first-clause-reads c = λ v a is. (
  no_null v
      (bytes_left c.args.self.now) a c.in-Some.rest.now c.in-Some.first.now is c.in-Some.ensures.cases.0 c.if-first.true,
  refl,
)

pub returns-clause-reads : goal.returns-clause-reads
returns-clause-reads c = λ v a is. null_read v (bytes_left c.args.self.now) a c.in-Some.rest.now is
    (c.in-Some.ensures.cases.0 ∙ ap (λ x. x ∷ c.in-Some.rest.now) c.if-first.false)
