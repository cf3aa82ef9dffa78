use mir.Syntax.{w64}
use mir.Val.{SFits}
use Rattle.std.proofs.Common.{sym, subst, ◌∙◌}
use Rattle.std.proofs.lemmas.Int.{to_z-of_z}
use Rattle.coset_seen.proofs.Fronts.{unsigned_at, negative_at, negated}
use Rattle.coset_seen.proofs.forward.integer_at.Goals as goal

pub returns-in-Unsigned-clause-begins : goal.returns-in-Unsigned-clause-begins
returns-in-Unsigned-clause-begins c =
    let n = c.in-Ok-try_from in
    let same = to_z-of_z w64 n.number (subst (SFits w64) (sym n.ensures.1) n.ensures.0) in
    unsigned_at c.args.input.now c.in-Ok.head c.in-Ok.rest.now c.in_ok-number.field-0 _ c.in-Ok.ensures c.in-Unsigned.is c.in_ok-number.ensures
    (same ∙ n.ensures.1)

pub returns-in-Negative-clause-begins : goal.returns-in-Negative-clause-begins
returns-in-Negative-clause-begins c =
    let n = c.in-Ok-try_from in
    negative_at c.args.input.now c.in-Ok.head c.in-Ok.rest.now c.in_ok-number.field-0 _ c.in-Ok.ensures c.in-Negative.is c.in_ok-number.ensures
    (negated n.number c.in_ok-number.field-0 n.ensures.0 n.ensures.1)
