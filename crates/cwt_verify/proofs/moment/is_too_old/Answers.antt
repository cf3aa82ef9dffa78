use mir.Syntax.{w128}
use mir.Val.{of_z, to_z}
use Rattle.std.proofs.Common.{◌≡◌, ◌-ℤ◌, ◌∙◌, ℤ, ap, arith, option_map, pos, sym, true}
use Rattle.std.proofs.lemmas.Int.{ints}
use Rattle.coset.specs.Timestamp.{timestamp_view}
use Rattle.cwt_verify.specs.Moment.{has_come, is_too_old}
use Rattle.cwt_verify.proofs.moment.is_too_old.Goals as goal

pub returns-in-Some-issued_at : goal.returns-in-Some-issued_at
returns-in-Some-issued_at c =
    let moment = timestamp_view c.in-Some-issued_at.moment in
    let k : to_z w128 (of_z w128 (to_z w128 (of_z w128 (to_z w128 (of_z w128 c.from.result) -ℤ to_z w128 (of_z w128 c.from-in-Some-issued_at.result)))
    -ℤ to_z w128 (of_z w128 c.from-in-Some-issued_at-2.result)))
    ≡ c.args.now -ℤ pos c.args.leeway -ℤ pos c.in-Some.age =
    omega (arith, ints) in
    c.has_come.ensures ∙ (ap (λ (n : ℤ). has_come true n moment) k
    ∙ sym (λ i. is_too_old (c.in-Some.is i) c.args.leeway c.args.now (option_map timestamp_view (c.in-Some-issued_at.is i))))
