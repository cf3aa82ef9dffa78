use mir.Syntax.{w128}
use mir.Val.{of_z, to_z}
use Rattle.std.proofs.Common.{◌≡◌, ◌-ℤ◌, ◌∙◌, ℤ, ap, arith, option_map, pos, sym, true}
use Rattle.std.proofs.lemmas.Int.{ints}
use Rattle.coset.specs.Timestamp.{timestamp_view}
use Rattle.cwt_verify.specs.Moment.{has_come, has_expired}
use Rattle.cwt_verify.proofs.moment.has_expired.Goals as goal

pub returns-in-Some : goal.returns-in-Some
returns-in-Some c =
    let moment = timestamp_view c.in-Some.moment in
    let k : to_z w128 (of_z w128 (to_z w128 (of_z w128 c.from.result) -ℤ to_z w128 (of_z w128 c.from-in-Some.result))) ≡ c.args.now -ℤ pos c.args.leeway =
    omega (arith, ints) in
    c.has_come.ensures ∙ (ap (λ (n : ℤ). has_come true n moment) k
    ∙ sym (ap (λ o. has_expired c.args.leeway c.args.now (option_map timestamp_view o)) c.in-Some.is))
