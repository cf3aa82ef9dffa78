use Rattle.std.proofs.Common.{◌-◌, ◌+◌, ◌*◌, ◌/◌, ◌%◌, sym, ap, ◌∙◌, arith}
use Rattle.coset_claims.proofs.Years.{before_enough, counted, no_years, split}
use Rattle.coset_claims.proofs.date.year_of.Goals as goal

pub returns-clause-year : goal.returns-clause-year
returns-clause-year c =
    let d = c.args.days in
    let e = d / 146097 in
    let f = d % 146097 in
    let m = c.min-centuries.result in
    let g = f - 36524 * m in
    let y = c.min-years.result in
    let k = 400 * e + 100 * m + 4 * (g / 1461) + y in
    let r = g % 1461 - 365 * y in
    let s = split d m y c.min-centuries.ensures c.min-years.ensures in
    let most = before_enough k d r s.0 in
    ap (λ n. (n, r)) (omega arith)
    ∙ sym (counted k d 0 k d r (omega arith) (omega (arith, most)) (omega (arith, no_years, s.0)) s.1)
