use Rattle.std.proofs.Common.{◌≡◌, ◌∙◌, of_z, sym, to_z, w64}
use Rattle.std.proofs.lemmas.Int.{to_z-of_z}
use Rattle.test_headers.proofs.registry.found.Goals as goal

-- The value of a number has that number.
pub returns : goal.returns
returns g c =
    let asked : to_z w64 (of_z w64 c.args.i) ≡ c.args.i = to_z-of_z w64 c.args.i c.ranges.i in
    let law = g.met.T.EnumI64.number_of_value (to_z w64 (of_z w64 c.args.i)) c.in_ok-value.value (sym c.from_i64.ensures ∙ c.in_ok-value.was) in
    let same : c.to_i64-number.result ≡ c.args.i = c.to_i64-number.ensures ∙ law ∙ asked in
    rw same asked
