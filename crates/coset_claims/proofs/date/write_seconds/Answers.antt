use Rattle.std.proofs.Common.{◌≡◌, None, sym, subst, ap, ◌∙◌, to_z, of_z, w64}
use Rattle.std.proofs.lemmas.Int.{to_z-of_z}
use Rattle.std.specs.Fmt.{HasWritten}
use Rattle.coset_claims.specs.Dates.{before_1970, in_calendar, moment_or_seconds}
use Rattle.std.specs.Prelude.{pos, ◌+ℤ◌}
use Rattle.coset_claims.proofs.date.write_seconds.Goals as goal

pub returns-in-Some : goal.returns-in-Some
returns-in-Some g c = λ plain ok.
    let same : to_z w64 (of_z w64 c.args.seconds) ≡ c.args.seconds = to_z-of_z w64 c.args.seconds c.ranges.seconds in
    subst (λ o. HasWritten g.W.Write.write_str_gives c.args.f.now (moment_or_seconds o c.args.seconds) c.write_in_utc.new.f)
    (sym c.in-Some.is ∙ c.in_calendar.ensures ∙ ap (λ z. in_calendar (z +ℤ pos before_1970)) same) (c.write_in_utc.ensures plain ok)

pub returns-in-None : goal.returns-in-None
returns-in-None g c = λ plain ok.
    let same : to_z w64 (of_z w64 c.args.seconds) ≡ c.args.seconds = to_z-of_z w64 c.args.seconds c.ranges.seconds in
    subst (λ o. HasWritten g.W.Write.write_str_gives c.args.f.now (moment_or_seconds o c.args.seconds) c.write.new.self)
    (sym c.in-None.is ∙ c.in_calendar.ensures ∙ ap (λ z. in_calendar (z +ℤ pos before_1970)) same)
    (subst (λ z. HasWritten g.W.Write.write_str_gives c.args.f.now (moment_or_seconds None z) c.write.new.self) same (c.write.ensures.writes plain ok))
