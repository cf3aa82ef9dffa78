use Rattle.std.proofs.Common.{subst}
use Rattle.std.specs.Fmt.{HasWritten}
use Rattle.coset_claims.proofs.WrittenMoments.{written}
use Rattle.coset_claims.proofs.date.write_moment.Goals as goal

pub returns : goal.returns
returns g c = λ plain ok.
    subst (λ t. HasWritten g.W.Write.write_str_gives c.args.f.now t c.write.new.self)
    (written c.args.seconds c.laid_out.ensures c.laid_out-2.ensures c.laid_out-3.ensures c.laid_out-4.ensures c.laid_out-5.ensures c.laid_out-6.ensures
    c.year_of-year.ensures.year c.month_of-month.ensures.month)
    (c.write.ensures.writes plain ok)
