use Rattle.std.proofs.Common.{sym, subst}
use Rattle.coset_codec.specs.Encoding.{Encodes}
use Rattle.coset_core.specs.Headers.{LAYERS}
use Rattle.coset_core.specs.HeaderWrites.{signature_image_is}
use Rattle.coset_core.specs.Views.{countersignature_view}
use Rattle.coset_core.proofs.countersignature.CoseCountersignatureCodec.write.Goals as goal

pub returns-clause-written : goal.returns-clause-written
returns-clause-written c = subst (λ o. Encodes o c.args.out.now.items c.write_countersignature.new.out.items c.write_countersignature.result)
    (sym (signature_image_is LAYERS (countersignature_view c.args.self.now))) c.write_countersignature.ensures.written
