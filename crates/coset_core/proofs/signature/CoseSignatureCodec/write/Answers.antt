use Rattle.std.proofs.Common.{sym, subst}
use Rattle.coset_codec.specs.Encoding.{Encodes}
use Rattle.coset_core.specs.Headers.{LAYERS}
use Rattle.coset_core.specs.HeaderWrites.{signature_image_is}
use Rattle.coset_core.specs.Views.{signature_view}
use Rattle.coset_core.proofs.signature.CoseSignatureCodec.write.Goals as goal

pub returns-clause-written : goal.returns-clause-written
returns-clause-written c = subst (λ o. Encodes o c.args.out.now.items c.write_signature.new.out.items c.write_signature.result)
    (sym (signature_image_is LAYERS (signature_view c.args.self.now))) c.write_signature.ensures.written
