use Rattle.std.proofs.Common.{sym, subst}
use Rattle.coset_codec.specs.Encoding.{Encodes}
use Rattle.coset_core.specs.Headers.{LAYERS}
use Rattle.coset_core.specs.HeaderWrites.{protected_image_is}
use Rattle.coset_core.specs.Views.{protected_view}
use Rattle.coset_core.proofs.protected.ProtectedRefEncode.encode.Goals as goal

pub returns-clause-written : goal.returns-clause-written
returns-clause-written c = subst (λ o. Encodes o c.args.out.now.items c.write_protected.new.out.items c.write_protected.result)
    (sym (protected_image_is LAYERS (protected_view c.args.self.now.0.now))) c.write_protected.ensures.written
