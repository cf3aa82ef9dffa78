use Rattle.std.proofs.Common.{ap, refl}
use Rattle.coset_core.specs.Headers.{HeaderView}
use Rattle.coset_core.proofs.Building.{countersignature-added}
use Rattle.coset_sign.specs.Sign1.{sign1_view}
use Rattle.example_uses.proofs.countersigning.and_countersignature.Goals as goal

pub returns-clause-ok : goal.returns-clause-ok
returns-clause-ok c =
    ap (λ (h : HeaderView). record (sign1_view c.args.message) { unprotected = h })
    (countersignature-added c.args.message.unprotected _ c.args.made refl refl c.in_ok-push.ensures.items)
