use Rattle.std.proofs.Common.{refl}
use Rattle.coset_seen.proofs.Found.{layout_is}
use Rattle.coset_seen.proofs.message.layout_of.Goals as goal

pub returns : goal.returns
returns c =
    let e = c.in_ok-is_tagged in
    layout_is c.args.kind c.args.input.now e.is_tagged e.elements _ e.ensures c.taken_from.ensures refl c.is_either.ensures refl refl refl refl
