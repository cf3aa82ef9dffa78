use Rattle.coset_core.specs.Views.{signature_view}
use Rattle.coset_sign.proofs.Copied.{each_copied}
use Rattle.coset_sign.proofs.sign.copy_signatures.Goals as goal

pub returns : goal.returns
returns c = each_copied signature_view c.args.all.now.items _ c.in_ok-clone.ensures.cases.0
