use Rattle.std.proofs.Common.{◌∙◌, ap, sym}
use Rattle.coset_core.specs.ViewLaws.{signature-opened}
use Rattle.example_uses.specs.Signers.{is_by}
use Rattle.example_uses.proofs.signers.is_by.Goals as goal

pub returns : goal.returns
returns c = c.one_names_key.ensures ∙ sym (ap (is_by c.args.key_id.now) (signature-opened c.args.signature.now))
