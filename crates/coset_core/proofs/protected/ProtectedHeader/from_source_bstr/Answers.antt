use Rattle.coset_codec.specs.Sources.{source_item}
use Rattle.coset_codec.proofs.Refusals.{refuses_item}
use Rattle.coset_core.specs.HeaderLaws.{protected_laws}
use Rattle.coset_core.specs.Headers.{protected}
use Rattle.coset_core.specs.Views.{protected_view}
use Rattle.coset_core.proofs.protected.ProtectedHeader.from_source_bstr.Goals as goal

pub returns-clause-refused : goal.returns-clause-refused
returns-clause-refused c =
    let read = c.read_protected.ensures.forward.reads (source_item c.args.source) c.new.ensures.item.0 c.new.ensures.item.1 in
    refuses_item protected protected_laws.sound protected_view (source_item c.args.source) c.read_protected.result read.1
