use Rattle.coset.specs.Pulls.{pull_item}
use Rattle.ffi_query.specs.declared.kind.Kind.TheVariants.{Recipient}
use Rattle.ffi_query.specs.Structures.{IsRecipientStructure}
use Rattle.ffi_query.proofs.Answering.{answered}
use Rattle.ffi_query.proofs.structure.recipient_structure_of.Goals as goal

pub returns-in-Ok : goal.returns-in-Ok
returns-in-Ok c =
    answered (λ b. b.items) Recipient c.args.bytes.now c.args.out.now c.write_found.new.out (IsRecipientStructure c.args.holder c.args.external_aad.now)
    (pull_item c.in-Ok.item) c.find_recipient_structure.result c.write_found.result c.in-Ok.ensures c.find_recipient_structure.ensures.found
    c.find_recipient_structure.ensures.memory c.write_found.ensures
