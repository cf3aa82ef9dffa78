use Rattle.coset.specs.Pulls.{pull_item}
use Rattle.ffi_query.specs.declared.kind.Kind.TheVariants.{KeySet}
use Rattle.ffi_query.specs.Sets.{IsKeyBy}
use Rattle.ffi_query.proofs.Answering.{answered}
use Rattle.ffi_query.proofs.keys.key_of.Goals as goal

pub returns-in-Ok : goal.returns-in-Ok
returns-in-Ok c =
    answered (λ b. b.items) KeySet c.args.bytes.now c.args.out.now c.write_found.new.out (IsKeyBy c.args.key_id.now) (pull_item c.in-Ok.set)
    c.find_key.result c.write_found.result c.in-Ok.ensures c.find_key.ensures.found c.find_key.ensures.memory c.write_found.ensures
