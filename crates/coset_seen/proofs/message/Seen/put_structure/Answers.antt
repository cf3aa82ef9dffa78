use Rattle.std.specs.Option.{option_copied}
use Rattle.coset_seen.proofs.Structured.{puts}
use Rattle.coset_seen.proofs.message.Seen.put_structure.Goals as goal

pub returns : goal.returns
returns c =
    puts c.args.self.now c.args.external_aad.now c.args.self.now.content (option_copied c.args.detached) c.in_ok-content.content c.args.out.now
    c.put_structure.new.out c.put_structure.result c.in_ok-content.ensures c.put_structure.ensures
