use Rattle.coset_key.specs.Keys.{key_view}
use Rattle.example_uses.proofs.KeySets.{written_unless_memory}
use Rattle.example_uses.proofs.key_sets.held_of.Goals as goal

pub returns-clause-memory : goal.returns-clause-memory
returns-clause-memory c = λ v described within.
    let canonical = c.in_ok-canonicalize.ensures.canonical in
    let again = c.canonical_keys_read_again.ensures c.args.ordering v (key_view c.args.key) (key_view c.canonicalize.new.self) described within canonical in
    written_unless_memory (key_view c.canonicalize.new.self) c.to_vec.result again c.to_vec.ensures
