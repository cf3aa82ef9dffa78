use Rattle.coset_key.proofs.CanonicalKeys.{canonical_apart}
use Rattle.coset_key.proofs.laws.canonical_keys_injective.Goals as goal

pub returns : goal.returns
returns c = λ o. canonical_apart o c.encoding_is_injective.ensures.plain
