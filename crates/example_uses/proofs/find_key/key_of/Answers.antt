use Rattle.coset_key.specs.Keys.{key_set}
use Rattle.coset_codec.specs.Results.{IsRefused}
use Rattle.example_uses.proofs.Refusing.{passed}
use Rattle.example_uses.proofs.find_key.key_of.Goals as goal

pub returns-in_err-keys-clause-refused : goal.returns-in_err-keys-clause-refused
returns-in_err-keys-clause-refused c = passed (IsRefused key_set c.args.keys.now) _ _ c.from_residual.ensures.1
    (λ k. (c.in_err-keys.ensures.read k, c.in_err-keys.ensures.refused k))

pub returns-in_err-key-clause-refused : goal.returns-in_err-key-clause-refused
returns-in_err-key-clause-refused c = passed (IsRefused key_set c.args.keys.now) _ _ c.from_residual-in_err-key.ensures.1
    (λ k. absurd (k c.in_err-key.ensures.memory))

pub returns-in_err-canonicalize-clause-refused : goal.returns-in_err-canonicalize-clause-refused
returns-in_err-canonicalize-clause-refused c = passed (IsRefused key_set c.args.keys.now) _ _ c.from_residual-in_err-canonicalize.ensures.1
    (λ k. absurd (k c.in_err-canonicalize.ensures.canonical.0))
