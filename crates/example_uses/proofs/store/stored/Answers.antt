use Rattle.coset_key.specs.Keys.{key, key_view}
use Rattle.coset_codec.specs.ShapeLaws.{some-none}
use Rattle.coset_codec.specs.Results.{IsRefused}
use Rattle.example_uses.proofs.Refusing.{passed, written}
use Rattle.example_uses.proofs.store.stored.Goals as goal

pub returns-in_err-key-clause-refused : goal.returns-in_err-key-clause-refused
returns-in_err-key-clause-refused c = passed (IsRefused key c.args.bytes.now) _ _ c.from_residual.ensures.1
    (λ k. (c.in_err-key.ensures.read k, c.in_err-key.ensures.refused k))

pub returns-in_err-canonicalize-clause-refused : goal.returns-in_err-canonicalize-clause-refused
returns-in_err-canonicalize-clause-refused c = passed (IsRefused key c.args.bytes.now) _ _ c.from_residual-in_err-canonicalize.ensures.1
    (λ k. absurd (k c.in_err-canonicalize.ensures.canonical.0))

pub returns-clause-refused : goal.returns-clause-refused
returns-clause-refused c =
    let read = c.in_ok-key.ensures.read in
    let again = c.canonical_keys_read_again.ensures c.args.ordering read.0 (key_view c.in_ok-key.key)
    (key_view c.canonicalize.new.self) read.2 read.1.1 c.in_ok-canonicalize.ensures.canonical in
    written _ _ _ _ (λ e. some-none again.1 e) c.to_vec.ensures
