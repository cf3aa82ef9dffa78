use Rattle.coset.specs.ShapeLaws.{some-none}
use Rattle.coset.specs.Keys.{key_view}
use Rattle.ffi_make.specs.Canonical.{IsCanonicalKey, IsNoKey}
use Rattle.ffi_make.proofs.Making.{refused}
use Rattle.ffi_make.proofs.key.find_canonical.Goals as goal

pub returns-in_err-key : goal.returns-in_err-key
returns-in_err-key c =
    let b = c.args.bytes.now in
    refused (λ x. x.items) (IsCanonicalKey c.args.ordering b) ⊥ (IsNoKey b) c.in_err-key.field-0.0 c.from_residual.result c.from_residual.ensures.1
    (λ n. (c.in_err-key.ensures.read n, c.in_err-key.ensures.refused n))

pub returns-in_err-to_vec : goal.returns-in_err-to_vec
returns-in_err-to_vec c =
    let b = c.args.bytes.now in
    let read = c.in_ok-key.ensures.read in
    let again = c.canonical_keys_read_again.ensures c.args.ordering read.0 (key_view c.in_ok-key.key) (key_view c.canonicalize.new.self) read.2 read.1.1
    c.in_ok-canonicalize.ensures.canonical in
    refused (λ x. x.items) (IsCanonicalKey c.args.ordering b) ⊥ (IsNoKey b) c.in_err-to_vec.field-0.0 c.from_residual-in_err-to_vec.result
    c.from_residual-in_err-to_vec.ensures.1 (λ n. absurd (some-none again.1 (c.in_err-to_vec.ensures n).1))
