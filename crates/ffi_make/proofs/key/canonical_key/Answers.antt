use Rattle.ffi_make.specs.Canonical.{IsCanonicalKey, IsNoKey}
use Rattle.ffi_make.proofs.Making.{written}
use Rattle.ffi_make.proofs.key.canonical_key.Goals as goal

pub returns : goal.returns
returns c =
    let b = c.args.bytes.now in
    written (λ x. x.items) (IsCanonicalKey c.args.ordering b) ⊥ (IsNoKey b) c.args.out.now c.write_found.new.out c.find_canonical.result
    c.write_found.result c.find_canonical.ensures c.write_found.ensures
