use Rattle.coset_iana.specs.declared.algorithms.Algorithm.{Algorithm}
use Rattle.coset_label.proofs.Copies.{registered_copied, list_copied}
use Rattle.coset_label.specs.Views.{algorithm_view, entry_view}
use Rattle.coset_key.specs.Keys.{operation_view}
use Rattle.coset_key.proofs.key.CoseKeyClone.clone.Goals as goal

pub returns : goal.returns
returns c =
    let k = c.args.self.now in
    let kty = c.in_ok-clone.ensures.cases (λ a b e. e) in
    let alg = registered_copied Algorithm algorithm_view k.alg c.in_ok-clone-2.field-0 c.in_ok-clone-2.ensures.cases in
    let key_ops = list_copied operation_view _ (λ x y same. same (λ a b e. e)) _ _ c.in_ok-clone-3.ensures.cases in
    let params = list_copied entry_view _ (λ x y same. λ i. (same.0 i, same.1 i)) _ _ c.in_ok-clone-4.ensures.cases.0 in
    record {
      cases = simp (
        kty,
        alg,
        key_ops,
        params,
        c.in_ok-from_slice.ensures.items,
        c.in_ok-from_slice-2.ensures.items,
        c.deref.ensures.value,
        c.deref-2.ensures.value,
      );
    }
