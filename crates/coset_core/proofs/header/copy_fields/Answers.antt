use Rattle.coset_iana.specs.declared.algorithms.Algorithm.{Algorithm}
use Rattle.coset_iana.specs.declared.content_formats.CoapContentFormat.{CoapContentFormat}
use Rattle.coset_label.proofs.Copies.{registered_copied, list_copied}
use Rattle.coset_label.specs.Views.{algorithm_view, entry_view}
use Rattle.coset_core.specs.Views.{critical_view, content_type_view}
use Rattle.coset_core.specs.declared.header.Header.{out-Header, out-roll-Header}
use Rattle.coset_core.proofs.header.copy_fields.Goals as goal

pub returns-clause-copy : goal.returns-clause-copy
returns-clause-copy c =
    let h = out-Header c.args.header.now in
    let alg = registered_copied Algorithm algorithm_view h.alg c.in_ok-copy.field-0 c.in_ok-copy.ensures.cases in
    let crit = list_copied critical_view _ (λ x y same. same (λ a b e. e)) _ _ c.in_ok-copy-2.ensures.cases.0 in
    let content_type = registered_copied CoapContentFormat content_type_view h.content_type c.in_ok-copy-3.field-0 c.in_ok-copy-3.ensures.cases in
    let rest = list_copied entry_view _ (λ x y same. λ i. (same.0 i, same.1 i)) _ _ c.in_ok-copy-8.ensures.cases.0 in
    simp (
      out-roll-Header,
      alg,
      crit,
      content_type,
      rest,
      c.in_ok-copy-4.ensures.items,
      c.in_ok-copy-5.ensures.items,
      c.in_ok-copy-6.ensures.items,
      c.in_ok-copy-7.ensures,
      c.deref.ensures.value,
      c.deref-2.ensures.value,
      c.deref-3.ensures.value,
    )
