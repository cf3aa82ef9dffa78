use Rattle.std.proofs.Common.{◌≡◌, ap, sym, ◌∙◌, arith}
use Rattle.coset_core.specs.SignatureCounts.{header_count, count_in_lists}
use Rattle.coset_core.specs.ViewLaws.{protected-opened}
use Rattle.coset_core.specs.Views.{header_view, protected_view}
use Rattle.coset_core.specs.declared.protected.ProtectedHeader.{out-ProtectedHeader}
use Rattle.coset_core.proofs.Signatures.{opened}
use Rattle.coset_core.proofs.signature.take_counter_signatures.Goals as goal

pub returns : goal.returns
returns c =
    let p = c.args.protected in
    let u = c.args.unprotected in
    let first : count_in_lists c.into_counter_signatures.result.0.items c.into_counter_signatures.result.1.items ≡ header_count (protected_view p).header =
    ap (λ x. count_in_lists x.0 x.1) c.into_counter_signatures.ensures
    ∙ (sym (opened (out-ProtectedHeader p).header) ∙ sym (ap (λ q. header_count q.header) (protected-opened p))) in
    let second : count_in_lists c.into_counter_signatures-2.result.0.items c.into_counter_signatures-2.result.1.items ≡ header_count (header_view u) =
    ap (λ x. count_in_lists x.0 x.1) c.into_counter_signatures-2.ensures ∙ sym (opened u) in
    omega (arith, first, second)
