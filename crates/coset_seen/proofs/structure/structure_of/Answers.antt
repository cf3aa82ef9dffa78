use Rattle.std.proofs.Common.{sym, subst}
use Rattle.std.specs.Prelude.{IfOk}
use Rattle.coset.specs.Shortest.{IsShortest}
use Rattle.coset_seen.specs.Structures.{structure_of}
use Rattle.coset_seen.proofs.Structured.{makes}
use Rattle.coset_seen.proofs.structure.structure_of.Goals as goal

pub returns-in-Sign1 : goal.returns-in-Sign1
returns-in-Sign1 c =
    makes (λ v. v.items) _ c.structure_bytes.result c.or_out_of_memory.result
    (subst (λ k. IfOk c.structure_bytes.result (λ b. IsShortest b.items (structure_of k c.args.protected.now c.args.external_aad.now c.args.content.now)))
    (sym c.in-Sign1.is) c.structure_bytes.ensures.encoding)
    c.or_out_of_memory.ensures

pub returns-in-Mac0 : goal.returns-in-Mac0
returns-in-Mac0 c =
    makes (λ v. v.items) _ c.structure_bytes-in-Mac0.result c.or_out_of_memory-in-Mac0.result
    (subst (λ k. IfOk c.structure_bytes-in-Mac0.result (λ b. IsShortest b.items
    (structure_of k c.args.protected.now c.args.external_aad.now c.args.content.now)))
    (sym c.in-Mac0.is) c.structure_bytes-in-Mac0.ensures.encoding)
    c.or_out_of_memory-in-Mac0.ensures

pub returns-in-Encrypt0 : goal.returns-in-Encrypt0
returns-in-Encrypt0 c =
    makes (λ v. v.items) _ c.structure_bytes-in-Encrypt0.result c.or_out_of_memory-in-Encrypt0.result
    (subst (λ k. IfOk c.structure_bytes-in-Encrypt0.result (λ b. IsShortest b.items
    (structure_of k c.args.protected.now c.args.external_aad.now c.args.content.now)))
    (sym c.in-Encrypt0.is) c.structure_bytes-in-Encrypt0.ensures.encoding)
    c.or_out_of_memory-in-Encrypt0.ensures
