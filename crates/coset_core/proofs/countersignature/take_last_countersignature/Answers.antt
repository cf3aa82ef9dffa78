use Rattle.std.proofs.Common.{◌≡◌, ◌+◌, [], ap, arith}
use Rattle.coset_core.specs.SignatureCounts.{header_count}
use Rattle.coset_core.specs.ViewLaws.{countersignature-opened}
use Rattle.coset_core.specs.Views.{countersignature_view, header_view, protected_view}
use Rattle.coset_core.specs.declared.countersignature.CoseCountersignature.{out-CoseCountersignature}
use Rattle.coset_core.proofs.Signatures.{second_taken, within}
use Rattle.coset_core.proofs.countersignature.take_last_countersignature.Goals as goal

pub returns-clause-fewer : goal.returns-clause-fewer
returns-clause-fewer c =
    let s = c.in_ok-protected.field-0 in
    let x = out-CoseCountersignature s in
    let view : within (countersignature_view s) ≡ header_count (protected_view x.protected).header + header_count (header_view x.unprotected) =
    ap within (countersignature-opened s) in
    let less = second_taken [] c.args.all.now.items c.pop.new.self.items s c.in_ok-protected.ensures.items in
    let held = c.take_counter_signatures.ensures in
    omega (arith, view, less, held)
