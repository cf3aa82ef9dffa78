use Rattle.std.proofs.Common.{◌≡◌, ◌+◌, [], ap, arith}
use Rattle.coset_core.specs.SignatureCounts.{header_count}
use Rattle.coset_core.specs.ViewLaws.{signature-opened}
use Rattle.coset_core.specs.Views.{header_view, protected_view, signature_view}
use Rattle.coset_core.specs.declared.signature.CoseSignature.{out-CoseSignature}
use Rattle.coset_core.proofs.Signatures.{first_taken, within}
use Rattle.coset_core.proofs.signature.take_last_signature.Goals as goal

pub returns-clause-fewer : goal.returns-clause-fewer
returns-clause-fewer c =
    let s = c.in_ok-protected.field-0 in
    let x = out-CoseSignature s in
    let view : within (signature_view s) ≡ header_count (protected_view x.protected).header + header_count (header_view x.unprotected) =
    ap within (signature-opened s) in
    let less = first_taken c.args.all.now.items c.pop.new.self.items [] s c.in_ok-protected.ensures.items in
    let held = c.take_counter_signatures.ensures in
    omega (arith, view, less, held)
