use Rattle.std.proofs.Common.{◌∙◌, ℕ, drop, sym, ap, subst, arith}
use Rattle.coset_cbor.specs.Reading.{head_from}
use Rattle.coset_cbor.specs.Skips.{IsPast}
use Rattle.coset_cbor.proofs.Skips.{behind_head}
use Rattle.coset_cbor.proofs.skip.skip_head_and_content.Goals as goal

pub returns : goal.returns
returns c = λ v e.
    subst (λ (n : ℕ). IsPast n c.split_at.result.1.now v.1) (sym c.in_ok-items.ensures)
    (behind_head c.args.bytes.now (head_from c.in-Ok.head, c.in-Ok.rest.now) c.in_ok-number.number c.split_at.result.1.now v
    (λ i. omega (arith, c.type_inv.bytes i)) c.in-Ok.ensures.head (sym c.in_ok-number.ensures)
    (c.split_at.ensures.back ∙ ap (λ (n : ℕ). drop n c.in-Ok.rest.now) c.announced_bytes-content.ensures) e)
