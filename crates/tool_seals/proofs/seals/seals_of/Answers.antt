use Rattle.std.proofs.Common.{◌≡◌, List, subst, sym}
use Rattle.std.specs.List.{All}
use Rattle.tool_seals.specs.Seals.{IsPart}
use Rattle.tool_seals.specs.declared.seal.Seal.{Seal}
use Rattle.tool_seals.proofs.Lists.{outermost_parts}
use Rattle.tool_seals.proofs.Reading.{outermost}
use Rattle.tool_seals.proofs.seals.seals_of.Goals as goal

pub returns : goal.returns
returns c =
    let m = c.in-Some.message in
    let aad = c.args.external_aad.now in (
      m,
      outermost c.args.form c.args.bytes.now c.read_outermost.result c.in_ok-message.field-0 m c.read_outermost.ensures c.in_ok-message.ensures c.in-Some.is,
      subst (λ (xs : List Seal). All (λ s. s.layer ≡ 0 → IsPart 0 m aad s) xs) (sym c.truncate.ensures.items)
          (outermost_parts m aad 16 c.in_ok-list.list.items c.in_ok-inner.inner.items c.in_ok-seals.seals.items c.in_ok-seals.ensures c.in_ok-list.ensures
          c.in_ok-inner.ensures),
    )
