use Rattle.std.proofs.Common.{◌∙◌, ap, sym}
use Rattle.std.specs.Prelude.{is_some}
use Rattle.coset.specs.Keys.{key_view}
use Rattle.cwt_keys.specs.Sealed.{SealView}
use Rattle.cwt_ring.specs.Fits.{fits}
use Rattle.tool_seals.specs.Seals.{parts_of}
use Rattle.tool_seals.proofs.Judged.{unfit}
use Rattle.tool_seals.proofs.verdict.judge.Goals as goal

pub returns-in-Some : goal.returns-in-Some
returns-in-Some c =
    let k = key_view c.args.key.now in
    unfit c.reason.result (is_some (fits k (parts_of c.args.seal.now))) c.reason.ensures
    (sym c.if-is_fitting.false ∙ (c.is_fitting.ensures ∙ ap (λ (s : SealView). is_some (fits k s)) c.sealed-sealed.ensures))

pub returns-in-None : goal.returns-in-None
returns-in-None c =
    let k = key_view c.args.key.now in
    sym c.if-is_fitting.false ∙ (c.is_fitting.ensures ∙ ap (λ (s : SealView). is_some (fits k s)) c.sealed-sealed.ensures)
