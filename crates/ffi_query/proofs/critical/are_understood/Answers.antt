use Rattle.std.proofs.Common.{◌∙◌, sym}
use Rattle.coset.specs.Pulls.{pull_item}
use Rattle.coset.specs.View.{value_item}
use Rattle.ffi_query.specs.Critical.{ArePresent, AreUnderstood}
use Rattle.ffi_query.proofs.Known.{are_understood, if_ok}
use Rattle.ffi_query.proofs.critical.are_understood.Goals as goal

pub returns-then-are_known : goal.returns-then-are_known
returns-then-are_known c =
    let k = c.args.kind in
    let v = pull_item c.args.item in
    let ns = c.args.known.now in
    let w = value_item c.args.labels.now in
    let known = sym c.are_known.ensures ∙ c.if-are_known.true in record {
      understood = if_ok (ArePresent k v ns w) (AreUnderstood k v ns w) c.are_present.result (λ b. are_understood k v ns w b known)
          c.are_present.ensures.present;
      memory = c.are_present.ensures.memory;
    }
