use Rattle.std.proofs.Common.{◌≡◌, ◌∙◌, false, subst, sym}
use Rattle.std.specs.Option.{option_copied}
use Rattle.coset.specs.Pulls.{pull_item}
use Rattle.ffi_query.specs.Countersigns.{HasNoCountersigned, IsCountersigned}
use Rattle.ffi_query.specs.Structures.{is_given_at}
use Rattle.ffi_query.proofs.Answering.{answered_or}
use Rattle.ffi_query.proofs.countersign.countersign_structure_of.Goals as goal

pub returns : goal.returns
returns c =
    let k = c.args.kind in
    let x = c.args.countersignature in
    let q = c.args.signer.now in
    let aad = c.args.external_aad.now in
    let d = option_copied c.args.detached in
    let v = pull_item c.in-Ok.item in
    let once = subst (λ o. is_given_at o d v ≡ false) c.second_place.ensures (sym c.is_given_at.ensures ∙ c.if-is_given_at.false) in
    answered_or (λ b. b.items) k c.args.bytes.now c.args.out.now c.write_found.new.out (IsCountersigned k x q aad d) (HasNoCountersigned k x q aad d)
    v c.find_countersigned.result c.write_found.result (λ none. (once, none)) c.in-Ok.ensures c.find_countersigned.ensures.found
    c.find_countersigned.ensures.memory c.write_found.ensures
