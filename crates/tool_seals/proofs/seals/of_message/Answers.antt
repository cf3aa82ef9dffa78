use Rattle.tool_seals.specs.Seals.{IsPart}
use Rattle.tool_seals.proofs.Lists.{all_joined, countersignatures_are_parts}
use Rattle.tool_seals.proofs.seals.of_message.Goals as goal

pub returns : goal.returns
returns c =
    let layer = c.args.asked.now.layer in
    let m = c.args.message.now in
    let aad = c.args.asked.now.external_aad.now in
    let P = IsPart layer m aad in
    let first = c.in_ok-first_version.field-0.items in
    let second = c.in_ok-second_version.field-0.items in
    let third = c.in_ok-abbreviated.field-0.items in
    let one = all_joined P c.in_ok-own_seals.field-0.items first c.in_ok-list.list.items c.in_ok-list.ensures c.in_ok-own_seals.ensures
    (countersignatures_are_parts layer m aad first c.in_ok-first_version.ensures) in
    let two = all_joined P c.in_ok-list.list.items second c.in_ok-list-2.list.items c.in_ok-list-2.ensures one
    (countersignatures_are_parts layer m aad second c.in_ok-second_version.ensures) in
    all_joined P c.in_ok-list-2.list.items third c.in_ok-joined.field-0.items c.in_ok-joined.ensures two
    (countersignatures_are_parts layer m aad third c.in_ok-abbreviated.ensures)
