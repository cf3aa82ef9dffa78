use Rattle.std.proofs.Common.{refl}
use Rattle.std.specs.Option.{option_copied}
use Rattle.ffi_query.proofs.Laid.{texts_are}
use Rattle.ffi_query.proofs.seen.texts_of_seen.Goals as goal

pub returns-clause-texts : goal.returns-clause-texts
returns-clause-texts c =
    λ k h.
    let l = h.laid.lies in
    texts_are k c.args.input.now c.args.layout.now h c.one_item.ensures (option_copied c.args.detached) _ refl c.algorithm_of.ensures c.text_of.ensures.bytes
    (c.text_of.ensures.place l.proof_in) c.content_of.ensures.bytes (c.content_of.ensures.text l.content_in) c.key_id_of.ensures.place
    c.key_id_of.ensures.bytes (c.key_id_of.ensures.text l.key_id_in) c.signed_of.ensures
