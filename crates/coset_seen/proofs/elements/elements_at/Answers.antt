use Rattle.std.proofs.Common.{refl}
use Rattle.coset_seen.proofs.Messages.{elements_begin}
use Rattle.coset_seen.proofs.elements.elements_at.Goals as goal

pub returns : goal.returns
returns c =
    let p = c.in_ok-protected in
    elements_begin c.args.kind c.args.input.now
    (record {
      is_plain = c.are_plain.result;
      is_flat = c.is_flat.result;
      front = c.args.input;
      protected = p.protected;
      first = c.in_ok-first.first;
      second = c.in_ok-second.second;
      content = c.in_ok-content.content;
      proof = c.in_ok-proof.proof;
    })
    c.in_ok-second.rest.now c.in_ok-content.rest.now c.in_ok-proof.rest.now p.ensures.begins p.ensures.ahead c.in_ok-first.ensures c.in_ok-second.ensures
    c.in_ok-content.ensures c.in_ok-proof.ensures refl c.are_plain.ensures c.is_flat.ensures
