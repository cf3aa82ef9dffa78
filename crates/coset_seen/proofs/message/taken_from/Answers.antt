use Rattle.std.proofs.Common.{refl}
use Rattle.coset_seen.proofs.message.taken_from.Goals as goal

pub returns : goal.returns
returns c = record {
  kind = refl;
  is_tagged = refl;
  algorithm = refl;
  protected = (c.part_of-protected.ensures.bytes, c.part_of-protected.ensures.part);
  key_id = c.key_id_of.ensures;
  content = c.content_of.ensures;
  proof = (c.part_of.ensures.bytes, c.part_of.ensures.part);
}
