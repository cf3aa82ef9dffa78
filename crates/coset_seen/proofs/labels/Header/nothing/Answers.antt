use Rattle.std.proofs.Common.{refl}
use Rattle.coset_seen.proofs.labels.Header.nothing.Goals as goal

pub returns : goal.returns
returns c = record {
  algorithm = c.nothing.ensures.algorithm;
  has_text = refl;
  is_critical = refl;
  key_id = c.nothing.ensures.key_id;
  is_plain = refl;
}
