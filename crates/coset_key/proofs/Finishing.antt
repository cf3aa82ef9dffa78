-- Keys of which all pairs were read.
use Rattle.std.proofs.Common.{Result, Ok, Err, subst, inr}
use Rattle.coset_value.specs.Item.{Item}
use Rattle.coset_codec.specs.Results.{Reads}
use Rattle.coset_codec.specs.Maps.{labelled}
use Rattle.coset_codec.specs.declared.error.CoseError.{CoseError}
use Rattle.coset_label.specs.Labels.{cose_labels}
use Rattle.coset_key.specs.Keys.{Parts, HasKeyType, fields, key, key_view}
use Rattle.coset_key.specs.Reading.{IsFinished}
use Rattle.coset_key.specs.declared.key.CoseKey.{CoseKey}

pub finished : (v : Item) (p : Parts) (r : Result CoseKey CoseError) → (labelled cose_labels fields).describes v p → IsFinished p r → Reads key key_view v r
unfolding key
finished v p (Ok k) d h = subst (λ q. (labelled cose_labels fields).describes v q × HasKeyType q) h.1 (d, h.0)
finished v p (Err e) d h = λ n. inr (h.0, (p, d, h.1))
