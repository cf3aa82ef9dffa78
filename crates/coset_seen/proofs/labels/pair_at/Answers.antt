use Rattle.coset.specs.Pulls.{pull_bytes, pull_item}
use Rattle.coset_seen.specs.Begins.{Begins}
use Rattle.coset_seen.proofs.labels.pair_at.Goals as goal

pub returns : goal.returns
returns c =
    let key = c.in-Ok.ensures.found in
    let value = c.in-Ok-new.ensures.found in
    let begins : Begins (pull_item c.in-Ok-new.value) c.in-Ok-new.behind.now c.in-Ok.at.now = (pull_bytes c.in-Ok-new.value, value.1.0, value.0) in record {
      key = pull_item c.in-Ok.key;
      value = pull_item c.in-Ok-new.value;
      at = c.in-Ok.at.now;
      begins = (pull_bytes c.in-Ok.key, key.1.0, key.0);
      value_begins = begins;
      takes = c.in_ok-found.ensures c.in-Ok-new.behind.now begins;
    }
