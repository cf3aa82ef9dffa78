use Rattle.coset_seen.proofs.Labelling.{Passed}
use Rattle.coset_seen.proofs.labels.counted_at.Given as goal

abbrev pub invariant-loop : goal.invariant-loop
invariant-loop l =
    Passed l.counter l.bytes l.rest
    (record {
      named = l.found.0;
      has_text = l.found.1.0;
      is_critical = l.found.1.1.0;
      is_plain = l.found.1.1.1.0;
    })
