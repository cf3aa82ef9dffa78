use Rattle.std.proofs.Common.{◌-◌}
use Rattle.coset_seen.proofs.Walking.{Walked}
use Rattle.coset_seen.proofs.header.named_at.Given as goal

abbrev pub invariant-loop : goal.invariant-loop
invariant-loop l = Walked l.count (l.count - l.counter) l.bytes l.rest l.last (record { algorithm = l.named.0; key_id = l.named.1.0; is_flat = l.named.1.1.0 })
