use Rattle.std.proofs.Common.{rules}
use Rattle.coset_cbor.proofs.Shortest.{appends}
use Rattle.coset_cbor.proofs.ser.write_value.Goals as goal

pub returns-clause-ok : goal.returns-clause-ok
returns-clause-ok c = search (rules, appends)
