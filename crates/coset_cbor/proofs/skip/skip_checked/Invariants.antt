use Rattle.std.proofs.Common.{◌≡◌, ℕ, ◌<◌, List, Ok}
use Rattle.coset_value.specs.Item.{Item}
use Rattle.coset_cbor.specs.Reading.{item_at}
use Rattle.coset_cbor.specs.Skips.{IsPast}
use Rattle.coset_cbor.proofs.skip.skip_checked.Given as goal

abbrev pub invariant-loop : goal.invariant-loop
invariant-loop l = record {
  some : 0 < l.left;
  past : (v : Item × List ℕ) → item_at 256 l.bytes ≡ Ok v → IsPast l.left l.rest v.1;
}
