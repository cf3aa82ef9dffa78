use Rattle.std.proofs.Common.{◌≡◌, ◌++◌, map, take}
use Rattle.coset.specs.Range.{ArePairsInRange}
use Rattle.coset_cbor.specs.Least.{least_pair_encodings}
use Rattle.cose_thumbprint.specs.Thumbprint.{pairs}
use Rattle.cose_thumbprint.specs.Views.{member_view}
use Rattle.cose_thumbprint.proofs.encoding.encode.Given as goal

abbrev pub invariant-loop-member : goal.invariant-loop-member
invariant-loop-member l = record {
  written : l.out.items ≡ l.initial.out.items ++ least_pair_encodings (pairs (map member_view (take l.member-index l.members)));
  in_range : ArePairsInRange (pairs (map member_view (take l.member-index l.members)));
}
