use Rattle.std.proofs.Common.{◌≡◌, ◌++◌}
use Rattle.coset_value.specs.Range.{AreInRange}
use Rattle.coset_cbor.specs.Least.{least_encodings}
use Rattle.coset_core.proofs.Structures.{first_parts}
use Rattle.coset_core.proofs.structure.begin_structure.Given as goal

abbrev pub invariant-loop-part : goal.invariant-loop-part
invariant-loop-part l = record {
  written : l.out.items ≡ l.initial.out.items ++ least_encodings (first_parts l.parts l.part-index);
  in_range : AreInRange (first_parts l.parts l.part-index);
}
