use Rattle.std.proofs.Common.{◌≡◌, ◌++◌, length, take, drop}
use Rattle.std.specs.List.{flat_map}
use Rattle.coset_seen.proofs.structure.put_texts.Given as goal

abbrev pub invariant-loop-text : goal.invariant-loop-text
invariant-loop-text l = record {
  at : l.at ≡ length (flat_map (λ t. t.now) (take l.text-index l.texts));
  written : l.out ≡ flat_map (λ t. t.now) (take l.text-index l.texts) ++ drop l.at l.initial.out;
}
