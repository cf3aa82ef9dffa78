use Rattle.std.proofs.Common.{◌≡◌, ℕ, List}
use Rattle.coset.specs.Elements.{pairs_bytes, pairs_left}
use Rattle.coset.specs.LabelData.{number}
use Rattle.coset_seen.specs.Named.{first_value}
use Rattle.ffi_query.specs.Labels.{is_label}
use Rattle.ffi_query.specs.Located.{AreLocated}
use Rattle.ffi_query.proofs.located.value_among.Given as goal

abbrev pub invariant-loop-key : goal.invariant-loop-key
invariant-loop-key l = record {
  value :
      first_value (is_label (number l.label)) (pairs_left l.initial.key-iterator)
      ≡ first_value (is_label (number l.label)) (pairs_left l.key-iterator);
  place :
      (b : List ℕ) → AreLocated b (pairs_bytes l.initial.key-iterator) l.initial.rest
      → AreLocated b (pairs_bytes l.key-iterator) l.rest;
}
