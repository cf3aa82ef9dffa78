use Rattle.std.proofs.Common.{◌≡◌, ℕ, List}
use Rattle.coset.specs.Elements.{pairs_bytes, pairs_left}
use Rattle.ffi_query.specs.Located.{AreLocated}
use Rattle.ffi_query.specs.Pairs.{nth_pair}
use Rattle.ffi_query.proofs.located.nth_pair_located.Given as goal

abbrev pub invariant-loop-key : goal.invariant-loop-key
invariant-loop-key l = record {
  pair : nth_pair l.fn.index (pairs_left l.initial.key-iterator) ≡ nth_pair l.left (pairs_left l.key-iterator);
  place :
      (b : List ℕ) → AreLocated b (pairs_bytes l.initial.key-iterator) l.initial.rest
      → AreLocated b (pairs_bytes l.key-iterator) l.rest;
}
