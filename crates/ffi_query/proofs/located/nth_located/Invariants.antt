use Rattle.std.proofs.Common.{◌≡◌, ℕ, List}
use Rattle.coset.specs.Elements.{items_bytes, items_left}
use Rattle.ffi_query.specs.Located.{AreLocated}
use Rattle.ffi_query.specs.Places.{nth}
use Rattle.ffi_query.proofs.located.nth_located.Given as goal

abbrev pub invariant-loop-member : goal.invariant-loop-member
invariant-loop-member l = record {
  element : nth l.fn.index (items_left l.initial.member-iterator) ≡ nth l.left (items_left l.member-iterator);
  place :
      (b : List ℕ) → AreLocated b (items_bytes l.initial.member-iterator) l.initial.rest
      → AreLocated b (items_bytes l.member-iterator) l.rest;
}
