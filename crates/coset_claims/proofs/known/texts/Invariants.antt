use Rattle.std.proofs.Common.{ℕ, List, map}
use Rattle.std.specs.Prelude.{string_bytes}
use Rattle.coset_cbor.specs.Elements.{items_left}
use Rattle.coset_codec.specs.Lists.{Continues}
use Rattle.coset_codec.specs.Shape.{tstr}
use Rattle.coset_claims.proofs.known.texts.Given as goal

abbrev pub invariant-loop-element : goal.invariant-loop-element
invariant-loop-element l =
    Continues (List ℕ) tstr.describes tstr.faults (items_left l.initial.element-iterator) (map string_bytes l.texts.items) (items_left l.element-iterator)
