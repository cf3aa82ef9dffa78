use Rattle.coset_value.specs.ViewLaws.{value_item-Map}
use Rattle.coset_value.proofs.Lengths.{items_eq-unequal, pairs_eq-unequal}
use Rattle.coset_value.proofs.value.+same.Goals as goal

pub same-returns-in-Map-Map : goal.same-returns-in-Map-Map
same-returns-in-Map-Map t c =
    let alike = rw (c.deref-in-Map-Map.ensures.value, c.deref-in-Map-Map-2.ensures.value) at c.same_pairs.ensures in
    rw (c.in-Map-Map.is-0, c.in-Map-Map.is-1, value_item-Map c.in-Map-Map.ps, value_item-Map c.in-Map-Map.qs) alike

pub same_items-returns-then-vs-ws : goal.same_items-returns-then-vs-ws
same_items-returns-then-vs-ws t c = items_eq-unequal _ _ c.if-vs-ws.true

pub same_pairs-returns-then-ps-qs : goal.same_pairs-returns-then-ps-qs
same_pairs-returns-then-ps-qs t c = pairs_eq-unequal _ _ c.if-ps-qs.true
