use Rattle.std.proofs.Common.{ℕ, ◌+◌, ◌≤◌, List, length}
use Rattle.coset_value.specs.Item.{Items}
use Rattle.coset_cbor.specs.Cursors.{bytes_left, AreWithin}
use Rattle.coset_cbor.proofs.cursor.Remaining.finish.Given as goal

abbrev pub invariant-loop : goal.invariant-loop
invariant-loop l = record {
  shrinks : length (bytes_left l.cursor) ≤ length (bytes_left l.fn.cursor);
  goes : (vs : Items) (a : List ℕ) → AreWithin l.fn.self vs (bytes_left l.fn.cursor) a → (ws : Items) × AreWithin l.places ws (bytes_left l.cursor) a
      × (length (bytes_left l.cursor) + l.counter ≤ length (bytes_left l.fn.cursor));
}
