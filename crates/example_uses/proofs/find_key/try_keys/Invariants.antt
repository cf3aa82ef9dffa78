use Rattle.std.proofs.Common.{drop}
use Rattle.std.specs.Fn.{FnReturnsAt}
use Rattle.example_uses.specs.FindKey.{TriesInOrder, keys_with}
use Rattle.example_uses.proofs.find_key.try_keys.Given as goal

-- The result of trying the remaining keys is that of trying all of them.
abbrev pub invariant-loop-key : goal.invariant-loop-key
invariant-loop-key g l =
    (r : _)
    → TriesInOrder (FnReturnsAt g.F.Fn l.fn.attempt) (keys_with l.fn.key_id (drop l.key-index l.fn.keys.0.items)) r
    → TriesInOrder (FnReturnsAt g.F.Fn l.fn.attempt) (keys_with l.fn.key_id l.fn.keys.0.items) r
