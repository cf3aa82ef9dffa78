use Rattle.std.proofs.Common.{◌≡◌, ◌++◌, Ok}
use Rattle.std.specs.Vec.Iter.{into_iter_items}
use Rattle.coset_codec.specs.Lists.{EachWith}
use Rattle.coset_codec.proofs.util.convert.Given as goal

abbrev pub invariant-loop-value : goal.invariant-loop-value
invariant-loop-value g l =
    (l.yielded ++ into_iter_items l.value-iterator ≡ into_iter_items l.initial.value-iterator)
    × EachWith (λ v t. g.F.Fn.post l.f (v, tt) (Ok t)) l.yielded l.all.items
