use Rattle.std.proofs.Common.{◌≡◌, ℕ, Ok, map, not, Bor, ap, rules}
use Rattle.std.specs.Map.{keys_of}
use Rattle.std.specs.Ordering.{partial_lt}
use Rattle.std.proofs.iter.Yields.{fronts}
use Rattle.std.proofs.lemmas.Iterator.{YieldsList-from_slice, YieldsList-from_map_by, maps}
use Rattle.std.proofs.lemmas.Iterator.Adapters.{fact_from_extend}
use Rattle.std.proofs.lemmas.Iterator.Consumers.{YieldsList-at}
use Rattle.std.proofs.lemmas.List.Sorted.{answers_always}
use Rattle.coset_codec.proofs.Distinct.{are_distinct-sorted}
use Rattle.coset_codec.proofs.repeats.has_repeats_sorted.Goals as goal

pub returns-clause-answer : goal.returns-clause-answer
returns-clause-answer g c =
    let pairs = c.args.pairs.now in
    let keys = c.extend.new.self.items in
    let sorted = c.sort_unstable.new.self.items in
    let key = λ (r : Bor g.row.K.Denot). r.now in
    let ord = g.met.K.Ord in
    let read : map key keys ≡ keys_of pairs =
    fact_from_extend {E = ℕ} {steps = maps fronts _} key (Ok tt) c.in_ok-extend.ensures.ran
    (λ it b. YieldsList-at b (YieldsList-from_map_by _ key (λ p. p.0) (YieldsList-from_slice pairs cc) c.map.ensures.closure (λ x r q k. search rules)))
    (λ xs e h. rw (h.0, c.in_ok-keys.ensures.items) e) in
    ap not
    (are_distinct-sorted key ord.total g.K.PartialEq.eq ord.matches_eq g.K.PartialOrd.partial_cmp ord.matches_partial_cmp keys sorted
    (keys_of pairs) c.is_sorted_by.result read c.sort_unstable.ensures.permutation c.sort_unstable.ensures.sorted
    (rw (← c.deref.ensures.value) (c.is_sorted_by.ensures.cases (λ x y. partial_lt g.K.PartialOrd.partial_cmp x.now y.now)
    (answers_always _ _ _ (λ f a r h k. search rules)))))
