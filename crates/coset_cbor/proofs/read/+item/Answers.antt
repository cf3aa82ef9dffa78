use Rattle.std.proofs.Common.{◌≡◌, ℕ, zero, suc, pred, ◌-◌, List, ◌++◌, ◌∷◌, [], map, length, Result, Ok, Err, refl, ap, sym, subst, ◌∙◌, arith}
use Rattle.std.proofs.lemmas.Result.{err_from_is_err_and}
use Rattle.std.proofs.lemmas.List.{map_push}
use Rattle.coset_value.specs.View.{value_item, value_pair}
use Rattle.coset_cbor.specs.declared.fault.Fault.{Fault}
use Rattle.coset_cbor.specs.declared.fault.ReadError.{ReadError}
use Rattle.coset_cbor.specs.declared.fault.ReadError.TheVariants as errors
use Rattle.coset_cbor.specs.Heads.{HeadView}
use Rattle.coset_cbor.specs.declared.head.MajorType.TheVariants as major_types
use Rattle.coset_cbor.specs.Reading.{◌>>=◌, number_of, head_at, head_from, array_by, item_by, FailsAs, things, times_at, until_at, pair_at, item_at}
use Rattle.coset_cbor.proofs.Loops.{times_on, times_fails, times_done, until_on, until_fails, until_stops, until_ends, ok_rest}
use Rattle.coset_cbor.proofs.read.+item.Goals as goal

-- If reading the elements of an array fails, reading the array fails.
array_fails :
    (d j : ℕ) (h : HeadView × List ℕ) (s : List ℕ) (e : ReadError) → d ≡ suc j → head_at s ≡ Ok h → h.0.major_type ≡ major_types.Array
    → FailsAs e (array_by (item_at j) (number_of h.0.argument) h.1)
    → FailsAs e (item_at d s)
unfolding item_at things
array_fails zero j h s e z i k f = absurd (cc)
array_fails (suc d) j h s errors.Memory z i k f = tt
array_fails (suc d) j h s (errors.Fault f) z i k q =
    ap (λ (r : Result (HeadView × List ℕ) Fault). r >>= λ x. item_by (things (item_at d)) (length s) x.0.argument x.0.major_type x.1) i
    ∙ (ap (λ n. item_by (things (item_at d)) (length s) h.0.argument n h.1) k
    ∙ fails (subst (λ n. array_by (item_at n) (number_of h.0.argument) h.1 ≡ Err f) (ap pred (sym z)) q))
  where
    fails : array_by (item_at d) (number_of h.0.argument) h.1 ≡ Err f → item_by (things (item_at d)) (length s) h.0.argument major_types.Array h.1 ≡ Err f
    fails p = rw p refl

pub item-returns-in_err-items-in-Array : goal.item-returns-in_err-items-in-Array
item-returns-in_err-items-in-Array t c =
    let p = err_from_is_err_and c.from_residual-in_err-items-in-Array.result c.from_residual-in_err-items-in-Array.ensures.1 in
    rw (p.1, p.2) (array_fails c.args.depth (c.args.depth - 1)
    (head_from c.in_ok-head.head, c.in_ok-head.rest.now) c.args.bytes.now c.in_err-items-in-Array.field-0.0
    (omega (arith, c.if-depth-eq0.false)) c.in_ok-head.ensures.head c.in-Array.is
    (subst (λ n. FailsAs c.in_err-items-in-Array.field-0.0
    (array_by (item_at (c.args.depth - 1)) n c.in_ok-head.rest.now)) c.number-number.ensures c.in_err-items-in-Array.ensures))

pub items-returns-in_err-value : goal.items-returns-in_err-value
items-returns-in_err-value t c =
    let p = err_from_is_err_and c.from_residual-in_err-value.result c.from_residual-in_err-value.ensures.1 in
    rw (p.1, p.2) (times_fails (item_at c.args.depth) c.in_err-value.field-0.0 (map value_item c.loop.found.items) c.args.count c.loop.counter c.loop.rest.now
    (times_at (item_at c.args.depth) c.args.count c.args.bytes.now) c.loop-test.true c.in_err-value.ensures c.loop.invariant)

pub items-loop-preserved : goal.items-loop-preserved
items-loop-preserved t c =
    let n = c.in_ok-value.value in
    let e : map value_item c.push.new.self.items ≡ map value_item c.loop.found.items ++ value_item n ∷ [] = rw c.in_ok-push.ensures.items
    (map_push _ c.loop.found.items n) in
    rw e (times_on (item_at c.args.depth) (map value_item c.loop.found.items) c.args.count c.loop.counter c.loop.rest.now (value_item n) c.in_ok-value.after.now
    (times_at (item_at c.args.depth) c.args.count c.args.bytes.now) c.loop-test.true c.in_ok-value.ensures c.loop.invariant)

pub items-returns : goal.items-returns
items-returns t c = times_done (item_at c.args.depth) (map value_item c.loop.found.items) c.args.count c.loop.counter c.loop.rest.now
    (times_at (item_at c.args.depth) c.args.count c.args.bytes.now) c.loop-test.false c.loop.invariant

pub items_until-returns-in-Some : goal.items_until-returns-in-Some
items_until-returns-in-Some t c =
    until_stops (item_at c.args.depth) (map value_item c.loop.found.items) (length c.args.bytes.now) c.loop.counter c.loop.rest.now
    (until_at (item_at c.args.depth) (length c.args.bytes.now) c.args.bytes.now) c.loop-test.true c.in-Some.ensures.0 c.loop.invariant
    ∙ ok_rest (map value_item c.loop.found.items) (sym c.in-Some.ensures.1)

pub items_until-returns-in_err-value : goal.items_until-returns-in_err-value
items_until-returns-in_err-value t c =
    let p = err_from_is_err_and c.from_residual.result c.from_residual.ensures.1 in
    rw (p.1, p.2) (until_fails (item_at c.args.depth) c.in_err-value.field-0.0 (map value_item c.loop.found.items)
    (length c.args.bytes.now) c.loop.counter c.loop.rest.now
    (until_at (item_at c.args.depth) (length c.args.bytes.now) c.args.bytes.now) c.loop-test.true c.in_default.ensures c.in_err-value.ensures
    c.loop.invariant)

pub items_until-loop-preserved : goal.items_until-loop-preserved
items_until-loop-preserved t c =
    let n = c.in_ok-value.value in
    let e : map value_item c.push.new.self.items ≡ map value_item c.loop.found.items ++ value_item n ∷ [] = rw c.in_ok-push.ensures.items
    (map_push _ c.loop.found.items n) in
    rw e (until_on (item_at c.args.depth) (map value_item c.loop.found.items) (length c.args.bytes.now) c.loop.counter c.loop.rest.now
    (value_item n) c.in_ok-value.after.now (until_at (item_at c.args.depth)
    (length c.args.bytes.now) c.args.bytes.now) c.loop-test.true c.in_default.ensures c.in_ok-value.ensures c.loop.invariant)

pub items_until-returns : goal.items_until-returns
items_until-returns t c = until_ends (item_at c.args.depth) (map value_item c.loop.found.items) (length c.args.bytes.now) c.loop.counter c.loop.rest.now
    (until_at (item_at c.args.depth) (length c.args.bytes.now) c.args.bytes.now) c.loop-test.false c.loop.invariant

pub pairs-returns-in_err-both : goal.pairs-returns-in_err-both
pairs-returns-in_err-both t c =
    let p = err_from_is_err_and c.from_residual-in_err-both.result c.from_residual-in_err-both.ensures.1 in
    rw (p.1, p.2) (times_fails (pair_at (item_at c.args.depth)) c.in_err-both.field-0.0
    (map value_pair c.loop.found.items) c.args.count c.loop.counter c.loop.rest.now
    (times_at (pair_at (item_at c.args.depth)) c.args.count c.args.bytes.now) c.loop-test.true c.in_err-both.ensures c.loop.invariant)

pub pairs-loop-preserved : goal.pairs-loop-preserved
pairs-loop-preserved t c =
    let n = c.in_ok-both.both in
    let e : map value_pair c.push.new.self.items ≡ map value_pair c.loop.found.items ++ value_pair n ∷ [] =
    rw c.in_ok-push.ensures.items (map_push _ c.loop.found.items n) in
    rw e (times_on (pair_at (item_at c.args.depth)) (map value_pair c.loop.found.items) c.args.count c.loop.counter c.loop.rest.now
    (value_pair n) c.in_ok-both.after.now (times_at
    (pair_at (item_at c.args.depth)) c.args.count c.args.bytes.now) c.loop-test.true c.in_ok-both.ensures c.loop.invariant)

pub pairs-returns : goal.pairs-returns
pairs-returns t c = times_done (pair_at (item_at c.args.depth)) (map value_pair c.loop.found.items) c.args.count c.loop.counter c.loop.rest.now
    (times_at (pair_at (item_at c.args.depth)) c.args.count c.args.bytes.now) c.loop-test.false c.loop.invariant

pub pairs_until-returns-in-Some : goal.pairs_until-returns-in-Some
pairs_until-returns-in-Some t c =
    until_stops (pair_at (item_at c.args.depth)) (map value_pair c.loop.found.items) (length c.args.bytes.now) c.loop.counter c.loop.rest.now
    (until_at (pair_at (item_at c.args.depth)) (length c.args.bytes.now) c.args.bytes.now) c.loop-test.true c.in-Some.ensures.0 c.loop.invariant
    ∙ ok_rest (map value_pair c.loop.found.items) (sym c.in-Some.ensures.1)

pub pairs_until-returns-in_err-both : goal.pairs_until-returns-in_err-both
pairs_until-returns-in_err-both t c =
    let p = err_from_is_err_and c.from_residual.result c.from_residual.ensures.1 in
    rw (p.1, p.2) (until_fails (pair_at (item_at c.args.depth)) c.in_err-both.field-0.0 (map value_pair c.loop.found.items)
    (length c.args.bytes.now) c.loop.counter c.loop.rest.now
    (until_at (pair_at (item_at c.args.depth)) (length c.args.bytes.now) c.args.bytes.now) c.loop-test.true c.in_default.ensures c.in_err-both.ensures
    c.loop.invariant)

pub pairs_until-loop-preserved : goal.pairs_until-loop-preserved
pairs_until-loop-preserved t c =
    let n = c.in_ok-both.both in
    let e : map value_pair c.push.new.self.items ≡ map value_pair c.loop.found.items ++ value_pair n ∷ [] =
    rw c.in_ok-push.ensures.items (map_push _ c.loop.found.items n) in
    rw e (until_on (pair_at (item_at c.args.depth)) (map value_pair c.loop.found.items) (length c.args.bytes.now) c.loop.counter c.loop.rest.now
    (value_pair n) c.in_ok-both.after.now (until_at (pair_at (item_at c.args.depth))
    (length c.args.bytes.now) c.args.bytes.now) c.loop-test.true c.in_default.ensures c.in_ok-both.ensures c.loop.invariant)

pub pairs_until-returns : goal.pairs_until-returns
pairs_until-returns t c = until_ends (pair_at (item_at c.args.depth)) (map value_pair c.loop.found.items)
    (length c.args.bytes.now) c.loop.counter c.loop.rest.now
    (until_at (pair_at (item_at c.args.depth)) (length c.args.bytes.now) c.args.bytes.now) c.loop-test.false c.loop.invariant
