use Rattle.std.proofs.Common.{◌≡◌, ◌∙◌, Some, Err, Ok, IsTrue, ap, of_z, rules, subst, sym, to_z, w64}
use Rattle.std.proofs.lemmas.Int.{to_z-of_z}
use Rattle.std.proofs.lemmas.List.Sorted.{answers_always}
use Rattle.coset_iana.specs.Registry.{first_numbered, is_ascending}
use Rattle.coset_iana.proofs.Search.{searched}
use Rattle.coset_iana.proofs.registry.AnyEnumI64.from_i64.Goals as goal

-- The search found a place: the value there has the number.
pub returns-in-Ok : goal.returns-in-Ok
returns-in-Ok g c =
    let number = g.T.Registry.number in
    let values = c.values-values.result.now in
    let all : values ≡ g.T.Registry.values = c.values-values.ensures in
    let ascending = subst (λ xs. IsTrue (is_ascending number xs)) (sym all) g.T.Registry.ascending in
    let read = c.index-values-place.result in
    let asked = to_z w64 (of_z w64 c.args.i) in
    let same : asked ≡ c.args.i = to_z-of_z w64 c.args.i c.ranges.i in
    let by_number = c.in-Ok.ensures.position number (answers_always _ _ _ (λ f a r h called. search rules)) in
    let found = searched number asked values (Ok c.in-Ok.place) ascending c.in-Ok.ensures.bound by_number read in
    rw (← same) (ap Some c.index-values-place.is ∙ (sym found ∙ ap (λ xs. first_numbered number xs asked) all))

-- The search found no place: no value has the number.
pub returns-in-Err : goal.returns-in-Err
returns-in-Err g c =
    let number = g.T.Registry.number in
    let values = c.values-values.result.now in
    let all : values ≡ g.T.Registry.values = c.values-values.ensures in
    let ascending = subst (λ xs. IsTrue (is_ascending number xs)) (sym all) g.T.Registry.ascending in
    let asked = to_z w64 (of_z w64 c.args.i) in
    let same : asked ≡ c.args.i = to_z-of_z w64 c.args.i c.ranges.i in
    let by_number = c.in-Err.ensures.position number (answers_always _ _ _ (λ f a r h called. search rules)) in
    let found = searched number asked values (Err c.in-Err.field-0) ascending c.in-Err.ensures.bound by_number in
    rw (← same) (sym found ∙ ap (λ xs. first_numbered number xs asked) all)
