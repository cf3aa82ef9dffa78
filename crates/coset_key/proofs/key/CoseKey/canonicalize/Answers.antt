use Rattle.std.proofs.Common.{map, rules, is_lt, refl, sym, ◌∙◌, subst}
use Rattle.std.specs.List.Sorted.{IsPermutation, IsStableByKey}
use Rattle.std.proofs.lemmas.Fn.{always_returns_same}
use Rattle.std.proofs.lemmas.List.{with_items_is}
use Rattle.std.proofs.lemmas.List.Sorted.{ranks_by, IsPermutation-map}
use Rattle.coset_label.specs.Orderings.{label_cmp_by}
use Rattle.coset_label.specs.Sorted.{AreInOrder}
use Rattle.coset_label.specs.Views.{label_view, entry_view}
use Rattle.coset_key.proofs.CanonicalKeys.{total_by}
use Rattle.coset_key.proofs.Sorting.{sorted-view}
use Rattle.coset_key.proofs.key.CoseKey.canonicalize.Goals as goal

pub returns-clause-canonical : goal.returns-clause-canonical
returns-clause-canonical c =
    let cmp = label_cmp_by c.args.ordering in
    let old = c.args.self.now.params in
    let new = c.sort_by.new.self in
    let same = sym (with_items_is old new (c.sort_by.ensures.len ∙ c.as_mut_slice-params.ensures.len)) in
    let moved = subst (λ xs. IsPermutation xs new) c.as_mut_slice-params.ensures.value c.sort_by.ensures.permutation in
    let sorted = c.in_ok-sort_by.ensures.sorted (λ a b. is_lt (cmp (label_view a.0) (label_view b.0)))
    (ranks_by (total_by c.args.ordering) (λ e. label_view e.0)) (always_returns_same _ _ _ (λ a r f k. search rules)) in
    record {
      agree = record {
        others = refl;
        params = subst (λ xs. IsPermutation (map entry_view old.items) (map entry_view xs)) same
            (IsPermutation-map entry_view old.items new moved);
      };
      ordered = subst (λ xs. AreInOrder cmp (map entry_view xs)) same (sorted-view entry_view (λ a b. is_lt (cmp a.0 b.0)) new sorted);
    }

pub returns-clause-stable : goal.returns-clause-stable
returns-clause-stable c =
    let cmp = label_cmp_by c.args.ordering in
    let old = c.args.self.now.params in
    let new = c.sort_by.new.self in
    let stable = c.sort_by.ensures.stable (λ a b. is_lt (cmp (label_view a.0) (label_view b.0))) (ranks_by (total_by c.args.ordering) (λ e. label_view e.0))
    (always_returns_same _ _ _ (λ a r f k. search rules)) in
    subst (λ xs. IsStableByKey (λ e. label_view e.0) cmp old.items xs) (sym (with_items_is old new (c.sort_by.ensures.len ∙ c.as_mut_slice-params.ensures.len)))
    (subst (λ xs. IsStableByKey (λ e. label_view e.0) cmp xs new) c.as_mut_slice-params.ensures.value stable)
