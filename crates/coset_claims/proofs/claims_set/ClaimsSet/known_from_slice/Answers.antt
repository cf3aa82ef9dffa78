use Rattle.std.proofs.Common.{◌≡◌, inl, inr, map, refl, subst, sym}
use Rattle.std.specs.Prelude.{string_bytes}
use Rattle.coset_value.specs.View.{value_pairs, value_item}
use Rattle.coset_cbor.specs.Elements.{items_left, pairs_left}
use Rattle.coset_cbor.specs.Pulls.{pull_item}
use Rattle.coset_codec.specs.RestLaws.{repeats-view}
use Rattle.coset_label.specs.Views.{label_view, entry_view}
use Rattle.coset_label.specs.LabelData.{same_label}
use Rattle.coset_claims.specs.Claims.{claims, claims_view}
use Rattle.coset_codec.specs.Results.{Describes, IsRefused}
use Rattle.coset_codec.specs.declared.error.CoseError.TheVariants.{DuplicateMapKey}
use Rattle.coset_claims.specs.Known.{AudienceFaults, IsAudience, known, known_view, only_claims}
use Rattle.coset_claims.proofs.OnlyClaims.{only_claims_described}
use Rattle.coset_claims.proofs.ClaimSplitting.{all_known, no_labels, split_fault, told, told_not, value_item-Map}
use Rattle.coset_codec.proofs.Lists.{on_err}
use Rattle.std.proofs.lemmas.Result.{IfOk-weaker}
use Rattle.coset_claims.proofs.claims_set.ClaimsSet.known_from_slice.Goals as goal

pub returns-in-Ok-clause-read : goal.returns-in-Ok-clause-read
returns-in-Ok-clause-read c =
    let s = c.args.bytes.now in
    let x = claims_view c.in-Ok.all in
    IfOk-weaker c.only_claims.result (λ k. known_view k ≡ only_claims x) (λ k. Describes known s (known_view k))
    (λ k e. subst (Describes known s) (sym e) (only_claims_described s (pull_item c.in_ok-set.set) x c.in_ok-set.ensures.whole c.in-Ok.ensures))
    c.only_claims.ensures.known

pub returns-in_err-parts-clause-refused : goal.returns-in_err-parts-clause-refused
returns-in_err-parts-clause-refused c =
    on_err _ _ (IsRefused known c.args.bytes.now) c.from_residual-in_err-parts.ensures.1
    (no_labels c.args.bytes.now (pull_item c.in_ok-set.set) c.in_ok-set.ensures.whole (pairs_left c.in-Some.pairs)
    (sym c.in-Some.ensures.pairs) c.in_err-parts.field-0.0 c.in_err-parts.ensures)

pub returns-in_err-has_repeats-clause-refused : goal.returns-in_err-has_repeats-clause-refused
returns-in_err-has_repeats-clause-refused c =
    on_err _ c.in_err-has_repeats.field-0.0 (IsRefused known c.args.bytes.now) c.from_residual-in_err-has_repeats.ensures.1
    (λ n. absurd (n c.in_err-has_repeats.ensures.memory.0))

pub returns-then-branch-clause-refused : goal.returns-then-branch-clause-refused
returns-then-branch-clause-refused c =
    let parts = c.in_ok-parts.parts in
    let repeats = repeats-view label_view value_item _ same_label (λ x y. refl) c.in_ok-has_repeats.field-0 parts.others.items
    (rw c.deref.ensures.value at c.in_ok-has_repeats.ensures.answer) in
    split_fault c.args.bytes.now (pull_item c.in_ok-set.set) c.in_ok-set.ensures.whole (pairs_left c.in-Some.pairs) (sym c.in-Some.ensures.pairs)
    (value_pairs parts.named.items) (map items_left parts.audiences.items) (map entry_view parts.others.items) c.in_ok-parts.ensures DuplicateMapKey
    (λ n. inl (told_not c.in_ok-has_repeats.field-0 _ repeats c.if-branch.true, refl))

pub returns-in_err-claims-clause-refused : goal.returns-in_err-claims-clause-refused
returns-in_err-claims-clause-refused c =
    let parts = c.in_ok-parts.parts in
    let e = c.in_err-claims.field-0.0 in
    on_err _ e (IsRefused known c.args.bytes.now) c.from_residual-in_err-claims.ensures.1
    (split_fault c.args.bytes.now (pull_item c.in_ok-set.set) c.in_ok-set.ensures.whole (pairs_left c.in-Some.pairs) (sym c.in-Some.ensures.pairs)
    (value_pairs parts.named.items) (map items_left parts.audiences.items) (map entry_view parts.others.items) c.in_ok-parts.ensures e
    (λ n. inr (inl (subst (λ w. claims.faults w e) (value_item-Map parts.named) (c.in_err-claims.ensures.read n)))))

pub returns-in_err-audience-clause-refused : goal.returns-in_err-audience-clause-refused
returns-in_err-audience-clause-refused c =
    let parts = c.in_ok-parts.parts in
    let x = claims_view c.in_ok-claims.claims in
    let e = c.in_err-audience.field-0.0 in
    let read = subst (λ w. claims.describes w x) (value_item-Map parts.named) c.in_ok-claims.ensures.read in
    on_err _ e (IsRefused known c.args.bytes.now) c.from_residual-in_err-audience.ensures.1
    (split_fault c.args.bytes.now (pull_item c.in_ok-set.set) c.in_ok-set.ensures.whole (pairs_left c.in-Some.pairs) (sym c.in-Some.ensures.pairs)
    (value_pairs parts.named.items) (map items_left parts.audiences.items) (map entry_view parts.others.items) c.in_ok-parts.ensures e
    (λ n. inr (inr (x, read, subst (λ vs. AudienceFaults (map items_left vs) x.audience e) c.deref-2.ensures.value (c.in_err-audience.ensures n)))))

pub returns-clause-read : goal.returns-clause-read
returns-clause-read c =
    let parts = c.in_ok-parts.parts in
    let x = claims_view c.in_ok-claims.claims in
    let repeats = repeats-view label_view value_item _ same_label (λ x y. refl) c.in_ok-has_repeats.field-0 parts.others.items
    (rw c.deref.ensures.value at c.in_ok-has_repeats.ensures.answer) in
    let names = map string_bytes c.in_ok-audience.audience.items in
    all_known c.args.bytes.now (pull_item c.in_ok-set.set) c.in_ok-set.ensures.whole (pairs_left c.in-Some.pairs) (sym c.in-Some.ensures.pairs)
    (value_pairs parts.named.items) (map items_left parts.audiences.items) (map entry_view parts.others.items) x names c.in_ok-parts.ensures
    (told c.in_ok-has_repeats.field-0 _ repeats c.if-branch.false) (subst (λ w. claims.describes w x) (value_item-Map parts.named) c.in_ok-claims.ensures.read)
    (subst (λ vs. IsAudience (map items_left vs) x.audience names) c.deref-2.ensures.value c.in_ok-audience.ensures)
