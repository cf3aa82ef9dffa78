use Rattle.std.proofs.Common.{map, subst, sym}
use Rattle.coset_value.specs.View.{value_pairs}
use Rattle.coset_cbor.specs.Elements.{items_left, pairs_left}
use Rattle.coset_cbor.specs.Pulls.{pull_item}
use Rattle.coset_codec.specs.Maps.{SomePair}
use Rattle.coset_label.specs.Views.{label_view, entry_view}
use Rattle.coset_claims.specs.Known.{IsNamed, IsNoLabel, Splits, parts_view}
use Rattle.coset_claims.proofs.ClaimSplitting.{all_split, aud_on, masked, blames_on, entries_pushed, map_pushed, named_on, not_split, other_on, pairs_pushed}
use Rattle.coset_claims.proofs.known.split.Goals as goal

pub loop-key-preserved-in_ok-push : goal.loop-key-preserved-in_ok-push
loop-key-preserved-in_ok-push c =
    let k = pull_item c.in-Some.key in
    let v = pull_item c.in-Some.value in
    let step = c.in-Some.ensures.steps.0 in
    let pushed = map_pushed items_left c.loop-key.audiences.items c.push.new.self.items _ c.in_ok-push.ensures.items in (
      aud_on _ _ _ (value_pairs c.loop-key.named.items) _ _ (map entry_view c.loop-key.others.items) k v _ c.loop-key.invariant.0 step
          (sym c.in-Some-aud_array.ensures) pushed,
      blames_on _ _ _ k v c.loop-key.invariant.1 step,
    )

pub loop-key-preserved-in_ok-push-2 : goal.loop-key-preserved-in_ok-push-2
loop-key-preserved-in_ok-push-2 c =
    let k = pull_item c.in-Some.key in
    let v = pull_item c.in-Some.value in
    let step = c.in-Some.ensures.steps.0 in
    let named = subst (λ b. IsNamed b k) c.if-branch.true c.in_ok-is_name.ensures.named in (
      named_on _ _ _ (value_pairs c.loop-key.named.items) (value_pairs c.push-then-branch.new.self.items) (map items_left c.loop-key.audiences.items)
          (map entry_view c.loop-key.others.items) k v c.loop-key.invariant.0 step (sym c.in_default.ensures)
          named
          (pairs_pushed c.loop-key.named.items c.push-then-branch.new.self.items _ _ k v c.in_ok-push-2.ensures.items c.in_ok-to_value.ensures
          c.in_ok-to_value-2.ensures),
      blames_on _ _ _ k v c.loop-key.invariant.1 step,
    )

pub loop-key-preserved : goal.loop-key-preserved
loop-key-preserved c =
    let k = pull_item c.in-Some.key in
    let v = pull_item c.in-Some.value in
    let l = c.in_ok-from_pull.field-0 in
    let step = c.in-Some.ensures.steps.0 in
    let other = subst (λ b. IsNamed b k) c.if-branch.false c.in_ok-is_name.ensures.named in (
      other_on _ _ _ (value_pairs c.loop-key.named.items) (map items_left c.loop-key.audiences.items) (map entry_view c.loop-key.others.items)
          (map entry_view c.push-else-branch.new.self.items) k v (label_view l) c.loop-key.invariant.0 step other c.in_ok-from_pull.ensures
          (entries_pushed c.loop-key.others.items c.push-else-branch.new.self.items l _ v c.in_ok-push-3.ensures.items c.in_ok-to_value-3.ensures),
      blames_on _ _ _ k v c.loop-key.invariant.1 step,
    )

pub returns-in_err-from_pull : goal.returns-in_err-from_pull
returns-in_err-from_pull c =
    let k = pull_item c.in-Some.key in
    let v = pull_item c.in-Some.value in
    let other = subst (λ b. IsNamed b k) c.if-branch.false c.in_ok-is_name.ensures.named in
    not_split (pairs_left c.args.pairs) parts_view _ _ c.from_residual-in_err-from_pull.ensures.1
    (λ n. subst (λ it. SomePair (IsNoLabel c.in_err-from_pull.field-0.0) (pairs_left it)) c.into_iter-key-iterator.ensures.into_iter_gives
    (masked _ _ _ k v _ c.loop-key.invariant.1 c.in-Some.ensures.steps.0 other (c.in_err-from_pull.ensures n)))

pub returns : goal.returns
returns c =
    let ns = value_pairs c.loop-key.named.items in
    let auds = map items_left c.loop-key.audiences.items in
    let us = map entry_view c.loop-key.others.items in
    subst (λ it. Splits (pairs_left it) ns auds us) c.into_iter-key-iterator.ensures.into_iter_gives
    (all_split _ _ ns auds us c.loop-key.invariant.0 c.in-None.ensures.steps.0)
