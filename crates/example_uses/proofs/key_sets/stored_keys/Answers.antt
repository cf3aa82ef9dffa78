use Rattle.std.proofs.Common.{◌≡◌, ◌∙◌, length, map, subst, arith}
use Rattle.std.specs.Vec.Iter.{into_iter_items}
use Rattle.coset_codec.specs.Results.{DescribesNothing, SliceFaults}
use Rattle.coset_codec.specs.Errors.{UnlessMemory}
use Rattle.coset_codec.specs.Lists.{EachWith}
use Rattle.coset_codec.specs.declared.error.CoseError.{CoseError}
use Rattle.coset_cbor.proofs.Kept.{moved}
use Rattle.coset_codec.proofs.Lists.{on_err, with-more}
use Rattle.coset_key.specs.Keys.{KeyView, key_view, key_set}
use Rattle.example_uses.specs.KeySets.{IsHeldOf}
use Rattle.example_uses.proofs.KeySets.{all_yielded, each-mapped, refused_for_memory}
use Rattle.example_uses.proofs.key_sets.stored_keys.Goals as goal

pub returns-in_err-keys-clause-fault : goal.returns-in_err-keys-clause-fault
returns-in_err-keys-clause-fault c =
    let faults = λ (e : CoseError). UnlessMemory e (SliceFaults key_set c.args.bytes.now) in
    on_err c.from_residual.result _ faults c.from_residual.ensures.1 c.in_err-keys.ensures.read

pub returns-in_err-held_of-clause-fault : goal.returns-in_err-held_of-clause-fault
returns-in_err-held_of-clause-fault c =
    let items = c.in_ok-keys.keys.0.items in
    let parts = c.loop-key.invariant.0 ∙ c.into_iter-key-iterator.ensures.into_iter_gives.0 in
    let next = c.in-Some.ensures.steps.0 in
    let read = λ (k : KeyView). c.keys_of_a_set.ensures c.args.bytes.now (map key_view items) k c.in_ok-keys.ensures.read in
    let memory = c.in_err-held_of.ensures.memory in
    let is = c.from_residual-in_err-held_of.ensures.1 in
    refused_for_memory key_view items read _ _ _ _ _ _ (SliceFaults key_set c.args.bytes.now) parts next memory is

pub returns-in_err-held_of-clause-refused : goal.returns-in_err-held_of-clause-refused
returns-in_err-held_of-clause-refused c =
    let items = c.in_ok-keys.keys.0.items in
    let parts = c.loop-key.invariant.0 ∙ c.into_iter-key-iterator.ensures.into_iter_gives.0 in
    let next = c.in-Some.ensures.steps.0 in
    let read = λ (k : KeyView). c.keys_of_a_set.ensures c.args.bytes.now (map key_view items) k c.in_ok-keys.ensures.read in
    let memory = c.in_err-held_of.ensures.memory in
    let is = c.from_residual-in_err-held_of.ensures.1 in
    let stands = λ (e : CoseError). DescribesNothing key_set c.args.bytes.now in
    refused_for_memory key_view items read _ _ _ _ _ _ stands parts next memory is

pub loop-key-preserved : goal.loop-key-preserved
loop-key-preserved c =
    let held = subst (λ o. IsHeldOf o (key_view c.in-Some.key) c.in_ok-held_of.field-0.items) c.again.ensures c.in_ok-held_of.ensures.ok in
    let parts = moved c.loop-key.yielded c.in-Some.key _ _ _ c.loop-key.invariant.0 c.in-Some.ensures.steps.0 in
    (parts, rw c.in_ok-push.ensures.items (with-more _ _ _ _ _ c.loop-key.invariant.1 held))

pub returns-clause-ok : goal.returns-clause-ok
returns-clause-ok c =
    let items = c.in_ok-keys.keys.0.items in
    let held = c.loop-key.held.items in
    let parts = c.loop-key.invariant.0 ∙ c.into_iter-key-iterator.ensures.into_iter_gives.0 in
    let none : length (into_iter_items c.loop-key.key-iterator) ≡ 0 = omega (arith, c.loop-key.key-iterator.rest.ok, c.in-None.ensures.steps) in
    let all = all_yielded c.loop-key.yielded _ items parts none in
    let each = subst (λ ks. EachWith (λ k b. IsHeldOf c.args.ordering (key_view k) b.items) ks held) all c.loop-key.invariant.1 in
    record {
      read = map key_view items;
      is_read = c.in_ok-keys.ensures.read;
      each = each-mapped (IsHeldOf c.args.ordering) key_view (λ b. b.items) items held each;
    }
