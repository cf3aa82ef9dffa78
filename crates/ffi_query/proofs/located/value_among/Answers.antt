use mir.Syntax.{w64}
use mir.Val.{of_z, to_z}
use Rattle.std.proofs.Common.{◌≡◌, ◌∙◌, ap, drop, length, refl, rules, subst, sym}
use Rattle.coset.specs.Elements.{pairs_bytes, pairs_left}
use Rattle.coset.specs.LabelData.{number}
use Rattle.coset_seen.specs.Named.{first_value}
use Rattle.ffi_query.specs.Labels.{is_label}
use Rattle.ffi_query.specs.Located.{AreLocated}
use Rattle.ffi_query.proofs.Locating.{located_pair}
use Rattle.ffi_query.proofs.located.value_among.Goals as goal

pub returns-then-is_number-clause-place : goal.returns-then-is_number-clause-place
returns-then-is_number-clause-place c =
    let passed = c.after-behind_key.ensures ∙ ap (λ y. drop (length y) c.loop-key.rest.now) c.slice.ensures.bytes in
    λ b l.
    let first = subst (λ it. AreLocated b (pairs_bytes it) c.args.entries.rest.now) (sym c.into_iter-key-iterator.ensures.into_iter_gives) l in
    let pair = located_pair b _ _ _ _ _ _ _ c.in-Some.ensures.steps.1 passed refl (c.loop-key.invariant.place b first) in
    pair.value

pub loop-key-preserved : goal.loop-key-preserved
loop-key-preserved c =
    let passed = c.after-behind_key.ensures ∙ ap (λ y. drop (length y) c.loop-key.rest.now) c.slice.ensures.bytes in
    let again = c.after-rest.ensures ∙ ap (λ y. drop (length y) c.after-behind_key.result.now) c.slice-in-loop-key.ensures.bytes in
    let test = is_label (number (to_z w64 (of_z w64 c.args.label))) in
    let value : first_value test (pairs_left c.into_iter-key-iterator.result) ≡ first_value test (pairs_left c.next.new.self) = search rules in record {
      value = value;
      place = λ b l. (located_pair b _ _ _ _ _ _ _ c.in-Some.ensures.steps.1 passed again (c.loop-key.invariant.place b l)).behind;
    }
