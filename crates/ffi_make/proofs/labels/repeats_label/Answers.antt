use Rattle.std.proofs.Common.{◌≡◌, ◌∙◌, Some, ap, map, not, option_map, refl, subst, sym}
use Rattle.std.specs.Prelude.{IfOk}
use Rattle.std.specs.Map.{keys_of}
use Rattle.coset.specs.Parts.{as_map}
use Rattle.coset.specs.View.{value_item, value_pairs}
use Rattle.ffi_make.specs.contracts.labels.NamePartialEq.TheImpl.{ghosts}
use Rattle.ffi_make.specs.declared.labels.Name as names
use Rattle.ffi_make.specs.declared.labels.Name.TheVariants.{Number, Text}
use Rattle.ffi_make.specs.LabelsMade.{labels_differ_in, labels_in, name_view, same_name}
use Rattle.ffi_make.proofs.Naming.{keys_named, views_answered}
use Rattle.ffi_make.proofs.labels.repeats_label.Goals as goal

same_seen : (x y : names.Name) → ghosts.eq x y ≡ same_name (name_view x) (name_view y)
same_seen (Number m) (Number n) = refl
same_seen (Number m) (Text t) = refl
same_seen (Text s) (Number n) = refl
same_seen (Text s) (Text t) = refl

pub returns-in_ok-labels-in-Some-clause-answer : goal.returns-in_ok-labels-in-Some-clause-answer
returns-in_ok-labels-in-Some-clause-answer c =
    let pairs = c.in-Some.pairs.now in
    let labels = c.in_ok-labels-in-Some.labels.items in
    let is_map : as_map (value_item c.args.item.now) ≡ Some (value_pairs pairs.items) =
    sym c.as_map.ensures ∙ ap (option_map (λ p. value_pairs p.now.items)) c.in-Some.is in
    subst (λ o. IfOk c.has_repeats.result (λ b. b ≡ not (labels_differ_in o))) (sym is_map)
    (views_answered name_view ghosts.eq same_name c.has_repeats.result c.deref-in-Some.result.now (labels_in (value_pairs pairs.items))
    c.has_repeats.ensures.answer same_seen
    (ap (λ es. map name_view (keys_of es)) c.deref-in-Some.ensures.value
    ∙ (keys_named labels ∙ (c.in_ok-labels-in-Some.ensures.labels ∙ ap (λ ps. labels_in (value_pairs ps)) c.deref.ensures.value))))
