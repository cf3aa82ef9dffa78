use Rattle.std.proofs.Common.{◌≡◌, [], ◌∷◌, ◌++◌, map, option_map, refl, ◌∙◌, ap}
use Rattle.std.proofs.lemmas.List.{map_push}
use Rattle.coset_codec.specs.Maps.{RefusesValue, TakesValue, optional, unless_empty}
use Rattle.coset_label.specs.Views.{label_view, algorithm_view, entry_view}
use Rattle.coset_label.specs.Labels.{algorithm}
use Rattle.coset_key.specs.KeyLabels as labels
use Rattle.coset_key.specs.Keys.{key_ops, key_type, kty_view, operation_view}
use Rattle.coset_key.specs.Reading.{so_far_view}
use Rattle.coset_key.proofs.Putting.{adds_at, refuses_at, adds_rest}
use Rattle.coset_key.proofs.key.PartialKey.set_parameter.Goals as goal

pub returns-in-Kty-clause-takes : goal.returns-in-Kty-clause-takes
unfolding key_type
returns-in-Kty-clause-takes c = λ v z stands.
    let here = c.set_field.ensures.takes v z stands in (
      here.0,
      adds_at labels.kty (label_view c.args.label) v c.set_field.result (so_far_view c.args.self.now) _
          (TakesValue (optional key_type) v (option_map kty_view c.args.self.now.kty) (option_map kty_view c.set_field.new.field))
          c.in-Kty.ensures here.1 (λ p. ((p.0, p.1, refl), refl)),
    )

pub returns-in-Kty-clause-refused : goal.returns-in-Kty-clause-refused
unfolding key_type
returns-in-Kty-clause-refused c = λ v z stands.
    let here = c.set_field.ensures.refused v z stands in (
      here.0,
      refuses_at labels.kty (label_view c.args.label) v c.set_field.result (so_far_view c.args.self.now)
          (RefusesValue (optional key_type) v (option_map kty_view c.args.self.now.kty)) c.in-Kty.ensures here.1
          (λ e p. p),
    )

pub returns-in-Alg-clause-takes : goal.returns-in-Alg-clause-takes
unfolding algorithm
returns-in-Alg-clause-takes c = λ v z stands.
    let here = c.set_field-in-Alg.ensures.takes v z stands in (
      here.0,
      adds_at labels.alg (label_view c.args.label) v c.set_field-in-Alg.result (so_far_view c.args.self.now) _
          (TakesValue (optional algorithm) v (option_map algorithm_view c.args.self.now.alg)
          (option_map algorithm_view c.set_field-in-Alg.new.field)) c.in-Alg.ensures
          here.1 (λ p. ((refl, (refl, (p.0, p.1, refl))), refl)),
    )

pub returns-in-Alg-clause-refused : goal.returns-in-Alg-clause-refused
unfolding algorithm
returns-in-Alg-clause-refused c = λ v z stands.
    let here = c.set_field-in-Alg.ensures.refused v z stands in (
      here.0,
      refuses_at labels.alg (label_view c.args.label) v c.set_field-in-Alg.result (so_far_view c.args.self.now)
          (RefusesValue (optional algorithm) v (option_map algorithm_view c.args.self.now.alg)) c.in-Alg.ensures here.1
          (λ e p. p),
    )

pub returns-in-KeyOps-clause-refused : goal.returns-in-KeyOps-clause-refused
returns-in-KeyOps-clause-refused c = λ v z stands.
    let here = c.set_key_ops.ensures.refused v z stands in (
      here.0,
      refuses_at labels.key_ops (label_view c.args.label) v c.set_key_ops.result (so_far_view c.args.self.now)
          (RefusesValue (unless_empty key_ops) v (map operation_view c.args.self.now.key_ops.keys))
          c.in-KeyOps.ensures here.1
          (λ e p. p),
    )

pub returns-in_ok-push-in-Params-clause-takes : goal.returns-in_ok-push-in-Params-clause-takes
returns-in_ok-push-in-Params-clause-takes c = λ v z stands.
    let here = c.in_ok-value-in-Params.ensures.forward.reads v z stands in
    let params = c.args.self.now.params.items in
    let pushed : map entry_view c.push.new.self.items ≡ map entry_view (params ++ (c.args.label, c.in_ok-value-in-Params.value) ∷ []) =
    ap (map entry_view) c.in_ok-push-in-Params.ensures.items in (
      here.0,
      adds_rest (label_view c.args.label) v (so_far_view c.args.self.now) _ c.in-Params.ensures refl
          (pushed ∙ map_push entry_view params (c.args.label, c.in_ok-value-in-Params.value)
          ∙ ap (λ v. map entry_view params ++ (label_view c.args.label, v) ∷ []) here.1),
    )
