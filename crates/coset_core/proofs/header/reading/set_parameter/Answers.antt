use Rattle.std.proofs.Common.{◌≡◌, [], ◌∷◌, ◌++◌, map, refl, sym, ◌∙◌, ap, subst, inl, inr}
use Rattle.std.proofs.lemmas.List.{map_push}
use Rattle.coset_codec.specs.Maps.{Adds, RefusesValue, optional}
use Rattle.coset_codec.specs.Shape.{any, bstr}
use Rattle.coset_label.specs.Views.{label_view, entry_view}
use Rattle.coset_label.specs.Labels.{algorithm, cose_labels}
use Rattle.coset_label.specs.LabelData.{same_label}
use Rattle.coset_core.specs.FieldLabels as labels
use Rattle.coset_core.specs.Fields.{HasOneIv, fields, parts_of}
use Rattle.coset_core.specs.FieldViews.{fields_level, fields_view}
use Rattle.coset_core.specs.declared.header.Header.{out-Header, out-roll-Header}
use Rattle.coset_core.proofs.Putting.{adds_rest, adds_alg, adds_crit, adds_content_type, adds_key_id, adds_iv, adds_partial_iv, adds_countersignature0_v2}
use Rattle.coset_core.proofs.Putting.{refuses_at, swapped}
use Rattle.coset_core.proofs.header.reading.set_parameter.Goals as goal

pub returns-in-Alg-clause-takes : goal.returns-in-Alg-clause-takes
unfolding algorithm
returns-in-Alg-clause-takes c = λ o v z stands.
    let here = c.set_field.ensures.takes v z stands in (
      here.0,
      adds_alg (label_view c.args.label) v c.set_field.result (fields_view c.args.header.now) _ _ o
          (rw c.in-Alg.is at c.requires.goes) here.1 (ap fields_level (out-roll-Header _)),
    )

pub returns-in-Crit-clause-takes : goal.returns-in-Crit-clause-takes
returns-in-Crit-clause-takes c = λ o v z stands.
    let here = c.set_critical.ensures.takes v z stands in (
      here.0,
      adds_crit (label_view c.args.label) v c.set_critical.result (fields_view c.args.header.now) _ _ o
          (rw c.in-Crit.is at c.requires.goes) here.1 (ap fields_level (out-roll-Header _)),
    )

pub returns-in-ContentType-clause-takes : goal.returns-in-ContentType-clause-takes
returns-in-ContentType-clause-takes c = λ o v z stands.
    let here = c.set_content_type.ensures.takes v z stands in (
      here.0,
      adds_content_type (label_view c.args.label) v c.set_content_type.result (fields_view c.args.header.now) _ _ o
          (rw c.in-ContentType.is at c.requires.goes) here.1 (ap fields_level (out-roll-Header _)),
    )

pub returns-in-KeyId-clause-takes : goal.returns-in-KeyId-clause-takes
returns-in-KeyId-clause-takes c = λ o v z stands.
    let here = c.set_nonempty.ensures.takes v z stands in (
      here.0,
      adds_key_id (label_view c.args.label) v c.set_nonempty.result (fields_view c.args.header.now) _ _ o
          (rw c.in-KeyId.is at c.requires.goes) here.1 (ap fields_level (out-roll-Header _)),
    )

pub returns-in-Iv-clause-takes : goal.returns-in-Iv-clause-takes
returns-in-Iv-clause-takes c = λ o v z stands.
    let here = c.set_iv.ensures.takes v z stands in (
      here.0,
      adds_iv (label_view c.args.label) v c.set_iv.result (fields_view c.args.header.now) _ _ o
          (rw c.in-Iv.is at c.requires.goes) here.1 (ap fields_level (out-roll-Header _)),
    )

pub returns-in-PartialIv-clause-takes : goal.returns-in-PartialIv-clause-takes
returns-in-PartialIv-clause-takes c = λ o v z stands.
    let here = c.set_iv-in-PartialIv.ensures.takes v z stands in (
      here.0,
      adds_partial_iv (label_view c.args.label) v c.set_iv-in-PartialIv.result (fields_view c.args.header.now) _ _ o
          (rw c.in-PartialIv.is at c.requires.goes) here.1 (ap fields_level (out-roll-Header _)),
    )

pub returns-in-Countersignature0V2-clause-takes : goal.returns-in-Countersignature0V2-clause-takes
returns-in-Countersignature0V2-clause-takes c = λ o v z stands.
    let here = c.set_field-in-Countersignature0V2.ensures.takes v z stands in (
      here.0,
      adds_countersignature0_v2 (label_view c.args.label) v c.set_field-in-Countersignature0V2.result (fields_view c.args.header.now) _ _ o
          (rw c.in-Countersignature0V2.is at c.requires.goes) here.1 (ap fields_level (out-roll-Header _)),
    )

pub returns-in-Alg-clause-refused : goal.returns-in-Alg-clause-refused
unfolding algorithm
returns-in-Alg-clause-refused c = λ o v z stands.
    let here = c.set_field.ensures.refused v z stands in (
      here.0,
      refuses_at labels.alg (label_view c.args.label) v c.set_field.result (parts_of (fields_view c.args.header.now, o))
          (RefusesValue (optional algorithm) v (fields_view c.args.header.now).alg) (rw c.in-Alg.is at c.requires.goes) here.1
          (λ e p. inl p),
    )

pub returns-in-Crit-clause-refused : goal.returns-in-Crit-clause-refused
returns-in-Crit-clause-refused c = λ o v z stands.
    let here = c.set_critical.ensures.refused v z stands in (
      here.0,
      refuses_at labels.crit (label_view c.args.label) v c.set_critical.result (parts_of (fields_view c.args.header.now, o)) _
          (rw c.in-Crit.is at c.requires.goes) here.1 (λ e p. inl p),
    )

pub returns-in-ContentType-clause-refused : goal.returns-in-ContentType-clause-refused
returns-in-ContentType-clause-refused c = λ o v z stands.
    let here = c.set_content_type.ensures.refused v z stands in (
      here.0,
      refuses_at labels.content_type (label_view c.args.label) v c.set_content_type.result (parts_of (fields_view c.args.header.now, o)) _
          (rw c.in-ContentType.is at c.requires.goes) here.1 (λ e p. inl p),
    )

pub returns-in-KeyId-clause-refused : goal.returns-in-KeyId-clause-refused
returns-in-KeyId-clause-refused c = λ o v z stands.
    let here = c.set_nonempty.ensures.refused v z stands in (
      here.0,
      refuses_at labels.kid (label_view c.args.label) v c.set_nonempty.result (parts_of (fields_view c.args.header.now, o)) _
          (rw c.in-KeyId.is at c.requires.goes) here.1 (λ e p. inl p),
    )

pub returns-in-Countersignature0V2-clause-refused : goal.returns-in-Countersignature0V2-clause-refused
returns-in-Countersignature0V2-clause-refused c = λ o v z stands.
    let here = c.set_field-in-Countersignature0V2.ensures.refused v z stands in (
      here.0,
      refuses_at labels.countersignature0_v2 (label_view c.args.label) v c.set_field-in-Countersignature0V2.result (parts_of (fields_view c.args.header.now, o))
          (RefusesValue (optional bstr) v (fields_view c.args.header.now).countersignature0_v2)
          (rw c.in-Countersignature0V2.is at c.requires.goes) here.1 (λ e p. inl p),
    )

pub returns-in-Iv-clause-refused : goal.returns-in-Iv-clause-refused
returns-in-Iv-clause-refused c = λ o v z stands.
    let here = c.set_iv.ensures.refused v z stands in
    let named = ap (same_label labels.iv) (rw c.in-Iv.is at c.requires.goes) in (
      here.0,
      refuses_at labels.iv (label_view c.args.label) v c.set_iv.result (parts_of (fields_view c.args.header.now, o)) _ (rw c.in-Iv.is at c.requires.goes) here.1
          (λ e p. elim p [ inl g ↦ inl g | inr g ↦ inr (inl (named, g.0, g.1)) ]),
    )

pub returns-in-Iv-clause-one_iv : goal.returns-in-Iv-clause-one_iv
returns-in-Iv-clause-one_iv c = subst (λ h. HasOneIv (fields_level h)) (sym (out-roll-Header _)) c.set_iv.ensures.one

pub returns-in-PartialIv-clause-refused : goal.returns-in-PartialIv-clause-refused
returns-in-PartialIv-clause-refused c = λ o v z stands.
    let here = c.set_iv-in-PartialIv.ensures.refused v z stands in
    let named = ap (same_label labels.partial_iv) (rw c.in-PartialIv.is at c.requires.goes) in (
      here.0,
      refuses_at labels.partial_iv (label_view c.args.label) v c.set_iv-in-PartialIv.result (parts_of
          (fields_view c.args.header.now, o)) _ (rw c.in-PartialIv.is at c.requires.goes) here.1
          (λ e p. elim p [ inl g ↦ inl g | inr g ↦ inr (inr (named, g.0, g.1)) ]),
    )

pub returns-in-PartialIv-clause-one_iv : goal.returns-in-PartialIv-clause-one_iv
returns-in-PartialIv-clause-one_iv c = subst (λ h. HasOneIv (fields_level h)) (sym (out-roll-Header _))
    (swapped c.set_iv-in-PartialIv.ensures.one)

pub returns-in_ok-push-in-Rest-clause-takes : goal.returns-in_ok-push-in-Rest-clause-takes
returns-in_ok-push-in-Rest-clause-takes c = λ o v z stands.
    let here = c.in_ok-value-in-Rest.ensures.forward.reads v z stands in
    let rest = (out-Header c.args.header.now).rest.items in
    let pushed : map entry_view c.push.new.self.items ≡ map entry_view (rest ++ (c.args.label, c.in_ok-value-in-Rest.value) ∷ []) =
    ap (map entry_view) c.in_ok-push-in-Rest.ensures.items in (
      here.0,
      subst (λ f. Adds cose_labels (fields (optional any) (optional any)) (label_view c.args.label) v (parts_of (fields_view c.args.header.now, o))
          (parts_of (f, o)))
          (sym (ap fields_level (out-roll-Header _)))
          (adds_rest (label_view c.args.label) v (parts_of (fields_view c.args.header.now, o)) _ (rw c.in-Rest.is at c.requires.goes) refl
          (pushed ∙ map_push entry_view rest (c.args.label, c.in_ok-value-in-Rest.value) ∙ ap (λ v. map entry_view rest ++
          (label_view c.args.label, v) ∷ []) here.1)),
    )
