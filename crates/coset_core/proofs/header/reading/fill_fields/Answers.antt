use Rattle.std.proofs.Common.{sym, subst}
use Rattle.coset_codec.specs.Inputs.{state}
use Rattle.coset_core.specs.FieldViews.{fields_view}
use Rattle.coset_core.specs.Filling.{FillsFields}
use Rattle.coset_core.proofs.Filling.{distinct, repeats}
use Rattle.coset_core.proofs.header.reading.fill_fields.Goals as goal
use Rattle.coset_core.proofs.header.reading.fill_fields.Goals.{in-Ok, in-Err}

pub returns-clause-fills : goal.returns-clause-fills
returns-clause-fills c = λ all ps o z walks within.
    let f = fields_view c.fill_until_signatures-filled.new.header in
    let m = c.fill_until_signatures-filled.new.pairs in
    let some = c.fill_until_signatures-filled.ensures.fills all ps o z walks within in
    subst (FillsFields all o z f (state c.match-check_distinct.input) m) (sym c.store_error.ensures.answers)
    (elim c.match-check_distinct.branch [
      | in-Ok w ↦ rw (w.input-is, w.distinct-is) (distinct all o f (state c.fill_until_signatures-filled.new.input) z m
          c.fill_until_signatures-filled.result some
          (rw c.deref.ensures.value at w.in-Ok.ensures.ok))
      | in-Err w ↦ rw (w.input-is, w.distinct-is)
          (repeats all o f (state c.fill_until_signatures-filled.new.input)
          (state w.skip_value_with_error-distinct.new.input) z m c.fill_until_signatures-filled.result w.skip_value_with_error-distinct.result
          w.in-Err.repeated some
          (rw c.deref.ensures.value at w.in-Err.ensures.refused)
          (w.skip_value_with_error-distinct.ensures.passes all o f z m some, w.skip_value_with_error-distinct.ensures.refused))
    ])
