use Rattle.coset_show.proofs.Showing.{passed_on, refuses_read, refuses_memory}
use Rattle.coset_show.proofs.show.type_line.Goals as goal

pub returns-in_err-value : goal.returns-in_err-value
returns-in_err-value g c =
    let e = c.in_err-value.field-0.0 in
    passed_on g.T.AsCborValue.shape c.args.bytes.now e c.from_residual.result _ c.from_residual.ensures.1
    (refuses_read g.T.AsCborValue.shape c.args.bytes.now e c.in_err-value.ensures.read c.in_err-value.ensures.refused)

pub returns-in_err-line_of : goal.returns-in_err-line_of
returns-in_err-line_of g c =
    let e = c.in_err-line_of.field-0.0 in
    passed_on g.T.AsCborValue.shape c.args.bytes.now e c.from_residual-in_err-line_of.result _ c.from_residual-in_err-line_of.ensures.1
    (refuses_memory g.T.AsCborValue.shape c.args.bytes.now e (c.in_err-line_of.ensures c.args.bytes.now c.in_ok-value.ensures.read))

pub returns : goal.returns
returns g c =
    let read = c.in_ok-value.ensures.read in
    record { value = g.T.AsCborValue.view c.in_ok-value.value; described = read; is_line = c.in_ok-line_of.ensures c.args.bytes.now read }
