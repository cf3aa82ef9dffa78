use Rattle.std.proofs.Common.{sym}
use Rattle.coset_show.specs.Show.{message_in, tagged_if}
use Rattle.coset_show.proofs.Showing.{passed_on, refuses_read, refuses_memory}
use Rattle.coset_show.proofs.show.message_lines.Goals as goal

pub returns-in_err-message : goal.returns-in_err-message
returns-in_err-message g c =
    let b = c.args.bytes.now in
    let e = c.in_err-message.field-0.0 in
    let read = c.in_err-message.ensures in
    passed_on (message_in b g.T.TaggedCborSerializable.TAG g.T.AsCborValue.shape) b e c.from_residual.result _ c.from_residual.ensures.1
    (rw (sym c.is_tagged-tagged.ensures) (refuses_read
    (tagged_if c.is_tagged-tagged.result g.T.TaggedCborSerializable.TAG g.T.AsCborValue.shape) b e read.read read.refused))

pub returns-in_err-message_line : goal.returns-in_err-message_line
returns-in_err-message_line g c =
    let b = c.args.bytes.now in
    let e = c.in_err-message_line.field-0.0 in
    let shape = message_in b g.T.TaggedCborSerializable.TAG g.T.AsCborValue.shape in
    passed_on shape b e c.from_residual-in_err-message_line.result _ c.from_residual-in_err-message_line.ensures.1
    (refuses_memory shape b e (c.in_err-message_line.ensures b c.in_ok-message.ensures.read))

pub returns : goal.returns
returns g c =
    let b = c.args.bytes.now in
    let read = c.in_ok-message.ensures.read in
    record {
      value = g.T.AsCborValue.view c.in_ok-message.message;
      described = rw (sym c.is_tagged-tagged.ensures) read;
      is_line = rw (sym c.is_tagged-tagged.ensures) (c.in_ok-message_line.ensures b read);
    }
