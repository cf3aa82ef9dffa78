use Rattle.std.proofs.Common.{sym, rules}
use Rattle.std.specs.String.{string_bytes}
use Rattle.coset.specs.Sign1.{sign1, sign1_view}
use Rattle.coset_show.specs.Show.{sign1_in, tagged_if}
use Rattle.coset_show.proofs.Showing.{passed_on, refuses_read, refuses_memory, plainly}
use Rattle.coset_show.proofs.show.sign1_lines.Goals as goal

pub returns-in_err-message : goal.returns-in_err-message
returns-in_err-message c =
    let b = c.args.bytes.now in
    let e = c.in_err-message.field-0.0 in
    let read = c.in_err-message.ensures in
    passed_on (sign1_in b) b e c.from_residual.result _ c.from_residual.ensures.1
    (rw (sym c.is_tagged-tagged.ensures) (refuses_read (tagged_if c.is_tagged-tagged.result 18 sign1) b e read.read read.refused))

pub returns-in_err-signed : goal.returns-in_err-signed
returns-in_err-signed c =
    let b = c.args.bytes.now in
    let e = c.in_err-signed.field-0.0 in
    let plain = plainly c.is_tagged-tagged.result 18 sign1 b (sign1_view c.in_ok-message.message) c.in_ok-message.ensures.read in
    passed_on (sign1_in b) b e c.from_residual-in_err-signed.result _ c.from_residual-in_err-signed.ensures.1
    (refuses_memory (sign1_in b) b e (c.in_err-signed.ensures plain.0 plain.1))

pub returns-in_err-lines : goal.returns-in_err-lines
returns-in_err-lines c =
    let b = c.args.bytes.now in
    let e = c.in_err-lines.field-0.0 in
    passed_on (sign1_in b) b e c.from_residual-in_err-lines.result _ c.from_residual-in_err-lines.ensures.1
    (refuses_memory (sign1_in b) b e (c.in_err-lines.ensures b c.in_ok-message.ensures.read))

pub returns : goal.returns
returns c =
    let b = c.args.bytes.now in
    let m = sign1_view c.in_ok-message.message in
    let read = c.in_ok-message.ensures.read in
    let plain = plainly c.is_tagged-tagged.result 18 sign1 b m read in
    record {
      message = m;
      described = rw (sym c.is_tagged-tagged.ensures) read;
      first = string_bytes c.in_ok-lines.lines;
      second = string_bytes c.in_ok-signed.signed;
      is_message = rw (sym c.is_tagged-tagged.ensures) (c.in_ok-lines.ensures b read);
      is_signed = c.in_ok-signed.ensures plain.0 plain.1;
      are_lines = search rules;
    }
