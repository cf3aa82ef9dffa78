use Rattle.std.proofs.Common.{◌∙◌, pos, ap, sym}
use Rattle.std.specs.Ordering.{int_eq}
use Rattle.coset.specs.Item.{bytes}
use Rattle.coset.specs.Pulls.{pull_item}
use Rattle.coset_seen.specs.Named.{is_same}
use Rattle.coset_seen.proofs.Labelling.{takes_key_id}
use Rattle.coset_seen.proofs.labels.Header.with_pair.Goals as goal

pub returns-then-is_number-3 : goal.returns-then-is_number-3
returns-then-is_number-3 c =
    λ s b.
    let value = pull_item c.args.value in
    let t = c.in_ok-key_id.key_id in
    let e = c.in_ok-key_id.ensures.begins in
    takes_key_id c.args.at.now (pull_item c.args.key) value c.args.self c.with_key_id.result t
    (ap (λ o. is_same int_eq o (pos 4)) (sym c.integer-label.ensures) ∙ (sym c.is_number-3.ensures ∙ c.if-is_number-3.true)) c.with_key_id.ensures
    (c.one_item.ensures value (bytes t.bytes.now) b.0 e.0 s t.behind.now b.1 e.1 (sym b.2 ∙ e.2)).0 c.in_ok-key_id.ensures.ahead
