use Rattle.std.proofs.Common.{arith, ap, subst, sym, ◌∙◌, ◌+◌}
use Rattle.coset_recipient.specs.RecipientViews.{opened, recipient-unrolled}
use Rattle.coset_recipient.specs.RecipientWriting.{Begins, last_elements}
use Rattle.coset_recipient.specs.declared.recipient.CoseRecipient.{out-CoseRecipient}
use Rattle.coset_recipient.proofs.Writing.{first_written}
use Rattle.coset_recipient.proofs.recipient.write_first.Goals as goal

pub returns-clause-written : goal.returns-clause-written
returns-clause-written c =
    let is = recipient-unrolled c.args.recipient.now in
    let r = opened (out-CoseRecipient c.args.recipient.now) in
    subst (λ r. Begins r c.args.out.now.items c.append-3.new.out.items c.append-3.result) (sym is)
    (first_written r c.count_elements.result c.args.out.now.items c.write_array_head.new.out.items c.append.new.out.items c.append-2.new.out.items
    c.append-3.new.out.items c.append-3.result
    (c.count_elements.ensures ∙ ap (λ r. 3 + last_elements r.recipients) is)
    (omega arith) c.in_ok-write_array_head.ensures.ok c.in_ok-append.ensures.written c.in_ok-append-2.ensures.written c.append-3.ensures.written)
