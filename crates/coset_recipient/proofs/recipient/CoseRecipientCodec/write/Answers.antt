use Rattle.std.proofs.Common.{sym, subst}
use Rattle.coset_codec.specs.Encoding.{Encodes}
use Rattle.coset_recipient.specs.RecipientLaws.{recipient-written}
use Rattle.coset_recipient.specs.RecipientViews.{recipient_view}
use Rattle.coset_recipient.proofs.recipient.CoseRecipientCodec.write.Goals as goal

pub returns-clause-written : goal.returns-clause-written
returns-clause-written c = subst (λ o. Encodes o c.args.out.now.items c.write_recipient.new.out.items c.write_recipient.result)
    (sym (recipient-written (recipient_view c.args.self.now))) c.write_recipient.ensures.written
