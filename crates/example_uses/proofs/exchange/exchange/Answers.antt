use Rattle.std.proofs.Common.{◌∙◌, refl, subst, sym}
use Rattle.example_uses.proofs.Spellings.{arrived_of, arrives_at, not_verified, respelled, sent_to}
use Rattle.example_uses.proofs.exchange.exchange.Goals as goal

pub returns-in_default-clause-lost : goal.returns-in_default-clause-lost
returns-in_default-clause-lost g c = (
  c.in-Ok.token.items,
  c.in-Ok.ensures.sent,
  subst (g.C.Channel.loses c.args.channel.now) c.deref.ensures.value (c.in_default.ensures.lost refl),
)

pub returns-in-Ok-verify_token-clause-payload : goal.returns-in-Ok-verify_token-clause-payload
returns-in-Ok-verify_token-clause-payload g c =
    let sent = c.in-Ok.ensures.sent in
    let spelt = arrives_at _ _ _ c.deref-2.ensures.value (respelled sent (arrived_of _ _ _ c.deref.ensures.value c.in-Some.ensures.carried)) in
    (c.in-Ok-verify_token.ensures.same c.in-Ok.token.items sent.message sent.written spelt).payload ∙ sent.carried

pub returns-clause-lost : goal.returns-clause-lost
returns-clause-lost g c =
    let spelt = arrives_at _ _ _ c.deref-2.ensures.value (respelled c.in-Ok.ensures.sent (arrived_of _ _ _ c.deref.ensures.value c.in-Some.ensures.carried)) in
    c.in-Err-verify_token.ensures.genuine c.args.payload.items c.in-Ok.token.items (sent_to c.requires c.in-Ok.ensures.sent) spelt

pub returns-clause-arrives : goal.returns-clause-arrives
returns-clause-arrives g c = λ e h.
    let spelt = arrives_at _ _ _ c.deref-2.ensures.value (respelled c.in-Ok.ensures.sent (arrived_of _ _ _ c.deref.ensures.value c.in-Some.ensures.carried)) in
    let genuine = c.in-Err-verify_token.ensures.genuine c.args.payload.items c.in-Ok.token.items (sent_to c.requires c.in-Ok.ensures.sent) spelt in
    sym (not_verified h) ∙ genuine
