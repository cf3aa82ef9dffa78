use Rattle.std.proofs.Common.{◌≡◌, ◌<◌, true, false, Ok, Err, get_or, inl, inr, length, nat_eq, refl, subst, sym, rules}
use Rattle.std.specs.Cmp.Lexicographic.{pointwise}
use Rattle.std.specs.Fn.{FnReturnsAt}
use Rattle.example_uses.specs.FindKey.{TriesInOrder}
use Rattle.example_uses.specs.declared.cipher.Refused.TheVariants.{OutOfMemory, Rejected}
use Rattle.example_uses.proofs.Tried.{with_key, without_key}
use Rattle.example_uses.proofs.find_key.try_keys.Goals as goal
use Rattle.example_uses.proofs.find_key.try_keys.Goals.{then-eq+in-Err-Rejected, else-eq}

pub loop-key-preserved : goal.loop-key-preserved
loop-key-preserved g c r tried =
    let k = c.key-item.result in
    let within : c.loop-key.key-index < length c.args.keys.now.0.items = search rules in
    let is : get_or c.args.keys.now.0.items c.loop-key.key-index k ≡ k = search rules in
    c.loop-key.invariant r (elim c.if-eq.branch [
      | then-eq+in-Err-Rejected w ↦
          let named : pointwise nat_eq k.key_id.items c.args.key_id.now ≡ true = search rules in
          let rejected : w.attempt.result ≡ Err Rejected = search rules in
          subst (λ ks. TriesInOrder (FnReturnsAt g.F.Fn c.args.attempt) ks r)
          (sym (with_key c.args.key_id.now c.args.keys.now.0.items c.loop-key.key-index k within is named))
          (inr (subst (FnReturnsAt g.F.Fn c.args.attempt k) rejected (record { shown = _; shows = refl; says = record { met = w.attempt.ensures } }), tried))
      | else-eq w ↦
          let other : pointwise nat_eq k.key_id.items c.args.key_id.now ≡ false = search rules in
          subst (λ ks. TriesInOrder (FnReturnsAt g.F.Fn c.args.attempt) ks r)
          (sym (without_key c.args.key_id.now c.args.keys.now.0.items c.loop-key.key-index k within is other)) tried
    ])

pub returns-in-Ok : goal.returns-in-Ok
returns-in-Ok g c =
    let k = c.key-item.result in
    let within : c.loop-key.key-index < length c.args.keys.now.0.items = search rules in
    let is : get_or c.args.keys.now.0.items c.loop-key.key-index k ≡ k = search rules in
    let named : pointwise nat_eq k.key_id.items c.args.key_id.now ≡ true = search rules in
    let told : c.attempt.result ≡ Ok c.in-Ok.made = search rules in
    c.loop-key.invariant _
    (subst (λ ks. TriesInOrder (FnReturnsAt g.F.Fn c.args.attempt) ks (Ok c.in-Ok.made))
    (sym (with_key c.args.key_id.now c.args.keys.now.0.items c.loop-key.key-index k within is named))
    (inl (subst (FnReturnsAt g.F.Fn c.args.attempt k) told (record { shown = _; shows = refl; says = record { met = c.attempt.ensures } }), λ e. absurd (cc))))

pub returns-in-Err-OutOfMemory : goal.returns-in-Err-OutOfMemory
returns-in-Err-OutOfMemory g c =
    let k = c.key-item.result in
    let within : c.loop-key.key-index < length c.args.keys.now.0.items = search rules in
    let is : get_or c.args.keys.now.0.items c.loop-key.key-index k ≡ k = search rules in
    let named : pointwise nat_eq k.key_id.items c.args.key_id.now ≡ true = search rules in
    let told : c.attempt.result ≡ Err OutOfMemory = search rules in
    c.loop-key.invariant _
    (subst (λ ks. TriesInOrder (FnReturnsAt g.F.Fn c.args.attempt) ks (Err OutOfMemory))
    (sym (with_key c.args.key_id.now c.args.keys.now.0.items c.loop-key.key-index k within is named))
    (inl (subst (FnReturnsAt g.F.Fn c.args.attempt k) told (record { shown = _; shows = refl; says = record { met = c.attempt.ensures } }), λ e. absurd (cc))))
