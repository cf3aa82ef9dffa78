use Rattle.std.proofs.Common.{◌≡◌, ◌∙◌, ℕ, List, ◌∷◌, rules, ap, subst, sym}
use Rattle.coset.specs.Pulls.{pull_bytes, pull_item}
use Rattle.tool_fault.specs.Headers.{HasHeaderFault}
use Rattle.tool_fault.proofs.Standing.{where_ok}
use Rattle.tool_fault.proofs.header.header_fault_is_at.Goals as goal

pub returns-in-Ok-Some : goal.returns-in-Ok-Some
returns-in-Ok-Some c =
    let split : c.args.bytes.now ≡ c.in-Some.first.now ∷ c.in-Some.field-0-1.now = search rules in
    where_ok c.has_header_fault.result c.has_header_fault.ensures (λ fault. (
      c.is_header_place.ensures (search rules),
      c.in-Some.field-0-1.now,
      split ∙ ap (λ (x : ℕ). x ∷ c.in-Some.field-0-1.now) c.if-first-ne95.false,
      (
        pull_bytes c.in-Ok.item,
        c.in-Ok.field-0-1.now,
        pull_item c.in-Ok.item,
        c.in-Ok.ensures.found.0,
        c.in-Ok.ensures.found.1,
        (
          c.in-Ok-Some.content.items,
          sym c.in-Ok-Some.ensures ∙ search rules,
          subst (λ (b : List ℕ). HasHeaderFault c.args.error.now b) c.deref.ensures.value fault,
        ),
      ),
    ))
