use Rattle.std.proofs.Common.{◌∙◌, ap, false, refl, subst, sym}
use Rattle.coset.specs.Grammar.{IsItem}
use Rattle.coset.specs.Pulls.{pull_bytes}
use Rattle.ffi_query.specs.Located.{located_item, opens_chunks}
use Rattle.ffi_query.proofs.Spanning.{begins_at}
use Rattle.ffi_query.proofs.elements.protected_located.Goals as goal

pub returns-then-opens_chunks : goal.returns-then-opens_chunks
returns-then-opens_chunks c =
    λ b l.
    let header = located_item c.in-Some.string in
    let bytes = pull_bytes c.in-Some.string.item in (
      refl,
      record {
        header = header;
        bytes = bytes;
        is_header = sym c.in-Some.ensures.element;
        is_item = subst (λ x. IsItem x header) c.slice.ensures.bytes c.slice.ensures.item;
        place = (_, begins_at b bytes c.in-Some.string.rest.now _ refl (c.in-Some.ensures.place b l));
        in_chunks = sym (ap (opens_chunks false) c.slice.ensures.bytes) ∙ (sym c.opens_chunks.ensures ∙ c.if-opens_chunks.true);
      },
    )
