-- Facts about bytes that are an item of a kind.
use Rattle.std.proofs.Common.{◌≡◌, ◌∙◌, ℕ, List, Option, ap}
use Rattle.coset.specs.Results.{IsOnlyItem}
use Rattle.coset.specs.Item.{Item}
use Rattle.ffi_query.specs.declared.found.Found as declared
use Rattle.ffi_query.specs.declared.kind.Kind as kinds
use Rattle.ffi_query.specs.Found.{IsFound}
use Rattle.ffi_query.specs.Kinds.{IsOf, is_under_some, tag_of, without_tag}
use Rattle.ffi_query.specs.Located.{IsLocated, located_item}
use Rattle.ffi_query.proofs.EachKind.{inside}
use Rattle.ffi_query.proofs.Viewed.{tells_tag_of}

pub is_found :
    (k : kinds.Kind) (b : List ℕ) (w : Item) (n : Option ℕ) (x : declared.Found) → n ≡ tag_of k → IsOf k b → IsOnlyItem b w
    → located_item x.item ≡ without_tag n w → x.is_tagged ≡ is_under_some n w → IsLocated b x.item → IsFound k b x
is_found k b w n x number is only same under here = record {
  is_item = inside k b w (located_item x.item) is only (same ∙ ap (λ o. without_tag o w) number);
  is_tagged = tells_tag_of (tag_of k) b w x.is_tagged only (under ∙ ap (λ o. is_under_some o w) number);
  item_in = here;
}
