-- Facts about bytes that are an item of a kind.
use Rattle.std.specs.Prelude.{ℕ, List}
use Rattle.ffi_query.specs.declared.found.Found as declared
use Rattle.ffi_query.specs.declared.kind.Kind as kinds
use Rattle.ffi_query.specs.Kinds.{IsItemOf, TellsTagOf, tag_of}
use Rattle.ffi_query.specs.Located.{IsLocated, located_item}

-- x has the item of kind k that the bytes b encode, and says whether they are under its tag.
pub record IsFound (k : kinds.Kind) (b : List ℕ) (x : declared.Found) : Type 0 where
  pub is_item : IsItemOf k b (located_item x.item)
  pub is_tagged : TellsTagOf (tag_of k) b x.is_tagged
  pub item_in : IsLocated b x.item
