use Rattle.coset_msg.proofs.mac0.CoseMac0Builder.create_detached_tag.Goals as goal

pub returns : goal.returns
returns g c = (
  c.in_ok-structure.structure.items,
  c.creator.result,
  rw c.self.view_is at c.in_ok-structure.ensures,
  (c.deref.result, c.creator.ensures, c.deref.ensures.value),
  c.tag.ensures,
)
