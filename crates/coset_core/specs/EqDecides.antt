-- `==` of headers, protected headers and signatures is equality of their views.
use Rattle.std.specs.Ordering.{on}
use Rattle.coset_codec.specs.EqDecides.{EqDecides}
use Rattle.coset_core.specs.Same.{header_eq, protected_eq, signature_eq}
use Rattle.coset_core.specs.SameLaws.{header_eq-decides, protected_eq-decides, signature_eq-decides}
use Rattle.coset_core.specs.Views.{header_view, protected_view, signature_view}

pub header_decides : EqDecides header_view (on header_view header_eq)
header_decides x y = header_eq-decides (header_view x) (header_view y)

pub protected_decides : EqDecides protected_view (on protected_view protected_eq)
protected_decides x y = protected_eq-decides (protected_view x) (protected_view y)

pub signature_decides : EqDecides signature_view (on signature_view signature_eq)
signature_decides x y = signature_eq-decides (signature_view x) (signature_view y)
