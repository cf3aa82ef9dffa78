use Rattle.std.proofs.Common.{ap, sym, ◌∙◌}
use Rattle.coset_codec.specs.Serialized.{content_bytes}
use Rattle.coset_core.specs.Headers.{is_empty_header, header_image, layered_protected}
use Rattle.coset_core.proofs.laws.kept_as_received.Goals as goal

pub returns : goal.returns
unfolding layered_protected
returns c = λ b p d. ap (λ o. content_bytes is_empty_header header_image o p.header) (d.2 ∙ sym d.1)
