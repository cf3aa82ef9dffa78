use Rattle.std.proofs.Common.{ap}
use Rattle.coset_codec.specs.Shape.{or_nil, tstr}
use Rattle.coset_value.specs.Item.{text}
use Rattle.cwt_keys.specs.Keys.{name_view}
use Rattle.ffi_token.proofs.written.NameEncode.encode.Goals as goal

pub returns-in_ok-write_text-in-Some-clause-written : goal.returns-in_ok-write_text-in-Some-clause-written
returns-in_ok-write_text-in-Some-clause-written c = (
  text c.in-Some.name.now,
  ap (λ o. (or_nil tstr).image (name_view o)) c.in-Some.is,
  record { in_range = c.in_ok-write_text-in-Some.ensures.in_range; parts = c.in_ok-write_text-in-Some.ensures.ok },
)
