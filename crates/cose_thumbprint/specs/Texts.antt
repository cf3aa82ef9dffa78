-- The texts of the reasons.
use Rattle.std.specs.Prelude.{ℕ, List, codes, Option, Some}
use Rattle.cose_thumbprint.specs.declared.error.ThumbprintError.{ThumbprintError}
use Rattle.cose_thumbprint.specs.declared.error.ThumbprintError.TheVariants.{OtherKeyType, MissingMember, InvalidMemberType, CompressedPoint, OutOfMemory}

abbrev pub thumbprint_error_text : ThumbprintError → Option (List ℕ)
thumbprint_error_text OtherKeyType = Some (codes "no thumbprint for this key type")
thumbprint_error_text MissingMember = Some (codes "missing member")
thumbprint_error_text InvalidMemberType = Some (codes "invalid member type")
thumbprint_error_text CompressedPoint = Some (codes "compressed point")
thumbprint_error_text OutOfMemory = Some (codes "out of memory")
