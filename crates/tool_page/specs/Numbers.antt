-- The numbers of kinds.
use Rattle.std.specs.Prelude.{◌==◌, ℕ, if◌then◌else◌}
use Rattle.tool_explain.specs.declared.kind.Kind.{Kind}
use Rattle.tool_explain.specs.declared.kind.Kind.TheVariants as kinds

-- The kind with this number.
abbrev pub kind_of : ℕ → Kind
kind_of n =
    if n == 1 then kinds.Cwt else
    (if n == 2 then kinds.Value else
    (if n == 3 then kinds.Sign1 else
    (if n == 4 then kinds.Sign else
    (if n == 5 then kinds.Mac else
    (if n == 6 then kinds.Mac0 else
    (if n == 7 then kinds.Encrypt else
    (if n == 8 then kinds.Encrypt0 else
    (if n == 9 then kinds.Countersignature else
    (if n == 10 then kinds.Key else
    (if n == 11 then kinds.Keyset else
    (if n == 12 then kinds.Claims else
    (if n == 13 then kinds.Kdf else kinds.Auto))))))))))))
