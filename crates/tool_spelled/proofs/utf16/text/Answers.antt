use Rattle.std.proofs.Common.{List, ℕ, subst, sym}
use Rattle.std.proofs.lemmas.Option.{IfSome_then}
use Rattle.std.proofs.lemmas.Result.{IfOk-weaker}
use Rattle.tool_spelled.specs.Utf16.{AreCharacters, IsUtf16}
use Rattle.tool_spelled.specs.Utf16 as utf16
use Rattle.tool_spelled.proofs.utf16.text.Goals as goal

pub returns-in-Some : goal.returns-in-Some
returns-in-Some c =
    IfOk-weaker c.characters.result _ _
    (λ o h. IfSome_then o h (λ t is. subst (λ (x : List ℕ). IsUtf16 x t.items) (sym c.in-Some.ensures) (utf16.little c.in-Some.bytes.now t.items is)))
    c.characters.ensures

pub returns-in-Some-behind_mark : goal.returns-in-Some-behind_mark
returns-in-Some-behind_mark c =
    IfOk-weaker c.characters-in-Some-behind_mark.result _ _
    (λ o h.
    IfSome_then o h
    (λ t is. subst (λ (x : List ℕ). IsUtf16 x t.items) (sym c.in-Some-behind_mark.ensures) (utf16.big c.in-Some-behind_mark.bytes.now t.items is)))
    c.characters-in-Some-behind_mark.ensures
