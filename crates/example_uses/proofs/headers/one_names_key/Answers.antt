use Rattle.std.proofs.Common.{◌≡◌, ◌∙◌, ◌==◌, if◌then◌else◌, Bool, true, false, ap, length, sym, rules}
use Rattle.coset_core.specs.Fields.{FieldsView}
use Rattle.coset_core.specs.Headers.{ProtectedView, fields_in}
use Rattle.coset_core.specs.ViewLaws.{protected-opened}
use Rattle.coset_core.specs.Views.{header_view, protected_view}
use Rattle.coset_core.specs.declared.header.Header.{out-Header}
use Rattle.coset_core.specs.declared.protected.ProtectedHeader.{out-ProtectedHeader}
use Rattle.example_uses.specs.HeaderParts.{names_key}
use Rattle.example_uses.proofs.Opened.{opened}
use Rattle.example_uses.proofs.headers.one_names_key.Goals as goal

pub returns-then-is_empty : goal.returns-then-is_empty
returns-then-is_empty c =
    let p = c.args.protected.now in
    let h = (out-ProtectedHeader p).header in
    let named = (out-Header h).key_id.items in
    let covered : (fields_in (protected_view p).header).key_id ≡ named =
    ap (λ (q : ProtectedView). (fields_in q.header).key_id) (protected-opened p) ∙ ap (λ (f : FieldsView). f.key_id) (opened h) in
    let empty : c.is_empty.result ≡ (length named == 0) = search rules in
    let none : (length (fields_in (protected_view p).header).key_id == 0) ≡ true =
    ap (λ xs. length xs == 0) covered ∙ (sym empty ∙ c.if-is_empty.true) in
    let key = c.args.key_id.now in
    let u = header_view c.args.unprotected.now in
    c.names_key.ensures ∙ sym (ap (λ (t : Bool). names_key key (if t then u else (protected_view p).header)) none)

pub returns : goal.returns
returns c =
    let p = c.args.protected.now in
    let h = (out-ProtectedHeader p).header in
    let named = (out-Header h).key_id.items in
    let covered : (fields_in (protected_view p).header).key_id ≡ named =
    ap (λ (q : ProtectedView). (fields_in q.header).key_id) (protected-opened p) ∙ ap (λ (f : FieldsView). f.key_id) (opened h) in
    let empty : c.is_empty.result ≡ (length named == 0) = search rules in
    let some : (length (fields_in (protected_view p).header).key_id == 0) ≡ false =
    ap (λ xs. length xs == 0) covered ∙ (sym empty ∙ c.if-is_empty.false) in
    let key = c.args.key_id.now in
    let u = header_view c.args.unprotected.now in
    let covers : names_key key (protected_view p).header ≡ names_key key (header_view h) =
    ap (λ (q : ProtectedView). names_key key q.header) (protected-opened p) in
    c.names_key-2.ensures ∙ (sym covers ∙ sym (ap (λ (t : Bool). names_key key (if t then u else (protected_view p).header)) some))
