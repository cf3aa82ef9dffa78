use Rattle.std.proofs.Common.{ap, ◌∙◌, option_map}
use Rattle.coset_core.specs.ViewLaws.{protected-opened}
use Rattle.coset_core.specs.Views.{protected_view}
use Rattle.coset_core.proofs.Keeping.{protected_bytes-read, protected_bytes-fresh, shortest-fresh_bytes, string-made, string-holds, no-string}
use Rattle.coset_core.proofs.protected.ProtectedHeader.cbor_bstr.Goals as goal

pub returns-in-Some-clause-image : goal.returns-in-Some-clause-image
returns-in-Some-clause-image c =
    let p = protected_view c.args.self in
    let read = ap (λ p. p.original) (protected-opened c.args.self) ∙ ap (option_map (λ v. v.items)) c.in-Some.is in
    string-made p c.in-Some.bytes (protected_bytes-read p c.in-Some.bytes.items read)

pub returns-in_err-fresh_bytes-in-None-clause-image : goal.returns-in_err-fresh_bytes-in-None-clause-image
returns-in_err-fresh_bytes-in-None-clause-image c =
    let p = protected_view c.args.self in
    let opened = protected-opened c.args.self in
    let unread = ap (λ p. p.original) opened ∙ ap (option_map (λ v. v.items)) c.in-None.is in
    let error = c.in_err-fresh_bytes-in-None.field-0.0 in
    no-string c.from_residual.result error p _ c.from_residual.ensures.1
    (protected_bytes-fresh p _ unread (ap (λ p. p.header) opened)) c.in_err-fresh_bytes-in-None.ensures.refused

pub returns-clause-image : goal.returns-clause-image
returns-clause-image c =
    let p = protected_view c.args.self in
    let opened = protected-opened c.args.self in
    let unread = ap (λ p. p.original) opened ∙ ap (option_map (λ v. v.items)) c.in-None.is in
    string-made p c.in_ok-fresh_bytes-in-None.field-0 (protected_bytes-fresh p _ unread (ap (λ p. p.header) opened) ∙ c.in_ok-fresh_bytes-in-None.ensures.ok)

pub returns-clause-shortest : goal.returns-clause-shortest
returns-clause-shortest c =
    let p = protected_view c.args.self in
    let opened = protected-opened c.args.self in
    let unread = ap (λ p. p.original) opened ∙ ap (option_map (λ v. v.items)) c.in-None.is in
    string-holds p c.in_ok-fresh_bytes-in-None.field-0
    (shortest-fresh_bytes p _ _ unread (ap (λ p. p.header) opened) c.in_ok-fresh_bytes-in-None.ensures.shortest)
