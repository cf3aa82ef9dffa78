use Rattle.std.proofs.Common.{◌∙◌, ◌++◌, refl, sym}
use Rattle.std.proofs.lemmas.List.{length-append}
use Rattle.ffi_query.proofs.Lending.{says_of}
use Rattle.ffi_query.proofs.borrowed.borrowed_by.Goals as goal

pub returns-clause-lent : goal.returns-clause-lent
returns-clause-lent c =
    λ b d i ns v texts.
    let aad = c.args.external_aad.now in
    let x = c.args.texts in
    let front = c.in-Some.structure.front.items in
    let end = c.in-Some.structure.end.now in
    let s = front ++ end in
    let found = rw c.in-Some.is at c.in_ok-structure.ensures.found in
    let long = c.in-Some-lengths_of.ensures.structure ∙ sym (length-append front end) in record {
      says =
          says_of b aad s i d ns v _ x texts.is_algorithm refl refl refl long refl refl refl c.in-Some-lengths_of.ensures.all c.args.kind texts
          found;
      proof_in_b = texts.proof_in_b;
      content_in_b = texts.content_in_b;
      key_id_in_b = texts.key_id_in_b;
    }
