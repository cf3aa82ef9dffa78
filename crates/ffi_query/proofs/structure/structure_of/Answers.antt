use Rattle.std.proofs.Common.{◌∙◌, sym}
use Rattle.std.specs.Option.{option_copied}
use Rattle.coset.specs.Pulls.{pull_item}
use Rattle.std.proofs.Common.{◌≡◌, false}
use Rattle.ffi_query.specs.Structures.{HasNoStructure, IsStructure, IsStructureOnce, is_given_twice}
use Rattle.ffi_query.proofs.Answering.{answered_or, found_once}
use Rattle.ffi_query.proofs.structure.structure_of.Goals as goal

pub returns : goal.returns
returns c =
    let k = c.args.kind in
    let i = c.args.index in
    let aad = c.args.external_aad.now in
    let d = option_copied c.args.detached in
    let once = sym c.is_given_twice.ensures ∙ c.if-is_given_twice.false in
    let v = pull_item c.in-Ok.item in
    let found = found_once (λ b. b.items) (is_given_twice k d v ≡ false) (IsStructure k i aad d v) c.find_structure.result once
    c.find_structure.ensures.found in
    answered_or (λ b. b.items) k c.args.bytes.now c.args.out.now c.write_found.new.out (IsStructureOnce k i aad d) (HasNoStructure k i aad d)
    v c.find_structure.result c.write_found.result (λ none. (once, λ t s. none t (once, s))) c.in-Ok.ensures found c.find_structure.ensures.memory
    c.write_found.ensures
