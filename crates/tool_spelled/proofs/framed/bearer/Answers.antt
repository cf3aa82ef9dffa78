use Rattle.tool_spelled.proofs.Parts.{behind_both}
use Rattle.tool_spelled.proofs.framed.bearer.Goals as goal

pub returns-then-token-rest : goal.returns-then-token-rest
returns-then-token-rest c =
    behind_both c.args.text.now c.without_name-named.result.now c.without_front-token.result.now c.without_name-named.ensures
    (behind_both c.without_name-named.result.now c.in_ok-rest.rest.now c.without_front-token.result.now c.in_ok-rest.ensures c.without_front-token.ensures)
