use Rattle.tool_view.proofs.Accepting.{accepts}
use Rattle.tool_view.proofs.shown.look_at_item.Goals as goal
use Rattle.tool_view.proofs.shown.look_at_item.Goals.{in-Annotated+in_ok-lines_of-in-Annotated, in-Plain+in_ok-notation_of-in-Plain}
use Rattle.tool_view.proofs.shown.look_at_item.Goals.{in-Where+in_ok-text-in-Where}

pub returns : goal.returns
returns c =
    elim c.match-asked.branch [
      | in-Annotated+in_ok-lines_of-in-Annotated w ↦
          rw w.text-is (λ zero. accepts _ _ _ c.in_ok-kind.ensures (w.in_ok-lines_of-in-Annotated.ensures zero))
      | in-Plain+in_ok-notation_of-in-Plain w ↦ rw w.text-is (λ zero. accepts _ _ _ c.in_ok-kind.ensures (w.in_ok-notation_of-in-Plain.ensures zero))
      | in-Where+in_ok-text-in-Where w ↦ rw w.text-is (λ zero. accepts _ _ _ c.in_ok-kind.ensures (w.in_ok-text-in-Where.ensures zero))
    ]
