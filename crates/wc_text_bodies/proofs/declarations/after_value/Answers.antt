use Rattle.wc_text_lines.proofs.Outcomes.{ok-map}
use Rattle.wc_text_bodies.proofs.declarations.after_value.Goals as goal

pub returns-in-Semicolon : goal.returns-in-Semicolon
returns-in-Semicolon c = rw c.in-Semicolon.is (ok-map c.end_declaration.result (λ next h units. h units) c.end_declaration.ensures)
