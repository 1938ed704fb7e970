use Rattle.line_tests.proofs.Sole.{heard_alone}
use Rattle.line_tests.proofs.any_line.post_and_hear.Goals as goal

pub returns : goal.returns
returns g c = heard_alone g.L.Line _ _ _ _ _ _ _ c.hear.ensures c.post.ensures
