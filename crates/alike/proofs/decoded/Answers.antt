use Rattle.alike.proofs.AlikeLaws.{decodes_once}
use Rattle.alike.proofs.decoded.Goals as goal

pub returns-clause-only : goal.returns-clause-only
returns-clause-only g c = λ m s is e. decodes_once _ (g.met.F.Format.lawful c.args.f.now) c.args.code _ s c.decode.ensures (rw e is)
