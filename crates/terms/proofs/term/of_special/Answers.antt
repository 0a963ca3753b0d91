use Rattle.std.proofs.Common.{None, subst}
use Rattle.terms.specs.Readings.{Signed}
use Rattle.terms.proofs.SpecialLaws.{special_product}
use Rattle.terms.proofs.term.of_special.Goals as goal

pub returns-in_default : goal.returns-in_default
returns-in_default c = special_product c.args.x c.args.y _ None c.in_default.ensures c.in_default.ensures'

pub returns-in_default-2 : goal.returns-in_default-2
returns-in_default-2 c = special_product c.args.x c.args.y None _ (subst (Signed c.args.x) c.in_default.is-0 c.sign.ensures) c.sign-2.ensures

pub returns : goal.returns
returns c = special_product c.args.x c.args.y _ _ c.in-Some-Some.ensures c.in-Some-Some.ensures'
