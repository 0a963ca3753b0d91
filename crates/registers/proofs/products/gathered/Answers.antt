use Rattle.registers.proofs.RunLaws.{walk_start, walk_refused, walk_on, walk_on_finite}
use Rattle.registers.proofs.products.gathered.Goals as goal

pub loop-i-init : goal.loop-i-init
loop-i-init g c = walk_start (cc) (cc) (cc) c.zero-sum.ensures

pub returns-in_err-x : goal.returns-in_err-x
returns-in_err-x g c =
    let step = c.in-Some.ensures.steps in
    walk_refused c.in-Some.pair.now _ _ c.loop-i.invariant c.requires c.read-codes.ensures step.0.1.1 step.1 c.bytes-in-loop-i.ensures step.0.1.0 c.in_err-x.was c.from_residual.ensures.1

pub loop-i-preserved-in-Finite : goal.loop-i-preserved-in-Finite
loop-i-preserved-in-Finite g c =
    let step = c.in-Some.ensures.steps in
    walk_on_finite c.in-Some.pair.now c.loop-i.invariant c.requires c.read-codes.ensures c.pair.ensures step.0.1.1 step.1 c.bytes-in-loop-i.ensures step.0.1.0 step.0.0 step.2 c.in_ok-x.was c.in_ok-term.was c.in-Finite.is c.add_term.ensures

pub loop-i-preserved : goal.loop-i-preserved
loop-i-preserved g c =
    let step = c.in-Some.ensures.steps in
    walk_on c.in-Some.pair.now c.loop-i.invariant c.requires c.read-codes.ensures c.pair.ensures step.0.1.1 step.1 c.bytes-in-loop-i.ensures step.0.1.0 step.0.0 step.2 c.in_ok-x.was c.in_ok-term.was c.add_to.ensures.value c.add_to.ensures.size
