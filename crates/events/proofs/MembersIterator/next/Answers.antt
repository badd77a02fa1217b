-- The lowest member comes first, and the others are left.
use Rattle.std.proofs.Common.{length, ap, ◌∙◌, arith}
use Rattle.events.specs.Sets.{members_of}
use Rattle.events.proofs.MemberLaws.{members-none, members-front}
use Rattle.events.proofs.MembersIterator.next.Goals as goal

pub returns-then-self-eq0-clause-steps : goal.returns-then-self-eq0-clause-steps
returns-then-self-eq0-clause-steps c =
    let empty = ap members_of c.if-self-eq0.true ∙ members-none in (empty, empty)

pub returns-clause-steps : goal.returns-clause-steps
returns-clause-steps c = members-front c.args.self.now.rest (omega (arith, c.if-self-eq0.false)) (omega arith)

pub returns-clause-goes : goal.returns-clause-goes
returns-clause-goes c =
    let front = members-front c.args.self.now.rest (omega (arith, c.if-self-eq0.false)) (omega arith) in
    record { on = λ _. (tt, tt, omega (arith, ap length front)); keeps = tt; rests = λ _. tt }
