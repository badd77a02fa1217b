-- The worked cases, by their proofs.
use Rattle.worked.proofs.CasesAll.{worked_cases}
use Rattle.worked.proofs.cases.cases_stand.Goals as goal

pub returns : goal.returns
returns c = worked_cases
