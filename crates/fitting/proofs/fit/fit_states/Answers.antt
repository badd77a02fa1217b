-- Each turn fits one state, behind the trees of those before it.
use Rattle.std.proofs.Common.{◌≡◌, ◌<◌, ◌≤◌, List, length, replicate, take, sym, ap, ◌∙◌, subst, arith, rules}
use Rattle.std.specs.List.{AllByRecursion}
use Rattle.std.proofs.lemmas.List.{length-map, length-take-le}
use Rattle.rules.specs.declared.Line.{Line}
use Rattle.rules.specs.automata.Rules.{LineInRange}
use Rattle.rules.specs.automata.Pruning.{Wants}
use Rattle.pruning.specs.Drafts.{rule_of}
use Rattle.pruning.proofs.DraftLaws.{draft_few, draft_states}
use Rattle.rulefile.specs.declared.draft.Draft.{Draft}
use Rattle.fitting.specs.States.{StateFitted}
use Rattle.fitting.specs.Tables.{value_at}
use Rattle.fitting.proofs.AllStates.{Begun, next_fitted, begun_none, begun_more, all_begun}
use Rattle.fitting.proofs.fit.fit_states.Goals as goal

pub loop-q-init : goal.loop-q-init
loop-q-init g c = begun_none (g.M.Measure.price c.args.measure.now) (rule_of c.args.draft.now) c.args.nodes.now _

pub fit_state-fitted-requires : goal.fit_state-fitted-requires
fit_state-fitted-requires g c =
    let n = length c.states-states.result.now in
    let none = c.default-trees.result in
    let few : n ≤ 32 = omega (arith, ap length c.states-states.ensures, draft_few c.args.draft.now) in
    let long : length (take n (replicate 32 none)) ≡ n = length-take-le n (replicate 32 none) few in
    let low : c.loop-q.q < 32 = omega (arith, c.loop-q-test.true, long, few) in
    record {
      lines = subst (AllByRecursion LineInRange) (sym c.lines-lines.ensures) c.of-pruning.ensures.well.lines_fit;
      room = omega (arith, low, c.loop-q.invariant.few, c.requires, c.loop-q.auto.nodes);
      low = omega (arith, low, c.loop-q.invariant.few);
    }

pub loop-q-preserved : goal.loop-q-preserved
loop-q-preserved g c =
    let price = g.M.Measure.price c.args.measure.now in
    let rule = rule_of c.args.draft.now in
    begun_more price rule c.args.nodes.now c.loop-q.nodes c.loop-q.tree-items c.loop-q.behind c.loop-q.q
    c.loop-q.invariant (omega (arith, c.loop-q-test.true, c.loop-q.auto.tree-items)) c.fit_state-fitted.new.nodes c.fit_state-fitted.result.behind c.fit_state-fitted.result.cost
    (next_fitted price rule c.loop-q.q (value_at c.sets-sets.result) c.loop-q.behind c.loop-q.nodes c.fit_state-fitted.new.nodes c.fit_state-fitted.result.behind c.fit_state-fitted.result.cost
    (record { rises = g.met.M.Measure.rises c.args.measure.now; bounded = g.met.M.Measure.bounded c.args.measure.now })
    c.of-pruning.ensures.well
    (subst (λ (d : Draft). Wants (rule_of d) c.loop-q.q (value_at c.sets-sets.result)) c.of-pruning.ensures.same c.sets-sets.ensures.pruned)
    (subst (λ (ls : List Line). StateFitted price ls (value_at c.sets-sets.result) c.loop-q.behind c.loop-q.nodes
    c.fit_state-fitted.new.nodes c.fit_state-fitted.result.behind c.fit_state-fitted.result.cost) c.lines-lines.ensures c.fit_state-fitted.ensures))

pub returns : goal.returns
returns g c =
    let n = length c.states-states.result.now in
    let none = c.default-trees.result in
    let few : n ≤ 32 = omega (arith, ap length c.states-states.ensures, draft_few c.args.draft.now) in
    let long : length (take n (replicate 32 none)) ≡ n = length-take-le n (replicate 32 none) few in
    let end : c.loop-q.q ≡ n = omega (arith, long) in
    all_begun (g.M.Measure.price c.args.measure.now) (rule_of c.args.draft.now) c.args.nodes.now c.loop-q.nodes c.loop-q.tree-items none c.loop-q.behind n
    c.of-pruning.ensures.well c.requires (omega (arith, ap length c.states-states.ensures, ap length (draft_states c.args.draft.now), length-map c.args.draft.now.states.now (λ s. s.value)))
    (c.loop-q.auto.tree-items ∙ long) (search rules)
    (subst (Begun (g.M.Measure.price c.args.measure.now) (rule_of c.args.draft.now) c.args.nodes.now c.loop-q.nodes c.loop-q.tree-items c.loop-q.behind) end c.loop-q.invariant)
