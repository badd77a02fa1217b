-- Each turn goes down the tree of the lowest state that is left.
use Rattle.std.proofs.Common.{◌≡◌, ◌<◌, refl, ap, ◌∙◌, subst, arith, rules}
use Rattle.std.specs.List.{All}
use Rattle.std.proofs.lemmas.List.Elements.{All-head}
use Rattle.events.proofs.MemberLaws.{Member}
use Rattle.pruning.proofs.DraftLaws.{draft_well}
use Rattle.fitting.specs.Plans.{plan_trees}
use Rattle.watch.specs.Polling.{head_of}
use Rattle.watch.proofs.PollLaws.{Gathering, gathering_starts, gathering_more, sound_top, top_set, top_lines}
use Rattle.watch.proofs.polling.gather.Goals as goal

pub loop-state-init : goal.loop-state-init
loop-state-init g c =
    let all : c.into_iter-state-iterator.result.rest ≡ c.args.held = search rules in
    (tt, tt, refl, rw all (gathering_starts (plan_trees c.args.plan.now) c.args.held _ (omega arith)))

pub descend-set-requires : goal.descend-set-requires
descend-set-requires g c =
    let members = subst (All (Member c.args.held)) c.in-Some.ensures.steps c.loop-state.invariant.3.members in
    let state = c.requires.states c.in-Some.state (All-head (Member c.args.held) _ _ members).1 in
    let low : c.in-Some.state < 32 = omega (arith, state, (draft_well c.args.plan.now.draft).few_states) in
    sound_top c.args.plan.now _ c.in-Some.state _ c.nodes-nodes.ensures (c.top.ensures.is low) state

pub loop-state-preserved : goal.loop-state-preserved
loop-state-preserved g c =
    let plan = c.args.plan.now in
    let e = head_of (g.S.LineSource.events c.args.source.now) in
    let so_far = subst (λ l. Gathering (plan_trees plan) c.args.held e l c.loop-state.set c.loop-state.polls.polled) c.in-Some.ensures.steps c.loop-state.invariant.3 in
    let state = c.requires.states c.in-Some.state (All-head (Member c.args.held) _ _ so_far.members).1 in
    let low : c.in-Some.state < 32 = omega (arith, state, (draft_well plan.draft).few_states) in
    let same = ap (λ s. head_of (g.S.LineSource.events s)) c.loop-state.invariant.2 in (
      tt,
      tt,
      c.descend-set.ensures.source ∙ c.loop-state.invariant.2,
      gathering_more (plan_trees plan) c.args.held e c.in-Some.state _ _ _ _ _ so_far
          (top_set plan _ _ _ c.nodes-nodes.ensures (c.top.ensures.is low) state e _ _ (rw same at c.descend-set.ensures.set))
          (top_lines plan _ _ _ c.nodes-nodes.ensures (c.top.ensures.is low) state e _ _ (rw same at c.descend-set.ensures.polled)),
    )
