-- A leaf ends the way, and a fork leads on to one of its parts.
use Rattle.std.proofs.Common.{◌≡◌, ℕ, List, Bool, true, false, refl, sym, ap, ◌∙◌}
use Rattle.events.specs.Sets.{has}
use Rattle.watch.specs.Polling.{head_of}
use Rattle.watch.proofs.PollLaws.{within, way_starts, at_leaf, at_fork, leaf_set, leaf_lines, on_smaller, off_smaller, way_next}
use Rattle.watch.proofs.polling.Polls.descend.Goals as goal

pub loop-at-init : goal.loop-at-init
loop-at-init g c = (within c.args.nodes.now c.args.top c.requires, way_starts _ _ _ _ c.requires, refl)

pub returns-in-Leaf : goal.returns-in-Leaf
returns-in-Leaf g c =
    let way = c.loop-at.invariant.1 in
    let t = at_leaf c.args.nodes.now c.loop-at.at _ way.sound _ c.in-Leaf.is in
    record { source = c.loop-at.invariant.2; set = leaf_set _ _ _ _ _ _ way _ t; polled = leaf_lines _ _ _ _ _ _ way _ t }

pub ask-requires : goal.ask-requires
ask-requires g c = (at_fork c.args.nodes.now c.loop-at.at _ c.loop-at.invariant.1.sound _ _ _ c.in-Fork.is).six

pub loop-at-smaller-then-ask : goal.loop-at-smaller-then-ask
loop-at-smaller-then-ask g c = on_smaller _ _ _ _ _ (at_fork c.args.nodes.now c.loop-at.at _ c.loop-at.invariant.1.sound _ _ _ c.in-Fork.is)

-- a poll tells the same of the same source
told : {S : Type 0} (events : S → List ℕ) (now was : S) (line : ℕ) → now ≡ was → (b : Bool) → b ≡ has (head_of (events now)) line → b ≡ has (head_of (events was)) line
told events now was line same b answer = answer ∙ ap (λ s. has (head_of (events s)) line) same

pub loop-at-preserved-then-ask : goal.loop-at-preserved-then-ask
loop-at-preserved-then-ask g c =
    let way = c.loop-at.invariant.1 in
    let f = at_fork c.args.nodes.now c.loop-at.at _ way.sound _ _ _ c.in-Fork.is in (
      within _ _ f.on_sound,
      way_next _ _ _ _ _ _ way _ _ _ _ f c.ask.ensures.polled true (sym c.if-ask.true ∙ told g.S.LineSource.events _ _ c.in-Fork.line c.loop-at.invariant.2 _ c.ask.ensures.answer),
      c.ask.ensures.source ∙ c.loop-at.invariant.2,
    )

pub loop-at-smaller : goal.loop-at-smaller
loop-at-smaller g c = off_smaller _ _ _ _ _ (at_fork c.args.nodes.now c.loop-at.at _ c.loop-at.invariant.1.sound _ _ _ c.in-Fork.is)

pub loop-at-preserved : goal.loop-at-preserved
loop-at-preserved g c =
    let way = c.loop-at.invariant.1 in
    let f = at_fork c.args.nodes.now c.loop-at.at _ way.sound _ _ _ c.in-Fork.is in (
      within _ _ f.off_sound,
      way_next _ _ _ _ _ _ way _ _ _ _ f c.ask.ensures.polled false (sym c.if-ask.false ∙ told g.S.LineSource.events _ _ c.in-Fork.line c.loop-at.invariant.2 _ c.ask.ensures.answer),
      c.ask.ensures.source ∙ c.loop-at.invariant.2,
    )
